use Rattle.std.proofs.Common.{arith, ◌+◌, ◌-◌, ◌≡◌, Some, slice_index_or, sym, ap, ◌∙◌, subst}
use Rattle.gv_types.specs.declared.mapping.Entry.{Entry}
use Rattle.gv_table.specs.declared.slot.Slot.{Slot}
use Rattle.gv_table.specs.Named.{named}
use Rattle.gv_table.specs.Tree.{IsTreeOf, leaf, no_page, slot_of}
use Rattle.gv_table.proofs.Named.{named-Empty, named-leaf}
use Rattle.gv_table.proofs.CoveringMappings.{small-less}
use Rattle.gv_table.proofs.Trees.{read-empty, read-leaf}
use Rattle.gv_table.proofs.walk.held_at.Goals as goal

pub returns-in_err-entry : goal.returns-in_err-entry
returns-in_err-entry c = λ ms level first laid tree below.
    c.from_residual.ensures ∙
    sym (read-empty ms level first (first + c.args.distance) (subst (λ (s : Slot). IsTreeOf ms level first s) (ap (named c.args.names.now) c.in_err-entry.ensures ∙ named-Empty c.args.names.now) tree) (omega arith) (omega (arith, below)))

pub returns : goal.returns
returns c = λ ms level first laid tree below.
    let is : named c.args.names.now (slot_of (slice_index_or c.args.slots.now c.args.index no_page)) ≡ leaf c.named.result =
    ap (named c.args.names.now) c.in_ok-entry.ensures ∙ named-leaf c.args.names.now c.in_ok-entry.entry ∙ ap leaf (sym c.named.ensures) in
    let e = read-leaf ms level first (first + c.args.distance) c.named.result laid (subst (λ (s : Slot). IsTreeOf ms level first s) is tree)
    (omega arith) (omega (arith, below)) in
    let far : first + c.args.distance - first ≡ c.args.distance = omega arith in
    ap (λ (x : Entry). Some x) (c.advanced.ensures (small-less c.named.result.backing _ _ e.0 (omega (arith, below)))) ∙
    sym (rw far at e.1)
