use Rattle.std.proofs.Common.{◌≡◌, ℕ, ◌+◌, Option, List, reverse, arith, sym, ◌∙◌, ap, subst}
use Rattle.std.specs.Prelude.{is_some}
use Rattle.gv_types.specs.declared.operation.PageOp.{PageOp}
use Rattle.gv_journal.specs.declared.item.Item.{Item}
use Rattle.gv_journal.specs.declared.item.ItemKind.{ItemKind}
use Rattle.gv_journal.specs.Items.{JournalState, entries, is_withdrawn, done_by}
use Rattle.gv_journal.specs.Notes.{notes_of, TellGone}
use Rattle.gv_journal.specs.Reach.{IsReachOf}
use Rattle.gv_journal.specs.Withdrawing.{touched_fault}
use Rattle.gv_journal.proofs.HeldItems.{item_store_items}
use Rattle.gv_journal.proofs.FoundItems.{found_withdrawn, found_touched, own_note, later_gone}
use Rattle.gv_journal.proofs.journal.Journal.find_entry.Goals as goal

pub returns-then-is_withdrawn-clause-refused : goal.returns-then-is_withdrawn-clause-refused
returns-then-is_withdrawn-clause-refused c =
    let j = c.args.self.now in
    let held = c.held-held.result in
    let all : held.items.now ≡ reverse j.items = c.held-held.ensures.items ∙ item_store_items c.self.inside.limit c.self.inside.first c.self.inside.item_store.items j c.self.view_is in
    let noted : held.notes.now ≡ notes_of (entries j) = c.held-held.ensures.notes ∙ c.self.invariant.notes ∙ ap (λ (x : JournalState). notes_of (entries x)) c.self.view_is in
    let kind = ap (λ (x : Item). x.kind) c.index-held-index.is ∙ c.in-Bind.is in
    let own = own_note j c.args.entry c.first-first.result held.items.now held.notes.now c.first-first.ensures (omega arith) (omega arith) all noted
    c.index-held-index-2.result c.index-held-index.result c.index-held-index-2.is in
    found_withdrawn j c.args.entry c.first-first.result held.items.now c.index-held-index.result c.in-Bind.queue c.in-Bind.number c.in-Bind.request c.in-Bind.seen c.in-Bind.done
    c.first-first.ensures (omega arith) (omega arith) all c.index-held-index.is kind (sym own ∙ ap is_some c.index-held-index-2.is ∙ sym c.is_withdrawn.ensures ∙ c.if-is_withdrawn.true)

pub first_touched-requires-clause-own : goal.first_touched-requires-clause-own
first_touched-requires-clause-own c =
    let same = ap (λ (x : Item). done_by x.kind) (sym c.index-held-index.is) ∙ ap (λ (k : ItemKind). done_by k) (ap (λ (x : Item). x.kind) c.index-held-index.is ∙ c.in-Bind.is)
    ∙ sym c.deref.ensures.value in
    subst (λ (ops : List PageOp). IsReachOf c.reach-own.result ops) same (c.reach-own.ensures.reach c.index-held-index.result)

pub returns-in-Some-clause-refused : goal.returns-in-Some-clause-refused
returns-in-Some-clause-refused c =
    let j = c.args.self.now in
    let held = c.held-held.result in
    let all : held.items.now ≡ reverse j.items = c.held-held.ensures.items ∙ item_store_items c.self.inside.limit c.self.inside.first c.self.inside.item_store.items j c.self.view_is in
    let noted : held.notes.now ≡ notes_of (entries j) = c.held-held.ensures.notes ∙ c.self.invariant.notes ∙ ap (λ (x : JournalState). notes_of (entries x)) c.self.view_is in
    let kind = ap (λ (x : Item). x.kind) c.index-held-index.is ∙ c.in-Bind.is in
    let own = own_note j c.args.entry c.first-first.result held.items.now held.notes.now c.first-first.ensures (omega arith) (omega arith) all noted
    c.index-held-index-2.result c.index-held-index.result c.index-held-index-2.is in
    (found_touched j c.args.entry c.first-first.result held.items.now c.index-held-index.result c.in-Bind.queue c.in-Bind.number c.in-Bind.request c.in-Bind.seen c.in-Bind.done
    c.first-first.ensures (omega arith) (omega arith) all c.index-held-index.is kind (sym own ∙ ap is_some c.index-held-index-2.is ∙ sym c.is_withdrawn.ensures ∙ c.if-is_withdrawn.false) c.first_touched.result
    (rw (c.deref.ensures.value, c.between-later.ensures.items) at (c.first_touched.ensures (is_withdrawn (entries j))
    (subst (λ (ms : List (Option ℕ)). TellGone (is_withdrawn (entries j)) (c.args.entry + 1) ms) (sym c.between-later.ensures.notes)
    (later_gone j c.args.entry c.first-first.result held.items.now held.notes.now c.first-first.ensures (omega arith) (omega arith) all noted c.index-held-index.result)))))
    ∙ ap touched_fault c.in-Some.is

pub returns-in-None-clause-accepted : goal.returns-in-None-clause-accepted
returns-in-None-clause-accepted c =
    let j = c.args.self.now in
    let held = c.held-held.result in
    let all : held.items.now ≡ reverse j.items = c.held-held.ensures.items ∙ item_store_items c.self.inside.limit c.self.inside.first c.self.inside.item_store.items j c.self.view_is in
    let noted : held.notes.now ≡ notes_of (entries j) = c.held-held.ensures.notes ∙ c.self.invariant.notes ∙ ap (λ (x : JournalState). notes_of (entries x)) c.self.view_is in
    let kind = ap (λ (x : Item). x.kind) c.index-held-index.is ∙ c.in-Bind.is in
    let own = own_note j c.args.entry c.first-first.result held.items.now held.notes.now c.first-first.ensures (omega arith) (omega arith) all noted
    c.index-held-index-2.result c.index-held-index.result c.index-held-index-2.is in
    (found_touched j c.args.entry c.first-first.result held.items.now c.index-held-index.result c.in-Bind.queue c.in-Bind.number c.in-Bind.request c.in-Bind.seen c.in-Bind.done
    c.first-first.ensures (omega arith) (omega arith) all c.index-held-index.is kind (sym own ∙ ap is_some c.index-held-index-2.is ∙ sym c.is_withdrawn.ensures ∙ c.if-is_withdrawn.false) c.first_touched.result
    (rw (c.deref.ensures.value, c.between-later.ensures.items) at (c.first_touched.ensures (is_withdrawn (entries j))
    (subst (λ (ms : List (Option ℕ)). TellGone (is_withdrawn (entries j)) (c.args.entry + 1) ms) (sym c.between-later.ensures.notes)
    (later_gone j c.args.entry c.first-first.result held.items.now held.notes.now c.first-first.ensures (omega arith) (omega arith) all noted c.index-held-index.result)))))
    ∙ ap touched_fault c.in-None.is
