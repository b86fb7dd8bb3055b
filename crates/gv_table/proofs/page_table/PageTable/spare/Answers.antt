use Rattle.std.proofs.Common.{◌≡◌, ◌≢◌, ◌∙◌, List, Result, Ok, Err, OnErr, arith, ap, sym, subst}
use Rattle.gv_types.specs.declared.fault.Fault.{Fault}
use Rattle.gv_types.specs.PageRange.{PageRangeState}
use Rattle.gv_types.specs.declared.mapping.BufferId.{BufferId}
use Rattle.gv_types.specs.declared.mapping.Mapping.{Mapping}
use Rattle.gv_ranges.specs.List.{IsLaidOut}
use Rattle.gv_table.specs.declared.slot.Slot.{Slot}
use Rattle.gv_table.specs.declared.kind_counts.KindCounts.{KindCounts}
use Rattle.gv_table.specs.Counts.{needed}
use Rattle.gv_table.specs.Named.{named}
use Rattle.gv_table.specs.BufferNames.{unnamed}
use Rattle.gv_table.specs.Table.{PageTable, needed_for}
use Rattle.gv_table.specs.Kinds.{Kind, pages, slots, of, none}
use Rattle.gv_table.proofs.GainedAtMostNeeded.{gained-needed}
use Rattle.gv_table.proofs.PagesOf.{pages_of-top}
use Rattle.gv_table.proofs.KindLemmas.{of-each, sums-same}
use Rattle.gv_table.proofs.Named.{needed-named}
use Rattle.gv_table.proofs.Unnamed.{needed-unnamed, laid_out-unnamed}
use Rattle.gv_table.proofs.page_table.PageTable.spare.Goals as goal

-- what is needed of the tree for pieces whose buffers are encoded by their indexes is what is needed for the pieces
needs : (names : List BufferId) (root : Slot) (table : PageTable) (pieces encoded : List Mapping) (range : PageRangeState) (need : KindCounts) → encoded ≡ unnamed pieces → named names root ≡ table.root →
    ((kind : Kind) → of kind need ≡ needed kind encoded range 5 0 root) → need ≡ needed_for pieces range table
needs names root table pieces encoded range need is view counts =
    let each_is : (kind : Kind) → of kind need ≡ needed kind pieces range 5 0 table.root = λ kind.
    counts kind ∙ ap (λ (ms : List Mapping). needed kind ms range 5 0 root) is ∙ needed-unnamed kind pieces range 5 0 root ∙ sym (needed-named names kind pieces range 5 0 root) ∙
    ap (needed kind pieces range 5 0) view in
    sums-same (of-each (λ kind. of kind need ≡ of kind (needed_for pieces range table)) (each_is pages) (each_is slots))

pub needed_in_tree-requires : goal.needed_in_tree-requires
needed_in_tree-requires c =
    subst (λ (ms : List Mapping). IsLaidOut ms) (sym (c.of-pieces.ensures ∙ ap unnamed c.of_slice.ensures)) (laid_out-unnamed c.args.pieces.now 0 c.requires)

on-err : (r : Result KindCounts Fault) (P : Type 0) → P → OnErr r P
on-err (Ok t) P p = tt
on-err (Err e) P p = p

pub returns-in_err-make-clause-some_needed : goal.returns-in_err-make-clause-some_needed
returns-in_err-make-clause-some_needed c =
    let need : c.needed_in_tree.result ≡ needed_for c.args.pieces.now c.args.range c.args.self.now =
    needs c.self.inside.names.items c.self.inside.root c.args.self.now c.args.pieces.now c.of-pieces.result c.args.range c.needed_in_tree.result
    (c.of-pieces.ensures ∙ ap unnamed c.of_slice.ensures) (ap (λ (t : PageTable). t.root) c.self.view_is) c.needed_in_tree.ensures in
    on-err c.from_residual.result _ (subst (λ (t : KindCounts). t ≢ none) need c.in_err-make.ensures.some_needed)

pub returns-clause-number : goal.returns-clause-number
returns-clause-number c =
    let need : c.needed_in_tree.result ≡ needed_for c.args.pieces.now c.args.range c.args.self.now =
    needs c.self.inside.names.items c.self.inside.root c.args.self.now c.args.pieces.now c.of-pieces.result c.args.range c.needed_in_tree.result
    (c.of-pieces.ensures ∙ ap unnamed c.of_slice.ensures) (ap (λ (t : PageTable). t.root) c.self.view_is) c.needed_in_tree.ensures in
    c.in_ok-make.ensures.number ∙ need

pub returns-clause-enough : goal.returns-clause-enough
returns-clause-enough c = λ ms laid outside is.
    let need : c.needed_in_tree.result ≡ needed_for c.args.pieces.now c.args.range c.args.self.now =
    needs c.self.inside.names.items c.self.inside.root c.args.self.now c.args.pieces.now c.of-pieces.result c.args.range c.needed_in_tree.result
    (c.of-pieces.ensures ∙ ap unnamed c.of_slice.ensures) (ap (λ (t : PageTable). t.root) c.self.view_is) c.needed_in_tree.ensures in
    let all = pages_of-top in
    let number = c.in_ok-make.ensures.number ∙ need in
    let page = gained-needed pages c.args.range ms c.args.pieces.now 5 0 c.args.self.now.root outside laid is (omega (arith, all)) in
    let slot = gained-needed slots c.args.range ms c.args.pieces.now 5 0 c.args.self.now.root outside laid is (omega (arith, all)) in
    of-each _ (omega (arith, page, ap (of pages) number)) (omega (arith, slot, ap (of slots) number))
