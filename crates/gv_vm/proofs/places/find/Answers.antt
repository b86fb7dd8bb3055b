use Rattle.std.proofs.Common.{◌∙◌, ◌/◌, List, ap, refl, sym}
use Rattle.gv_types.specs.Page.{bytes_per_page}
use Rattle.gv_types.specs.declared.mapping.Mapping.{Mapping}
use Rattle.gv_ranges.specs.List.{at}
use Rattle.gv_ranges.proofs.LookupLemmas.{at_past}
use Rattle.gv_vm.proofs.BytesFit.{BytesFit-held}
use Rattle.gv_vm.proofs.places.find.Goals as goal

pub returns-then-page-ge-SPACE_PAGES-clause-place : goal.returns-then-page-ge-SPACE_PAGES-clause-place
returns-then-page-ge-SPACE_PAGES-clause-place c =
    let space = c.list-list.ensures.space in
    rw (at_past c.args.space.now.mappings 0 _ space.laid_out c.if-page-ge-SPACE_PAGES.true) refl

pub of-requires-clause-backing : goal.of-requires-clause-backing
of-requires-clause-backing c =
    BytesFit-held c.args.space.now _ c.in-Some.entry c.list-list.ensures.space
    (ap (λ (ms : List Mapping). at ms (c.args.addr / bytes_per_page)) (sym c.list-list.ensures.value) ∙ (sym c.held_until-entry.ensures.entry ∙ c.in-Some.is))
