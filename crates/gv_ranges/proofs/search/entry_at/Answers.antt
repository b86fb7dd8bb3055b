use Rattle.std.proofs.Common.{arith, ◌<◌, ◌≤◌, get_or, sym}
use Rattle.std.proofs.lemmas.Bool.{eqb-true}
use Rattle.std.proofs.lemmas.List.{get_or_default}
use Rattle.gv_types.specs.PageRange.{end_of}
use Rattle.gv_types.specs.declared.mapping.Mapping.{Mapping}
use Rattle.gv_ranges.proofs.TakeDropLemmas.{All-take_at}
use Rattle.gv_ranges.proofs.LookupLemmas.{at_past, at_found, at_gap}
use Rattle.gv_ranges.proofs.SearchSteps.{at-nothing, at-empty}
use Rattle.gv_ranges.proofs.search.entry_at.Goals as goal
use Rattle.gv_ranges.proofs.search.entry_at.Goals.{then-page-ge-SPACE_PAGES-via-then-page-ge-SPACE_PAGES, then-page-ge-SPACE_PAGES-via-else-page-ge-SPACE_PAGES+then-is_empty, then-page-first-via-then-page-first, then-page-first-via-else-page-first+then-end-page}

pub returns-then-page-ge-SPACE_PAGES : goal.returns-then-page-ge-SPACE_PAGES
returns-then-page-ge-SPACE_PAGES c =
    elim c.then-page-ge-SPACE_PAGES.branch [
      | then-page-ge-SPACE_PAGES-via-then-page-ge-SPACE_PAGES w ↦ sym (at_past c.args.mappings.now 0 c.args.page c.requires w.if-page-ge-SPACE_PAGES.true)
      | then-page-ge-SPACE_PAGES-via-else-page-ge-SPACE_PAGES+then-is_empty w ↦ sym (at-empty c.args.mappings.now c.args.page (eqb-true _ _ (sym w.if-is_empty.ensures)))
    ]

pub returns-then-page-first : goal.returns-then-page-first
returns-then-page-first c =
    let ms = c.args.mappings.now in
    let m = c.index-mappings-last_begun.result in
    let i = c.last_begun.result in
    let inside = c.last_begun.ensures.within in
    let ended = c.last_begun.ensures.ended in
    elim c.then-page-first.branch [
      | then-page-first-via-then-page-first w ↦ (
          let later : c.args.page < (get_or ms i m).range.first = rw (← c.index-mappings-last_begun.is) (omega arith) in
          sym (at_gap ms 0 c.args.page i m c.requires inside (λ k less. All-take_at (λ (n : Mapping). end_of n.range ≤ c.args.page) ms i k m ended.within ended.ended less) later))
      | then-page-first-via-else-page-first+then-end-page w ↦ (
          let ends : end_of (get_or ms i m).range ≤ c.args.page = rw (← c.index-mappings-last_begun.is) (omega arith) in
          sym (at-nothing ms c.args.page i c.requires inside c.last_begun.ensures.later (λ d. rw (get_or_default ms i d m inside) ends)))
    ]

pub returns : goal.returns
returns c =
    let ms = c.args.mappings.now in
    let m = c.index-mappings-last_begun.result in
    let i = c.last_begun.result in
    let ended = c.last_begun.ensures.ended in
    let begun : (get_or ms i m).range.first ≤ c.args.page = rw (← c.index-mappings-last_begun.is) (omega arith) in
    let past : c.args.page < end_of (get_or ms i m).range = rw (← c.index-mappings-last_begun.is) (omega arith) in
    let found = at_found ms c.args.page i m c.last_begun.ensures.within
    (λ k less. All-take_at (λ (n : Mapping). end_of n.range ≤ c.args.page) ms i k m ended.within ended.ended less) begun past in
    rw c.part.ensures (sym (rw (← c.index-mappings-last_begun.is) at found))
