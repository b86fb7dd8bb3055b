use Rattle.std.proofs.Common.{◌-◌, ◌≤◌, ◌<◌, ◌≡◌, arith, get_or, length, sym, ◌∙◌}
use Rattle.std.proofs.lemmas.List.{get_or_default}
use Rattle.std.proofs.lemmas.Option.{get_or_from_slice_get}
use Rattle.gv_types.specs.PageRange.{end_of}
use Rattle.gv_ranges.proofs.SearchSteps.{indexed-last, indexed-next, indexed-here}
use Rattle.gv_ranges.proofs.RestLemmas.{some_of_last}
use Rattle.gv_ranges.proofs.search.count_ended.Goals as goal

pub returns-then-end-page : goal.returns-then-end-page
returns-then-end-page c =
    let ms = c.args.mappings.now in
    let m = c.in-Some.last.now in
    let some : 0 < length ms = some_of_last ms m c.in-Some.ensures.value in
    let here : get_or ms (length ms - 1) m ≡ m = get_or_from_slice_get ms (length ms - 1) m m (sym c.in-Some.ensures.value) in
    let ends : end_of m.range ≤ c.args.page = omega arith in
    indexed-last ms c.args.page c.requires.laid_out some
    (λ d. rw (get_or_default ms (length ms - 1) d m (omega arith) ∙ here) ends)

pub returns-then-end-page-2 : goal.returns-then-end-page-2
returns-then-end-page-2 c =
    let ms = c.args.mappings.now in
    let i = c.last_begun-index.result in
    let ends : end_of (get_or ms i c.index-mappings-index.result).range ≤ c.args.page = rw (← c.index-mappings-index.is) (omega arith) in
    indexed-next ms c.args.page i c.requires.laid_out c.last_begun-index.ensures.within c.last_begun-index.ensures.later
    (λ d. rw (get_or_default ms i d c.index-mappings-index.result c.last_begun-index.ensures.within) ends)

pub returns-else-end-page-2 : goal.returns-else-end-page-2
returns-else-end-page-2 c =
    let ms = c.args.mappings.now in
    let i = c.last_begun-index.result in
    let past : c.args.page < end_of (get_or ms i c.index-mappings-index.result).range = rw (← c.index-mappings-index.is) (omega arith) in
    indexed-here ms c.args.page i c.requires.laid_out c.last_begun-index.ensures.within c.last_begun-index.ensures.ended
    (λ d. rw (get_or_default ms i d c.index-mappings-index.result c.last_begun-index.ensures.within) past)
