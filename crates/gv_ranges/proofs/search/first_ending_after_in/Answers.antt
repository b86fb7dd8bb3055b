use Rattle.std.proofs.Common.{◌≤◌, arith, get_or}
use Rattle.std.proofs.lemmas.List.{get_or_default}
use Rattle.gv_types.specs.PageRange.{end_of}
use Rattle.gv_ranges.proofs.EndingAfterLemmas.{behind_at, behind_next, behind_last}
use Rattle.gv_ranges.proofs.search.first_ending_after_in.Goals as goal

pub returns-then-page-end : goal.returns-then-page-end
returns-then-page-end c =
    let ended = c.last_begun-index.ensures.ended in
    behind_at c.args.mappings.now c.args.page c.last_begun-index.result c.index-mappings-index.result c.last_begun-index.ensures.within ended.ended
    c.index-mappings-index.is (omega arith)

pub returns-then-index-mappings : goal.returns-then-index-mappings
returns-then-index-mappings c =
    let ms = c.args.mappings.now in
    let i = c.last_begun-index.result in
    let m = c.index-mappings-index.result in
    let ends : end_of (get_or ms i m).range ≤ c.args.page = rw (← c.index-mappings-index.is) (omega arith) in
    behind_next ms c.args.page i c.requires.laid_out c.last_begun-index.ensures.within
    (λ d. rw (get_or_default ms i d m c.last_begun-index.ensures.within) ends)
    c.index-mappings-index-then-index-mappings.result (omega arith) c.last_begun-index.ensures.later c.index-mappings-index-then-index-mappings.is

pub returns : goal.returns
returns c =
    let ms = c.args.mappings.now in
    let i = c.last_begun-index.result in
    let m = c.index-mappings-index.result in
    let ends : end_of (get_or ms i m).range ≤ c.args.page = rw (← c.index-mappings-index.is) (omega arith) in
    behind_last ms c.args.page i c.requires.laid_out c.last_begun-index.ensures.within
    (λ d. rw (get_or_default ms i d m c.last_begun-index.ensures.within) ends) (omega arith)
