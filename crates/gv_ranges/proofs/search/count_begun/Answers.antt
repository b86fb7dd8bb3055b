use Rattle.std.proofs.Common.{◌≤◌, arith, get_or}
use Rattle.std.proofs.lemmas.List.{get_or_default}
use Rattle.gv_ranges.proofs.SearchSteps.{not_begun-from}
use Rattle.gv_ranges.proofs.search.count_begun.Goals as goal

pub returns-else-first-page-clause-not_begun : goal.returns-else-first-page-clause-not_begun
returns-else-first-page-clause-not_begun c =
    let ms = c.args.mappings.now in
    let m = c.index-mappings-count.result in
    let begins : c.args.page ≤ (get_or ms c.loop-count.count m).range.first = rw (← c.index-mappings-count.is) (omega arith) in
    not_begun-from ms c.args.page c.loop-count.count c.requires.laid_out (omega arith)
    (λ d. rw (get_or_default ms c.loop-count.count d m (omega arith)) begins)
