use Rattle.std.proofs.Common.{arith, ◌≤◌, ◌<◌}
use Rattle.gv_types.specs.PageRange.{end_of}
use Rattle.gv_table.proofs.ListPositions.{ended-more, position-found}
use Rattle.gv_table.proofs.deciding_mapping.advance.Goals as goal

pub loop-position-preserved : goal.loop-position-preserved
loop-position-preserved c =
    ended-more c.args.mappings.now c.args.page c.loop-position.position c.loop-position.invariant (omega arith)
    (λ d.
    let ended : end_of c.get.result.range ≤ c.args.page = omega arith in
    rw (← c.get.ensures d) ended)

pub returns-else-end-page : goal.returns-else-end-page
returns-else-end-page c =
    let past : c.args.page < end_of c.get.result.range = omega arith in
    position-found c.args.mappings.now c.args.page c.loop-position.position c.requires.laid_out c.loop-position.invariant
    (λ inside d. rw (← c.get.ensures d) past)
