use Rattle.std.proofs.Common.{get_or, ◌∙◌}
use Rattle.std.proofs.lemmas.List.{take_more}
use Rattle.gv_buffers.proofs.Leaving.{HaveLeft-more}
use Rattle.gv_buffers.proofs.slots.Slots.leave_all.Goals as goal

pub loop-index-preserved : goal.loop-index-preserved
loop-index-preserved c =
    let indices = c.args.indices.now in
    let before = c.loop-index.invariant in (
      rw (take_more indices c.loop-index.index-index 0 c.loop-index-test.true)
          (HaveLeft-more c.args.job c.args.self.now.entries c.loop-index.self.entries c.leave.new.self.entries _ (get_or indices c.loop-index.index-index 0) before.0 c.leave.ensures.here c.leave.ensures.others),
      c.leave.ensures.length ∙ before.1,
      c.leave.ensures.vacant ∙ before.2,
    )
