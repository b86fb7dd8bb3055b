use Rattle.std.proofs.Common.{◌∙◌}
use Rattle.gv_buffers.proofs.slots.Slots.shrink_buffers.Goals as goal

pub loop-index-preserved : goal.loop-index-preserved
loop-index-preserved c =
    let before = c.loop-index.invariant in
    record {
      same = λ other. c.shrink_at.ensures.same other ∙ before.same other;
      length = c.shrink_at.ensures.length ∙ before.length;
      vacant = c.shrink_at.ensures.vacant ∙ before.vacant;
    }
