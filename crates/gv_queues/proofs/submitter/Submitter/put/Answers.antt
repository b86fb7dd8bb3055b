use Rattle.std.proofs.Common.{ℕ, sym, ap, subst}
use Rattle.gv_types.specs.Request.{Fits}
use Rattle.gv_queues.specs.Submitting.{SubmitterState}
use Rattle.gv_queues.proofs.Handovers.{puts, holds_last}
use Rattle.gv_queues.proofs.submitter.Submitter.put.Goals as goal

pub try_send_as-requires-clause-rule : goal.try_send_as-requires-clause-rule
try_send_as-requires-clause-rule g c =
    let same = ap (λ (s : SubmitterState). s.timelines) c.self.view_is in (
      puts _ _ _ _ _ _ c.self.invariant.1 (subst (λ (b : ℕ). Fits b c.args.request) (sym same) c.requires.fits),
      holds_last _ _ _ _ c.self.invariant.1,
    )
