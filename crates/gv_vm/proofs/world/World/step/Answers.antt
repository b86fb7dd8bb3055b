use Rattle.std.proofs.Common.{subst}
use Rattle.gv_vm.specs.State.{IsVm}
use Rattle.gv_vm.specs.World.{WorldState}
use Rattle.gv_vm.proofs.Headlines.{said}
use Rattle.gv_vm.proofs.TimelinesRise.{none_falls}
use Rattle.gv_vm.proofs.world.World.step.Goals as goal

pub returns-clause-says : goal.returns-clause-says
returns-clause-says c =
    said c.args.self.now c.dispatch-reply.new.self c.args.event c.dispatch-reply.result (subst (λ (w : WorldState). IsVm w.vm) c.self-2.view_is c.space-after.ensures.holds) c.dispatch-reply.ensures

pub returns-clause-rise : goal.returns-clause-rise
returns-clause-rise c = none_falls c.args.self.now c.dispatch-reply.new.self c.args.event c.dispatch-reply.result c.dispatch-reply.ensures
