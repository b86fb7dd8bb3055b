use Rattle.gv_vm.proofs.TimelinesRise.{never_falls, follows_raises}
use Rattle.gv_vm.proofs.laws.timelines.Goals as goal

pub returns-clause-rise : goal.returns-clause-rise
returns-clause-rise c = never_falls

pub returns-clause-raises : goal.returns-clause-raises
returns-clause-raises c = follows_raises c.raises.ensures.once_more
