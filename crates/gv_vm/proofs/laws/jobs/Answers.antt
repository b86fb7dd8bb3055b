use Rattle.gv_vm.proofs.JobsKeepPlaces.{keeps_places}
use Rattle.gv_vm.proofs.laws.jobs.Goals as goal

pub returns : goal.returns
returns c = keeps_places
