use Rattle.gv_buffers.proofs.FoundLemmas.{no_two_jobs}
use Rattle.gv_buffers.proofs.laws.reservations.Goals as goal

pub returns : goal.returns
returns c = no_two_jobs
