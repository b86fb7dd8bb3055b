use Rattle.std.proofs.Common.{◌≡◌, Some, refl, sym, ◌∙◌}
use Rattle.gv_types.specs.Bounds.{first_fault}
use Rattle.gv_types.specs.Operation.{in_pages}
use Rattle.gv_space.specs.Refusal.{operation_fault, buffer_fault}
use Rattle.gv_space.specs.Inside.{space_of}
use Rattle.gv_space.specs.State.{SpaceState}
use Rattle.gv_space.proofs.FaultLemmas.{first_refused}
use Rattle.gv_space.proofs.space.Space.check.Goals as goal

pub returns-in-Err-clause-fault : goal.returns-in-Err-clause-fault
returns-in-Err-clause-fault c =
    let s : SpaceState = space_of c.self.inside in
    let op = c.args.op.now in
    let is : operation_fault s op ≡ Some c.in-Err.fault =
    first_refused (first_fault s.area op) (buffer_fault s.buffers (in_pages op)) (in_pages op) c.in-Err.fault (sym c.check.ensures.value ∙ c.in-Err.is) in
    rw (← c.self.view_is, is) refl
