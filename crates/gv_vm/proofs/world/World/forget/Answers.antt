use Rattle.gv_vm.specs.World.{WorldState}
use Rattle.gv_vm.specs.WorldInside.{world_of}
use Rattle.gv_vm.proofs.Forgettings.{forget_keeps}
use Rattle.gv_vm.proofs.world.World.forget.Goals as goal

pub invariant_of-self : goal.invariant_of-self
invariant_of-self c =
    let w : WorldState = world_of c.self.inside in
    forget_keeps w c.forget.new.self c.args.queue c.args.to c.forget.result c.self.invariant c.forget.ensures.fault c.forget.ensures.forgotten c.forget.ensures.err
