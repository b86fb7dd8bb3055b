use Rattle.std.proofs.Common.{refl, sym, ap, ◌∙◌, arith}
use Rattle.gv_types.specs.Limits.{LimitsState, IsWithin}
use Rattle.gv_vm.specs.World.{new_world}
use Rattle.gv_c.specs.Making.{limits_of}
use Rattle.gv_c.proofs.making.made.Goals as goal

pub returns-in-Ok-clause-new : goal.returns-in-Ok-clause-new
returns-in-Ok-clause-new c =
    let config = c.args.config.now in
    let bounds = c.in-Some-from_bytes.bounds in
    let within : IsWithin (limits_of config) = c.in-Some.ensures.within.0 refl in
    record {
      good = record {
        limits = within;
        area = bounds;
        area_is = sym c.in-Some-from_bytes.ensures;
        few_queues = (omega arith, omega arith);
        depth = (omega arith, omega arith);
        timelines = (omega arith, omega arith);
      };
      world = c.in-Ok.ensures ∙ ap (λ (l : LimitsState). new_world bounds l config.queues config.depth config.timelines) c.in-Some.ensures.value;
    }
