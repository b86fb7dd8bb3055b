use Rattle.std.proofs.Common.{refl}
use Rattle.gv_buffers.specs.Buffers.{buffer}
use Rattle.gv_buffers.specs.Slots.{CanMove, after_move}
use Rattle.gv_buffers.proofs.TablesAndSlots.{moved, in_place, some_lives, IsBuffer-after_move}
use Rattle.gv_buffers.proofs.buffers.Buffers.count_move.Goals as goal

pub count_move-requires : goal.count_move-requires
count_move-requires c = in_place c.self.inside c.args.self.now c.args.id (CanMove c.args.how) c.self.view_is c.requires

pub returns : goal.returns
returns c =
    (moved c.self.inside c.args.self.now c.count_move.new.self c.args.id (after_move c.args.how) c.self.invariant c.self.view_is
    (some_lives (CanMove c.args.how) (buffer c.args.self.now c.args.id) c.requires) c.count_move.ensures.vacant c.count_move.ensures.length c.count_move.ensures.here c.count_move.ensures.others
    (IsBuffer-after_move c.args.how) (λ b. refl)).table

pub invariant_of-self : goal.invariant_of-self
invariant_of-self c =
    (moved c.self.inside c.args.self.now c.count_move.new.self c.args.id (after_move c.args.how) c.self.invariant c.self.view_is
    (some_lives (CanMove c.args.how) (buffer c.args.self.now c.args.id) c.requires) c.count_move.ensures.vacant c.count_move.ensures.length c.count_move.ensures.here c.count_move.ensures.others
    (IsBuffer-after_move c.args.how) (λ b. refl)).sound
