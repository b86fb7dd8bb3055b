use Rattle.std.proofs.Common.{◌∙◌, arith, ◌-◌, length, drop, take_all, length-drop}
use Rattle.std.proofs.Math.Seq.{take-add}
use Rattle.std.proofs.KnownBytes.{Appends-trans}
use Rattle.gv_io.proofs.transfer.write_all.Goals as goal

pub loop-at-preserved : goal.loop-at-preserved
loop-at-preserved g c = record {
  in_range = omega (arith, c.in_ok-at.ensures.bound);
  so_far =
      let both = Appends-trans _ _ _ _ _ c.loop-at.invariant.so_far c.in_ok-at.ensures.bytes in
      let at = c.loop-at.at in let bytes = c.args.bytes.now in
      let whole = take_all (length bytes - at) (drop at bytes) (omega (arith, length-drop at bytes)) in
      rw take-add (rw whole at both);
  flag = c.in_ok-at.ensures.unset ∙ c.loop-at.invariant.flag;
}
