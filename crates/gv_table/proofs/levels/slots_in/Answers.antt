use Rattle.std.proofs.Common.{arith, ◌≡◌, refl}
use Rattle.gv_table.specs.Levels.{pages_of}
use Rattle.gv_table.proofs.PagesOf.{over-one}
use Rattle.gv_table.proofs.levels.slots_in.Goals as goal

pub returns-in-0 : goal.returns-in-0
unfolding pages_of
returns-in-0 c = rw c.in-0.is (over-one c.args.pages)

pub returns-in-1 : goal.returns-in-1
unfolding pages_of
returns-in-1 c = rw c.in-1.is refl

pub returns-in-2 : goal.returns-in-2
unfolding pages_of
returns-in-2 c = rw c.in-2.is refl

pub returns-in-3 : goal.returns-in-3
unfolding pages_of
returns-in-3 c = rw c.in-3.is refl

pub returns-in-4 : goal.returns-in-4
unfolding pages_of
returns-in-4 c = rw c.in-4.is refl

pub returns-in_default : goal.returns-in_default
unfolding pages_of
returns-in_default c = let five : c.args.level ≡ 5 = omega arith in rw five refl
