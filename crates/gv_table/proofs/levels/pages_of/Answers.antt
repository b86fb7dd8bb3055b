use Rattle.std.proofs.Common.{arith, ◌≡◌, refl}
use Rattle.gv_table.specs.Levels.{pages_of}
use Rattle.gv_table.proofs.levels.pages_of.Goals as goal

pub returns-in-0-clause-pages : goal.returns-in-0-clause-pages
unfolding pages_of
returns-in-0-clause-pages c = rw c.in-0.is refl

pub returns-in-1-clause-pages : goal.returns-in-1-clause-pages
unfolding pages_of
returns-in-1-clause-pages c = rw c.in-1.is refl

pub returns-in-2-clause-pages : goal.returns-in-2-clause-pages
unfolding pages_of
returns-in-2-clause-pages c = rw c.in-2.is refl

pub returns-in-3-clause-pages : goal.returns-in-3-clause-pages
unfolding pages_of
returns-in-3-clause-pages c = rw c.in-3.is refl

pub returns-in-4-clause-pages : goal.returns-in-4-clause-pages
unfolding pages_of
returns-in-4-clause-pages c = rw c.in-4.is refl

pub returns-in_default-clause-pages : goal.returns-in_default-clause-pages
unfolding pages_of
returns-in_default-clause-pages c = let five : c.args.level ≡ 5 = omega arith in rw five refl
