use Rattle.std.proofs.Common.{◌≡◌, arith, refl}
use Rattle.gv_chunks.proofs.laws.examples.Goals as goal

pub returns-clause-row : goal.returns-clause-row
returns-clause-row c d e f x y z one two three = rw (one, two, three) refl

pub returns-clause-room : goal.returns-clause-room
returns-clause-room c d = (
  λ is k e within. let at : k ≡ 0 = omega arith in rw at is,
  λ is all. absurd (omega (arith, all 0 d (omega arith))),
)

pub returns-clause-one : goal.returns-clause-one
returns-clause-one c d k e low within = absurd (omega arith)

pub returns-clause-much : goal.returns-clause-much
returns-clause-much c d e first second k any low within =
    let at : k ≡ 0 = omega arith in
    rw at (omega arith)

pub returns-clause-fit : goal.returns-clause-fit
returns-clause-fit c d e first second merged = absurd (omega (arith, merged 0 d (omega arith) (omega arith)))
