use Rattle.std.proofs.Common.{inl, inr, arith}
use Rattle.std.proofs.lemmas.Bool.{cases_lt}
use Rattle.gv_chunks.proofs.index.add.Goals as goal

pub returns-clause-behind : goal.returns-clause-behind
returns-clause-behind c = λ k d past. elim (cases_lt k c.args.from) [
  | inl low ↦ c.loop-k.invariant.before k d low
  | inr high ↦ c.loop-k.invariant.later k d (omega (arith, c.loop-k.invariant.high))
]
