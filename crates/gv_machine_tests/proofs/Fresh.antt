-- Marks of a seat that took no step yet.
use Rattle.std.proofs.Common.{◌≡◌, ℕ, zero, suc, replicate, refl}
use Rattle.gv_sync.specs.Marks.{mark_at, fresh_mark}

pub replicated : (count t : ℕ) → mark_at (replicate count fresh_mark) t ≡ fresh_mark
replicated zero t = refl
replicated (suc count) zero = refl
replicated (suc count) (suc t) = replicated count t
