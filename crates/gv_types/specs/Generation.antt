-- What contracts see of a `Generation`: a number of 64 bits, which stands in two halves.
use Rattle.std.specs.Prelude.{◌≡◌, ℕ, ◌+◌, ◌*◌, ◌/◌, ◌%◌, ◌^◌, ◌<◌}
use Rattle.std.proofs.Common.{arith, refl}
use Rattle.gv_types.specs.declared.generation.Generation.TheInside.{Inside}

-- the number of two halves
abbrev pub joined : Inside → ℕ
joined halves = halves.high * 2 ^ 32 + halves.low

abbrev pub AreHalves : Inside → Type 0
AreHalves halves = (halves.high < 2 ^ 32) × (halves.low < 2 ^ 32)

-- the halves of a number
abbrev pub halves_of : ℕ → Inside
halves_of number = record { high = number / 2 ^ 32; low = number % 2 ^ 32 }

pub halves_of-joined : (halves : Inside) → AreHalves halves → halves_of (joined halves) ≡ halves
halves_of-joined halves small =
    let high : joined halves / 2 ^ 32 ≡ halves.high = omega arith in
    let low : joined halves % 2 ^ 32 ≡ halves.low = omega arith in
    rw (high, low) refl
