-- Starts of chunks as sums: of a chunk's own number and its block's base.
use Rattle.std.proofs.Common.{◌≡◌, ℕ, ◌+◌, ◌-◌, ◌*◌, ◌/◌, ◌%◌, ◌^◌, ◌<◌, ◌≤◌, List, length, min, slice_index_or, inl, inr, arith, sym, ap, ◌∙◌}
use Rattle.std.specs.List.{enumerate_from}
use Rattle.std.proofs.lemmas.Bool.{cases_lt}
use Rattle.std.proofs.lemmas.List.{length-map, get_or-map}
use Rattle.std.proofs.lemmas.List.FromFn.{length-enumerate_from, get_or-enumerate_from}
use Rattle.gv_chunks.specs.Starts.{sum_at, sums}

pub length-sums : (numbers bases : List ℕ) → length (sums numbers bases) ≡ length numbers
length-sums numbers bases = length-map (enumerate_from 0 numbers) (λ p. sum_at bases p.0 p.1) ∙ length-enumerate_from 0 numbers

-- a number, told
pub sums_at : (numbers bases : List ℕ) (k d : ℕ) → k < length numbers → slice_index_or (sums numbers bases) k d ≡ (slice_index_or numbers k 0 + slice_index_or bases (k / 64) 0) % 2 ^ 64
sums_at numbers bases k d below =
    let within : k < length (enumerate_from 0 numbers) = omega (arith, below, length-enumerate_from 0 numbers) in
    get_or-map (λ p. sum_at bases p.0 p.1) (enumerate_from 0 numbers) k (0, 0) d within
    ∙ ap (λ p. sum_at bases p.0 p.1) (get_or-enumerate_from 0 numbers k (0, 0) below)
    ∙ ap (λ n. (slice_index_or numbers k 0 + slice_index_or bases (n / 64) 0) % 2 ^ 64) (omega arith)

-- numbers with more behind them are told alike, as far as they went
pub sums_same : (numbers bases more_numbers more_bases : List ℕ) (k d : ℕ) → k < length numbers → length numbers ≤ length more_numbers →
    slice_index_or more_numbers k 0 ≡ slice_index_or numbers k 0 → slice_index_or more_bases (k / 64) 0 ≡ slice_index_or bases (k / 64) 0 →
    slice_index_or (sums more_numbers more_bases) k d ≡ slice_index_or (sums numbers bases) k d
sums_same numbers bases more_numbers more_bases k d below longer number base =
    sums_at more_numbers more_bases k d (omega (arith, below, longer)) ∙ (rw (number, base) (sym (sums_at numbers bases k d below)))

-- a number told as another one was
pub sums_told : (numbers bases now : List ℕ) (k j d : ℕ) → k < length now → j < length numbers →
    (slice_index_or now k 0 + slice_index_or bases (k / 64) 0) % 2 ^ 64 ≡ (slice_index_or numbers j 0 + slice_index_or bases (j / 64) 0) % 2 ^ 64 →
    slice_index_or (sums now bases) k d ≡ slice_index_or (sums numbers bases) j d
sums_told numbers bases now k j d inside within told = sums_at now bases k d inside ∙ (told ∙ sym (sums_at numbers bases j d within))

-- one of the two moves by what went out and what came in, and wraps: so does the number that they tell
moved_own : (number base out more : ℕ) → out ≤ (number + base) % 2 ^ 64 → (number + base) % 2 ^ 64 + more < out + 2 ^ 64 →
    ((number + (more + (2 ^ 64 - out)) % 2 ^ 64) % 2 ^ 64 + base) % 2 ^ 64 + out ≡ (number + base) % 2 ^ 64 + more
moved_own number base out more holds fits = omega (arith, holds, fits)

moved_base : (number base out more : ℕ) → out ≤ (number + base) % 2 ^ 64 → (number + base) % 2 ^ 64 + more < out + 2 ^ 64 →
    (number + (base + (more + (2 ^ 64 - out)) % 2 ^ 64) % 2 ^ 64) % 2 ^ 64 + out ≡ (number + base) % 2 ^ 64 + more
moved_base number base out more holds fits = omega (arith, holds, fits)

-- the numbers from one on up to another, moved: those in the block of the first one by their own, the later ones by their bases
module _ (numbers bases now now_bases : List ℕ) (from to out more : ℕ) (begins : from < to) (within : to ≤ length numbers) (size : length now ≡ length numbers) (blocks : length numbers ≤ 64 * length bases)
    (own : (k d : ℕ) → from ≤ k → k < from + min (64 - from % 64) (to - from) → slice_index_or now k d ≡ (slice_index_or numbers k d + (more + (2 ^ 64 - out)) % 2 ^ 64) % 2 ^ 64)
    (later : (k d : ℕ) → from + min (64 - from % 64) (to - from) ≤ k → slice_index_or now k d ≡ slice_index_or numbers k d)
    (base : (k d : ℕ) → from / 64 + 1 ≤ k → k < to / 64 + min 1 (to % 64) → slice_index_or now_bases k d ≡ (slice_index_or bases k d + (more + (2 ^ 64 - out)) % 2 ^ 64) % 2 ^ 64)
    (base_stays : (k d : ℕ) → k < from / 64 + 1 → slice_index_or now_bases k d ≡ slice_index_or bases k d) where
  pub sums_move : (k d : ℕ) → from ≤ k → k < to → out ≤ slice_index_or (sums numbers bases) k d → slice_index_or (sums numbers bases) k d + more < out + 2 ^ 64 →
      slice_index_or (sums now now_bases) k d + out ≡ slice_index_or (sums numbers bases) k d + more
  sums_move k d past below holds fits =
      let inside : k < length numbers = omega (arith, below, within) in
      let was = sums_at numbers bases k d inside in
      let is = sums_at now now_bases k d (omega (arith, inside, size)) in
      elim (cases_lt k (from + min (64 - from % 64) (to - from))) [
        | inl near ↦
            let number = own k 0 past near in
            let stays : slice_index_or now_bases (k / 64) 0 ≡ slice_index_or bases (k / 64) 0 = base_stays (k / 64) 0 (omega (arith, past, near)) in
            rw (is, was, number, stays) (moved_own (slice_index_or numbers k 0) (slice_index_or bases (k / 64) 0) out more (rw was at holds) (rw was at fits))
        | inr far ↦
            let number = later k 0 far in
            let moves = base (k / 64) 0 (omega (arith, past, far, below)) (omega (arith, past, far, below)) in
            rw (is, was, number, moves) (moved_base (slice_index_or numbers k 0) (slice_index_or bases (k / 64) 0) out more (rw was at holds) (rw was at fits))
      ]
