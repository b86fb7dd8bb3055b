-- Where the chunks of a list begin: one more of them written down, and one of them changed.
use Rattle.std.proofs.Common.{◌≡◌, ◌≢◌, ℕ, ◌+◌, ◌<◌, ◌≤◌, List, ◌++◌, length, take, drop, slice_index_or, slice_set, inl, inr, arith, ◌∙◌, ap, sym}
use Rattle.std.proofs.Math.ListN.{length-set}
use Rattle.std.proofs.Math.Seq.{take-set-lt}
use Rattle.std.proofs.lemmas.Bool.{cases_lt}
use Rattle.std.proofs.lemmas.List.{take-take, length-take-le, get_or-take, get_or-set_same, get_or-set_other, get_or_default, length-append}
use Rattle.std.specs.Global.{Vec}
use Rattle.gv_types.specs.declared.mapping.Mapping.{Mapping}
use Rattle.gv_chunks.specs.Chunks.{chunks_joined, AreFilled, AreStarts, AreFirsts}
use Rattle.gv_chunks.proofs.ChunkLemmas.{joined_at, joined_set}

-- what stands before a chunk among the first chunks stands before it among all
pub start_among : (xs : List (Vec Mapping)) (j k : ℕ) → j ≤ k → length (chunks_joined (take j (take k xs))) ≡ length (chunks_joined (take j xs))
start_among xs j k up = ap (λ ys. length (chunks_joined ys)) (take-take j k xs up)

-- one more start
pub start_written : (starts now : List ℕ) (xs : List (Vec Mapping)) (k start : ℕ) → k < length xs → k < length starts → start ≡ length (chunks_joined (take k xs)) →
    length now ≡ length starts → ((d : ℕ) → slice_index_or now k d ≡ start) → ((j d : ℕ) → j < length starts → j ≢ k → slice_index_or now j d ≡ slice_index_or starts j d) →
    AreStarts starts (take k xs) → AreStarts now (take (k + 1) xs)
start_written starts now xs k start within room is size here others were = λ j d inside.
    let below : j < k + 1 = omega (arith, inside, length-take-le (k + 1) xs (omega arith)) in
    let among : length (chunks_joined (take j (take (k + 1) xs))) ≡ length (chunks_joined (take j xs)) = start_among xs j (k + 1) (omega arith) in
    elim (cases_lt j k) [
      | inl earlier ↦
          let was = were j d (omega (arith, length-take-le k xs (omega arith))) in
          (omega (arith, size), rw (among, others j d was.0 (λ e. omega (arith, e, earlier))) (was.1 ∙ start_among xs j k (omega arith)))
      | inr now ↦
          let at : j ≡ k = omega arith in
          (omega (arith, size), rw (among, at, here d) is)
    ]

-- one more first page
pub first_written : (firsts : List ℕ) (xs : List (Vec Mapping)) (k first : ℕ) → k < length xs → k < length firsts →
    ((v : Vec Mapping) (m : Mapping) → first ≡ (slice_index_or (slice_index_or xs k v).items 0 m).range.first) →
    AreFirsts firsts (take k xs) → AreFirsts (slice_set firsts k first) (take (k + 1) xs)
first_written firsts xs k first within room is were = λ j d v m inside.
    let below : j < k + 1 = omega (arith, inside, length-take-le (k + 1) xs (omega arith)) in
    let size : length (slice_set firsts k first) ≡ length firsts = length-set firsts k first in
    let among : slice_index_or (take (k + 1) xs) j v ≡ slice_index_or xs j v = get_or-take (k + 1) xs j v below in
    elim (cases_lt j k) [
      | inl earlier ↦
          let was = were j d v m (omega (arith, length-take-le k xs (omega arith))) in
          (omega (arith, size), rw (among, get_or-set_other firsts k j first d (λ e. omega (arith, e)), ← get_or-take k xs j v earlier) was.1)
      | inr now ↦
          let at : j ≡ k = omega arith in
          (omega (arith, size), rw (among, at, get_or-set_same firsts k first d room) (is v m))
    ]

-- what stands before a chunk that comes behind the one that was changed
pub start_behind : (xs : List (Vec Mapping)) (i j : ℕ) (w d : Vec Mapping) → i < j → j ≤ length xs →
    length (chunks_joined (take j (slice_set xs i w))) + length (slice_index_or xs i d).items ≡ length (chunks_joined (take j xs)) + length w.items
start_behind xs i j w d behind within =
    let here : i < length (take j xs) = omega (arith, length-take-le j xs within) in
    let at : slice_index_or (take j xs) i d ≡ slice_index_or xs i d = get_or-take j xs i d behind in
    let now : chunks_joined (take j (slice_set xs i w)) ≡ chunks_joined (take i (take j xs)) ++ (w.items ++ chunks_joined (drop (i + 1) (take j xs))) =
    ap chunks_joined (take-set-lt j xs i w behind) ∙ joined_set (take j xs) i w here in
    let was : chunks_joined (take j xs) ≡ chunks_joined (take i (take j xs)) ++ ((slice_index_or (take j xs) i d).items ++ chunks_joined (drop (i + 1) (take j xs))) =
    joined_at (take j xs) i d here in
    omega (
      arith,
      ap length now,
      ap length was,
      ap (λ (v : Vec Mapping). length v.items) at,
      length-append (chunks_joined (take i (take j xs))) (w.items ++ chunks_joined (drop (i + 1) (take j xs))),
      length-append w.items (chunks_joined (drop (i + 1) (take j xs))),
      length-append (chunks_joined (take i (take j xs))) ((slice_index_or (take j xs) i d).items ++ chunks_joined (drop (i + 1) (take j xs))),
      length-append (slice_index_or (take j xs) i d).items (chunks_joined (drop (i + 1) (take j xs))),
    )

-- the first page of a chunk, read
pub first_read : (xs : List (Vec Mapping)) (k : ℕ) (c v : Vec Mapping) (x m : Mapping) (page : ℕ) → AreFilled xs → k < length xs → c ≡ slice_index_or xs k c → x ≡ slice_index_or c.items 0 x →
    page ≡ x.range.first → page ≡ (slice_index_or (slice_index_or xs k v).items 0 m).range.first
first_read xs k c v x m page filled within is first reads =
    let chunk : slice_index_or xs k v ≡ c = get_or_default xs k v c within ∙ sym is in
    let full : 0 < length c.items = omega (arith, ap (λ (w : Vec Mapping). length w.items) is, (slice_index_or xs k c).ok, filled k c within) in
    rw (chunk, get_or_default c.items 0 m x full) (reads ∙ ap (λ (n : Mapping). n.range.first) first)
