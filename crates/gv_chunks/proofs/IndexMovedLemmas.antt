-- An index of chunks where a chunk came in or went: those behind it stand at other places, and hold what they held.
use Rattle.std.proofs.Common.{◌≡◌, ℕ, zero, suc, ◌+◌, ◌-◌, ◌<◌, ◌≤◌, List, [], ◌++◌, length, take, drop, slice_index_or, vec_len, inl, inr, arith, refl, ◌∙◌, ap, sym}
use Rattle.std.proofs.lemmas.Bool.{cases_lt}
use Rattle.std.proofs.lemmas.List.{length-take, length-take-le, length-drop, get_or-take, get_or-drop, get_or_default, get_or_append_left, get_or-append_right}
use Rattle.std.specs.Global.{Vec}
use Rattle.std.specs.List.{splice}
use Rattle.gv_types.specs.declared.mapping.Mapping.{Mapping}
use Rattle.gv_chunks.specs.Chunks.{chunks_joined, AreStarts, AreFirsts}
use Rattle.gv_chunks.proofs.IndexLemmas.{start_among}
use Rattle.gv_chunks.proofs.MergedLemmas.{joined_front}
use Rattle.gv_chunks.proofs.StoreLemmas.{some_of, chunk_end, chunk_within, start_told}
use Rattle.gv_chunks.proofs.PutLemmas.{nothing_from}

-- chunks that stand at other places: what stands before them is more or less by one number for all
pub start_moved : (xs zs : List (Vec Mapping)) (i j a b n p q : ℕ) → p ≡ i + n → q ≡ j + n → p ≤ length zs → q ≤ length xs →
    ((m : ℕ) (d : Vec Mapping) → m < n → slice_index_or zs (i + m) d ≡ slice_index_or xs (j + m) d) →
    length (chunks_joined (take i zs)) + a ≡ length (chunks_joined (take j xs)) + b → length (chunks_joined (take p zs)) + a ≡ length (chunks_joined (take q xs)) + b
start_moved xs zs i j a b zero p q ends stops inside within alike begins =
    let at : p ≡ i = omega arith in
    let there : q ≡ j = omega arith in
    rw (at, there) begins
start_moved xs zs i j a b (suc n) p q ends stops inside within alike begins =
    let d : Vec Mapping = some_of xs (omega (arith, within, stops)) in
    let at : p ≡ i + n + 1 = omega (arith, ends) in
    let there : q ≡ j + n + 1 = omega (arith, stops) in
    let before : length (chunks_joined (take (i + n) zs)) + a ≡ length (chunks_joined (take (j + n) xs)) + b =
    start_moved xs zs i j a b n (i + n) (j + n) refl refl (omega arith) (omega arith) (λ m e low. alike m e (omega (arith, low))) begins in
    let held : vec_len (slice_index_or zs (i + n) d) ≡ vec_len (slice_index_or xs (j + n) d) = ap vec_len (alike n d (omega arith)) in
    rw (at, there) (omega (arith, before, held, chunk_end zs (i + n) d (omega arith), chunk_end xs (j + n) d (omega arith)))

-- a first page is told by the index
first_told : (xs : List (Vec Mapping)) (used_count k d : ℕ) (v : Vec Mapping) (m : Mapping) (firsts : List ℕ) → used_count ≤ length xs → k < used_count → AreFirsts firsts (take used_count xs) →
    slice_index_or firsts k d ≡ (slice_index_or (slice_index_or xs k v).items 0 m).range.first
first_told xs used_count k d v m firsts within below are =
    (are k d v m (omega (arith, length-take-le used_count xs within))).1 ∙ ap (λ (w : Vec Mapping). (slice_index_or w.items 0 m).range.first) (get_or-take used_count xs k v below)

-- where mappings behind the first one of a chunk are replaced, its first page stays
pub first_stays : (xs : List (Vec Mapping)) (s chunk start index out : ℕ) (v w : Vec Mapping) (m : Mapping) (pieces : List Mapping) (firsts : List ℕ) → s ≤ length xs → chunk < length xs →
    chunks_joined (drop s xs) ≡ [] → AreFirsts firsts (take s xs) → start ≡ length (chunks_joined (take chunk xs)) → start < index → index + out ≤ start + vec_len (slice_index_or xs chunk v) →
    w.items ≡ splice (slice_index_or xs chunk v).items (index - start) (index - start + out) pieces → slice_index_or firsts chunk 0 ≡ (slice_index_or w.items 0 m).range.first
first_stays xs s chunk start index out v w m pieces firsts within inside spare are is_start past fits is =
    let held = (slice_index_or xs chunk v).items in
    let front : length (take (index - start) held) ≡ index - start = length-take-le (index - start) held (omega (arith, fits, (slice_index_or xs chunk v).ok)) in
    let first : slice_index_or w.items 0 m ≡ slice_index_or held 0 m =
    ap (λ ms. slice_index_or ms 0 m) is ∙ (get_or_append_left (take (index - start) held) (pieces ++ drop (index - start + out) held) m 0 (omega (arith, front, past)) ∙ get_or-take (index - start) held 0 m (omega (arith, past))) in
    elim (cases_lt chunk s) [
      | inl stood ↦ first_told xs s chunk 0 v m firsts within stood are ∙ ap (λ (n : Mapping). n.range.first) (sym first)
      | inr beyond ↦ absurd (omega (arith, ap length (joined_front xs chunk (nothing_from xs s chunk beyond spare)), chunk_within xs chunk v inside, fits, past, is_start))
    ]

-- the first page of a chunk that holds something, read
pub first_of : (xs : List (Vec Mapping)) (k : ℕ) (c v : Vec Mapping) (x m : Mapping) (page : ℕ) → k < length xs → 0 < length c.items → c ≡ slice_index_or xs k c → x ≡ slice_index_or c.items 0 x →
    page ≡ x.range.first → page ≡ (slice_index_or (slice_index_or xs k v).items 0 m).range.first
first_of xs k c v x m page within full is first reads =
    let chunk : slice_index_or xs k v ≡ c = get_or_default xs k v c within ∙ sym is in
    rw (chunk, get_or_default c.items 0 m x full) (reads ∙ ap (λ (n : Mapping). n.range.first) first)

-- a chunk divided into two
module _ (xs zs : List (Vec Mapping)) (s chunk offset : ℕ) (below : chunk < s) (more : s < length xs) (same : length zs ≡ length xs) (front : take chunk zs ≡ take chunk xs)
    (first : (d : Vec Mapping) → (slice_index_or zs chunk d).items ≡ take offset (slice_index_or xs chunk d).items)
    (second : (d : Vec Mapping) → (slice_index_or zs (chunk + 1) d).items ≡ drop offset (slice_index_or xs chunk d).items)
    (later : (k : ℕ) (d : Vec Mapping) → chunk + 1 < k → k ≤ s → slice_index_or zs k d ≡ slice_index_or xs (k - 1) d)
    (some_left : 0 < offset) (some_rest : (d : Vec Mapping) → offset < vec_len (slice_index_or xs chunk d)) where
  front_at : (k : ℕ) (d : Vec Mapping) → k < chunk → slice_index_or zs k d ≡ slice_index_or xs k d
  front_at k d earlier = sym (get_or-take chunk zs k d earlier) ∙ (ap (λ ys. slice_index_or ys k d) front ∙ get_or-take chunk xs k d earlier)

  front_start : (k : ℕ) → k ≤ chunk → length (chunks_joined (take k zs)) ≡ length (chunks_joined (take k xs))
  front_start k upto = omega (arith, start_moved xs zs 0 0 0 0 k k k (omega arith) (omega arith) (omega arith) (omega arith) (λ m d low. ap (λ j. slice_index_or zs j d) (omega arith) ∙ (front_at m d (omega (arith, low)) ∙ ap (λ j. slice_index_or xs j d) (omega arith))) refl)

  first_end : length (chunks_joined (take (chunk + 1) zs)) ≡ length (chunks_joined (take chunk xs)) + offset
  first_end =
      let d : Vec Mapping = some_of xs (omega arith) in
      omega (arith, chunk_end zs chunk d (omega arith), front_start chunk (omega arith), (slice_index_or zs chunk d).ok, ap length (first d), length-take offset (slice_index_or xs chunk d).items, some_rest d, (slice_index_or xs chunk d).ok)

  second_end : length (chunks_joined (take (chunk + 2) zs)) ≡ length (chunks_joined (take (chunk + 1) xs))
  second_end =
      let d : Vec Mapping = some_of xs (omega arith) in
      let at : chunk + 2 ≡ chunk + 1 + 1 = omega arith in
      rw at (omega (
        arith,
        chunk_end zs (chunk + 1) d (omega arith),
        first_end,
        (slice_index_or zs (chunk + 1) d).ok,
        ap length (second d),
        length-drop offset (slice_index_or xs chunk d).items,
        some_rest d,
        (slice_index_or xs chunk d).ok,
        chunk_end xs chunk d (omega arith),
      ))

  later_start : (k : ℕ) → chunk + 1 < k → k ≤ s → length (chunks_joined (take k zs)) ≡ length (chunks_joined (take (k - 1) xs))
  later_start k past upto =
      omega (
        arith,
        start_moved xs zs (chunk + 2) (chunk + 1) 0 0 (k - (chunk + 2)) k (k - 1) (omega arith) (omega arith) (omega arith) (omega arith)
            (λ m d low. later (chunk + 2 + m) d (omega arith) (omega (arith, low)) ∙ ap (λ j. slice_index_or xs j d) (omega arith)) (ap (λ j. j + 0) second_end),
      )

  pub divided_starts : (starts now : List ℕ) (start : ℕ) → AreStarts starts (take s xs) → length xs ≤ length starts → length now ≡ length starts → start ≡ length (chunks_joined (take chunk xs)) + offset →
      ((k d : ℕ) → k < chunk + 1 → slice_index_or now k d ≡ slice_index_or starts k d) → ((d : ℕ) → slice_index_or now (chunk + 1) d ≡ start) →
      ((k d : ℕ) → chunk + 1 < k → k ≤ s → slice_index_or now k d ≡ slice_index_or starts (k - 1) d) → AreStarts now (take (s + 1) zs)
  divided_starts starts now start are room size is before value behind = λ k d inside.
      let low : k < s + 1 = omega (arith, inside, length-take (s + 1) zs) in (
        omega (arith, low, size, room, more),
        rw (start_among zs k (s + 1) (omega arith)) (elim (cases_lt k (chunk + 1)) [
          | inl earlier ↦ before k d earlier ∙ (start_told xs s k d starts (omega arith) (omega arith) are ∙ sym (front_start k (omega arith)))
          | inr from ↦ elim (cases_lt (chunk + 1) k) [
            | inl past ↦ behind k d past (omega arith) ∙ (start_told xs s (k - 1) d starts (omega arith) (omega arith) are ∙ sym (later_start k past (omega arith)))
            | inr upto ↦
                let at : k ≡ chunk + 1 = omega arith in
                rw at (value d ∙ (is ∙ sym first_end))
          ]
        ]),
      )

  pub divided_firsts : (firsts now : List ℕ) (page : ℕ) → AreFirsts firsts (take s xs) → length xs ≤ length firsts → length now ≡ length firsts →
      ((v : Vec Mapping) (m : Mapping) → page ≡ (slice_index_or (slice_index_or zs (chunk + 1) v).items 0 m).range.first) →
      ((k d : ℕ) → k < chunk + 1 → slice_index_or now k d ≡ slice_index_or firsts k d) → ((d : ℕ) → slice_index_or now (chunk + 1) d ≡ page) →
      ((k d : ℕ) → chunk + 1 < k → k ≤ s → slice_index_or now k d ≡ slice_index_or firsts (k - 1) d) → AreFirsts now (take (s + 1) zs)
  divided_firsts firsts now page are room size reads before value behind = λ k d v m inside.
      let low : k < s + 1 = omega (arith, inside, length-take (s + 1) zs) in (
        omega (arith, low, size, room, more),
        rw (get_or-take (s + 1) zs k v low) (elim (cases_lt k chunk) [
          | inl earlier ↦ before k d (omega arith) ∙ (first_told xs s k d v m firsts (omega arith) (omega arith) are ∙ ap (λ (w : Vec Mapping). (slice_index_or w.items 0 m).range.first) (sym (front_at k v earlier)))
          | inr from ↦ elim (cases_lt (chunk + 1) k) [
            | inl past ↦ behind k d past (omega arith) ∙ (first_told xs s (k - 1) d v m firsts (omega arith) (omega arith) are ∙ ap (λ (w : Vec Mapping). (slice_index_or w.items 0 m).range.first) (sym (later k v past (omega arith))))
            | inr upto ↦ elim (cases_lt chunk k) [
              | inl next ↦
                  let at : k ≡ chunk + 1 = omega arith in
                  rw at (value d ∙ reads v m)
              | inr here ↦
                  let at : k ≡ chunk = omega arith in
                  let held : slice_index_or (slice_index_or zs chunk v).items 0 m ≡ slice_index_or (slice_index_or xs chunk v).items 0 m =
                  ap (λ ms. slice_index_or ms 0 m) (first v) ∙ get_or-take offset (slice_index_or xs chunk v).items 0 m some_left in
                  rw at (before chunk d (omega arith) ∙ (first_told xs s chunk d v m firsts (omega arith) below are ∙ ap (λ (n : Mapping). n.range.first) (sym held)))
            ]
          ]
        ]),
      )

-- a chunk taken out
module _ (xs zs : List (Vec Mapping)) (s chunk out : ℕ) (within : s ≤ length xs) (below : chunk < s) (same : length zs ≡ length xs)
    (front : take (s - 1) zs ≡ take chunk (take s xs) ++ drop (chunk + 1) (take s xs)) (all : (d : Vec Mapping) → out ≡ vec_len (slice_index_or xs chunk d)) where
  used_count : length (take s xs) ≡ s
  used_count = length-take-le s xs within

  kept_size : length (take chunk (take s xs)) ≡ chunk
  kept_size = length-take-le chunk (take s xs) (omega (arith, used_count))

  kept_at : (k : ℕ) (d : Vec Mapping) → k < chunk → slice_index_or zs k d ≡ slice_index_or xs k d
  kept_at k d earlier =
      sym (get_or-take (s - 1) zs k d (omega arith)) ∙ (ap (λ ys. slice_index_or ys k d) front
      ∙ (get_or_append_left (take chunk (take s xs)) (drop (chunk + 1) (take s xs)) d k (omega (arith, kept_size)) ∙ (get_or-take chunk (take s xs) k d earlier ∙ get_or-take s xs k d (omega arith))))

  moved_at : (k : ℕ) (d : Vec Mapping) → chunk ≤ k → k + 1 < s → slice_index_or zs k d ≡ slice_index_or xs (k + 1) d
  moved_at k d from low =
      sym (get_or-take (s - 1) zs k d (omega arith)) ∙ (ap (λ ys. slice_index_or ys k d) front
      ∙ (get_or-append_right (take chunk (take s xs)) (drop (chunk + 1) (take s xs)) chunk k d kept_size from
      ∙ (get_or-drop (chunk + 1) (take s xs) (k - chunk) d ∙ (ap (λ j. slice_index_or (take s xs) j d) (omega arith) ∙ get_or-take s xs (k + 1) d low))))

  kept_start : (k : ℕ) → k ≤ chunk → length (chunks_joined (take k zs)) ≡ length (chunks_joined (take k xs))
  kept_start k upto = omega (arith, start_moved xs zs 0 0 0 0 k k k (omega arith) (omega arith) (omega arith) (omega arith) (λ m d low. ap (λ j. slice_index_or zs j d) (omega arith) ∙ (kept_at m d (omega (arith, low)) ∙ ap (λ j. slice_index_or xs j d) (omega arith))) refl)

  pub moved_start : (k : ℕ) → chunk ≤ k → k + 1 < s → length (chunks_joined (take k zs)) + out ≡ length (chunks_joined (take (k + 1) xs))
  moved_start k from low =
      let d : Vec Mapping = some_of xs (omega arith) in
      omega (
        arith,
        start_moved xs zs chunk (chunk + 1) out 0 (k - chunk) k (k + 1) (omega arith) (omega arith) (omega arith) (omega arith)
            (λ m e few. moved_at (chunk + m) e (omega arith) (omega (arith, few)) ∙ ap (λ j. slice_index_or xs j e) (omega arith))
            (omega (arith, kept_start chunk (omega arith), chunk_end xs chunk d (omega arith), all d)),
      )

  pub removed_starts : (starts now : List ℕ) → AreStarts starts (take s xs) → length xs ≤ length starts → length now ≡ length starts →
      ((k d : ℕ) → k < chunk → slice_index_or now k d ≡ slice_index_or starts k d) →
      ((k d : ℕ) → chunk ≤ k → k + 1 < s → slice_index_or now k d + out ≡ slice_index_or starts (k + 1) d) → AreStarts now (take (s - 1) zs)
  removed_starts starts now are room size before behind = λ k d inside.
      let low : k < s - 1 = omega (arith, inside, length-take (s - 1) zs) in (
        omega (arith, low, size, room),
        rw (start_among zs k (s - 1) (omega arith)) (elim (cases_lt k chunk) [
          | inl earlier ↦ before k d earlier ∙ (start_told xs s k d starts within (omega arith) are ∙ sym (kept_start k (omega arith)))
          | inr from ↦ omega (arith, behind k d from (omega arith), start_told xs s (k + 1) d starts within (omega arith) are, moved_start k from (omega arith))
        ]),
      )

  pub removed_firsts : (firsts now : List ℕ) → AreFirsts firsts (take s xs) → length xs ≤ length firsts → length now ≡ length firsts →
      ((k d : ℕ) → k < chunk → slice_index_or now k d ≡ slice_index_or firsts k d) →
      ((k d : ℕ) → chunk ≤ k → k + 1 < s → slice_index_or now k d ≡ slice_index_or firsts (k + 1) d) → AreFirsts now (take (s - 1) zs)
  removed_firsts firsts now are room size before behind = λ k d v m inside.
      let low : k < s - 1 = omega (arith, inside, length-take (s - 1) zs) in (
        omega (arith, low, size, room),
        rw (get_or-take (s - 1) zs k v low) (elim (cases_lt k chunk) [
          | inl earlier ↦ before k d earlier ∙ (first_told xs s k d v m firsts within (omega arith) are ∙ ap (λ (w : Vec Mapping). (slice_index_or w.items 0 m).range.first) (sym (kept_at k v earlier)))
          | inr from ↦ behind k d from (omega arith) ∙ (first_told xs s (k + 1) d v m firsts within (omega arith) are ∙ ap (λ (w : Vec Mapping). (slice_index_or w.items 0 m).range.first) (sym (moved_at k v from (omega arith))))
        ]),
      )
