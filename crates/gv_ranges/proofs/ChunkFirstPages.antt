-- The pages at which the chunks of a list in order begin, and a search for a chunk by them.
use Rattle.std.proofs.Common.{◌≡◌, ℕ, [], ◌∷◌, ◌+◌, ◌-◌, ◌/◌, ◌*◌, ◌∙◌, ◌≤◌, ◌<◌, inl, inr, leb, refl, length, get_or, take, drop, List, slice_index_or, arith, sym, subst, ap}
use Rattle.std.specs.Prelude.{if◌then◌else◌}
use Rattle.std.proofs.lemmas.Bool.{leb-true, leb-false}
use Rattle.std.specs.List.{All}
use Rattle.std.specs.Global.{Vec}
use Rattle.gv_types.specs.Page.{PAGES}
use Rattle.gv_types.specs.PageRange.{end_of}
use Rattle.gv_types.specs.declared.mapping.Mapping.{Mapping}
use Rattle.gv_chunks.specs.Chunks.{chunks_joined, AreFilled, AreFirsts}
use Rattle.gv_chunks.proofs.StartLemmas.{take_start, drop_start, start_within, start_rises, end_of_chunk, at_in_chunk}
use Rattle.gv_ranges.specs.List.{IsLaidOut}
use Rattle.gv_ranges.proofs.LookupLemmas.{is_mapping, firsts_rise}
use Rattle.gv_ranges.proofs.SearchSteps.{chosen, counted, ended-before, begun-from, not_begun-from}

-- a chunk that holds something begins within the list
begins_within : (xs : List (Vec Mapping)) (i : ℕ) → AreFilled xs → i < length xs → length (chunks_joined (take i xs)) < length (chunks_joined xs)
begins_within [] i filled within = absurd (omega arith)
begins_within (x ∷ xs) i filled within =
    let v : Vec Mapping = slice_index_or (x ∷ xs) i x in
    omega (arith, filled i x within, v.ok, start_within (x ∷ xs) (i + 1), end_of_chunk (x ∷ xs) i x v.items within refl)

-- where it begins is the first page of the mapping there
begins_at : (xs : List (Vec Mapping)) (firsts : List ℕ) (i : ℕ) → AreFilled xs → AreFirsts firsts xs → i < length xs →
    (d : ℕ) (m : Mapping) → (get_or (chunks_joined xs) (length (chunks_joined (take i xs))) m).range.first ≡ slice_index_or firsts i d
begins_at [] firsts i filled are within d m = absurd (omega arith)
begins_at (x ∷ xs) firsts i filled are within d m =
    let v : Vec Mapping = slice_index_or (x ∷ xs) i x in
    let start : ℕ = length (chunks_joined (take i (x ∷ xs))) in
    let same : get_or (chunks_joined (x ∷ xs)) (start + 0) m ≡ get_or v.items 0 m =
    at_in_chunk (x ∷ xs) i x v.items within refl 0 m (omega (arith, filled i x within, v.ok)) in
    ap (λ n. (get_or (chunks_joined (x ∷ xs)) n m).range.first) (omega arith) ∙ (ap (λ (e : Mapping). e.range.first) same ∙ sym (are i d x m within).1)

-- a list with an index has a mapping
mapping_of : (ms : List Mapping) (index : ℕ) → index < length ms → Mapping
mapping_of [] index within = absurd (omega arith)
mapping_of (m ∷ ms) index within = m

-- each chunk has its page
pub first_within : (xs : List (Vec Mapping)) (firsts : List ℕ) (i : ℕ) → AreFilled xs → AreFirsts firsts xs → i < length xs → i < length firsts
first_within [] firsts i filled are within = absurd (omega arith)
first_within (x ∷ xs) firsts i filled are within =
    let m : Mapping = mapping_of (chunks_joined (x ∷ xs)) _ (begins_within (x ∷ xs) i filled within) in
    (are i 0 x m within).0

module _ (xs : List (Vec Mapping)) (firsts : List ℕ) (i d : ℕ) (filled : AreFilled xs) (are : AreFirsts firsts xs) (laid : IsLaidOut (chunks_joined xs))
    (within : i < length xs) where
  -- a chunk begins in the address space
  pub first_in_space : slice_index_or firsts i d ≤ PAGES
  first_in_space =
      let begins : length (chunks_joined (take i xs)) < length (chunks_joined xs) = begins_within xs i filled within in
      let m : Mapping = mapping_of (chunks_joined xs) _ begins in
      let is = is_mapping (chunks_joined xs) 0 (length (chunks_joined (take i xs))) m laid begins in
      omega (arith, is.0, begins_at xs firsts i filled are within d m)

  -- a later chunk begins no sooner
  pub first_rises : (j : ℕ) → i ≤ j → j < length xs → slice_index_or firsts i d ≤ slice_index_or firsts j d
  first_rises j up within' =
      let m : Mapping = mapping_of (chunks_joined xs) _ (begins_within xs i filled within) in
      let rise = firsts_rise (chunks_joined xs) 0 laid (length (chunks_joined (take i xs))) (length (chunks_joined (take j xs))) m
      (start_rises xs i j up) (begins_within xs j filled within') in
      omega (arith, rise, begins_at xs firsts i filled are within d m, begins_at xs firsts j filled are within' d m)

  -- the chunks before one that begins at a page or before it end there
  pub chunks_ended : (page : ℕ) → slice_index_or firsts i d ≤ page → All (λ m. end_of m.range ≤ page) (chunks_joined (take i xs))
  chunks_ended page low =
      subst (λ (ms : List Mapping). All (λ (m : Mapping). end_of m.range ≤ page) ms) (take_start xs i)
      (ended-before (chunks_joined xs) page (length (chunks_joined (take i xs))) laid (begins_within xs i filled within) (λ m. rw (begins_at xs firsts i filled are within d m) low)).ended

  -- they begin before a page where it does
  pub chunks_begun : (page : ℕ) → slice_index_or firsts i d < page → All (λ m. m.range.first < page) (chunks_joined (take i xs))
  chunks_begun page low k m below =
      let ends = chunks_ended (slice_index_or firsts i d) (omega arith) k m below in
      omega (arith, ends)

  -- the chunks from one that begins past a page on begin past it
  pub chunks_later : (page j : ℕ) → i ≤ j → page < slice_index_or firsts i d → All (λ m. page < m.range.first) (chunks_joined (drop j xs))
  chunks_later page j up high =
      subst (λ (ms : List Mapping). All (λ (m : Mapping). page < m.range.first) ms) (drop_start xs j)
      (begun-from (chunks_joined xs) page (length (chunks_joined (take i xs))) laid (begins_within xs i filled within) (length (chunks_joined (take j xs)))
      (start_rises xs i j up) (start_within xs j) (λ m. rw (begins_at xs firsts i filled are within d m) high))

  -- and those from one on that begins at it or past it do so
  pub chunks_not_begun : (page : ℕ) → page ≤ slice_index_or firsts i d → All (λ m. page ≤ m.range.first) (chunks_joined (drop i xs))
  chunks_not_begun page high =
      subst (λ (ms : List Mapping). All (λ (m : Mapping). page ≤ m.range.first) ms) (drop_start xs i)
      (not_begun-from (chunks_joined xs) page (length (chunks_joined (take i xs))) laid (begins_within xs i filled within) (λ m. rw (begins_at xs firsts i filled are within d m) high))

-- a step of the search: what remains is halved by a look at where the chunk in the middle begins
pub halved_chunks : (xs : List (Vec Mapping)) (firsts : List ℕ) (page chunk remaining half next step : ℕ) → AreFilled xs → AreFirsts firsts xs → IsLaidOut (chunks_joined xs) →
    chunk + remaining ≤ length xs → 1 < remaining → half ≡ remaining / 2 →
    All (λ m. end_of m.range ≤ page) (chunks_joined (take chunk xs)) → All (λ m. page < m.range.first) (chunks_joined (drop (chunk + remaining) xs)) →
    step ≡ (if leb (slice_index_or firsts (chunk + half) 0) page then half else 0) → next ≡ chunk + step →
    (next + (remaining - half) ≤ length xs) × All (λ m. end_of m.range ≤ page) (chunks_joined (take next xs)) × All (λ m. page < m.range.first) (chunks_joined (drop (next + (remaining - half)) xs))
halved_chunks xs firsts page chunk remaining half next step filled are laid within more middle ended past step_is is =
    let inside : chunk + half < length xs = omega arith in
    elim (chosen (leb (slice_index_or firsts (chunk + half) 0) page) next chunk half step step_is is) [
      | inl low ↦ (
          let rest : next + (remaining - half) ≡ chunk + remaining = omega (arith, low.1) in (
            omega (arith, rest),
            rw low.1 (chunks_ended xs firsts (chunk + half) 0 filled are laid inside page (leb-true _ page low.0)),
            rw rest past,
          ))
      | inr high ↦ (
        omega (arith, high.1),
        rw high.1 ended,
        chunks_later xs firsts (chunk + half) 0 filled are laid inside page (next + (remaining - half)) (omega (arith, high.1)) (leb-false _ page high.0),
      )
    ]

-- a quarter remains by looks at where three chunks begin
module _ (xs : List (Vec Mapping)) (firsts : List ℕ) (page chunk remaining quarter next s1 s2 s3 : ℕ) (filled : AreFilled xs) (are : AreFirsts firsts xs)
    (laid : IsLaidOut (chunks_joined xs)) (within : chunk + remaining ≤ length xs) (some : 3 < remaining) (quarter_is : quarter ≡ remaining / 4)
    (ended : All (λ m. end_of m.range ≤ page) (chunks_joined (take chunk xs)))
    (past : All (λ m. page < m.range.first) (chunks_joined (drop (chunk + remaining) xs)))
    (s1_is : s1 ≡ (if leb (slice_index_or firsts (chunk + quarter) 0) page then quarter else 0))
    (s2_is : s2 ≡ (if leb (slice_index_or firsts (chunk + 2 * quarter) 0) page then quarter else 0))
    (s3_is : s3 ≡ (if leb (slice_index_or firsts (chunk + 3 * quarter) 0) page then quarter else 0)) (is : next ≡ chunk + (s1 + s2 + s3)) where
  pub quartered_chunks : (next + (remaining - 3 * quarter) ≤ length xs) × All (λ m. end_of m.range ≤ page) (chunks_joined (take next xs)) ×
      All (λ m. page < m.range.first) (chunks_joined (drop (next + (remaining - 3 * quarter)) xs))
  quartered_chunks =
      let i1 : chunk + quarter < length xs = omega arith in
      let i2 : chunk + 2 * quarter < length xs = omega arith in
      let i3 : chunk + 3 * quarter < length xs = omega arith in
      let up = first_rises xs firsts (chunk + quarter) 0 filled are laid i1 (chunk + 2 * quarter) (omega arith) i2 in
      let up' = first_rises xs firsts (chunk + 2 * quarter) 0 filled are laid i2 (chunk + 3 * quarter) (omega arith) i3 in
      elim (counted page chunk next quarter _ _ _ s1 s2 s3 up up' s1_is s2_is s3_is is) [
        | inl all ↦ (
            let rest : next + (remaining - 3 * quarter) ≡ chunk + remaining = omega (arith, all.1) in (
              omega (arith, rest),
              rw all.1 (chunks_ended xs firsts (chunk + 3 * quarter) 0 filled are laid i3 page all.0),
              rw rest past,
            ))
        | inr fewer ↦ elim fewer [
          | inl two ↦ (
            omega (arith, two.2),
            rw two.2 (chunks_ended xs firsts (chunk + 2 * quarter) 0 filled are laid i2 page two.0),
            chunks_later xs firsts (chunk + 3 * quarter) 0 filled are laid i3 page (next + (remaining - 3 * quarter)) (omega (arith, two.2)) two.1,
          )
          | inr fewer' ↦ elim fewer' [
            | inl one ↦ (
              omega (arith, one.2),
              rw one.2 (chunks_ended xs firsts (chunk + quarter) 0 filled are laid i1 page one.0),
              chunks_later xs firsts (chunk + 2 * quarter) 0 filled are laid i2 page (next + (remaining - 3 * quarter)) (omega (arith, one.2)) one.1,
            )
            | inr none ↦ (
              omega (arith, none.1),
              rw none.1 ended,
              chunks_later xs firsts (chunk + quarter) 0 filled are laid i1 page (next + (remaining - 3 * quarter)) (omega (arith, none.1)) none.0,
            )
          ]
        ]
      ]
