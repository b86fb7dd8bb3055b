-- A buffer's mappings, found where they begin.
use Rattle.std.proofs.Common.{◌≡◌, ℕ, suc, ◌+◌, ◌<◌, ◌≤◌, List, [], ◌∷◌, ◌++◌, length, map, filter, take, get_or, slice_get, Bool, true, false, eqb, nat_lt, Some, None, arith, refl, sym, ◌∙◌, ap}
use Rattle.std.specs.List.{All}
use Rattle.std.proofs.lemmas.Bool.{eqb-true, lt-ltb, le-ltb}
use Rattle.std.proofs.lemmas.List.{take_more, map-append, length-map, get_or_default}
use Rattle.std.proofs.Math.ListN.{get_or-map}
use Rattle.std.proofs.lemmas.List.Elements.{All-nil, All-cons, All-filter}
use Rattle.gv_types.specs.Mapping.{is_of, is_same_id}
use Rattle.gv_types.specs.PageRange.{PageRangeState, end_of}
use Rattle.gv_types.specs.declared.mapping.Backing.{Backing}
use Rattle.gv_types.specs.declared.mapping.Backing.TheVariants.{Buffer, Zero}
use Rattle.gv_types.specs.declared.mapping.BufferId.{BufferId}
use Rattle.gv_types.specs.declared.mapping.Mapping.{Mapping}
use Rattle.gv_ranges.specs.List.{first_ending_after, IsLaidOut, IsLaidOutFrom}
use Rattle.gv_buffers.specs.Buffers.{BuffersState, IsLive}
use Rattle.gv_buffers.specs.FirstPages.{FirstPagesState, first_pages_at}
use Rattle.gv_buffers.proofs.FoundLemmas.{is_same_id-itself}
use Rattle.gv_space.specs.Counts.{count_of}
use Rattle.gv_space.specs.Live.{IsLiveBacking}
use Rattle.gv_space.specs.ListWithTable.{AreLiveNamed}
use Rattle.gv_space.specs.ListFirstPages.{has_index, firsts_of, AreFirstPages}
use Rattle.gv_space.proofs.FirstPageMoves.{all_above}

-- each mapping of a list in order is the first that ends behind its own first page
all_found : (ms : List Mapping) (low : ℕ) → IsLaidOutFrom low ms → All (λ m. first_ending_after ms m.range.first ≡ Some m) ms
all_found [] low laid = All-nil (λ m. first_ending_after [] m.range.first ≡ Some m)
all_found (x ∷ ms) low laid =
    let some : 0 < x.range.count = laid.1.0.0 in
    let here : nat_lt x.range.first (end_of x.range) ≡ true = lt-ltb _ _ (omega (arith, some)) in
    All-cons (λ m. first_ending_after (x ∷ ms) m.range.first ≡ Some m) x ms (rw here refl)
    (λ k d within.
    let above : end_of x.range ≤ (get_or ms k d).range.first = all_above ms (end_of x.range) laid.2 k d within in
    let past : nat_lt (get_or ms k d).range.first (end_of x.range) ≡ false = le-ltb _ _ above in
    rw past (all_found ms (end_of x.range) laid.2 k d within))

-- a turn of the loop that looks them up
module _ (test : Mapping → Bool) (ms : List Mapping) (first_pages : List ℕ) (k p : ℕ) (laid : IsLaidOut ms) (within : k < length first_pages)
    (are : first_pages ≡ map (λ m. m.range.first) (filter test ms)) (d : Mapping) where
  abbrev page : ℕ
  page = get_or first_pages k p

  abbrev of : List Mapping
  of = filter test ms

  fits : k < length of
  fits = let long : length first_pages ≡ length (map (λ m. m.range.first) of) = ap (λ (ps : List ℕ). length ps) are in omega (arith, long, within, length-map of (λ m. m.range.first))

  found : first_ending_after ms page ≡ Some (get_or of k d)
  found =
      let first : page ≡ (get_or of k d).range.first =
      get_or_default first_pages k p (d.range.first) within ∙ ap (λ (ps : List ℕ). get_or ps k d.range.first) are ∙ get_or-map (λ (m : Mapping). m.range.first) of k d in
      ap (first_ending_after ms) first ∙ All-filter test (λ (m : Mapping). first_ending_after ms m.range.first ≡ Some m) ms (all_found ms 0 laid) k d fits

  pub found_turn : (m : Mapping) (ranges : List PageRangeState) → first_ending_after ms page ≡ Some m → ranges ≡ map (λ m. m.range) (take k of) →
      ranges ++ m.range ∷ [] ≡ map (λ m. m.range) (take (k + 1) of)
  found_turn m ranges is_found so_far =
      let same : Some m ≡ Some (get_or of k d) = sym is_found ∙ found in
      let here : m ≡ get_or of k d = cc in
      ap (λ (rs : List PageRangeState). rs ++ m.range ∷ []) so_far
      ∙ ap (λ (x : Mapping). map (λ m. m.range) (take k of) ++ x.range ∷ []) here
      ∙ sym (ap (map (λ (m : Mapping). m.range)) (take_more of k d fits) ∙ map-append (λ (m : Mapping). m.range) (take k of) (get_or of k d ∷ []))

  pub none_is_missed : {X : Type 0} → first_ending_after ms page ≡ None → X
  none_is_missed none = absurd (let wrong : Some (get_or of k d) ≡ None = sym found ∙ none in cc)

-- two tests that agree on each mapping leave the same
same_filter : (p q : Mapping → Bool) (ms : List Mapping) → All (λ m. p m ≡ q m) ms → filter p ms ≡ filter q ms
same_filter p q [] all = refl
same_filter p q (m ∷ ms) all =
    let here : p m ≡ q m = all 0 m (omega arith) in
    let rest : filter p ms ≡ filter q ms = same_filter p q ms (λ k d within. all (suc k) d (omega arith)) in
    rw (here, rest) refl

-- of live buffers the index tells as much as the id
index_tells : (t : BuffersState) (names : List BufferId) (id : BufferId) (backing : Backing) → AreLiveNamed t names → IsLive t id → IsLiveBacking t backing →
    is_of id backing ≡ has_index id.index backing
index_tells t names id (Buffer other page) named lives other_lives =
    elim (eqb other.index id.index) as (λ b. eqb other.index id.index ≡ b → is_same_id other id ≡ b) [
      | true ↦ (λ e.
          let same_index : other.index ≡ id.index = eqb-true _ _ e in
          let one : Some other ≡ Some id = sym (named other other_lives) ∙ ap (slice_get names) same_index ∙ named id lives in
          let same : other ≡ id = cc in
          rw same (is_same_id-itself id))
      | false ↦ (λ e. rw e refl)
    ] refl
index_tells t names id Zero named lives other_lives = refl

-- where a buffer's mappings begin
abbrev pub firsts : BufferId → List Mapping → List ℕ
firsts id ms = map (λ m. m.range.first) (filter (λ m. is_of id m.backing) ms)

-- where as many first pages of an index are known as its buffer has mappings, they are where these begin
pub places_of : (t : BuffersState) (names : List BufferId) (id : BufferId) (ms : List Mapping) (rows : List FirstPagesState) (pages : List ℕ) (count : ℕ) → AreLiveNamed t names → IsLive t id →
    All (λ m. IsLiveBacking t m.backing) ms → AreFirstPages ms rows → pages ≡ (first_pages_at rows id.index).pages → count ≡ count_of id ms → length pages ≡ count →
    pages ≡ firsts id ms
places_of t names id ms rows pages count named lives all are told counted known =
    let same : filter (λ (m : Mapping). is_of id m.backing) ms ≡ filter (λ (m : Mapping). has_index id.index m.backing) ms =
    same_filter (λ (m : Mapping). is_of id m.backing) (λ (m : Mapping). has_index id.index m.backing) ms (λ k d within. index_tells t names id (get_or ms k d).backing named lives (all k d within)) in
    let long : length (firsts_of id.index ms) ≡ count_of id ms =
    length-map (filter (λ (m : Mapping). has_index id.index m.backing) ms) (λ m. m.range.first) ∙ ap (λ (xs : List Mapping). length xs) (sym same) in
    let stand = are id.index in
    let all_known : length (first_pages_at rows id.index).pages ≡ (first_pages_at rows id.index).count =
    ap (λ (ps : List ℕ). length ps) (sym told) ∙ known ∙ counted ∙ sym long ∙ sym stand.count in
    told ∙ stand.pages all_known ∙ ap (map (λ (m : Mapping). m.range.first)) (sym same)
