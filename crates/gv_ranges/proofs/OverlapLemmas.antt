-- The mappings that meet a range are a run, and it has one index.
use Rattle.std.proofs.Common.{◌≡◌, ℕ, zero, suc, ◌+◌, ◌<◌, ◌≤◌, IsTrue, nat_lt, take, drop, ◌++◌, List, [], ◌∷◌, Bool, true, false, arith, refl, ◌∙◌, ap, subst, inl, inr}
use Rattle.std.proofs.lemmas.Bool.{le-ltb, ltb-true, and_left, and_right, and_parts}
use Rattle.std.proofs.lemmas.List.{append-nil}
use Rattle.std.proofs.lemmas.List.Elements.{All-head, All-tail, filter-append, filter_map-append}
use Rattle.std.specs.List.{All, filter}
use Rattle.gv_types.specs.PageRange.{PageRangeState, end_of, meets}
use Rattle.gv_types.specs.Mapping.{clip}
use Rattle.gv_types.specs.declared.mapping.Mapping.{Mapping}
use Rattle.gv_ranges.specs.List.{IsLaidOutFrom, IsOverlappingRun, run}
use Rattle.gv_ranges.specs.Edit.{clipped}
use Rattle.gv_ranges.proofs.ReplacedLemmas.{clipped_none, split_at_run}

pub filter_all : {X : Type 0} (p : X → Bool) (xs : List X) → All (λ x. p x ≡ true) xs → filter p xs ≡ xs
filter_all p [] all = refl
filter_all p (x ∷ xs) all =
    let here : p x ≡ true = All-head (λ x. p x ≡ true) x xs all in
    let rest : filter p xs ≡ xs = filter_all p xs (All-tail (λ x. p x ≡ true) x xs all) in
    rw (here, rest) refl

pub filter_none : {X : Type 0} (p : X → Bool) (xs : List X) → All (λ x. p x ≡ false) xs → filter p xs ≡ []
filter_none p [] all = refl
filter_none p (x ∷ xs) all =
    let here : p x ≡ false = All-head (λ x. p x ≡ false) x xs all in
    let rest : filter p xs ≡ [] = filter_none p xs (All-tail (λ x. p x ≡ false) x xs all) in
    rw (here, rest) refl

pub filter_meets : (ms : List Mapping) (range : PageRangeState) (index count : ℕ) → IsOverlappingRun ms range index count →
    filter (λ m. meets m.range range) ms ≡ run ms index count
filter_meets ms range index count is =
    let before : All (λ (m : Mapping). meets m.range range ≡ false) (take index ms) =
    λ k d below. and_right _ _ (le-ltb _ _ (is.before k d below)) in
    let behind : All (λ (m : Mapping). meets m.range range ≡ false) (drop (index + count) ms) =
    λ k d below. and_left _ _ (le-ltb _ _ (is.beyond k d below)) in
    ap (filter (λ (m : Mapping). meets m.range range)) (split_at_run ms index count) ∙
    filter-append (λ (m : Mapping). meets m.range range) (take index ms) (run ms index count ++ drop (index + count) ms) ∙
    rw (
      filter_none (λ (m : Mapping). meets m.range range) (take index ms) before,
      filter-append (λ (m : Mapping). meets m.range range) (run ms index count) (drop (index + count) ms),
      filter_all (λ (m : Mapping). meets m.range range) (run ms index count) is.meeting,
      filter_none (λ (m : Mapping). meets m.range range) (drop (index + count) ms) behind,
    ) (append-nil (run ms index count))

-- what lies in a range lies in the run that meets it
pub clipped_run : (ms : List Mapping) (range : PageRangeState) (index count : ℕ) → IsOverlappingRun ms range index count →
    clipped range.first (end_of range) ms ≡ clipped range.first (end_of range) (run ms index count)
clipped_run ms range index count is =
    ap (clipped range.first (end_of range)) (split_at_run ms index count)
    ∙ filter_map-append (clip range.first (end_of range)) (take index ms) (run ms index count ++ drop (index + count) ms)
    ∙ ap (λ (xs : List Mapping). xs ++ clipped range.first (end_of range) (run ms index count ++ drop (index + count) ms))
    (clipped_none range.first (end_of range) (take index ms) (λ k d below. inl (is.before k d below)))
    ∙ filter_map-append (clip range.first (end_of range)) (run ms index count) (drop (index + count) ms)
    ∙ ap (λ (xs : List Mapping). clipped range.first (end_of range) (run ms index count) ++ xs)
    (clipped_none range.first (end_of range) (drop (index + count) ms) (λ k d below. inr (is.beyond k d below)))
    ∙ append-nil (clipped range.first (end_of range) (run ms index count))

-- the run has one index

ended : (ms : List Mapping) (m : Mapping) (range : PageRangeState) (low index count : ℕ) → IsLaidOutFrom low (m ∷ ms) → IsOverlappingRun (m ∷ ms) range 0 count → end_of m.range ≤ range.first → ⊥
ended ms m range low index zero laid is before =
    let behind : end_of range ≤ m.range.first = All-head (λ (x : Mapping). end_of range ≤ x.range.first) m ms is.beyond in
    omega (arith, behind, before, laid.1.0.0)
ended ms m range low index (suc count) laid is before =
    let here = All-head (λ (x : Mapping). IsTrue (meets x.range range)) m (run ms 0 count) is.meeting in
    let reaches : range.first < end_of m.range = ltb-true range.first (end_of m.range) (and_parts (nat_lt m.range.first (end_of range)) (nat_lt range.first (end_of m.range)) here).1 in
    omega (arith, reaches, before)

later : (ms : List Mapping) (m : Mapping) (range : PageRangeState) (index count : ℕ) → IsOverlappingRun (m ∷ ms) range (suc index) count → IsOverlappingRun ms range index count
later ms m range index count is =
    let up : suc index + count ≡ suc (index + count) = omega arith in
    record {
      within = omega (arith, is.within);
      before = All-tail (λ (x : Mapping). end_of x.range ≤ range.first) m (take index ms) is.before;
      meeting = is.meeting;
      beyond = subst (λ k. All (λ (x : Mapping). end_of range ≤ x.range.first) (drop k (m ∷ ms))) up is.beyond;
    }

pub index_alike : (ms : List Mapping) (range : PageRangeState) (low index other count : ℕ) → IsLaidOutFrom low ms → IsOverlappingRun ms range index count → IsOverlappingRun ms range other count → index ≡ other
index_alike ms range low zero zero count laid is also = refl
index_alike [] range low zero (suc other) count laid is also = absurd (omega (arith, also.within))
index_alike [] range low (suc index) other count laid is also = absurd (omega (arith, is.within))
index_alike (m ∷ ms) range low zero (suc other) count laid is also =
    absurd (ended ms m range low 0 count laid is (All-head (λ (x : Mapping). end_of x.range ≤ range.first) m _ also.before))
index_alike (m ∷ ms) range low (suc index) zero count laid is also =
    absurd (ended ms m range low 0 count laid also (All-head (λ (x : Mapping). end_of x.range ≤ range.first) m _ is.before))
index_alike (m ∷ ms) range low (suc index) (suc other) count laid is also =
    ap suc (index_alike ms range (end_of m.range) index other count laid.2 (later ms m range index count is) (later ms m range other count also))
