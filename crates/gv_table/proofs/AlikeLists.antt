-- Lists that are alike before, behind or inside a range say alike of the pages there.
use Rattle.std.proofs.Common.{◌≡◌, ℕ, ◌+◌, ◌-◌, ◌<◌, ◌≤◌, inl, inr, max, min, true, false, List, [], ◌∷◌, leb, ltb, refl, arith, sym, ap, ◌∙◌}
use Rattle.std.proofs.lemmas.Bool.{lt-ltb, le-ltb, cases_lt}
use Rattle.gv_types.specs.Page.{PAGES}
use Rattle.gv_types.specs.PageRange.{PageRangeState, span, end_of, meets, lies_in}
use Rattle.gv_types.specs.declared.mapping.Mapping.{Mapping}
use Rattle.gv_ranges.specs.List.{IsLaidOut, IsLaidOutFrom}
use Rattle.gv_ranges.specs.Edit.{clipped}
use Rattle.gv_ranges.proofs.ClipLemmas.{leb_iff, part-piece}
use Rattle.gv_table.specs.Reads.{any_meets, covering, AreAlikeOutside}
use Rattle.gv_table.proofs.RangesMeet.{meets-after, meets-before, apart-cases, lies-bounds, lies-not-low, lies-not-high}
use Rattle.gv_table.proofs.CoveringMappings.{true-or-false}

-- a piece between two pages meets what the mapping meets there
meets-piece : (low high : ℕ) (s t : PageRangeState) → low ≤ t.first → 0 < t.count → end_of t ≤ high → max low s.first < min high (end_of s) →
    meets (span (max low s.first) (min high (end_of s) - max low s.first)) t ≡ meets s t
meets-piece low high s t up some down left =
    let a : ltb (max low s.first) (end_of t) ≡ ltb s.first (end_of t) = leb_iff _ _ _ _ (λ h. omega arith) (λ h. omega arith) in
    let b : ltb t.first (max low s.first + (min high (end_of s) - max low s.first)) ≡ ltb t.first (end_of s) = leb_iff _ _ _ _ (λ h. omega arith) (λ h. omega arith) in
    rw (a, b) refl

meets-gone : (low high : ℕ) (s t : PageRangeState) → 0 < s.count → low ≤ t.first → 0 < t.count → end_of t ≤ high → min high (end_of s) ≤ max low s.first →
    meets s t ≡ false
meets-gone low high s t full up some down gone =
    elim (cases_lt s.first (end_of t)) [
      | inl begun ↦ meets-before s t (omega arith)
      | inr behind ↦ meets-after s t behind
    ]

pub any_meets-clipped : (low high from : ℕ) (ms : List Mapping) (t : PageRangeState) → IsLaidOutFrom from ms → low ≤ t.first → 0 < t.count → end_of t ≤ high →
    any_meets (clipped low high ms) t ≡ any_meets ms t
any_meets-clipped low high from [] t laid up some down = refl
any_meets-clipped low high from (m ∷ ms) t laid up some down =
    let rest = any_meets-clipped low high (end_of m.range) ms t laid.2 up some down in
    elim (cases_lt (max low m.range.first) (min high (end_of m.range))) [
      | inl left ↦ (let yes : ltb (max low m.range.first) (min high (end_of m.range)) ≡ true = lt-ltb _ _ left in
          rw (yes, meets-piece low high m.range t up some down left, rest) refl)
      | inr gone ↦ (let no : ltb (max low m.range.first) (min high (end_of m.range)) ≡ false = le-ltb _ _ gone in
          rw (no, meets-gone low high m.range t laid.1.0.0 up some down gone) rest)
    ]

lies-piece : (low high : ℕ) (s t : PageRangeState) → low ≤ t.first → 0 < t.count → end_of t ≤ high → max low s.first < min high (end_of s) →
    lies_in t (span (max low s.first) (min high (end_of s) - max low s.first)) ≡ lies_in t s
lies-piece low high s t up some down left =
    let a : leb (max low s.first) t.first ≡ leb s.first t.first = leb_iff _ _ _ _ (λ h. omega arith) (λ h. omega arith) in
    let b : leb (end_of t) (max low s.first + (min high (end_of s) - max low s.first)) ≡ leb (end_of t) (end_of s) = leb_iff _ _ _ _ (λ h. omega arith) (λ h. omega arith) in
    rw (a, b) refl

lies-gone : (low high : ℕ) (s t : PageRangeState) → low ≤ t.first → 0 < t.count → end_of t ≤ high → min high (end_of s) ≤ max low s.first →
    lies_in t s ≡ false
lies-gone low high s t up some down gone =
    elim (cases_lt t.first s.first) [
      | inl before ↦ lies-not-low t s before
      | inr begun ↦ lies-not-high t s (omega arith)
    ]

pub covering-clipped : (low high : ℕ) (ms : List Mapping) (t : PageRangeState) → low ≤ t.first → 0 < t.count → end_of t ≤ high →
    covering (clipped low high ms) t ≡ covering ms t
covering-clipped low high [] t up some down = refl
covering-clipped low high (m ∷ ms) t up some down =
    let rest = covering-clipped low high ms t up some down in
    elim (cases_lt (max low m.range.first) (min high (end_of m.range))) [
      | inl left ↦ (let yes : ltb (max low m.range.first) (min high (end_of m.range)) ≡ true = lt-ltb _ _ left in
          elim (true-or-false (lies_in t m.range)) [
            | inl whole ↦ (let h = lies-bounds t m.range whole in
                let same = part-piece m (max low m.range.first) (min high (end_of m.range) - max low m.range.first) t.first (omega arith) (omega (arith, h)) in
                rw (yes, lies-piece low high m.range t up some down left, whole, same) refl)
            | inr other ↦ rw (yes, lies-piece low high m.range t up some down left, other) rest
          ])
      | inr gone ↦ (let no : ltb (max low m.range.first) (min high (end_of m.range)) ≡ false = le-ltb _ _ gone in
          rw (no, lies-gone low high m.range t up some down gone) rest)
    ]

-- two lists say alike of a range
abbrev pub SayAlike : List Mapping → List Mapping → PageRangeState → Type 0
SayAlike one other t = (any_meets one t ≡ any_meets other t) × (covering one t ≡ covering other t)

-- lists that are alike outside a range say alike of what lies outside it
pub alike-outside : (range : PageRangeState) (one other : List Mapping) (t : PageRangeState) → AreAlikeOutside range one other → IsLaidOut one → IsLaidOut other →
    0 < t.count → end_of t ≤ PAGES → meets t range ≡ false → SayAlike one other t
alike-outside range one other t alike laid laid' some within apart =
    elim (apart-cases t range apart) [
      | inl behind ↦ (
        sym (any_meets-clipped (end_of range) PAGES 0 one t laid behind some within) ∙ ap (λ (ms : List Mapping). any_meets ms t) alike.beyond ∙
            any_meets-clipped (end_of range) PAGES 0 other t laid' behind some within,
        sym (covering-clipped (end_of range) PAGES one t behind some within) ∙ ap (λ (ms : List Mapping). covering ms t) alike.beyond ∙
            covering-clipped (end_of range) PAGES other t behind some within,
      )
      | inr before ↦ (
        sym (any_meets-clipped 0 range.first 0 one t laid (omega arith) some before) ∙ ap (λ (ms : List Mapping). any_meets ms t) alike.before ∙
            any_meets-clipped 0 range.first 0 other t laid' (omega arith) some before,
        sym (covering-clipped 0 range.first one t (omega arith) some before) ∙ ap (λ (ms : List Mapping). covering ms t) alike.before ∙
            covering-clipped 0 range.first other t (omega arith) some before,
      )
    ]

-- a list says of a part of a range what its pieces in the range say
pub alike-inside : (range : PageRangeState) (ms pieces : List Mapping) (t : PageRangeState) → clipped range.first (end_of range) ms ≡ pieces → IsLaidOut ms →
    0 < t.count → range.first ≤ t.first → end_of t ≤ end_of range → SayAlike ms pieces t
alike-inside range ms pieces t is laid some low high = (
  sym (any_meets-clipped range.first (end_of range) 0 ms t laid low some high) ∙ ap (λ (xs : List Mapping). any_meets xs t) is,
  sym (covering-clipped range.first (end_of range) ms t low some high) ∙ ap (λ (xs : List Mapping). covering xs t) is,
)
