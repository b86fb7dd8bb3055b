-- How many rests a run has that a range meets.
use Rattle.std.proofs.Common.{◌≡◌, ℕ, ◌+◌, ◌-◌, ◌<◌, ◌≤◌, ◌∙◌, List, [], ◌∷◌, length, get_or, Option, Some, None, IsTrue, refl, sym, arith, ap}
use Rattle.std.specs.List.{All}
use Rattle.std.specs.Option.{option_to_list, is_some}
use Rattle.std.proofs.lemmas.Bool.{ltb-true, and_parts}
use Rattle.std.proofs.lemmas.List.{get_or_default}
use Rattle.gv_types.specs.Page.{PAGES}
use Rattle.gv_types.specs.PageRange.{PageRangeState, end_of, meets}
use Rattle.gv_types.specs.Mapping.{clip}
use Rattle.gv_types.specs.declared.mapping.Mapping.{Mapping}
use Rattle.gv_ranges.specs.List.{IsLaidOut, IsOverlappingRun, run}
use Rattle.gv_ranges.specs.Edit.{clipped}
use Rattle.gv_ranges.proofs.RestLemmas.{rest_of_first, rest_of_last, at_run, length_of_run, run_is_laid_out}
use mir.Val.{bool_byte}

-- an option holds one at most
length-option : (o : Option Mapping) → length (option_to_list o) ≤ 1
length-option None = omega arith
length-option (Some m) = omega arith

pub count-option : (o : Option Mapping) → bool_byte (is_some o) ≡ length (option_to_list o)
count-option None = refl
count-option (Some m) = refl

-- mappings that meet a range end past its first page, and begin before its end
pub past-met : (ms : List Mapping) (range : PageRangeState) → All (λ m. IsTrue (meets m.range range)) ms → All (λ m. range.first < end_of m.range) ms
past-met ms range met = λ k d below. ltb-true range.first (end_of (get_or ms k d).range) (and_parts _ _ (met k d below)).1

pub begun-met : (ms : List Mapping) (range : PageRangeState) → All (λ m. IsTrue (meets m.range range)) ms → All (λ m. m.range.first < end_of range) ms
begun-met ms range met = λ k d below. ltb-true (get_or ms k d).range.first (end_of range) (and_parts _ _ (met k d below)).0

-- of mappings that a range meets at most one has a rest on each side
pub few_rests : (ms : List Mapping) (range : PageRangeState) → IsLaidOut ms → All (λ m. range.first < end_of m.range) ms → All (λ m. m.range.first < end_of range) ms →
    length (clipped 0 range.first ms) + length (clipped (end_of range) PAGES ms) ≤ 2
few_rests [] range laid past before = omega arith
few_rests (m ∷ ms) range laid past before =
    let last : Mapping = get_or (m ∷ ms) (length ms) m in
    let index : length (m ∷ ms) - 1 ≡ length ms = omega arith in
    let prev : clipped 0 range.first (m ∷ ms) ≡ option_to_list (clip 0 range.first m) = rest_of_first (m ∷ ms) range.first m (omega arith) laid past refl in
    let next : clipped (end_of range) PAGES (m ∷ ms) ≡ option_to_list (clip (end_of range) PAGES last) =
    rest_of_last (m ∷ ms) (end_of range) PAGES last (omega arith) laid before (rw index (get_or_default (m ∷ ms) (length ms) m last (omega arith))) in
    omega (arith, ap (λ (xs : List Mapping). length xs) prev, ap (λ (xs : List Mapping). length xs) next, length-option (clip 0 range.first m), length-option (clip (end_of range) PAGES last))

module _ (ms : List Mapping) (range : PageRangeState) (index count : ℕ) (laid : IsLaidOut ms) (met : IsOverlappingRun ms range index count) where
  abbrev here : List Mapping
  here = run ms index count

  laid_here : IsLaidOut here
  laid_here = run_is_laid_out ms index count laid

  pub few_rests_of_run : length (clipped 0 range.first here) + length (clipped (end_of range) PAGES here) ≤ 2
  few_rests_of_run = few_rests here range laid_here (past-met here range met.meeting) (begun-met here range met.meeting)

  -- the rests of its first mapping and its last are counted
  pub rests_of_run : (first last : Mapping) (prev next : Option Mapping) (a b : ℕ) → 0 < count → first ≡ get_or ms index first → last ≡ get_or ms (index + count - 1) last →
      prev ≡ clip 0 range.first first → next ≡ clip (end_of range) PAGES last → a ≡ bool_byte (is_some prev) → b ≡ bool_byte (is_some next) →
      a + b ≡ length (clipped 0 range.first here) + length (clipped (end_of range) PAGES here)
  rests_of_run first last prev next a b some first_is last_is prev_is next_is a_is b_is =
      let long : length here ≡ count = length_of_run ms index count met.within in
      let at_first : get_or here 0 first ≡ get_or ms index first = let i : index + 0 ≡ index = omega arith in rw i at (at_run ms index count 0 first some) in
      let i_last : index + (count - 1) ≡ index + count - 1 = omega arith in
      let at_last : get_or here (length here - 1) last ≡ get_or ms (index + count - 1) last = rw (long, ← i_last) (at_run ms index count (count - 1) last (omega arith)) in
      let before : clipped 0 range.first here ≡ option_to_list prev =
      rest_of_first here range.first first (omega arith) laid_here (past-met here range met.meeting) (first_is ∙ sym at_first) ∙ ap option_to_list (sym prev_is) in
      let behind : clipped (end_of range) PAGES here ≡ option_to_list next =
      rest_of_last here (end_of range) PAGES last (omega arith) laid_here (begun-met here range met.meeting) (last_is ∙ sym at_last) ∙ ap option_to_list (sym next_is) in
      rw (before, behind, a_is, b_is, count-option prev, count-option next) refl
