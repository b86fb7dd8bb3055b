-- A list with a range replaced is in order.
use Rattle.std.proofs.Common.{◌≡◌, ℕ, ◌+◌, ◌-◌, ◌≤◌, ◌<◌, max, min, ◌++◌, List, [], ◌∷◌, true, false, arith, get_or, ltb, ⊎_elim}
use Rattle.std.proofs.lemmas.Bool.{lt-ltb, le-ltb, le-leb, and_from, cases_lt}
use Rattle.std.proofs.lemmas.List.Elements.{All-head, All-tail, All-append}
use Rattle.std.specs.List.{All}
use Rattle.std.specs.Prelude.{IsTrue}
use Rattle.gv_types.specs.Page.{PAGES}
use Rattle.gv_types.specs.PageRange.{PageRangeState, span, end_of, lies_in, IsInSpace}
use Rattle.gv_types.specs.Mapping.{piece, advanced, IsMapping, HasSmallPages}
use Rattle.gv_types.specs.declared.mapping.Backing.{Backing}
use Rattle.gv_types.specs.declared.mapping.Backing.TheVariants.{Buffer, Zero}
use Rattle.gv_types.specs.declared.mapping.Mapping.{Mapping}
use Rattle.gv_ranges.specs.List.{IsLaidOut, IsLaidOutFrom}
use Rattle.gv_ranges.specs.Edit.{clipped, replaced, LieIn}
use Rattle.gv_ranges.proofs.ReplacedLemmas.{lies_in_bounds}
use Rattle.gv_ranges.proofs.AllReplacedLemmas.{clip_is_piece, All-clipped}

-- a backing's pages stay small further on
small_pages_advanced : (b : Backing) (by count total : ℕ) → by + count ≤ total → HasSmallPages b total → HasSmallPages (advanced b by) count
small_pages_advanced (Buffer id page) by count total fits small = omega arith
small_pages_advanced Zero by count total fits small = tt

-- a piece of a mapping is one
pub IsMapping-piece : (m : Mapping) (first count : ℕ) → IsMapping m → m.range.first ≤ first → 0 < count → first + count ≤ end_of m.range → IsMapping (piece m first count)
IsMapping-piece m first count is low some high =
    let fits : (first - m.range.first) + count ≤ m.range.count = omega arith in
    let in_space : IsInSpace (span first count) = (some, let h : m.range.first + m.range.count ≤ PAGES = is.0.1 in omega arith) in
    (in_space, small_pages_advanced m.backing (first - m.range.first) count m.range.count fits is.1)

-- a clipped list is in order from `low` on
pub laid_out-clipped : (low high from start : ℕ) (ms : List Mapping) → IsLaidOutFrom from ms → start ≤ max low from → IsLaidOutFrom start (clipped low high ms)
laid_out-clipped low high from start [] laid up = tt
laid_out-clipped low high from start (m ∷ ms) laid up =
    let some_pages : 0 < m.range.count = laid.1.0.0 in
    ⊎_elim
    (λ (some : max low m.range.first < min high (end_of m.range)).
    let left : ltb (max low m.range.first) (min high (end_of m.range)) ≡ true = lt-ltb _ _ some in
    rw left (
      omega arith,
      IsMapping-piece m (max low m.range.first) (min high (end_of m.range) - max low m.range.first) laid.1 (omega arith) (omega arith) (omega arith),
      laid_out-clipped low high (end_of m.range) (max low m.range.first + (min high (end_of m.range) - max low m.range.first)) ms laid.2 (omega arith),
    ))
    (λ (none : min high (end_of m.range) ≤ max low m.range.first).
    let gone : ltb (max low m.range.first) (min high (end_of m.range)) ≡ false = le-ltb _ _ none in
    rw gone (laid_out-clipped low high (end_of m.range) start ms laid.2 (omega arith)))
    (cases_lt (max low m.range.first) (min high (end_of m.range)))

-- it ends at `high`
pub ends-clipped : (low high : ℕ) (ms : List Mapping) → All (λ m. end_of m.range ≤ high) (clipped low high ms)
ends-clipped low high ms =
    All-clipped (λ m. end_of m.range ≤ high) low high ms
    (λ k d below n is. let h = clip_is_piece low high (get_or ms k d) n is in rw h.1 (omega (arith, h.0)))

-- and what lies between the first and the last page of a range lies in it
pub lie_in-clipped : (range : PageRangeState) (ms : List Mapping) → LieIn range (clipped range.first (end_of range) ms)
lie_in-clipped range ms =
    All-clipped (λ m. IsTrue (lies_in m.range range)) range.first (end_of range) ms
    (λ k d below n is. let h = clip_is_piece range.first (end_of range) (get_or ms k d) n is in
    let m : Mapping = get_or ms k d in
    let low : range.first ≤ max range.first m.range.first = omega arith in
    let high : max range.first m.range.first + (min (end_of range) (end_of m.range) - max range.first m.range.first) ≤ end_of range = omega (arith, h.0) in
    rw h.1 (and_from _ _ (le-leb _ _ low) (le-leb _ _ high)))

-- two lists in order, the second behind the first
laid_out-append : (start bound : ℕ) (xs ys : List Mapping) → IsLaidOutFrom start xs → All (λ m. end_of m.range ≤ bound) xs → start ≤ bound →
    IsLaidOutFrom bound ys → IsLaidOutFrom start (xs ++ ys)
laid_out-append start bound [] [] laid ends up later = tt
laid_out-append start bound [] (y ∷ ys) laid ends up later = (omega arith, later.1, later.2)
laid_out-append start bound (m ∷ ms) ys laid ends up later = (
  laid.0,
  laid.1,
  laid_out-append (end_of m.range) bound ms ys laid.2 (All-tail (λ (n : Mapping). end_of n.range ≤ bound) m ms ends)
      (All-head (λ (n : Mapping). end_of n.range ≤ bound) m ms ends) later,
)

-- mappings in order that lie in a range are in order from its first page on
inside_laid_out : (range : PageRangeState) (pieces : List Mapping) → IsLaidOut pieces → LieIn range pieces → IsLaidOutFrom range.first pieces
inside_laid_out range [] laid inside = tt
inside_laid_out range (m ∷ ms) laid inside =
    let here : IsTrue (lies_in m.range range) = All-head (λ (n : Mapping). IsTrue (lies_in n.range range)) m ms inside in
    ((lies_in_bounds m.range range here).0, laid.1, laid.2)

-- a list with a range replaced by mappings in order that lie in the range is in order
pub laid_out-replaced : (ms : List Mapping) (range : PageRangeState) (pieces : List Mapping) →
    IsLaidOut ms → IsLaidOut pieces → LieIn range pieces → IsLaidOut (replaced ms range pieces)
laid_out-replaced ms range pieces laid pieces_laid inside =
    let front : IsLaidOutFrom 0 (clipped 0 range.first ms ++ pieces) =
    laid_out-append 0 range.first (clipped 0 range.first ms) pieces
    (laid_out-clipped 0 range.first 0 0 ms laid (omega arith)) (ends-clipped 0 range.first ms) (omega arith)
    (inside_laid_out range pieces pieces_laid inside) in
    let first_end : All (λ m. end_of m.range ≤ end_of range) (clipped 0 range.first ms) =
    λ k d below. let h : end_of (get_or (clipped 0 range.first ms) k d).range ≤ range.first = ends-clipped 0 range.first ms k d below in omega (arith, h) in
    let pieces_end : All (λ m. end_of m.range ≤ end_of range) pieces =
    λ k d below. (lies_in_bounds (get_or pieces k d).range range (inside k d below)).1 in
    let ends : All (λ m. end_of m.range ≤ end_of range) (clipped 0 range.first ms ++ pieces) =
    All-append (λ (m : Mapping). end_of m.range ≤ end_of range) (clipped 0 range.first ms) pieces first_end pieces_end in
    let back : IsLaidOutFrom (end_of range) (clipped (end_of range) PAGES ms) =
    laid_out-clipped (end_of range) PAGES 0 (end_of range) ms laid (omega arith) in
    laid_out-append 0 (end_of range) (clipped 0 range.first ms ++ pieces) (clipped (end_of range) PAGES ms) front ends (omega arith) back
