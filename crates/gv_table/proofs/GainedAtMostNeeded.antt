-- The tables that a paint gains are at most those that the pieces foresee.
use Rattle.std.proofs.Common.{◌≡◌, ℕ, zero, suc, ◌+◌, ◌*◌, ◌<◌, ◌≤◌, inl, inr, Bool, true, false, not, ◌&&◌, ◌||◌, List, refl, arith, sym, ap, ◌∙◌, if◌then◌else◌}
use Rattle.gv_types.specs.Page.{PAGES}
use Rattle.gv_types.specs.PageRange.{PageRangeState, end_of, meets, lies_in}
use Rattle.gv_types.specs.declared.mapping.Mapping.{Mapping}
use Rattle.gv_ranges.specs.List.{IsLaidOut}
use Rattle.gv_ranges.specs.Edit.{clipped}
use Rattle.gv_table.specs.Kinds.{Kind, one_of, unless}
use Rattle.gv_table.specs.declared.slot.Slot.{Slot}
use Rattle.gv_table.specs.Levels.{pages_of, slot_pages}
use Rattle.gv_table.specs.Reads.{AreAlikeOutside}
use Rattle.gv_table.specs.Wanted.{wanted, is_divided}
use Rattle.gv_table.specs.Tree.{is_table, child, IsTreeOutside}
use Rattle.gv_table.specs.Counts.{gained, needed, may_divide}
use Rattle.gv_table.proofs.Sums.{sum_below-le}
use Rattle.gv_table.proofs.PagesOf.{pages_of-more, pages_of-some, part-within}
use Rattle.gv_table.proofs.RangesMeet.{lies-bounds}
use Rattle.gv_table.proofs.CoveringMappings.{true-or-false}
use Rattle.gv_table.proofs.AlikeLists.{alike-inside}
use Rattle.gv_table.proofs.Wants.{wanted-alike}
use Rattle.gv_table.proofs.TablesAsWanted.{TablesMatch, whole-match, tree-match, match-alike, gained-match}

bound-by : (divided may : Bool) (o a b : ℕ) → (divided ≡ true → may ≡ true) → a ≤ b → (if divided then o + a else 0) ≤ (if may then o + b else 0)
bound-by true true o a b allowed less = omega arith
bound-by true false o a b allowed less = let bad : false ≡ true = allowed refl in cc
bound-by false may o a b allowed less = omega arith

may-by : (met inside divided : Bool) → met ≡ true → (inside ≡ true → divided ≡ true) → (met && (not inside || divided)) ≡ true
may-by true true true e f = refl
may-by true true false e f = let bad : false ≡ true = f refl in cc
may-by true false divided e f = refl
may-by false inside divided e f = cc

gained-met : (kind : Kind) (range : PageRangeState) (ms pieces : List Mapping) (level first : ℕ) (slot : Slot) → IsLaidOut ms → clipped range.first (end_of range) ms ≡ pieces →
    meets (slot_pages (suc level) first) range ≡ true →
    ((k : ℕ) → k < 512 → gained kind ms level (first + k * pages_of level) (child slot k) ≤ needed kind pieces range level (first + k * pages_of level) (child slot k)) →
    gained kind ms (suc level) first slot ≤ needed kind pieces range (suc level) first slot
unfolding gained needed
gained-met kind range ms pieces level first slot laid is met parts =
    bound-by (is_divided (wanted ms (suc level) first)) (may_divide pieces range (suc level) first) (unless (is_table slot) (one_of kind level)) _ _
    (λ divided. may-by (meets (slot_pages (suc level) first) range) (lies_in (slot_pages (suc level) first) range) (is_divided (wanted pieces (suc level) first)) met
    (λ inside.
    let h = lies-bounds (slot_pages (suc level) first) range inside in
    let same = wanted-alike ms pieces (suc level) first
    (alike-inside range ms pieces (slot_pages (suc level) first) is laid (pages_of-some (suc level)) h.0 h.1) in
    ap is_divided (sym same) ∙ divided))
    (sum_below-le 512 (λ k. gained kind ms level (first + k * pages_of level) (child slot k)) (λ k. needed kind pieces range level (first + k * pages_of level) (child slot k)) parts)

gained-zero : (kind : Kind) (range : PageRangeState) (ms pieces : List Mapping) (first : ℕ) (slot : Slot) → gained kind ms 0 first slot ≤ needed kind pieces range 0 first slot
unfolding gained needed
gained-zero kind range ms pieces first slot = omega arith

gained-by : (kind : Kind) (range : PageRangeState) (earlier ms pieces : List Mapping) (level first : ℕ) (slot : Slot) → AreAlikeOutside range earlier ms → IsLaidOut earlier → IsLaidOut ms →
    clipped range.first (end_of range) ms ≡ pieces → end_of (slot_pages level first) ≤ PAGES → TablesMatch earlier level first slot →
    gained kind ms level first slot ≤ needed kind pieces range level first slot
unfolding TablesMatch
gained-by kind range earlier ms pieces zero first slot alike laid laid' is within match = gained-zero kind range ms pieces first slot
gained-by kind range earlier ms pieces (suc level) first slot alike laid laid' is within match =
    elim (true-or-false (meets (slot_pages (suc level) first) range)) [
      | inl met ↦ gained-met kind range ms pieces level first slot laid' is met
          (λ k below.
          let w = part-within k (pages_of (suc level)) (pages_of level) below (pages_of-more level) in
          gained-by kind range earlier ms pieces level (first + k * pages_of level) (child slot k) alike laid laid' is (omega (arith, w)) (match.1 k below))
      | inr apart ↦ (let z = gained-match kind ms (suc level) first slot
          (match-alike range earlier ms (suc level) first slot alike laid laid' within apart (whole-match earlier level first slot match)) in
          omega (arith, z))
    ]

pub gained-needed : (kind : Kind) (range : PageRangeState) (ms pieces : List Mapping) (level first : ℕ) (slot : Slot) → IsTreeOutside ms range level first slot → IsLaidOut ms →
    clipped range.first (end_of range) ms ≡ pieces → end_of (slot_pages level first) ≤ PAGES →
    gained kind ms level first slot ≤ needed kind pieces range level first slot
gained-needed kind range ms pieces level first slot outside laid is within =
    gained-by kind range outside.earlier ms pieces level first slot outside.alike outside.laid_out laid is within
    (tree-match outside.earlier level first slot outside.laid_out outside.tree)
