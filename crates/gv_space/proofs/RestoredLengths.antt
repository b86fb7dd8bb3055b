-- How long a list is once a range of it was restored.
use Rattle.std.proofs.Common.{◌≡◌, ℕ, ◌+◌, ◌-◌, ◌<◌, ◌≤◌, ◌∙◌, ◌++◌, List, [], ◌∷◌, max, min, take, drop, length, true, false, ltb, ⊎_elim, refl, arith, ap, suc}
use Rattle.std.proofs.lemmas.Bool.{lt-ltb, le-ltb, cases_lt, and_left, and_right, and_from}
use Rattle.std.proofs.lemmas.List.{length-append, length-take-le, length-drop}
use Rattle.std.specs.List.{splice}
use Rattle.gv_types.specs.Page.{PAGES}
use Rattle.gv_types.specs.PageRange.{PageRangeState, end_of, meets, IsInSpace}
use Rattle.gv_types.specs.Mapping.{IsMapping}
use Rattle.gv_types.specs.declared.mapping.Mapping.{Mapping}
use Rattle.gv_ranges.specs.List.{IsLaidOut, IsLaidOutFrom, IsOverlappingRun, run}
use Rattle.gv_ranges.specs.Edit.{clipped, restored}
use Rattle.gv_ranges.proofs.ChangeLemmas.{restored_run_in_place}
use Rattle.gv_ranges.proofs.OverlapLemmas.{filter_meets}
use Rattle.gv_space.specs.Refusal.{count_met}

-- a mapping has a piece in a range exactly where it meets it
pub length-clipped : (range : PageRangeState) (low : ℕ) (ms : List Mapping) → IsInSpace range → IsLaidOutFrom low ms →
    length (clipped range.first (end_of range) ms) ≡ count_met ms range
length-clipped range low [] in_space laid = refl
length-clipped range low (m ∷ ms) in_space laid =
    let rest : length (clipped range.first (end_of range) ms) ≡ count_met ms range = length-clipped range (end_of m.range) ms in_space laid.2 in
    let is : IsMapping m = laid.1 in
    ⊎_elim
    (λ (some : max range.first m.range.first < min (end_of range) (end_of m.range)).
    let left : ltb (max range.first m.range.first) (min (end_of range) (end_of m.range)) ≡ true = lt-ltb _ _ some in
    let met : meets m.range range ≡ true = and_from _ _ (lt-ltb m.range.first (end_of range) (omega arith)) (lt-ltb range.first (end_of m.range) (omega arith)) in
    rw (left, met) (ap suc rest))
    (λ (none : min (end_of range) (end_of m.range) ≤ max range.first m.range.first).
    let gone : ltb (max range.first m.range.first) (min (end_of range) (end_of m.range)) ≡ false = le-ltb _ _ none in
    let apart : meets m.range range ≡ false =
    ⊎_elim
    (λ (before : m.range.first < end_of range). and_right (ltb m.range.first (end_of range)) _ (le-ltb range.first (end_of m.range) (omega (arith, is.0, in_space))))
    (λ (behind : end_of range ≤ m.range.first). and_left _ (ltb range.first (end_of m.range)) (le-ltb m.range.first (end_of range) behind))
    (cases_lt m.range.first (end_of range)) in
    rw (gone, apart) rest)
    (cases_lt (max range.first m.range.first) (min (end_of range) (end_of m.range)))

pub length-run : (ms : List Mapping) (index count : ℕ) → index + count ≤ length ms → length (run ms index count) ≡ count
length-run ms index count within = length-take-le count (drop index ms) (omega (arith, length-drop index ms))

-- how many mappings meet a range is how long their run is
pub count_met-run : (ms : List Mapping) (range : PageRangeState) (index count : ℕ) → IsOverlappingRun ms range index count → count_met ms range ≡ count
count_met-run ms range index count met =
    ap (λ (l : List Mapping). length l) (filter_meets ms range index count met) ∙ length-run ms index count met.within

-- how long a list is whose run gave way to others
pub length-splice : (ms pieces : List Mapping) (index count : ℕ) → index + count ≤ length ms →
    length (splice ms index (index + count) pieces) + count ≡ length ms + length pieces
length-splice ms pieces index count within =
    let front : length (take index ms) ≡ index = length-take-le index ms (omega arith) in
    let back : length (drop (index + count) ms) ≡ length ms - (index + count) = length-drop (index + count) ms in
    rw (length-append (take index ms) (pieces ++ drop (index + count) ms), length-append pieces (drop (index + count) ms), front, back) (omega arith)

-- how long its rests are with what is put in between them
pub length-between : (here saved : List Mapping) (range : PageRangeState) → IsLaidOut saved → IsInSpace range →
    length (restored here range saved) ≡
    length (clipped 0 range.first here) + length (clipped (end_of range) PAGES here) + count_met saved range
length-between here saved range saved_laid in_space =
    let inside : length (clipped range.first (end_of range) saved) ≡ count_met saved range = length-clipped range 0 saved in_space saved_laid in
    length-append (clipped 0 range.first here ++ clipped range.first (end_of range) saved) (clipped (end_of range) PAGES here) ∙
    rw (length-append (clipped 0 range.first here) (clipped range.first (end_of range) saved), inside) (omega arith)

-- the run gives way to its rests and what is put in
pub length-restored : (ms saved : List Mapping) (range : PageRangeState) (index count : ℕ) → IsLaidOut ms → IsOverlappingRun ms range index count →
    length (restored ms range saved) + count ≡ length ms + length (restored (run ms index count) range saved)
length-restored ms saved range index count laid met =
    let here : List Mapping = run ms index count in
    rw (restored_run_in_place ms saved range index count laid met) (length-splice ms (restored here range saved) index count met.within)
