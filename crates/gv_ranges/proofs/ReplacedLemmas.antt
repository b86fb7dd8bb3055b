-- What a list with a range replaced says, where it differs from the list, and how it is taken back.
use Rattle.std.proofs.Common.{◌≡◌, ℕ, ◌+◌, ◌≤◌, ◌<◌, length, take, drop, ◌++◌, List, [], ◌∷◌, true, false, cond, arith, refl, sym, ◌∙◌, ap, get_or, leb, ⊎_elim, ◌⊎◌, inl, inr, None}
use Rattle.std.proofs.lemmas.Bool.{lt-leb, le-leb, lt-ltb, le-ltb, leb-true, and_parts, and_left, and_right, cases_lt}
use Rattle.std.proofs.lemmas.List.{append_assoc, append-nil, take-append-drop, drop-drop, take_at, length-take-le}
use Rattle.std.proofs.lemmas.List.Elements.{All-nil, All-cons, All-head, All-tail, All-take, All-drop, filter_map-append}
use Rattle.std.specs.List.{All, splice}
use Rattle.std.specs.Prelude.{IsTrue}
use Rattle.gv_types.specs.Page.{PAGES, IsPage}
use Rattle.gv_types.specs.PageRange.{PageRangeState, end_of, covers, lies_in}
use Rattle.gv_types.specs.Mapping.{clip, IsMapping}
use Rattle.gv_types.specs.declared.mapping.Mapping.{Mapping}
use Rattle.gv_ranges.specs.List.{at, IsLaidOut, IsLaidOutFrom, IsOverlappingRun, run}
use Rattle.gv_ranges.specs.Edit.{clipped, replaced, LieIn, undone}
use Rattle.gv_ranges.proofs.ClipLemmas.{at-clipped, at-clipped_out, at-append_none, at-append_left, clip_whole, clip_none}
use Rattle.gv_chunks.proofs.SpliceLemmas.{drop-splice}

-- the ends of a run that lies in another
pub lies_in_bounds : (s t : PageRangeState) → IsTrue (lies_in s t) → (t.first ≤ s.first) × (end_of s ≤ end_of t)
lies_in_bounds s t is =
    let parts : (leb t.first s.first ≡ true) × (leb (end_of s) (end_of t) ≡ true) = and_parts _ _ is in
    (leb-true t.first s.first parts.0, leb-true (end_of s) (end_of t) parts.1)

-- mappings that lie in a range say nothing of a page outside
at_outside : (range : PageRangeState) (pieces : List Mapping) (page : ℕ) → LieIn range pieces →
    (page < range.first) ⊎ (end_of range ≤ page) → at pieces page ≡ None
at_outside range [] page inside out = refl
at_outside range (m ∷ ms) page inside out =
    let here : IsTrue (lies_in m.range range) = All-head (λ (n : Mapping). IsTrue (lies_in n.range range)) m ms inside in
    let bounds : (range.first ≤ m.range.first) × (end_of m.range ≤ end_of range) = lies_in_bounds m.range range here in
    let rest : at ms page ≡ None = at_outside range ms page (All-tail (λ (n : Mapping). IsTrue (lies_in n.range range)) m ms inside) out in
    let not : covers m.range page ≡ false =
    ⊎_elim
    (λ (below : page < range.first). and_left _ _ (lt-leb m.range.first page (omega (arith, bounds.0))))
    (λ (behind : end_of range ≤ page). and_right _ _ (le-ltb page (end_of m.range) (omega (arith, bounds.1))))
    out in
    rw not rest

-- a replaced list says of each page of the range what the pieces say, and of each other page what the list said
pub at-replaced : (ms : List Mapping) (range : PageRangeState) (pieces : List Mapping) (page : ℕ) → LieIn range pieces → IsPage page →
    at (replaced ms range pieces) page ≡ cond (covers range page) (at pieces page) (at ms page)
at-replaced ms range pieces page lie in_space =
    ⊎_elim
    (λ (below : page < range.first).
    let not : covers range page ≡ false = rw (lt-leb _ _ below) refl in
    at-append_left (clipped 0 range.first ms ++ pieces) (clipped (end_of range) PAGES ms) page
    (at-clipped_out _ _ ms page (inl (omega arith))) ∙
    at-append_left (clipped 0 range.first ms) pieces page (at_outside range pieces page lie (inl below)) ∙
    at-clipped 0 range.first ms page (omega arith) below ∙
    rw not refl)
    (λ (from : range.first ≤ page).
    let gone : at (clipped 0 range.first ms) page ≡ None = at-clipped_out 0 _ ms page (inr from) in
    ⊎_elim
    (λ (inside : page < end_of range).
    let is : covers range page ≡ true = rw (le-leb _ _ from, lt-ltb _ _ inside) refl in
    at-append_left (clipped 0 range.first ms ++ pieces) (clipped (end_of range) PAGES ms) page
    (at-clipped_out _ _ ms page (inl inside)) ∙
    at-append_none (clipped 0 range.first ms) pieces page gone ∙
    rw is refl)
    (λ (behind : end_of range ≤ page).
    let not : covers range page ≡ false = rw (le-leb _ _ from, le-ltb _ _ behind) refl in
    at-append_none (clipped 0 range.first ms ++ pieces) (clipped (end_of range) PAGES ms) page
    (at-append_none (clipped 0 range.first ms) pieces page gone ∙ at_outside range pieces page lie (inr behind)) ∙
    at-clipped (end_of range) PAGES ms page behind in_space ∙
    rw not refl)
    (cases_lt page (end_of range)))
    (cases_lt page range.first)

-- each mapping of a list in order is one
pub all_mappings : (ms : List Mapping) (low : ℕ) → IsLaidOutFrom low ms → All IsMapping ms
all_mappings [] low laid = All-nil IsMapping
all_mappings (m ∷ ms) low laid = All-cons IsMapping m ms laid.1 (all_mappings ms (end_of m.range) laid.2)

abbrev pub LiesBetween : ℕ → ℕ → Mapping → Type 0
LiesBetween low high m = IsMapping m × (low ≤ m.range.first) × (end_of m.range ≤ high)

abbrev pub LiesOutside : ℕ → ℕ → Mapping → Type 0
LiesOutside low high m = (end_of m.range ≤ low) ⊎ (high ≤ m.range.first)

pub clipped_whole : (low high : ℕ) (ms : List Mapping) → All (LiesBetween low high) ms → clipped low high ms ≡ ms
clipped_whole low high [] all = refl
clipped_whole low high (m ∷ ms) all =
    let here : LiesBetween low high m = All-head (LiesBetween low high) m ms all in
    let rest : clipped low high ms ≡ ms = clipped_whole low high ms (All-tail (LiesBetween low high) m ms all) in
    rw (clip_whole low high m here.0.0 here.1 here.2, rest) refl

pub clipped_none : (low high : ℕ) (ms : List Mapping) → All (LiesOutside low high) ms → clipped low high ms ≡ []
clipped_none low high [] all = refl
clipped_none low high (m ∷ ms) all =
    let rest : clipped low high ms ≡ [] = clipped_none low high ms (All-tail (LiesOutside low high) m ms all) in
    rw (clip_none low high m (All-head (LiesOutside low high) m ms all), rest) refl

-- a list is the mappings before an index, a run, and those behind it
pub split_at_run : (ms : List Mapping) (index count : ℕ) → ms ≡ take index ms ++ (run ms index count ++ drop (index + count) ms)
split_at_run ms index count =
    let back : run ms index count ++ drop count (drop index ms) ≡ drop index ms = take-append-drop count (drop index ms) in
    let far : drop count (drop index ms) ≡ drop (index + count) ms = drop-drop count index ms in
    rw (← far, back, take-append-drop index ms) refl

-- a range is replaced in the run that meets it
pub replaced_run_in_place : (ms : List Mapping) (range : PageRangeState) (pieces : List Mapping) (index count : ℕ) →
    IsLaidOut ms → IsOverlappingRun ms range index count →
    replaced ms range pieces ≡ splice ms index (index + count) (replaced (run ms index count) range pieces)
replaced_run_in_place ms range pieces index count laid is =
    let mappings : All IsMapping ms = all_mappings ms 0 laid in
    let before : All (LiesBetween 0 range.first) (take index ms) =
    λ k d below. (All-take IsMapping index ms mappings k d below, omega arith, is.before k d below) in
    let before' : All (LiesOutside (end_of range) PAGES) (take index ms) =
    λ k d below. inl (let h : end_of (get_or (take index ms) k d).range ≤ range.first = is.before k d below in omega arith) in
    let behind : All (LiesBetween (end_of range) PAGES) (drop (index + count) ms) =
    λ k d below. let h : IsMapping (get_or (drop (index + count) ms) k d) = All-drop IsMapping (index + count) ms mappings k d below in (h, is.beyond k d below, h.0.1) in
    let behind' : All (LiesOutside 0 range.first) (drop (index + count) ms) =
    λ k d below. inr (let h : end_of range ≤ (get_or (drop (index + count) ms) k d).range.first = is.beyond k d below in omega arith) in
    let low : clipped 0 range.first ms ≡ take index ms ++ clipped 0 range.first (run ms index count) =
    ap (clipped 0 range.first) (split_at_run ms index count) ∙
    filter_map-append (clip 0 range.first) (take index ms) (run ms index count ++ drop (index + count) ms) ∙
    rw (
      clipped_whole 0 range.first (take index ms) before,
      filter_map-append (clip 0 range.first) (run ms index count) (drop (index + count) ms),
      clipped_none 0 range.first (drop (index + count) ms) behind',
    ) (simp append-nil) in
    let high : clipped (end_of range) PAGES ms ≡ clipped (end_of range) PAGES (run ms index count) ++ drop (index + count) ms =
    ap (clipped (end_of range) PAGES) (split_at_run ms index count) ∙
    filter_map-append (clip (end_of range) PAGES) (take index ms) (run ms index count ++ drop (index + count) ms) ∙
    rw (
      clipped_none (end_of range) PAGES (take index ms) before',
      filter_map-append (clip (end_of range) PAGES) (run ms index count) (drop (index + count) ms),
      clipped_whole (end_of range) PAGES (drop (index + count) ms) behind,
    ) refl in
    rw (low, high) (simp append_assoc)

-- a splice taken back gives the list before it
undone-splice : (ms ys : List Mapping) (index count : ℕ) → index + count ≤ length ms →
    undone (splice ms index (index + count) ys) (record { index = index; put_in = length ys; taken = run ms index count }) ≡ ms
undone-splice ms ys index count within =
    let front : take index (splice ms index (index + count) ys) ≡ take index ms =
    take_at (take index ms) _ index (length-take-le index ms (omega arith)) in
    let back : drop (index + length ys) (splice ms index (index + count) ys) ≡ drop (index + count) ms =
    drop-splice ms ys index (index + count) (index + length ys) 0 (omega arith) (omega arith) ∙ ap (λ n. drop n ms) (omega arith) in
    rw (front, back) (sym (split_at_run ms index count))

-- a replaced range taken back gives the list before it, with its boundaries
pub undone-replaced : (ms : List Mapping) (range : PageRangeState) (pieces : List Mapping) (index count : ℕ) →
    IsLaidOut ms → IsOverlappingRun ms range index count →
    undone (replaced ms range pieces) (record { index = index; put_in = length (replaced (run ms index count) range pieces); taken = run ms index count }) ≡ ms
undone-replaced ms range pieces index count laid is =
    rw (replaced_run_in_place ms range pieces index count laid is)
    (undone-splice ms (replaced (run ms index count) range pieces) index count is.within)
