-- What holds of each mapping of a list, and of each piece of such a mapping, holds of a list with a range replaced.
use Rattle.std.proofs.Common.{◌≡◌, ℕ, ◌-◌, ◌≤◌, ◌<◌, refl, max, min, ◌++◌, List, [], ◌∷◌, true, false, ltb, ⊎_elim, Some, None}
use Rattle.std.proofs.lemmas.Bool.{lt-ltb, le-ltb, cases_lt}
use Rattle.std.proofs.lemmas.List.Elements.{All-nil, All-cons, All-head, All-tail, All-append}
use Rattle.std.specs.List.{All}
use Rattle.gv_types.specs.Page.{PAGES}
use Rattle.gv_types.specs.PageRange.{PageRangeState, end_of}
use Rattle.gv_types.specs.Mapping.{piece, clip, IsMapping}
use Rattle.gv_types.specs.Operation.{range_of, own_mapping}
use Rattle.gv_types.specs.declared.mapping.Mapping.{Mapping}
use Rattle.gv_types.specs.declared.operation.PageOp.{PageOp}
use Rattle.gv_ranges.specs.Edit.{clipped, replaced, edited, restored}

-- what is left of a mapping between two pages is the piece between them, which has a page
pub clip_is_piece : (low high : ℕ) (m n : Mapping) → clip low high m ≡ Some n →
    (max low m.range.first < min high (end_of m.range)) × (n ≡ piece m (max low m.range.first) (min high (end_of m.range) - max low m.range.first))
clip_is_piece low high m n is =
    ⊎_elim
    (λ (some : max low m.range.first < min high (end_of m.range)).
    let left : ltb (max low m.range.first) (min high (end_of m.range)) ≡ true = lt-ltb _ _ some in
    let same : Some (piece m (max low m.range.first) (min high (end_of m.range) - max low m.range.first)) ≡ Some n = rw left at is in
    (some, cc))
    (λ (none : min high (end_of m.range) ≤ max low m.range.first).
    let gone : ltb (max low m.range.first) (min high (end_of m.range)) ≡ false = le-ltb _ _ none in
    let same : None ≡ Some n = rw gone at is in
    absurd cc)
    (cases_lt (max low m.range.first) (min high (end_of m.range)))

-- what holds of all that is left of each mapping holds of the clipped list
pub All-clipped : (P : Mapping → Type 0) (low high : ℕ) (ms : List Mapping) →
    All (λ m. (n : Mapping) → clip low high m ≡ Some n → P n) ms → All P (clipped low high ms)
All-clipped P low high [] all = All-nil P
All-clipped P low high (m ∷ ms) all =
    let here : (n : Mapping) → clip low high m ≡ Some n → P n =
    All-head (λ (l : Mapping). (n : Mapping) → clip low high l ≡ Some n → P n) m ms all in
    let rest : All P (clipped low high ms) =
    All-clipped P low high ms (All-tail (λ (l : Mapping). (n : Mapping) → clip low high l ≡ Some n → P n) m ms all) in
    ⊎_elim
    (λ (some : max low m.range.first < min high (end_of m.range)).
    let left : ltb (max low m.range.first) (min high (end_of m.range)) ≡ true = lt-ltb _ _ some in
    let is : clip low high m ≡ Some (piece m (max low m.range.first) (min high (end_of m.range) - max low m.range.first)) = rw left refl in
    rw left (All-cons P _ (clipped low high ms) (here _ is) rest))
    (λ (none : min high (end_of m.range) ≤ max low m.range.first).
    let gone : ltb (max low m.range.first) (min high (end_of m.range)) ≡ false = le-ltb _ _ none in
    rw gone rest)
    (cases_lt (max low m.range.first) (min high (end_of m.range)))

-- what holds of a mapping holds of all that is left of it between two pages
abbrev pub HoldsOfPieces : (Mapping → Type 0) → Type 0
HoldsOfPieces P = (low high : ℕ) (m n : Mapping) → IsMapping m → P m → clip low high m ≡ Some n → P n

clipped_kept : (P : Mapping → Type 0) (low high : ℕ) (ms : List Mapping) → HoldsOfPieces P → All IsMapping ms → All P ms →
    All P (clipped low high ms)
clipped_kept P low high ms pieces mappings all =
    All-clipped P low high ms (λ k d below n is. pieces low high _ n (mappings k d below) (all k d below) is)

-- the mappings of a replaced list are pieces of those of the list, or the given ones
pub All-replaced : (P : Mapping → Type 0) (ms : List Mapping) (range : PageRangeState) (given : List Mapping) → HoldsOfPieces P →
    All IsMapping ms → All P ms → All P given → All P (replaced ms range given)
All-replaced P ms range given pieces mappings all all_given =
    All-append P (clipped 0 range.first ms ++ given) (clipped (end_of range) PAGES ms)
    (All-append P (clipped 0 range.first ms) given (clipped_kept P 0 range.first ms pieces mappings all) all_given)
    (clipped_kept P (end_of range) PAGES ms pieces mappings all)

pub All-edited : (P : Mapping → Type 0) (ms : List Mapping) (op : PageOp) → HoldsOfPieces P →
    All IsMapping ms → All P ms → All P (own_mapping op) → All P (edited ms op)
All-edited P ms op pieces mappings all all_own = All-replaced P ms (range_of op) (own_mapping op) pieces mappings all all_own

pub All-restored : (P : Mapping → Type 0) (ms saved : List Mapping) (range : PageRangeState) → HoldsOfPieces P →
    All IsMapping ms → All P ms → All IsMapping saved → All P saved → All P (restored ms range saved)
All-restored P ms saved range pieces mappings all saved_mappings all_saved =
    All-replaced P ms range (clipped range.first (end_of range) saved) pieces mappings all
    (clipped_kept P range.first (end_of range) saved pieces saved_mappings all_saved)
