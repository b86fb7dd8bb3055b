-- A list with a range replaced: what it keeps outside the range, and what it has inside.
use Rattle.std.proofs.Common.{◌≡◌, ℕ, ◌-◌, ◌≤◌, max, min, ◌++◌, List, [], ◌∷◌, get_or, arith, refl, sym, subst, inl, inr, IsTrue}
use Rattle.std.specs.List.{All}
use Rattle.std.proofs.lemmas.List.{append-nil}
use Rattle.std.proofs.lemmas.List.Elements.{All-nil, All-cons, All-head, All-tail, filter_map-append}
use Rattle.gv_types.specs.Page.{PAGES}
use Rattle.gv_types.specs.PageRange.{PageRangeState, span, end_of, IsInSpace, lies_in}
use Rattle.gv_types.specs.Mapping.{clip, piece, IsMapping}
use Rattle.gv_types.specs.declared.mapping.Mapping.{Mapping}
use Rattle.gv_ranges.specs.List.{IsLaidOut, IsLaidOutFrom}
use Rattle.gv_types.specs.Operation.{range_of, own_mapping, IsPageOp}
use Rattle.gv_types.specs.declared.operation.PageOp.{PageOp}
use Rattle.gv_types.specs.declared.operation.PageOp.TheVariants.{Map, Unmap, UnmapBuffer}
use Rattle.gv_ranges.specs.Edit.{LieIn, clipped, replaced, edited}
use Rattle.gv_ranges.proofs.ClipLemmas.{clip_whole}
use Rattle.gv_ranges.proofs.AllReplacedLemmas.{clip_is_piece, All-clipped}
use Rattle.gv_ranges.proofs.OrderLemmas.{IsMapping-piece}
use Rattle.gv_ranges.proofs.ReplacedLemmas.{clipped_none, all_mappings}
use Rattle.gv_table.specs.Reads.{AreAlikeOutside}
use Rattle.gv_table.specs.Laws.{ReplacedListIsAlike, ReplacedListHasPieces, AlikeIsMutual}
use Rattle.gv_table.proofs.RangesMeet.{lies-bounds, lies-from}

abbrev IsBetween : ℕ → ℕ → Mapping → Type 0
IsBetween low high m = IsInSpace m.range × (low ≤ m.range.first) × (end_of m.range ≤ high)

-- what is left of a list between two pages lies between them
between-clipped : (low high from : ℕ) (ms : List Mapping) → IsLaidOutFrom from ms → All (IsBetween low high) (clipped low high ms)
between-clipped low high from ms laid =
    All-clipped (IsBetween low high) low high ms (λ k d below n is.
    let m : Mapping = get_or ms k d in
    let h = clip_is_piece low high (get_or ms k d) n is in
    let mapping : IsMapping (get_or ms k d) = all_mappings ms from laid k d below in
    let whole : IsMapping (piece m (max low m.range.first) (min high (end_of m.range) - max low m.range.first)) =
    IsMapping-piece m (max low m.range.first) (min high (end_of m.range) - max low m.range.first) mapping (omega arith) (omega (arith, h.0)) (omega (arith, h.0)) in
    let fits : IsBetween low high (piece m (max low m.range.first) (min high (end_of m.range) - max low m.range.first)) = (whole.0, omega arith, omega (arith, h.0)) in
    subst (IsBetween low high) (sym h.1) fits)

-- mappings between the two pages stay
clipped-between : (low high : ℕ) (ms : List Mapping) → All (IsBetween low high) ms → clipped low high ms ≡ ms
clipped-between low high [] all = refl
clipped-between low high (m ∷ ms) all =
    let here = All-head (IsBetween low high) m ms all in
    let rest : clipped low high ms ≡ ms = clipped-between low high ms (All-tail (IsBetween low high) m ms all) in
    rw (clip_whole low high m here.0 here.1 here.2, rest) refl

module _ (ms pieces : List Mapping) (range : PageRangeState) (laid : IsLaidOut ms) (lie : LieIn range pieces) where
  low : All (IsBetween 0 range.first) (clipped 0 range.first ms)
  low = between-clipped 0 range.first 0 ms laid

  high : All (IsBetween (end_of range) PAGES) (clipped (end_of range) PAGES ms)
  high = between-clipped (end_of range) PAGES 0 ms laid

  before : clipped 0 range.first (replaced ms range pieces) ≡ clipped 0 range.first ms
  before =
      rw (
        filter_map-append (clip 0 range.first) (clipped 0 range.first ms ++ pieces) (clipped (end_of range) PAGES ms),
        filter_map-append (clip 0 range.first) (clipped 0 range.first ms) pieces,
        clipped-between 0 range.first (clipped 0 range.first ms) low,
        clipped_none 0 range.first pieces (λ k d below. inr (let h = lies-bounds (get_or pieces k d).range range (lie k d below) in h.0)),
        clipped_none 0 range.first (clipped (end_of range) PAGES ms) (λ k d below. inr (let h = high k d below in omega (arith, h.1))),
      ) (simp append-nil)

  beyond : clipped (end_of range) PAGES (replaced ms range pieces) ≡ clipped (end_of range) PAGES ms
  beyond =
      rw (
        filter_map-append (clip (end_of range) PAGES) (clipped 0 range.first ms ++ pieces) (clipped (end_of range) PAGES ms),
        filter_map-append (clip (end_of range) PAGES) (clipped 0 range.first ms) pieces,
        clipped_none (end_of range) PAGES (clipped 0 range.first ms) (λ k d below. inl (let h = low k d below in omega (arith, h.2))),
        clipped_none (end_of range) PAGES pieces (λ k d below. inl (let h = lies-bounds (get_or pieces k d).range range (lie k d below) in h.1)),
        clipped-between (end_of range) PAGES (clipped (end_of range) PAGES ms) high,
      ) refl

  inside : IsLaidOut pieces → clipped range.first (end_of range) (replaced ms range pieces) ≡ pieces
  inside sorted =
      let within : All (IsBetween range.first (end_of range)) pieces =
      λ k d below. (let h = lies-bounds (get_or pieces k d).range range (lie k d below) in
      let m = all_mappings pieces 0 sorted k d below in (m.0, h.0, h.1)) in
      rw (
        filter_map-append (clip range.first (end_of range)) (clipped 0 range.first ms ++ pieces) (clipped (end_of range) PAGES ms),
        filter_map-append (clip range.first (end_of range)) (clipped 0 range.first ms) pieces,
        clipped_none range.first (end_of range) (clipped 0 range.first ms) (λ k d below. inl (let h = low k d below in h.2)),
        clipped-between range.first (end_of range) pieces within,
        clipped_none range.first (end_of range) (clipped (end_of range) PAGES ms) (λ k d below. inr (let h = high k d below in h.1)),
      ) (simp append-nil)

pub replaced-alike : ReplacedListIsAlike
replaced-alike ms pieces range laid lie = record { before = sym (before ms pieces range laid lie); beyond = sym (beyond ms pieces range laid lie) }

pub alike-mutual : AlikeIsMutual
alike-mutual one other range alike = record { before = sym alike.before; beyond = sym alike.beyond }

pub replaced-pieces : ReplacedListHasPieces
replaced-pieces ms pieces range laid sorted lie = inside ms pieces range laid lie sorted

-- an operation's own mapping lies in its range, and is a list in order
pub own-lies : (op : PageOp) → LieIn (range_of op) (own_mapping op)
own-lies (Map range backing flags) = All-cons (λ (m : Mapping). IsTrue (lies_in m.range range)) _ [] (lies-from range range (omega arith) (omega arith)) (All-nil (λ (m : Mapping). IsTrue (lies_in m.range range)))
own-lies (Unmap range) = All-nil (λ (m : Mapping). IsTrue (lies_in m.range range))
own-lies (UnmapBuffer buffer) = All-nil (λ (m : Mapping). IsTrue (lies_in m.range (span 0 0)))

pub own-laid : (op : PageOp) → IsPageOp op → IsLaidOut (own_mapping op)
own-laid (Map range backing flags) is = (omega arith, is, tt)
own-laid (Unmap range) is = tt
own-laid (UnmapBuffer buffer) is = absurd is

-- an edited list is the same outside the operation's range, and has its own mapping inside
pub edited-alike : (ms : List Mapping) (op : PageOp) → IsLaidOut ms → AreAlikeOutside (range_of op) ms (edited ms op)
edited-alike ms op laid = replaced-alike ms (own_mapping op) (range_of op) laid (own-lies op)

pub edited-own : (ms : List Mapping) (op : PageOp) → IsLaidOut ms → IsPageOp op →
    clipped (range_of op).first (end_of (range_of op)) (edited ms op) ≡ own_mapping op
edited-own ms op laid is = replaced-pieces ms (own_mapping op) (range_of op) laid (own-laid op is) (own-lies op)
