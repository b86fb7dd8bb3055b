-- A piece of a valid mapping is valid.
use Rattle.std.proofs.Common.{◌≡◌, ℕ, ◌+◌, ◌-◌, ◌<◌, ◌≤◌, Option, Some, None, max, min, true, false, arith, refl, subst, sym, ⊎_elim}
use Rattle.std.specs.Prelude.{IsSomeAnd}
use Rattle.std.proofs.lemmas.Bool.{le-leb, leb-true, lt-ltb, le-ltb, and_from, and_parts, cases_lt, and_left, and_right}
use Rattle.gv_types.specs.PageRange.{PageRangeState, span, end_of, meets, lies_in}
use Rattle.gv_types.specs.Bounds.{BoundsState, meets_region}
use Rattle.gv_types.specs.Mapping.{piece, advanced}
use Rattle.gv_types.specs.declared.mapping.Backing.{Backing}
use Rattle.gv_types.specs.declared.mapping.Backing.TheVariants.{Buffer, Zero}
use Rattle.gv_ranges.proofs.AllReplacedLemmas.{HoldsOfPieces, clip_is_piece}
use Rattle.gv_buffers.specs.Buffers.{BuffersState, pages}
use Rattle.gv_space.specs.State.{IsValidMapping, LieInside}

lies_within : (part whole space : PageRangeState) → whole.first ≤ part.first → end_of part ≤ end_of whole → lies_in whole space ≡ true → lies_in part space ≡ true
lies_within part whole space low high lies =
    let h = and_parts _ _ lies in
    let first : space.first ≤ whole.first = leb-true _ _ h.0 in
    let end : end_of whole ≤ end_of space = leb-true _ _ h.1 in
    and_from _ _ (le-leb space.first part.first (omega arith)) (le-leb (end_of part) (end_of space) (omega arith))

apart : (part whole region : PageRangeState) → whole.first ≤ part.first → end_of part ≤ end_of whole → meets whole region ≡ false → meets part region ≡ false
apart part whole region low high off =
    ⊎_elim
    (λ (below : whole.first < end_of region).
    ⊎_elim
    (λ (over : region.first < end_of whole).
    let met : meets whole region ≡ true = and_from _ _ (lt-ltb whole.first (end_of region) below) (lt-ltb region.first (end_of whole) over) in
    let wrong : true ≡ false = rw met at off in
    absurd cc)
    (λ (behind : end_of whole ≤ region.first). and_right _ _ (le-ltb region.first (end_of part) (omega arith)))
    (cases_lt region.first (end_of whole)))
    (λ (before : end_of region ≤ whole.first). and_left _ _ (le-ltb part.first (end_of region) (omega arith)))
    (cases_lt whole.first (end_of region))

off_region : (part whole : PageRangeState) (region : Option PageRangeState) → whole.first ≤ part.first → end_of part ≤ end_of whole → meets_region region whole ≡ false → meets_region region part ≡ false
off_region part whole None low high off = refl
off_region part whole (Some region) low high off = apart part whole region low high off

inside_still : (size : Option ℕ) (page from count less : ℕ) → from + less ≤ count → IsSomeAnd size (λ n. page + count ≤ n) → IsSomeAnd size (λ n. page + from + less ≤ n)
inside_still None page from count less fits lies = lies
inside_still (Some n) page from count less fits lies = omega (arith, lies)

inside : (t : BuffersState) (b : Backing) (from count less : ℕ) → from + less ≤ count → LieInside t b count → LieInside t (advanced b from) less
inside t (Buffer id page) from count less fits lies = inside_still (pages t id) page from count less fits lies
inside t Zero from count less fits lies = tt

pub placed_pieces : (a : BoundsState) (t : BuffersState) → HoldsOfPieces (IsValidMapping a t)
placed_pieces a t low high m n is valid clipped =
    let h = clip_is_piece low high m n clipped in
    let first : ℕ = max low m.range.first in
    let count : ℕ = min high (end_of m.range) - first in
    let fits : IsValidMapping a t (piece m first count) = record {
      in_space = lies_within (span first count) m.range a.space (omega arith) (omega (arith, h.0)) valid.in_space;
      off_region = off_region (span first count) m.range a.reserved (omega arith) (omega (arith, h.0)) valid.off_region;
      inside = inside t m.backing (first - m.range.first) m.range.count count (omega (arith, h.0)) valid.inside;
    } in
    subst (IsValidMapping a t) (sym h.1) fits
