-- Lists whose buffers are named stay such lists where they are edited.
use Rattle.std.proofs.Common.{◌≡◌, ℕ, ◌+◌, ◌-◌, ◌≤◌, List, [], ◌∷◌, max, min, arith, subst, sym, Some, slice_get}
use Rattle.std.specs.List.{All}
use Rattle.gv_types.specs.PageRange.{end_of, span}
use Rattle.gv_types.specs.Mapping.{advanced, buffer_id}
use Rattle.gv_types.specs.Operation.{own_mapping}
use Rattle.gv_types.specs.declared.mapping.Backing.{Backing}
use Rattle.gv_types.specs.declared.mapping.Backing.TheVariants.{Buffer, Zero}
use Rattle.gv_types.specs.declared.mapping.BufferId.{BufferId}
use Rattle.gv_types.specs.declared.mapping.Mapping.{Mapping}
use Rattle.gv_types.specs.declared.operation.PageOp.{PageOp}
use Rattle.gv_ranges.specs.List.{IsLaidOut}
use Rattle.gv_ranges.specs.Edit.{edited}
use Rattle.gv_ranges.proofs.AllReplacedLemmas.{HoldsOfPieces, clip_is_piece, All-edited}
use Rattle.gv_ranges.proofs.ReplacedLemmas.{all_mappings}
use Rattle.gv_table.specs.BufferNames.{encodable_pages, IsNamed, AreNamed}

advanced_named : (names : List BufferId) (b : Backing) (from count less : ℕ) → from + less ≤ count → IsNamed names b count → IsNamed names (advanced b from) less
advanced_named names (Buffer id page) from count less fits is = (is.0, omega (arith, is.1))
advanced_named names Zero from count less fits is = tt

named_pieces : (names : List BufferId) → HoldsOfPieces (λ m. IsNamed names m.backing m.range.count)
named_pieces names low high m n is named clipped =
    let h = clip_is_piece low high m n clipped in
    let first : ℕ = max low m.range.first in
    let count : ℕ = min high (end_of m.range) - first in
    subst (λ (x : Mapping). IsNamed names x.backing x.range.count) (sym h.1)
    (advanced_named names m.backing (first - m.range.first) m.range.count count (omega (arith, h.0)) named)

pub edited_named : (names : List BufferId) (ms : List Mapping) (op : PageOp) → IsLaidOut ms → AreNamed names ms → AreNamed names (own_mapping op) → AreNamed names (edited ms op)
edited_named names ms op laid are own = All-edited (λ m. IsNamed names m.backing m.range.count) ms op (named_pieces names) (all_mappings ms 0 laid) are own
