-- What contracts see of `Bounds` (`BoundsState`), and which operations they allow.
use Rattle.std.specs.Prelude.{◌≡◌, ℕ, ◌%◌, Bool, true, false, not, ◌&&◌, ◌==◌, if◌then◌else◌, Option, Some, None, Result, Ok, Err}
use Rattle.gv_types.specs.Page.{PAGES, bytes_per_page}
use Rattle.gv_types.specs.PageRange.{PageRangeState, span, meets, lies_in, is_in_space}
use Rattle.gv_types.specs.Operation.{pages, addr_of, len_of, offset_of, has_range, in_pages, range_of}
use Rattle.gv_types.specs.declared.fault.Fault.{Fault}
use Rattle.gv_types.specs.declared.fault.Fault.TheVariants.{Unaligned, Empty, OutOfSpace, Reserved}
use Rattle.gv_types.specs.declared.operation.Op.{Op}
use Rattle.gv_types.specs.declared.operation.PageOp.{PageOp}
use Rattle.gv_types.specs.declared.operation.PageOp.TheVariants.{Map, Unmap, UnmapBuffer}

-- the pages of an address space, and a region of them that is reserved
pub record BoundsState : Type 0 where
  pub space : PageRangeState
  pub reserved : Option PageRangeState

-- all pages, and none of them reserved
abbrev pub whole_area : BoundsState
whole_area = record { space = span 0 PAGES; reserved = None }

-- the space of `count` pages from `first` on with a region reserved, where both are ranges of pages and the region is
-- empty or lies in the space
abbrev pub area : ℕ → ℕ → ℕ → ℕ → Option BoundsState
area first count reserved_first reserved_count =
    if not (is_in_space (span first count)) then None
    else if reserved_count == 0 then Some (record { space = span first count; reserved = None })
    else if is_in_space (span reserved_first reserved_count) && lies_in (span reserved_first reserved_count) (span first count)
    then Some (record { space = span first count; reserved = Some (span reserved_first reserved_count) })
    else None

-- some page of the range is reserved
abbrev pub meets_region : Option PageRangeState → PageRangeState → Bool
meets_region None s = false
meets_region (Some region) s = meets s region

-- a number of bytes that is a number of pages
abbrev pub is_aligned : ℕ → Bool
is_aligned bytes = bytes % bytes_per_page == 0

-- the space of `len` bytes from `start` on with a region reserved, where each number is a number of pages
abbrev pub byte_area : ℕ → ℕ → ℕ → ℕ → Option BoundsState
byte_area start len reserved_start reserved_len =
    if is_aligned start && is_aligned len && is_aligned reserved_start && is_aligned reserved_len
    then area (pages start) (pages len) (pages reserved_start) (pages reserved_len)
    else None

-- the first fault of an operation, in their order; an unmap of a whole buffer names no pages, and has none
abbrev pub first_fault : BoundsState → Op → Option Fault
first_fault a op =
    let range = range_of (in_pages op) in
    if not (has_range op) then None
    else if not (is_aligned (addr_of op) && is_aligned (len_of op) && is_aligned (offset_of op)) then Some Unaligned
    else if len_of op == 0 then Some Empty
    else if not (lies_in range a.space) then Some OutOfSpace
    else if meets_region a.reserved range then Some Reserved
    else None

abbrev pub unless_fault : Option Fault → PageOp → Result PageOp Fault
unless_fault None op = Ok op
unless_fault (Some fault) op = Err fault

-- the operation in pages, or its first fault
abbrev pub checked : BoundsState → Op → Result PageOp Fault
checked a op = unless_fault (first_fault a op) (in_pages op)

-- pages lie in the space and off the reserved region
pub record LieInArea (a : BoundsState) (range : PageRangeState) : Type 0 where
  pub in_space : lies_in range a.space ≡ true
  pub off_region : meets_region a.reserved range ≡ false

-- so do the pages that an operation names, if it names any
abbrev pub IsAllowed : BoundsState → PageOp → Type 0
IsAllowed a (Map range backing flags) = LieInArea a range
IsAllowed a (Unmap range) = LieInArea a range
IsAllowed a (UnmapBuffer buffer) = Unit {0}
