-- What an operation asks for, and what it does to an address map.
use Rattle.std.specs.Prelude.{ℕ, ◌/◌, Bool, true, false, if◌then◌else◌, Option, Some, None, List, [], ◌∷◌}
use Rattle.gv_types.specs.Page.{bytes_per_page}
use Rattle.gv_types.specs.PageRange.{PageRangeState, span, covers, IsInSpace}
use Rattle.gv_types.specs.Mapping.{part, IsMapping}
use Rattle.gv_types.specs.declared.mapping.Backing.TheVariants.{Buffer, Zero}
use Rattle.gv_types.specs.declared.mapping.Entry.{Entry}
use Rattle.gv_types.specs.declared.mapping.Mapping.{Mapping}
use Rattle.gv_types.specs.declared.operation.Op.{Op}
use Rattle.gv_types.specs.declared.operation.Op.TheVariants.{Map as ByteMap, MapZero, Unmap as ByteUnmap, UnmapBuffer as ByteUnmapBuffer}
use Rattle.gv_types.specs.declared.operation.PageOp.{PageOp}
use Rattle.gv_types.specs.declared.operation.PageOp.TheVariants.{Map, Unmap, UnmapBuffer}

-- whether an operation names its pages: all but an unmap of a whole buffer, which stands for unmaps of the buffer's mappings
abbrev pub has_range : Op → Bool
has_range (ByteMap addr len buffer offset flags) = true
has_range (MapZero addr len flags) = true
has_range (ByteUnmap addr len) = true
has_range (ByteUnmapBuffer buffer) = false

-- the first byte of an operation in bytes, and 0 where it names no pages
abbrev pub addr_of : Op → ℕ
addr_of (ByteMap addr len buffer offset flags) = addr
addr_of (MapZero addr len flags) = addr
addr_of (ByteUnmap addr len) = addr
addr_of (ByteUnmapBuffer buffer) = 0

-- how many bytes it covers, and 0 where it names no pages
abbrev pub len_of : Op → ℕ
len_of (ByteMap addr len buffer offset flags) = len
len_of (MapZero addr len flags) = len
len_of (ByteUnmap addr len) = len
len_of (ByteUnmapBuffer buffer) = 0

-- the byte of the buffer that it begins at, and 0 where it maps no buffer
abbrev pub offset_of : Op → ℕ
offset_of (ByteMap addr len buffer offset flags) = offset
offset_of (MapZero addr len flags) = 0
offset_of (ByteUnmap addr len) = 0
offset_of (ByteUnmapBuffer buffer) = 0

-- a number of bytes in pages
abbrev pub pages : ℕ → ℕ
pages bytes = bytes / bytes_per_page

-- an operation in pages
abbrev pub in_pages : Op → PageOp
in_pages (ByteMap addr len buffer offset flags) = Map (span (pages addr) (pages len)) (Buffer buffer (pages offset)) flags
in_pages (MapZero addr len flags) = Map (span (pages addr) (pages len)) Zero flags
in_pages (ByteUnmap addr len) = Unmap (span (pages addr) (pages len))
in_pages (ByteUnmapBuffer buffer) = UnmapBuffer buffer

-- the pages that an operation names: none for an unmap of a whole buffer
abbrev pub range_of : PageOp → PageRangeState
range_of (Map range backing flags) = range
range_of (Unmap range) = range
range_of (UnmapBuffer buffer) = span 0 0

-- the mapping that an operation puts in, if any
abbrev pub own_mapping : PageOp → List Mapping
own_mapping (Map range backing flags) = record { range = range; backing = backing; flags = flags } ∷ []
own_mapping (Unmap range) = []
own_mapping (UnmapBuffer buffer) = []

-- what an operation says of a page that it covers
abbrev pub own_part : PageOp → ℕ → Option Entry
own_part (Map range backing flags) page =
    Some (part (record { range = range; backing = backing; flags = flags }) page)
own_part (Unmap range) page = None
own_part (UnmapBuffer buffer) page = None

-- the address map after an operation
abbrev pub after : PageOp → (ℕ → Option Entry) → ℕ → Option Entry
after op map page = if covers (range_of op) page then own_part op page else map page

-- Looking back through some operations, which stand newest first: the first that covers a page decides
-- what the page holds, and where none covers it, what lay below them all.
abbrev pub view : List PageOp → (ℕ → Option Entry) → ℕ → Option Entry
view [] base page = base page
view (op ∷ older) base page = if covers (range_of op) page then own_part op page else view older base page

-- An operation that names its pages: they are in the space, and the pages that stand behind a map are numbers that fit.
-- An unmap of a whole buffer is none.
abbrev pub IsPageOp : PageOp → Type 0
IsPageOp (Map range backing flags) = IsMapping (record { range = range; backing = backing; flags = flags })
IsPageOp (Unmap range) = IsInSpace range
IsPageOp (UnmapBuffer buffer) = ⊥

-- what a check lets through: such an operation, or an unmap of a whole buffer
abbrev pub IsChecked : PageOp → Type 0
IsChecked (Map range backing flags) = IsPageOp (Map range backing flags)
IsChecked (Unmap range) = IsPageOp (Unmap range)
IsChecked (UnmapBuffer buffer) = Unit {0}
