-- What contracts see of a `Packed`: the mapping whose words it has.
use Rattle.std.specs.Prelude.{◌≡◌, ℕ, ◌+◌, ◌*◌, ◌/◌, ◌%◌, ◌^◌, ◌==◌, if◌then◌else◌}
use Rattle.gv_types.specs.PageRange.{span, PageRangeState}
use Rattle.gv_types.specs.Mapping.{buffer_id, IsMapping}
use Rattle.gv_types.specs.declared.mapping.Backing.{Backing}
use Rattle.gv_types.specs.declared.mapping.Backing.TheVariants.{Buffer, Zero}
use Rattle.gv_types.specs.declared.mapping.Flags.{Flags}
use Rattle.gv_types.specs.declared.mapping.Mapping.{Mapping}
use Rattle.gv_types.specs.declared.packed.Packed.TheInside.{Inside}

-- the first page in units of 2^19, and what the count has above 32 bits below it
abbrev pub unpacked_range : Inside → PageRangeState
unpacked_range p = span (p.head / 2 ^ 19) (p.head % 2 ^ 19 * 2 ^ 32 + p.low)

-- a buffer where the tagged_page is odd, and its page in fours
abbrev pub unpacked_backing : Inside → Backing
unpacked_backing p = if p.tagged_page % 2 == 1 then Buffer (buffer_id p.index p.generation) (p.tagged_page / 4) else Zero

-- read-only by the second bit of the tagged_page
abbrev pub unpacked_flags : Inside → Flags
unpacked_flags p = record { read_only = p.tagged_page / 2 % 2 == 1 }

-- the mapping of the words
abbrev pub unpacked : Inside → Mapping
unpacked p = record { range = unpacked_range p; backing = unpacked_backing p; flags = unpacked_flags p }

-- the words with this range and the rest as it is given
abbrev pub words_with : PageRangeState → ℕ → ℕ → ℕ → Inside
words_with range tagged_page generation index =
    record { head = range.first * 2 ^ 19 + range.count / 2 ^ 32; tagged_page = tagged_page; generation = generation; low = range.count % 2 ^ 32; index = index }

-- the words of a range, a backing, and 2 where it is read-only
abbrev pub words : PageRangeState → Backing → ℕ → Inside
words range (Buffer id page) mark = words_with range (page * 4 + mark + 1) id.generation id.index
words range Zero mark = words_with range mark 0 0

-- the words of a mapping
abbrev pub words_of : Mapping → Inside
words_of m = words m.range m.backing (if m.flags.read_only then 2 else 0)

-- the words are those of a mapping whose pages are numbers that fit
abbrev pub IsPacked : Inside → Type 0
IsPacked p = IsMapping (unpacked p) × (words_of (unpacked p) ≡ p)

pub words_of-unpacked : (p : Inside) → IsPacked p → words_of (unpacked p) ≡ p
words_of-unpacked p packed = packed.1
