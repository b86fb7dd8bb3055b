-- Worked examples of mappings packed in 32 bytes.
use Rattle.std.specs.Prelude.{◌≡◌, true, false}
use Rattle.gv_types.specs.PageRange.{span}
use Rattle.gv_types.specs.Mapping.{buffer_id}
use Rattle.gv_types.specs.declared.mapping.Backing.TheVariants.{Buffer, Zero}
use Rattle.gv_types.specs.declared.mapping.Mapping.{Mapping}
use Rattle.gv_types.specs.Packed.{words_of, unpacked, IsPacked}

-- three pages from page 5 on, read-only, before the pages of a buffer from its page 7 on
abbrev pub three_pages : Mapping
three_pages = record { range = span 5 3; backing = Buffer (buffer_id 2 9) 7; flags = record { read_only = true } }

-- 2^32 + 1 pages of zeros from page 1 on
abbrev pub many_zeros : Mapping
many_zeros = record { range = span 1 4294967297; backing = Zero; flags = record { read_only = false } }

abbrev pub BufferIsPacked : Type 0
BufferIsPacked = words_of three_pages ≡ record { head = 2621440; tagged_page = 31; generation = 9; low = 3; index = 2 }

abbrev pub ZerosArePacked : Type 0
ZerosArePacked = words_of many_zeros ≡ record { head = 524289; tagged_page = 0; generation = 0; low = 1; index = 0 }

-- both come back
abbrev pub BothComeBack : Type 0
BothComeBack = (unpacked (words_of three_pages) ≡ three_pages) × (unpacked (words_of many_zeros) ≡ many_zeros)

-- zeros with a page are the words of no mapping
abbrev pub ZerosHaveNoPage : Type 0
ZerosHaveNoPage = ¬ (IsPacked (record { head = 524288; tagged_page = 4; generation = 0; low = 1; index = 0 }))
