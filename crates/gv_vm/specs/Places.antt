-- Where addresses lead.
use Rattle.std.specs.Prelude.{ℕ, ◌+◌, ◌-◌, ◌*◌, ◌/◌, ◌%◌, ◌<◌, nat_lt, if◌then◌else◌, List, [], ◌∷◌, Option}
use Rattle.std.specs.Option.{option_map}
use Rattle.gv_types.specs.Page.{PAGES, bytes_per_page, pages_per_buffer}
use Rattle.gv_types.specs.PageRange.{end_of}
use Rattle.gv_types.specs.declared.mapping.Backing.{Backing}
use Rattle.gv_types.specs.declared.mapping.Backing.TheVariants.{Buffer as BufferPages, Zero as ZeroPages}
use Rattle.gv_types.specs.declared.mapping.Entry.{Entry}
use Rattle.gv_types.specs.declared.mapping.Mapping.{Mapping}
use Rattle.gv_ranges.specs.List.{at}
use Rattle.gv_vm.specs.declared.places.Target.{Target}
use Rattle.gv_vm.specs.declared.places.Target.TheVariants.{Buffer, Zero}
use Rattle.gv_vm.specs.declared.places.Place.{Place}

-- what stands some bytes behind the first byte of a page
abbrev pub target_of : Backing → ℕ → Target
target_of (BufferPages id page) rest = Buffer id (page * bytes_per_page + rest)
target_of ZeroPages rest = Zero

-- where the byte leads that stands some bytes into a page
abbrev pub place_of : Entry → ℕ → Place
place_of e rest = record { target = target_of e.backing rest; flags = e.flags }

-- where an address leads by an address map
abbrev pub place_by : (ℕ → Option Entry) → ℕ → Option Place
place_by map addr = option_map (λ e. place_of e (addr % bytes_per_page)) (map (addr / bytes_per_page))

-- where an address leads, if a mapping holds its page
abbrev pub place_at : List Mapping → ℕ → Option Place
place_at ms addr = place_by (at ms) addr

-- the page is one of a buffer, so its bytes have numbers that fit
abbrev pub BytesFit : Backing → Type 0
BytesFit (BufferPages id page) = page < pages_per_buffer
BytesFit ZeroPages = Unit {0}

-- the first page behind a page that no longer belongs to it: where its mapping ends, or where it has none the next one begins, or
-- the space ends
abbrev pub stretch_end : List Mapping → ℕ → ℕ
stretch_end [] page = PAGES
stretch_end (m ∷ ms) page =
    if nat_lt page m.range.first then m.range.first
    else if nat_lt page (end_of m.range) then end_of m.range
    else stretch_end ms page

-- how many bytes from an address on lead on as it does: to the end of its mapping, or to nothing up to the next one
abbrev pub run_of : List Mapping → ℕ → ℕ
run_of ms addr =
    if nat_lt (addr / bytes_per_page) PAGES then stretch_end ms (addr / bytes_per_page) * bytes_per_page - addr
    else 0
