-- A mapping of a buffer stands before pages of that buffer, so their bytes have numbers that fit.
use Rattle.std.proofs.Common.{◌≡◌, ℕ, ◌+◌, ◌-◌, ◌<◌, ◌≤◌, List, [], ◌∷◌, true, false, cond, ltb, leb, arith, refl, subst, Some, None, Option, IsSome}
use Rattle.std.specs.Prelude.{IsSomeAnd}
use Rattle.std.specs.Option.{option_map}
use Rattle.std.specs.List.{All}
use Rattle.std.proofs.lemmas.List.Elements.{All-head, All-tail}
use Rattle.std.proofs.lemmas.Bool.{and_parts, leb-true}
use borrow.Author.Tests.{ltb-true}
use Rattle.gv_types.specs.Bounds.{BoundsState}
use Rattle.gv_types.specs.Page.{pages_per_buffer}
use Rattle.gv_types.specs.PageRange.{covers, end_of}
use Rattle.gv_types.specs.Mapping.{part, advanced}
use Rattle.gv_types.specs.declared.mapping.Backing.{Backing}
use Rattle.gv_types.specs.declared.mapping.Backing.TheVariants.{Buffer as BufferPages, Zero as ZeroPages}
use Rattle.gv_types.specs.declared.mapping.BufferId.{BufferId}
use Rattle.gv_types.specs.declared.mapping.Entry.{Entry}
use Rattle.gv_types.specs.declared.mapping.Mapping.{Mapping}
use Rattle.gv_ranges.specs.List.{at}
use Rattle.gv_buffers.specs.Buffers.{Buffer, BuffersState, buffer, pages, IsBuffer, IsTable}
use Rattle.gv_space.specs.State.{SpaceState, LieInside, IsValidMapping, IsSpace}
use Rattle.gv_space.proofs.BufferTableLemmas.{found_live, IsFound}
use Rattle.gv_vm.specs.Places.{BytesFit}

lives : (P : ℕ → Type 0) (o : Option Buffer) → IsSomeAnd (option_map (λ b. b.pages) o) P → IsSome o
lives P None h = absurd h
lives P (Some b) h = refl

end_fits : (t : BuffersState) (id : BufferId) (end : ℕ) → IsTable t → IsSomeAnd (pages t id) (λ size. end ≤ size) → end ≤ pages_per_buffer
end_fits t id end table inside =
    let found : IsFound t id (IsBuffer t.made) = found_live (IsBuffer t.made) t id table.buffers (lives (λ size. end ≤ size) (buffer t id) inside) in
    let within : end ≤ found.b.pages = rw found.found at inside in
    omega (arith, found.holds.few_pages)

BytesFit-inside : (t : BuffersState) (backing : Backing) (count rest : ℕ) → IsTable t → rest < count → LieInside t backing count → BytesFit (advanced backing rest)
BytesFit-inside t (BufferPages id page) count rest table less inside = omega (arith, end_fits t id (page + count) table inside)
BytesFit-inside t ZeroPages count rest table less inside = tt

rest_less : (m : Mapping) (page : ℕ) → covers m.range page ≡ true → page - m.range.first < m.range.count
rest_less m page covered =
    let both = and_parts (leb m.range.first page) (ltb page (end_of m.range)) covered in
    omega (arith, leb-true m.range.first page both.0, ltb-true page (end_of m.range) both.1)

pub BytesFit-at : (a : BoundsState) (t : BuffersState) (ms : List Mapping) (page : ℕ) (e : Entry) → IsTable t → All (IsValidMapping a t) ms → at ms page ≡ Some e → BytesFit e.backing
BytesFit-at a t [] page e table valid is = cc
BytesFit-at a t (m ∷ ms) page e table valid is =
    elim (covers m.range page) as (λ c. covers m.range page ≡ c → cond c (Some (part m page)) (at ms page) ≡ Some e → BytesFit e.backing) [
      | true ↦ (λ covered found.
          let same : part m page ≡ e = cc in
          let here : BytesFit (part m page).backing =
          BytesFit-inside t m.backing m.range.count (page - m.range.first) table (rest_less m page covered) (All-head (IsValidMapping a t) m ms valid).inside in
          subst (λ (x : Entry). BytesFit x.backing) same here)
      | false ↦ (λ _ found. BytesFit-at a t ms page e table (All-tail (IsValidMapping a t) m ms valid) found)
    ] refl is

-- what a page of an address space holds has bytes whose numbers fit
pub BytesFit-held : (s : SpaceState) (page : ℕ) (e : Entry) → IsSpace s → at s.mappings page ≡ Some e → BytesFit e.backing
BytesFit-held s page e space is = BytesFit-at s.area s.buffers s.mappings page e space.buffers space.valid is
