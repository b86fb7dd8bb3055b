-- What a list says of a page and of those behind it, up to the end of a mapping or of a gap.
use Rattle.std.proofs.Common.{◌≡◌, ℕ, ◌+◌, ◌-◌, ◌<◌, ◌≤◌, List, Some, None, length, get_or, arith, ap}
use Rattle.gv_types.specs.PageRange.{end_of}
use Rattle.gv_table.specs.BufferNames.{IsEncodable}
use Rattle.gv_types.specs.Mapping.{part, entry_advanced, HasSmallPages, IsMapping}
use Rattle.gv_types.specs.declared.mapping.Backing.{Backing}
use Rattle.gv_types.specs.declared.mapping.Entry.{Entry}
use Rattle.gv_types.specs.declared.mapping.Mapping.{Mapping}
use Rattle.gv_ranges.specs.List.{at, IsLaidOut, IsIndexOfPage}
use Rattle.gv_ranges.proofs.ClipLemmas.{advanced-advanced}
use Rattle.gv_ranges.proofs.LookupLemmas.{at_found, at_gap, at_none}
use Rattle.gv_ranges.proofs.TakeDropLemmas.{All-take_at}
use Rattle.gv_table.proofs.CoveringMappings.{small-advanced, encoded-advanced}

module _ (ms : List Mapping) (page later position : ℕ) (is : IsIndexOfPage ms page position) (up : page ≤ later) where
  ended : (k : ℕ) (d : Mapping) → k < position → end_of (get_or ms k d).range ≤ later
  ended k d below =
      let h = All-take_at (λ (n : Mapping). end_of n.range ≤ page) ms position k d is.within is.ended below in
      omega (arith, h, up)

  -- behind the last mapping
  pub run-past : position ≡ length ms → at ms later ≡ None
  run-past last = at_none ms later (λ k d below. ended k d (omega arith))

  -- before the next mapping
  pub run-gap : (m : Mapping) → IsLaidOut ms → position < length ms → later < (get_or ms position m).range.first → at ms later ≡ None
  run-gap m laid inside before = at_gap ms 0 later position m laid inside (λ k below. ended k m below) before

  -- in the mapping
  pub run-mapping : (m : Mapping) → position < length ms → (get_or ms position m).range.first ≤ later → later < end_of (get_or ms position m).range →
      at ms later ≡ Some (part (get_or ms position m) later)
  run-mapping m inside begun before = at_found ms later position m inside (λ k below. ended k m below) begun before

-- the entry of a page, so many pages further on
pub part-further : (m : Mapping) (page more : ℕ) → m.range.first ≤ page → entry_advanced (part m page) more ≡ part m (page + more)
part-further m page more begun =
    ap (λ (b : Backing). let e : Entry = record { backing = b; flags = m.flags } in e)
    (advanced-advanced m.backing (page - m.range.first) more (page + more - m.range.first) (omega arith))

-- the pages from there on are small numbers
pub part-small : (m : Mapping) (page n : ℕ) → IsMapping m → m.range.first ≤ page → page + n ≤ end_of m.range → HasSmallPages (part m page).backing n
part-small m page n is begun within = small-advanced m.backing (page - m.range.first) n m.range.count is.1 (omega arith)

-- and they can be encoded where the mapping's can
pub part-encoded : (m : Mapping) (page n : ℕ) → IsEncodable m.backing m.range.count → m.range.first ≤ page → page + n ≤ end_of m.range → IsEncodable (part m page).backing n
part-encoded m page n encoded begun within = encoded-advanced m.backing (page - m.range.first) n m.range.count encoded (omega arith)
