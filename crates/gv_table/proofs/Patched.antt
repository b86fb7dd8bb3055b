-- A list that pieces tell of in a range, encoded by indexes alone.
use Rattle.std.proofs.Common.{◌≡◌, ◌∙◌, ℕ, true, false, List, get_or, arith, refl, sym, ap, subst}
use Rattle.std.proofs.lemmas.List.{length-map, get_or-map}
use Rattle.gv_types.specs.PageRange.{PageRangeState, end_of, covers, meets, lies_in}
use Rattle.gv_types.specs.declared.mapping.Backing.TheVariants.{Zero}
use Rattle.gv_types.specs.declared.mapping.Mapping.{Mapping}
use Rattle.gv_ranges.specs.List.{at, IsLaidOut}
use Rattle.gv_ranges.specs.Edit.{clipped}
use Rattle.gv_ranges.proofs.ClipLemmas.{at-clipped}
use Rattle.gv_table.specs.Levels.{slot_pages}
use Rattle.gv_table.specs.BufferNames.{unnamed_mapping, unnamed}
use Rattle.gv_table.specs.Patch.{IsPatched}
use Rattle.gv_table.specs.Wanted.{wanted}
use Rattle.gv_table.specs.declared.wanted.Wanted.TheVariants as variant
use Rattle.gv_table.proofs.AlikeLists.{alike-inside}
use Rattle.gv_table.proofs.CoveringMappings.{met-at}
use Rattle.gv_table.proofs.PagesOf.{pages_of-some}
use Rattle.gv_table.proofs.RangesMeet.{covers-bounds, lies-bounds}
use Rattle.gv_table.proofs.Unnamed.{clipped-unnamed, laid_out-unnamed}
use Rattle.gv_table.proofs.Wants.{wanted-alike, wanted-table}

pub patched-unnamed : (ms pieces : List Mapping) (range some : PageRangeState) → IsPatched ms pieces range some → IsPatched (unnamed ms) (unnamed pieces) range some
patched-unnamed ms pieces range some is =
    let long = length-map ms unnamed_mapping in
    let e : Mapping = record { range = some; backing = Zero; flags = record { read_only = false } } in
    record {
      laid_out = laid_out-unnamed ms 0 is.laid_out;
      inside = clipped-unnamed range.first (end_of range) ms ∙ ap unnamed is.inside ∙ sym (clipped-unnamed range.first (end_of range) pieces);
      held = record {
        index = is.held.index;
        within = omega (arith, long, is.held.within);
        here = λ d. ap (λ (m : Mapping). m.range) (get_or-map unnamed_mapping ms is.held.index e d is.held.within) ∙ is.held.here e;
      };
    }

module _ (ms pieces : List Mapping) (range some : PageRangeState) (is : IsPatched ms pieces range some) where
  -- the mapping at the pages of `some` makes a slot a table that it divides
  pub patched-divided : (level first : ℕ) → meets some (slot_pages level first) ≡ true → lies_in (slot_pages level first) some ≡ false → wanted ms level first ≡ variant.Table
  patched-divided level first meeting part =
      let slot = slot_pages level first in
      let d : Mapping = record { range = some; backing = Zero; flags = record { read_only = false } } in
      let met = subst (λ (r : PageRangeState). meets r slot ≡ true) (sym (is.held.here d)) meeting in
      let other = subst (λ (r : PageRangeState). lies_in slot r ≡ false) (sym (is.held.here d)) part in
      wanted-table ms level first (get_or ms is.held.index d) (met-at ms 0 is.held.index d slot is.laid_out is.held.within (pages_of-some level) met) other

  -- such a list says of the range's pages what the pieces say
  pub patched-at : (page : ℕ) → covers range page ≡ true → at ms page ≡ at pieces page
  patched-at page here =
      let bounds = covers-bounds range page here in
      sym (at-clipped range.first (end_of range) ms page bounds.0 bounds.1) ∙ ap (λ (xs : List Mapping). at xs page) is.inside ∙
      at-clipped range.first (end_of range) pieces page bounds.0 bounds.1

  -- and wants of a slot in the range what they want
  pub patched-wanted : (level first : ℕ) → IsLaidOut pieces → lies_in (slot_pages level first) range ≡ true → wanted ms level first ≡ wanted pieces level first
  patched-wanted level first laid inside =
      let slot = slot_pages level first in
      let bounds = lies-bounds slot range inside in
      let some = pages_of-some level in
      let own = alike-inside range ms (clipped range.first (end_of range) ms) slot refl is.laid_out some bounds.0 bounds.1 in
      let other = alike-inside range pieces (clipped range.first (end_of range) ms) slot (sym is.inside) laid some bounds.0 bounds.1 in
      wanted-alike ms pieces level first (own.0 ∙ sym other.0, own.1 ∙ sym other.1)
