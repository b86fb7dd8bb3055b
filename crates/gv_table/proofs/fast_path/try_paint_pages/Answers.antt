use Rattle.std.proofs.Common.{◌+◌, ◌*◌, ℕ, slice_index_or, arith, refl, sym, subst, inl, inr}
use Rattle.gv_types.specs.PageRange.{meets}
use Rattle.gv_ranges.specs.List.{at}
use Rattle.gv_table.specs.BufferNames.{PageSlot}
use Rattle.gv_table.specs.Levels.{pages_of, slot_pages, first_within}
use Rattle.gv_table.specs.Tree.{IsTreeOf, slot_of, no_page}
use Rattle.gv_table.proofs.CoveringMappings.{true-or-false}
use Rattle.gv_table.proofs.PagesOf.{part-within, pages_of-zero}
use Rattle.gv_table.proofs.OneSlotPainted.{row-pages}
use Rattle.gv_table.proofs.Patched.{patched-at, patched-divided}
use Rattle.gv_table.proofs.ListPositions.{ended-later}
use Rattle.gv_table.proofs.RangesMeet.{meets-bounds, covers-from}
use Rattle.gv_table.proofs.Trees.{outside-apart, page-of, IsTreeOf-page}
use Rattle.gv_table.proofs.fast_path.try_paint_pages.Goals as goal

pub paint_pages-requires-clause-position : goal.paint_pages-requires-clause-position
paint_pages-requires-clause-position c =
    ended-later c.args.excerpt.now.mappings.now c.args.excerpt.now.range.first (first_within c.args.excerpt.now.range c.args.first) c.args.excerpt.now.position (omega arith) c.requires.position

pub divides-requires-clause-in_space : goal.divides-requires-clause-in_space
divides-requires-clause-in_space c = let pages = row-pages 0 in omega (arith, pages, c.requires.in_space)

pub returns-clause-stays : goal.returns-clause-stays
returns-clause-stays c = λ done ms is.
    patched-divided ms c.args.excerpt.now.mappings.now c.args.excerpt.now.range c.args.some is 1 c.args.first (c.if-not-divides.ensures.met refl) (c.if-not-divides.ensures.not_whole refl)

pub returns-clause-tree : goal.returns-clause-tree
returns-clause-tree c = λ done ms is outside k below.
    let range = c.args.excerpt.now.range in
    let pieces = c.args.excerpt.now.mappings.now in
    let page : ℕ = c.args.first + k * pages_of 0 in
    let now = slot_of (slice_index_or c.paint_pages.new.slots k no_page) in
    elim (true-or-false (meets (slot_pages 0 page) range)) [
      | inl met ↦ (
          let bounds = meets-bounds (slot_pages 0 page) range met in
          let here = patched-at ms pieces range c.args.some is page (covers-from range page (omega (arith, bounds, pages_of-zero)) (omega (arith, bounds))) in
          IsTreeOf-page ms page (at pieces page) now here (page-of pieces page now (c.paint_pages.ensures.inside k below met)))
      | inr apart ↦ (
          let fits = part-within k (512 * pages_of 0) (pages_of 0) below refl in
          subst (λ (s : PageSlot). IsTreeOf ms 0 page (slot_of s)) (sym (c.paint_pages.ensures.outside k below apart))
          (outside-apart ms range 0 page (slot_of (slice_index_or c.args.slots.now k no_page)) is.laid_out (outside k below) (omega (arith, fits, c.requires.in_space)) apart))
    ]
