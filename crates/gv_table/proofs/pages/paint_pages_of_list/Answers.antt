use Rattle.std.proofs.Common.{arith, ◌+◌, ◌*◌, ℕ, List, slice_index_or, refl, sym, subst, inl, inr}
use Rattle.gv_types.specs.PageRange.{meets}
use Rattle.gv_types.specs.declared.mapping.Mapping.{Mapping}
use Rattle.gv_table.specs.BufferNames.{PageSlot}
use Rattle.gv_table.specs.Levels.{pages_of, slot_pages}
use Rattle.gv_table.specs.Tree.{IsTreeOf, slot_of, no_page}
use Rattle.gv_table.proofs.CoveringMappings.{true-or-false}
use Rattle.gv_table.proofs.PagesOf.{part-within}
use Rattle.gv_table.proofs.Trees.{outside-apart}
use Rattle.gv_table.proofs.pages.paint_pages_of_list.Goals as goal

pub returns : goal.returns
returns c = λ k below.
    let ms = c.args.excerpt.now.mappings.now in
    let range = c.args.excerpt.now.range in
    let page : ℕ = c.args.first + k * pages_of 0 in
    elim (true-or-false (meets (slot_pages 0 page) range)) [
      | inl met ↦ subst (λ (xs : List Mapping). IsTreeOf xs 0 page (slot_of (slice_index_or c.paint_pages.new.slots k no_page))) c.with_block_at-mappings.ensures
          (c.paint_pages.ensures.inside k below met)
      | inr apart ↦ (
          let fits = part-within k (512 * pages_of 0) (pages_of 0) below refl in
          subst (λ (s : PageSlot). IsTreeOf ms 0 page (slot_of s)) (sym (c.paint_pages.ensures.outside k below apart))
          (outside-apart ms range 0 page (slot_of (slice_index_or c.args.slots.now k no_page)) c.requires.laid_out (c.requires.outside k below) (omega (arith, fits, c.requires.in_space)) apart))
    ]
