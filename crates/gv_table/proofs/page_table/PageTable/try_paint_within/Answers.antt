use Rattle.std.proofs.Common.{◌≡◌, ◌∙◌, ℕ, true, List, refl, arith, inl, inr, ap, sym, subst}
use Rattle.gv_types.specs.declared.mapping.BufferId.{BufferId}
use Rattle.gv_types.specs.declared.mapping.Mapping.{Mapping}
use Rattle.gv_ranges.specs.List.{IsLaidOut}
use Rattle.gv_table.specs.declared.slot.Slot.{Slot}
use Rattle.gv_table.specs.Kinds.{Kind, pages, slots}
use Rattle.gv_table.specs.Counts.{lost, tables_at}
use Rattle.gv_table.specs.Levels.{slot_pages}
use Rattle.gv_table.specs.Named.{named, AreLeavesEncodable}
use Rattle.gv_table.specs.BufferNames.{unnamed, AreNamed, AreEncodable}
use Rattle.gv_table.specs.Patch.{IsPatched}
use Rattle.gv_table.specs.Table.{PageTable, FitsOutside}
use Rattle.gv_table.specs.Tree.{IsTreeOf, IsTreeOutside, IsEncodableOutside}
use Rattle.gv_table.proofs.GainsUndoLosses.{both-ways, lost-is}
use Rattle.gv_table.proofs.CoveringMappings.{true-or-false}
use Rattle.gv_table.proofs.Named.{tables_at-named}
use Rattle.gv_table.proofs.NamedTrees.{named-tree, named-encoded, encoded-outside, tree-encoded}
use Rattle.gv_table.proofs.PagesOf.{pages_of-top}
use Rattle.gv_table.proofs.Patched.{patched-unnamed}
use Rattle.gv_table.proofs.RangesMeet.{meets-from}
use Rattle.gv_table.proofs.Unnamed.{laid_out-unnamed}
use Rattle.gv_table.proofs.page_table.PageTable.try_paint_within.Goals as goal

pub try_paint_slot-requires-clause-in_space : goal.try_paint_slot-requires-clause-in_space
try_paint_slot-requires-clause-in_space c = let all = pages_of-top in omega (arith, all)

pub try_paint_slot-requires-clause-laid_out : goal.try_paint_slot-requires-clause-laid_out
try_paint_slot-requires-clause-laid_out c =
    subst (λ (xs : List Mapping). IsLaidOut xs) (sym (c.of-pieces.ensures ∙ ap unnamed c.of_slice.ensures)) (laid_out-unnamed c.args.pieces.now 0 c.requires.laid_out)

pub try_paint_slot-requires-clause-encoded : goal.try_paint_slot-requires-clause-encoded
try_paint_slot-requires-clause-encoded c =
    subst AreEncodable (sym (c.of-pieces.ensures ∙ ap unnamed c.of_slice.ensures))
    (named-encoded c.self.inside.names.items c.args.pieces.now c.self.invariant.named
    (subst (λ (xs : List BufferId). AreNamed xs c.args.pieces.now) (sym (ap (λ (t : PageTable). t.names) c.self.view_is)) c.requires.named))

pub try_paint_slot-requires-clause-met : goal.try_paint_slot-requires-clause-met
try_paint_slot-requires-clause-met c =
    let all = pages_of-top in
    let some = c.first-first.ensures.in_space in
    meets-from (slot_pages 5 0) c.args.range (omega (arith, some)) (omega (arith, all, some))

-- what a list that the pieces tell of makes of the tree
module _ (c : goal.After-try_paint_slot) (ms : List Mapping) (is : IsPatched ms c.args.pieces.now c.args.range c.args.some)
    (are : AreNamed c.args.self.now.names ms) (fits : FitsOutside ms c.args.range c.args.self.now) where
  patched : IsPatched (unnamed ms) c.of-pieces.result c.args.range c.args.some
  patched =
      subst (λ (xs : List Mapping). IsPatched (unnamed ms) xs c.args.range c.args.some) (sym (c.of-pieces.ensures ∙ ap unnamed c.of_slice.ensures))
      (patched-unnamed ms c.args.pieces.now c.args.range c.args.some is)

  outside : IsEncodableOutside (unnamed ms) c.args.range 5 0 c.self.inside.root
  outside =
      let all = pages_of-top in
      encoded-outside c.self.inside.names.items c.self.invariant.named ms c.args.range c.self.inside.root (omega (arith, all)) c.self.invariant.encoded
      (subst (λ (s : Slot). IsTreeOutside ms c.args.range 5 0 s) (sym (ap (λ (t : PageTable). t.root) c.self.view_is)) fits)

  named-here : AreNamed c.self.inside.names.items ms
  named-here = subst (λ (xs : List BufferId). AreNamed xs ms) (sym (ap (λ (t : PageTable). t.names) c.self.view_is)) are

  encoded-tree : c.try_paint_slot.result ≡ true → IsTreeOf (unnamed ms) 5 0 c.try_paint_slot.new.slot
  encoded-tree done = c.try_paint_slot.ensures.tree done (unnamed ms) patched outside

pub invariant_of-self : goal.invariant_of-self
invariant_of-self c =
    let list = c.requires.list in
    record {
      counted = λ target. c.self.invariant.counted target ∙ sym (c.try_paint_slot.ensures.counted target);
      shaped = c.try_paint_slot.ensures.shaped c.self.invariant.shaped;
      encoded = elim (true-or-false c.try_paint_slot.result) [
        | inl done ↦ tree-encoded (unnamed list.list) 5 0 c.try_paint_slot.new.slot (laid_out-unnamed list.list 0 list.patched.laid_out)
            (named-encoded c.self.inside.names.items list.list c.self.invariant.named (named-here c list.list list.patched list.named list.fitted))
            (encoded-tree c list.list list.patched list.named list.fitted done)
        | inr not ↦ subst (AreLeavesEncodable 5) (sym (c.try_paint_slot.ensures.not not)) c.self.invariant.encoded
      ];
      named = c.self.invariant.named;
    }

pub returns-clause-present : goal.returns-clause-present
returns-clause-present c =
    let names = c.self.inside.names.items in
    let same = λ (target : ℕ). tables_at-named names target 5 c.try_paint_slot.new.slot ∙ c.try_paint_slot.ensures.counted target ∙ sym (tables_at-named names target 5 c.self.inside.root) ∙
    ap (λ (t : PageTable). tables_at target 5 t.root) c.self.view_is in
    rw (same 0, same 1, same 2, same 3, same 4) refl

pub returns-clause-tree : goal.returns-clause-tree
returns-clause-tree c = λ done ms is are fits.
    named-tree c.self.inside.names.items ms 5 0 c.try_paint_slot.new.slot (named-here c ms is are fits) (encoded-tree c ms is are fits done)

pub returns-clause-none : goal.returns-clause-none
returns-clause-none c = λ done ms laid tree.
    let list = c.requires.list in
    let encoded = unnamed list.list in
    let view = ap (λ (t : PageTable). t.root) c.self.view_is in
    let back = both-ways ms list.list c.args.self.now.root (named c.self.inside.names.items c.try_paint_slot.new.slot) laid list.patched.laid_out tree
    (named-tree c.self.inside.names.items list.list 5 0 c.try_paint_slot.new.slot (named-here c list.list list.patched list.named list.fitted)
    (encoded-tree c list.list list.patched list.named list.fitted done)) in
    let zero = λ (kind : Kind). sym (lost-is c.self.inside.names.items c.self.inside.root c.args.self.now list.list encoded refl view kind) ∙
    c.try_paint_slot.ensures.lost done encoded (patched c list.list list.patched list.named list.fitted) (outside c list.list list.patched list.named list.fitted) kind in
    let of_pages : lost pages list.list 5 0 c.args.self.now.root ≡ 0 = zero pages in
    let of_slots : lost slots list.list 5 0 c.args.self.now.root ≡ 0 = zero slots in
    back ∙ cc
