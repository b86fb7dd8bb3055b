use Rattle.std.proofs.Common.{◌∙◌, List, rules, arith, ap, sym, subst}
use Rattle.gv_types.specs.declared.mapping.BufferId.{BufferId}
use Rattle.gv_types.specs.declared.mapping.Mapping.{Mapping}
use Rattle.gv_ranges.specs.List.{IsLaidOut, AreEnded}
use Rattle.gv_table.specs.declared.slot.Slot.{Slot}
use Rattle.gv_table.specs.Named.{named}
use Rattle.gv_table.specs.BufferNames.{unnamed, AreNamed, AreEncodable}
use Rattle.gv_table.specs.Table.{PageTable}
use Rattle.gv_table.specs.Tree.{IsTreeOf, IsTreeOutside, IsEncodableOutside}
use Rattle.gv_table.proofs.GainsUndoLosses.{both-ways, gained-is, lost-is}
use Rattle.gv_table.proofs.NamedTrees.{named-tree, named-encoded, encoded-outside, tree-encoded}
use Rattle.gv_table.proofs.PagesOf.{pages_of-top}
use Rattle.gv_table.proofs.Unnamed.{laid_out-unnamed, ended-unnamed}
use Rattle.gv_table.proofs.page_table.PageTable.paint.Goals as goal

pub paint_tree-requires-clause-laid_out : goal.paint_tree-requires-clause-laid_out
paint_tree-requires-clause-laid_out c =
    subst (λ (xs : List Mapping). IsLaidOut xs) (sym (c.of-mappings.ensures ∙ ap unnamed c.of_list.ensures)) (laid_out-unnamed c.args.list.now.mappings 0 (search rules))

pub paint_tree-requires-clause-encoded : goal.paint_tree-requires-clause-encoded
paint_tree-requires-clause-encoded c =
    subst AreEncodable (sym (c.of-mappings.ensures ∙ ap unnamed c.of_list.ensures))
    (named-encoded c.self.inside.names.items c.args.list.now.mappings c.self.invariant.named
    (subst (λ (xs : List BufferId). AreNamed xs c.args.list.now.mappings) (sym (ap (λ (t : PageTable). t.names) c.self.view_is)) c.requires.named))

pub paint_tree-requires-clause-ended : goal.paint_tree-requires-clause-ended
paint_tree-requires-clause-ended c =
    subst (λ (xs : List Mapping). AreEnded xs c.args.range.first c.args.position) (sym (c.of-mappings.ensures ∙ ap unnamed c.of_list.ensures))
    (ended-unnamed c.args.list.now.mappings c.args.range.first c.args.position c.requires.ended)

pub paint_tree-requires-clause-outside : goal.paint_tree-requires-clause-outside
paint_tree-requires-clause-outside c =
    let all = pages_of-top in
    subst (λ (xs : List Mapping). IsEncodableOutside xs c.args.range 5 0 c.self.inside.root) (sym (c.of-mappings.ensures ∙ ap unnamed c.of_list.ensures))
    (encoded-outside c.self.inside.names.items c.self.invariant.named c.args.list.now.mappings c.args.range c.self.inside.root (omega (arith, all)) c.self.invariant.encoded
    (subst (λ (s : Slot). IsTreeOutside c.args.list.now.mappings c.args.range 5 0 s) (sym (ap (λ (t : PageTable). t.root) c.self.view_is)) c.requires.fitted))

pub paint_tree-requires-clause-enough : goal.paint_tree-requires-clause-enough
paint_tree-requires-clause-enough c = λ kind.
    let same = gained-is c.self.inside.names.items c.self.inside.root c.args.self.now c.args.list.now.mappings c.of-mappings.result
    (c.of-mappings.ensures ∙ ap unnamed c.of_list.ensures) (ap (λ (t : PageTable). t.root) c.self.view_is) kind in
    omega (arith, same, c.requires.enough kind)

pub invariant_of-self : goal.invariant_of-self
invariant_of-self c =
    let is = c.of-mappings.ensures ∙ ap unnamed c.of_list.ensures in
    record {
      counted = c.paint_tree.ensures.counted;
      shaped = c.paint_tree.ensures.shaped;
      encoded = tree-encoded c.of-mappings.result 5 0 c.paint_tree.new.root
          (subst (λ (xs : List Mapping). IsLaidOut xs) (sym is) (laid_out-unnamed c.args.list.now.mappings 0 (search rules)))
          (subst AreEncodable (sym is)
          (named-encoded c.self.inside.names.items c.args.list.now.mappings c.self.invariant.named
          (subst (λ (xs : List BufferId). AreNamed xs c.args.list.now.mappings) (sym (ap (λ (t : PageTable). t.names) c.self.view_is)) c.requires.named)))
          c.paint_tree.ensures.tree;
      named = c.self.invariant.named;
    }

pub returns-clause-tree : goal.returns-clause-tree
returns-clause-tree c =
    named-tree c.self.inside.names.items c.args.list.now.mappings 5 0 c.paint_tree.new.root
    (subst (λ (xs : List BufferId). AreNamed xs c.args.list.now.mappings) (sym (ap (λ (t : PageTable). t.names) c.self.view_is)) c.requires.named)
    (subst (λ (xs : List Mapping). IsTreeOf xs 5 0 c.paint_tree.new.root) (c.of-mappings.ensures ∙ ap unnamed c.of_list.ensures) c.paint_tree.ensures.tree)

pub returns-clause-taken : goal.returns-clause-taken
returns-clause-taken c = λ kind.
    let same = gained-is c.self.inside.names.items c.self.inside.root c.args.self.now c.args.list.now.mappings c.of-mappings.result
    (c.of-mappings.ensures ∙ ap unnamed c.of_list.ensures) (ap (λ (t : PageTable). t.root) c.self.view_is) kind in
    omega (arith, same, c.paint_tree.ensures.taken kind)

pub returns-clause-put : goal.returns-clause-put
returns-clause-put c = λ kind.
    let same = lost-is c.self.inside.names.items c.self.inside.root c.args.self.now c.args.list.now.mappings c.of-mappings.result
    (c.of-mappings.ensures ∙ ap unnamed c.of_list.ensures) (ap (λ (t : PageTable). t.root) c.self.view_is) kind in
    omega (arith, same, c.paint_tree.ensures.put kind)

pub returns-clause-back : goal.returns-clause-back
returns-clause-back c = λ ms laid tree.
    both-ways ms c.args.list.now.mappings c.args.self.now.root (named c.self.inside.names.items c.paint_tree.new.root) laid (search rules) tree
    (named-tree c.self.inside.names.items c.args.list.now.mappings 5 0 c.paint_tree.new.root
    (subst (λ (xs : List BufferId). AreNamed xs c.args.list.now.mappings) (sym (ap (λ (t : PageTable). t.names) c.self.view_is)) c.requires.named)
    (subst (λ (xs : List Mapping). IsTreeOf xs 5 0 c.paint_tree.new.root) (c.of-mappings.ensures ∙ ap unnamed c.of_list.ensures) c.paint_tree.ensures.tree))
