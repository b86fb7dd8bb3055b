use Rattle.std.proofs.Common.{◌≡◌, List, [], reverse, sym, ◌∙◌, ap, subst, rules}
use Rattle.gv_space.specs.State.{AreKept}
use Rattle.gv_types.specs.declared.mapping.Mapping.{Mapping}
use Rattle.gv_space.specs.Undo.{released}
use Rattle.gv_journal.specs.ItemStore.{ItemStoreState}
use Rattle.gv_journal.specs.History.{kept_by}
use Rattle.gv_journal.specs.declared.item.Item.{Item}
use Rattle.gv_journal.proofs.Lists.{last_first}
use Rattle.gv_space.proofs.ReleasedLemmas.{released-none}
use Rattle.gv_journal.proofs.KeptMappings.{held_keep, kept_without, released_without}
use Rattle.gv_journal.proofs.item_store.ItemStore.close.Goals as goal

pub loop-undos-init : goal.loop-undos-init
loop-undos-init c =
    let same : kept_by (reverse c.self.inside.items.items) ≡ kept_by (reverse c.args.self.items) =
    held_keep c.self.inside.items.items c.self.inside.spent c.self.invariant.spent_items ∙ ap (λ (s : ItemStoreState). kept_by (reverse s.items)) c.self.view_is in
    record {
      kept = subst (λ (ms : List Mapping). AreKept c.args.space.now ms) (sym same) c.requires;
      rest = ap (λ (ms : List Mapping). released c.args.space.now ms) same;
    }

pub loop-undos-preserved : goal.loop-undos-preserved
loop-undos-preserved c =
    let is = last_first c.loop-undos.items.items c.pop.new.self.items c.in-Some.field-0 c.in-Some.ensures.items in
    record {
      kept = kept_without c.loop-undos.space c.release_all.new.space _ c.in-Some.field-0 _ is c.release_all.ensures.kept c.loop-undos.invariant.kept;
      rest = released_without c.loop-undos.space c.release_all.new.space _ c.in-Some.field-0 _ is c.release_all.ensures.state ∙ c.loop-undos.invariant.rest;
    }

pub returns-clause-state : goal.returns-clause-state
returns-clause-state c =
    let empty : c.loop-undos.items.items ≡ [] = search rules in
    sym (released-none c.loop-undos.space)
    ∙ ap (λ (xs : List Item). released c.loop-undos.space (kept_by (reverse xs))) (sym empty)
    ∙ c.loop-undos.invariant.rest
