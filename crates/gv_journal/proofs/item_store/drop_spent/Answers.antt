use Rattle.std.proofs.Common.{◌≤◌, length, ◌∙◌, rules}
use Rattle.gv_journal.proofs.ItemStores.{last_spent, front_same}
use Rattle.gv_journal.proofs.item_store.drop_spent.Goals as goal

pub destroy_empty-requires : goal.destroy_empty-requires
destroy_empty-requires c =
    let within : c.args.held ≤ length c.take_last-undos.new.self.items = search rules in
    let empty = (last_spent c.args.held c.loop-items.items.items c.take_last-undos.new.self.items c.take_last-undos.result c.take_last-undos.ensures.items within c.loop-items.invariant.behind).0 in
    search rules

pub loop-items-preserved : goal.loop-items-preserved
loop-items-preserved c =
    let within : c.args.held ≤ length c.take_last-undos.new.self.items = search rules in
    record {
      within = search rules;
      front = front_same c.args.held c.loop-items.items.items c.take_last-undos.new.self.items c.take_last-undos.result c.take_last-undos.ensures.items within ∙ c.loop-items.invariant.front;
      behind = (last_spent c.args.held c.loop-items.items.items c.take_last-undos.new.self.items c.take_last-undos.result c.take_last-undos.ensures.items within c.loop-items.invariant.behind).1;
      capacity = c.take_last-undos.ensures.capacity ∙ c.loop-items.invariant.capacity;
    }
