use Rattle.std.proofs.Common.{◌≡◌, ◌-◌, true, take, drop, sym, inl, inr, rules}
use Rattle.gv_journal.proofs.ColumnsMatchItems.{reaches_between}
use Rattle.gv_journal.proofs.Blocks.{none_met, none_reached}
use Rattle.gv_journal.proofs.touching.first_reached.Goals as goal

pub returns-then-are_apart : goal.returns-then-are_apart
returns-then-are_apart c gone tell =
    let part = c.args.part.now in
    let start = c.args.start in
    let many = c.args.end - start in
    let apart : c.are_apart.result ≡ true = search rules in
    let beside = reaches_between many start part.firsts.now part.pasts.now part.regions.now part.items.now part.reaches in
    elim (c.are_apart.ensures apart) [
      | inl pages ↦ sym (none_met gone c.args.ops.now c.args.own.now c.requires.own c.args.from (take many (drop start part.firsts.now)) (take many (drop start part.pasts.now))
          (take many (drop start part.regions.now)) (take many (drop start part.items.now)) beside pages)
      | inr regions ↦ sym (none_reached gone c.args.ops.now c.args.own.now c.requires.own c.args.from (take many (drop start part.firsts.now)) (take many (drop start part.pasts.now))
          (take many (drop start part.regions.now)) (take many (drop start part.items.now)) beside regions)
    ]
