use Rattle.std.proofs.Common.{arith}
use Rattle.gv_table.specs.Levels.{slot_pages}
use Rattle.gv_table.proofs.PagesOf.{pages_of-top}
use Rattle.gv_table.proofs.RangesMeet.{meets-from}
use Rattle.gv_table.proofs.paint.paint_tree.Goals as goal

pub paint_slot-requires-clause-in_space : goal.paint_slot-requires-clause-in_space
paint_slot-requires-clause-in_space c = let all = pages_of-top in omega (arith, all)

pub paint_slot-requires-clause-met : goal.paint_slot-requires-clause-met
paint_slot-requires-clause-met c =
    let all = pages_of-top in
    let some = c.first.ensures.in_space in
    meets-from (slot_pages 5 0) c.args.excerpt.now.range (omega (arith, some)) (omega (arith, all, some))

pub paint_slot-requires-clause-part : goal.paint_slot-requires-clause-part
paint_slot-requires-clause-part c =
    let all = pages_of-top in
    record {
      counted = λ target. let e = c.requires.counted target in omega (arith, e);
      room = λ target. let e = c.requires.counted target in omega (arith, all, e);
    }
