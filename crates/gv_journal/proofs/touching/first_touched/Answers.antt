use Rattle.std.proofs.Common.{◌≡◌, ◌+◌, ◌-◌, ◌≤◌, true, false, length, arith, rules}
use Rattle.std.specs.Prelude.{is_some}
use Rattle.gv_journal.proofs.Blocks.{gone_part, block_found, block_passed}
use Rattle.gv_journal.proofs.touching.first_touched.Goals as goal

pub returns-then-is_some : goal.returns-then-is_some
returns-then-is_some c gone tell =
    let part = c.args.part.now in
    let s = c.loop-start.start in
    let within : s + 8 ≤ length part.items.now = omega arith in
    let some : is_some c.first_reached-found.result ≡ true = search rules in
    block_found gone c.args.ops.now c.args.from s (s + 8) part.items.now c.first_reached-found.result (omega arith) (omega arith)
    (c.first_reached-found.ensures gone (gone_part gone c.args.from part.notes.now s (s + 8 - s) (omega (arith, within, part.beside)) tell)) (c.loop-start.invariant.rest gone tell) some

pub loop-start-preserved : goal.loop-start-preserved
loop-start-preserved c =
    let part = c.args.part.now in
    let s = c.loop-start.start in
    let inside : s + 8 ≤ length part.items.now = omega arith in
    record {
      within = inside;
      rest = λ gone tell.
          let none : is_some c.first_reached-found.result ≡ false = search rules in
          block_passed gone c.args.ops.now c.args.from s (s + 8) part.items.now c.first_reached-found.result (omega arith) (omega arith)
          (c.first_reached-found.ensures gone (gone_part gone c.args.from part.notes.now s (s + 8 - s) (omega (arith, inside, part.beside)) tell)) (c.loop-start.invariant.rest gone tell) none;
    }
