use Rattle.std.proofs.Common.{◌≡◌, ℕ, ◌+◌, ◌-◌, length, reverse, arith, subst}
use Rattle.gv_journal.specs.Applying.{all_do}
use Rattle.gv_journal.specs.Work.{HasRoom}
use Rattle.gv_journal.proofs.Verdicts.{refused_at_turn, verdict_more, all_do_more}
use Rattle.gv_journal.proofs.Growing.{grows_at_turn, grows_back}
use Rattle.gv_journal.proofs.applying.apply_all.Goals as goal

pub returns-in-Err-apply_op-clause-refused : goal.returns-in-Err-apply_op-clause-refused
returns-in-Err-apply_op-clause-refused c =
    refused_at_turn c.args.space.now c.loop-index.space c.loop-index.work.ops.items c.args.ops.now c.loop-index.index c.index-ops-index.result c.in-Err-apply_op.fault
    c.loop-index-test.true c.index-ops-index.is c.loop-index.invariant.applied.state c.loop-index.invariant.verdict c.in-Err-apply_op.ensures.err

pub returns-in-Err-apply_op-clause-grown : goal.returns-in-Err-apply_op-clause-grown
returns-in-Err-apply_op-clause-grown c =
    grows_back (all_do c.args.space.now.mappings c.args.ops.now) c.args.space.now c.apply_op.new.space c.give_back.new.space (reverse c.apply_op.new.work.undos.items)
    (grows_at_turn c.args.space.now c.loop-index.space c.apply_op.new.space c.loop-index.work.ops.items c.args.ops.now c.loop-index.index c.index-ops-index.result c.loop-index-test.true c.index-ops-index.is
    c.loop-index.invariant.applied.state c.loop-index.invariant.ops c.loop-index.invariant.grown c.apply_op.ensures.grown)
    c.give_back.ensures

pub loop-index-preserved : goal.loop-index-preserved
loop-index-preserved c =
    let i = c.loop-index.index in
    let ops = c.args.ops.now in
    let remaining : length ops - i - 1 ≡ length ops - (i + 1) = omega arith in
    record {
      applied = c.in-Ok-apply_op.ensures.continues c.args.space.now c.loop-index.invariant.applied;
      verdict = verdict_more c.args.space.now c.loop-index.space c.loop-index.work.ops.items c.apply_op.new.work.ops.items ops i c.index-ops-index.result c.loop-index-test.true c.index-ops-index.is
          c.loop-index.invariant.applied.state c.loop-index.invariant.verdict c.in-Ok-apply_op.ensures.ok c.in-Ok-apply_op.ensures.ops;
      ops = all_do_more c.args.space.now c.loop-index.space c.loop-index.work.ops.items c.apply_op.new.work.ops.items ops i c.index-ops-index.result c.loop-index-test.true c.index-ops-index.is
          c.loop-index.invariant.ops c.apply_op.new.space c.in-Ok-apply_op.ensures.state c.in-Ok-apply_op.ensures.ops;
      grown = grows_at_turn c.args.space.now c.loop-index.space c.apply_op.new.space c.loop-index.work.ops.items ops i c.index-ops-index.result c.loop-index-test.true c.index-ops-index.is
          c.loop-index.invariant.applied.state c.loop-index.invariant.ops c.loop-index.invariant.grown c.apply_op.ensures.grown;
      room = subst (λ (n : ℕ). HasRoom n c.apply_op.new.work) remaining c.in-Ok-apply_op.ensures.room;
    }
