use Rattle.std.proofs.Common.{◌<◌, ◌≤◌, arith, sym, ◌∙◌}
use Rattle.gv_types.specs.declared.mapping.Backing.TheVariants.{Zero}
use Rattle.gv_space.specs.Counts.{less_kept}
use Rattle.gv_space.proofs.CountsOneByOne.{less_kept_counting, by_count_none, can_count, count_turn, count_end}
use Rattle.gv_space.proofs.counts.unkeep.Goals as goal
use Rattle.gv_space.proofs.counts.unkeep.Goals.{in-Buffer, in_default}

pub loop-mapping-init : goal.loop-mapping-init
loop-mapping-init c = sym (by_count_none less_kept c.args.buffers.now less_kept_counting)

pub unkeep-requires : goal.unkeep-requires
unkeep-requires c =
    can_count less_kept (λ b. b.kept) (λ b n. n ≤ b.kept) (λ n. 0 < n) less_kept_counting (λ b n k less fits. omega arith)
    c.args.buffers.now c.loop-mapping.buffers c.args.mappings.now c.loop-mapping.mapping-index c.mapping-item.result c.in-Buffer.id c.in-Buffer.page
    c.loop-mapping-test.true c.mapping-item.is (sym c.backing.ensures ∙ c.in-Buffer.is) c.requires.live c.requires.counted c.loop-mapping.invariant

pub loop-mapping-preserved : goal.loop-mapping-preserved
loop-mapping-preserved c =
    let turn = count_turn less_kept c.args.buffers.now c.loop-mapping.buffers c.match-backing.buffers c.args.mappings.now c.loop-mapping.mapping-index c.mapping-item.result in
    elim c.match-backing.branch [
      | in-Buffer w ↦ turn _ less_kept_counting c.loop-mapping-test.true c.mapping-item.is (sym c.backing.ensures ∙ w.in-Buffer.is) c.loop-mapping.invariant (w.buffers-is ∙ w.unkeep.ensures)
      | in_default w ↦ turn Zero less_kept_counting c.loop-mapping-test.true c.mapping-item.is (sym c.backing.ensures ∙ w.in_default.is) c.loop-mapping.invariant w.buffers-is
    ]

pub returns : goal.returns
returns c = count_end less_kept c.args.buffers.now c.loop-mapping.buffers c.args.mappings.now c.loop-mapping.mapping-index c.loop-mapping-test.false c.loop-mapping.invariant
