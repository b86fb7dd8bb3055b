use Rattle.std.proofs.Common.{◌∙◌, arith, ap}
use mir.Val.{bool_byte}
use Rattle.gv_space.proofs.Rests.{rests_of_run, few_rests_of_run}
use Rattle.gv_space.proofs.space.refusal.count_rests.Goals as goal

pub returns-clause-value : goal.returns-clause-value
returns-clause-value c =
    rests_of_run c.args.list.now.mappings c.args.range c.args.index c.args.count c.len-len.ensures.laid_out c.requires
    c.get.result.now c.get-2.result.now c.clip-prev.result c.clip-next.result c.from.result c.from-2.result (omega (arith, c.if-count-eq0.false)) (c.get.ensures c.get.result.now) (c.get-2.ensures c.get-2.result.now)
    (rw c.first.ensures.value at c.clip-prev.ensures) (rw c.end.ensures.value at c.clip-next.ensures) (c.from.ensures ∙ ap bool_byte c.is_some.ensures) (c.from-2.ensures ∙ ap bool_byte c.is_some-2.ensures)

pub returns-clause-few : goal.returns-clause-few
returns-clause-few c =
    omega (arith, returns-clause-value c, few_rests_of_run c.args.list.now.mappings c.args.range c.args.index c.args.count c.len-len.ensures.laid_out c.requires)
