use Rattle.std.proofs.Common.{◌≤◌, ◌++◌, drop, replicate, sym, ◌∙◌, ap, subst}
use Rattle.gv_vm.specs.Outcomes.{forgotten_outcome}
use Rattle.gv_vm.specs.QueueOutcomes.{QueueOutcomesState}
use Rattle.gv_vm.proofs.OutcomeLists.{gone_more}
use Rattle.gv_vm.proofs.told.QueueOutcomes.forget.Goals as goal

pub returns-then-len-self-clause-list : goal.returns-then-len-self-clause-list
returns-then-len-self-clause-list c =
    let low : c.self.inside.first ≤ c.args.to = subst (λ (t : QueueOutcomesState). t.forgotten ≤ c.args.to) (sym c.self.view_is) c.requires.from in
    c.compact.ensures.list
    ∙ gone_more c.self.inside.first c.self.inside.gone c.args.to c.self.inside.outcomes.items low
    ∙ ap (λ (t : QueueOutcomesState). replicate c.args.to forgotten_outcome ++ drop c.args.to t.list) c.self.view_is

pub returns-else-len-self-clause-list : goal.returns-else-len-self-clause-list
returns-else-len-self-clause-list c =
    let low : c.self.inside.first ≤ c.args.to = subst (λ (t : QueueOutcomesState). t.forgotten ≤ c.args.to) (sym c.self.view_is) c.requires.from in
    gone_more c.self.inside.first c.self.inside.gone c.args.to c.self.inside.outcomes.items low
    ∙ ap (λ (t : QueueOutcomesState). replicate c.args.to forgotten_outcome ++ drop c.args.to t.list) c.self.view_is
