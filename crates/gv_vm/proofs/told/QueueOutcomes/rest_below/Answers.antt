use Rattle.std.proofs.Common.{◌≡◌, ◌-◌, ◌++◌, min, length, take, drop, replicate, arith, refl, sym, ◌∙◌, ap, subst}
use Rattle.gv_vm.specs.Outcomes.{forgotten_outcome}
use Rattle.gv_vm.specs.QueueOutcomes.{QueueOutcomesState, told_of}
use Rattle.gv_vm.proofs.OutcomeLists.{blanks_then_rest}
use Rattle.gv_vm.proofs.told.QueueOutcomes.rest_below.Goals as goal

pub returns : goal.returns
returns c =
    let rest = c.rest-rest.result.now in
    let first = c.self.inside.first in
    let count : c.min-count.result ≡ min (c.args.to - first) (length rest) = omega (arith, c.min-count.ensures, c.saturating_sub.ensures) in
    subst (λ (t : QueueOutcomesState). take c.args.to t.list ≡ replicate (min c.args.to t.forgotten) forgotten_outcome ++ take c.min-count.result rest) c.self.view_is
    (blanks_then_rest first c.args.to c.min-count.result (told_of c.self.inside).list rest (drop c.self.inside.gone c.self.inside.outcomes.items) refl
    (c.rest-rest.ensures ∙ ap (λ (t : QueueOutcomesState). drop t.forgotten t.list) (sym c.self.view_is)) count)
