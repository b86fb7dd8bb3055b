use Rattle.std.proofs.Common.{◌≡◌, ◌∙◌, List, ap, subst, reverse}
use Rattle.gv_types.specs.declared.request.Point.{Point}
use Rattle.gv_sync.specs.Sights.{Sight}
use Rattle.gv_vm.specs.World.{HandState}
use Rattle.gv_vm.specs.BindOutcome.{IsBoundAndTold, seen_by}
use Rattle.gv_vm.specs.Step.{owed_for}
use Rattle.gv_vm.proofs.TurnsAreSteps.{owed_last_first}
use Rattle.gv_vm.proofs.world.requests.bind_hand.Goals as goal

pub returns-in-Ok-bind-clause-carried : goal.returns-in-Ok-bind-clause-carried
returns-in-Ok-bind-clause-carried c =
    subst (λ (h : HandState). IsBoundAndTold c.args.vm.now c.bind.new.self c.args.queue c.args.number h.request (seen_by h.reached) c.in-Ok-bind.outcome) c.hand.view_is
    (subst (λ (ss : List Sight). IsBoundAndTold c.args.vm.now c.bind.new.self c.args.queue c.args.number c.hand.inside.request (seen_by ss) c.in-Ok-bind.outcome) c.deref-2.ensures.value c.in-Ok-bind.ensures.outcome)

pub returns-in-Ok-bind-clause-owed : goal.returns-in-Ok-bind-clause-owed
returns-in-Ok-bind-clause-owed c =
    let items : c.in-Ok.signals.items ≡ reverse c.hand.inside.request.signals.items = c.in-Ok.ensures ∙ ap (λ (ps : List Point). reverse ps) c.deref.ensures.value in
    subst (λ (h : HandState). reverse c.owed.result.items ≡ owed_for h.request c.in-Ok-bind.outcome) c.hand.view_is
    (ap (λ (ps : List Point). reverse ps) c.owed.ensures ∙ owed_last_first c.hand.inside.request c.in-Ok-bind.outcome c.in-Ok.signals.items items)
