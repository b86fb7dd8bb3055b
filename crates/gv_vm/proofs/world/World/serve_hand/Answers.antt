use Rattle.std.proofs.Common.{◌≡◌, ◌++◌, ◌∷◌, [], sym, ap, ◌∙◌, rules, true, false, refl}
use Rattle.gv_vm.specs.declared.event.Event.TheVariants.{GiveUp}
use Rattle.gv_vm.specs.declared.event.Reply.TheVariants.{Lacking}
use Rattle.gv_vm.specs.Plans.{looks, lacking, carrying_out, nothing, once}
use Rattle.gv_vm.specs.QueueTurns.{turn_of}
use Rattle.gv_vm.proofs.PlanLemmas.{goes_trans, goes_as, carried_out, carried_out_behind, stopped_behind, gives_up, wants_first}
use Rattle.gv_vm.proofs.QueueTurns.{on_err, then_if_ok, then_on_err, stays, goes_away, given_up, quiet_idle}
use Rattle.gv_vm.proofs.world.World.serve_hand.Goals as goal

pub returns-in_err-look_all-clause-stopped : goal.returns-in_err-look_all-clause-stopped
returns-in_err-look_all-clause-stopped c =
    let seen = c.in_err-look_all.ensures.stopped in
    on_err c.from_residual.result _ c.from_residual.ensures.0 (seen.0, λ waits signals remaining. seen.1 c.args.gives_up waits signals remaining.0)

pub returns-in-NoneLacked-clause-served : goal.returns-in-NoneLacked-clause-served
returns-in-NoneLacked-clause-served c =
    let seen = rw c.in-NoneLacked.is at c.in_ok-look_all.ensures.looked in
    then_if_ok c.carry_out.result _ _ (λ turn done. (
      seen.0 ++ done.0,
      done.1 ∙ sym (seen.1 done.0),
      λ waits signals remaining.
          carried_out_behind (looks c.args.gives_up c.args.queue waits signals) (carrying_out c.args.queue signals) _ _ _ seen.0 done.0
          (seen.2 c.args.gives_up waits signals remaining.0) (done.2 signals remaining.1),
    )) c.carry_out.ensures.carried

pub returns-in-NoneLacked-clause-stopped : goal.returns-in-NoneLacked-clause-stopped
returns-in-NoneLacked-clause-stopped c =
    let seen = rw c.in-NoneLacked.is at c.in_ok-look_all.ensures.looked in
    then_on_err c.carry_out.result _ _ (λ done. (
      seen.0 ++ done.0,
      λ waits signals remaining.
          stopped_behind (looks c.args.gives_up c.args.queue waits signals) (carrying_out c.args.queue signals) _ _ _ seen.0 done.0
          (seen.2 c.args.gives_up waits signals remaining.0) (done.1 signals remaining.1),
    )) c.carry_out.ensures.stopped

pub returns-then-not-gives_up-clause-served : goal.returns-then-not-gives_up-clause-served
returns-then-not-gives_up-clause-served c =
    let seen = rw c.in-Lacks.is at c.in_ok-look_all.ensures.looked in
    let no : c.args.gives_up ≡ false = search rules in (
      seen.0,
      sym (ap turn_of seen.1.2 ∙ seen.1.1 (Lacking c.in-Lacks.point c.in-Lacks.have ∷ [])),
      λ waits signals remaining.
          carried_out (looks c.args.gives_up c.args.queue waits signals) (lacking c.args.gives_up c.args.queue) _ _ _
          (stays c.args.gives_up c.args.queue no) (seen.2 c.args.gives_up waits signals remaining.0),
    )

pub returns-in_err-reply-in-Lacks-clause-stopped : goal.returns-in_err-reply-in-Lacks-clause-stopped
returns-in_err-reply-in-Lacks-clause-stopped c =
    let seen = rw c.in-Lacks.is at c.in_ok-look_all.ensures.looked in
    let yes : c.args.gives_up ≡ true = search rules in
    on_err c.from_residual-in_err-reply-in-Lacks.result _ c.from_residual-in_err-reply-in-Lacks.ensures.0 (
      seen.0 ++ [],
      λ waits signals remaining.
          stopped_behind (looks c.args.gives_up c.args.queue waits signals) (lacking c.args.gives_up c.args.queue) _ _ _ seen.0 []
          (seen.2 c.args.gives_up waits signals remaining.0)
          (wants_first (lacking c.args.gives_up c.args.queue) (GiveUp c.args.queue) _ _ _ (goes_away c.args.gives_up c.args.queue yes []) c.in_err-reply-in-Lacks.ensures.step),
    )

pub returns-in_ok-reply-in-Lacks-clause-served : goal.returns-in_ok-reply-in-Lacks-clause-served
returns-in_ok-reply-in-Lacks-clause-served c =
    let seen = rw c.in-Lacks.is at c.in_ok-look_all.ensures.looked in
    let yes : c.args.gives_up ≡ true = search rules in
    let reply = c.in_ok-reply-in-Lacks.reply in (
      seen.0 ++ reply ∷ [],
      c.turn_in.ensures ∙ sym (given_up seen.0 seen.1.0 c.in-Lacks.point c.in-Lacks.have reply seen.1.2 seen.1.1),
      λ waits signals remaining.
          carried_out (looks c.args.gives_up c.args.queue waits signals) nothing _ _ _ refl
          (goes_trans _ _ _ _ _ _ seen.0 (reply ∷ []) (goes_as _ _ (once (GiveUp c.args.queue)) _ _ _ (goes_away c.args.gives_up c.args.queue yes) (seen.2 c.args.gives_up waits signals remaining.0))
          (gives_up c.args.queue reply _ _ (c.in_ok-reply-in-Lacks.ensures.step, (c.in_ok-reply-in-Lacks.ensures.says.1, c.in_ok-reply-in-Lacks.ensures.says.2)))),
    )

pub returns-in-Other-clause-served : goal.returns-in-Other-clause-served
returns-in-Other-clause-served c =
    let seen = rw c.in-Other.is at c.in_ok-look_all.ensures.looked in (
      seen.0,
      sym (quiet_idle seen.0 seen.1),
      λ waits signals remaining.
          carried_out (looks c.args.gives_up c.args.queue waits signals) nothing _ _ _ refl (seen.2 c.args.gives_up waits signals remaining.0),
    )
