use Rattle.std.proofs.Common.{◌≡◌, ◌∷◌, [], sym, ◌∙◌, rules, true, false, refl}
use Rattle.gv_vm.specs.declared.event.Event.TheVariants.{Bind}
use Rattle.gv_vm.specs.Plans.{carrying_out, nothing}
use Rattle.gv_vm.proofs.PlanLemmas.{goes_trans, carried_out, bound_goes_on, bound_stops, wants_first}
use Rattle.gv_vm.proofs.QueueTurns.{accepted_turn, ends, on_err}
use Rattle.gv_vm.proofs.world.World.carry_out.Goals as goal

pub returns-in_err-reply-clause-stopped : goal.returns-in_err-reply-clause-stopped
returns-in_err-reply-clause-stopped c = on_err c.from_residual.result _ c.from_residual.ensures.0 (
  [],
  λ points long. wants_first (carrying_out c.args.queue points) (Bind c.args.queue) _ _ _ refl c.in_err-reply.ensures.step,
)

pub returns-then-is_accepted-clause-carried : goal.returns-then-is_accepted-clause-carried
returns-then-is_accepted-clause-carried c =
    let reply = c.in_ok-reply.reply in
    let e : c.is_accepted.result ≡ true = search rules in
    let is = sym c.is_accepted.ensures ∙ e in
    let paid = c.pay_all.ensures in (
      reply ∷ paid.0,
      c.turn_in-turn.ensures ∙ sym (accepted_turn reply paid.0 is),
      λ points long.
          carried_out (carrying_out c.args.queue points) _ _ _ _ (ends c.pay_all.result)
          (goes_trans _ _ _ _ _ _ (reply ∷ []) paid.0
          (bound_goes_on c.args.queue points reply _ _ (c.in_ok-reply.ensures.step, (c.in_ok-reply.ensures.says.1, c.in_ok-reply.ensures.says.2)) is)
          (paid.2 points nothing long)),
    )

pub returns-clause-carried : goal.returns-clause-carried
returns-clause-carried c =
    let reply = c.in_ok-reply.reply in
    let e : c.is_accepted.result ≡ false = search rules in
    let is = sym c.is_accepted.ensures ∙ e in (
      reply ∷ [],
      c.turn_in-turn.ensures,
      λ points long.
          carried_out (carrying_out c.args.queue points) nothing _ _ _ refl
          (bound_stops c.args.queue points reply _ _ (c.in_ok-reply.ensures.step, (c.in_ok-reply.ensures.says.1, c.in_ok-reply.ensures.says.2)) is),
    )
