use Rattle.std.proofs.Common.{◌≡◌, ◌∷◌, [], sym, ◌∙◌, rules, true, false, refl}
use Rattle.gv_vm.specs.Plans.{nothing, taking, looks}
use Rattle.gv_vm.specs.QueueTurns.{going_on}
use Rattle.gv_vm.proofs.PlanLemmas.{carried_out, carried_out_behind, stopped_behind, taken_goes_on, taken_stops}
use Rattle.gv_vm.proofs.QueueTurns.{then_if_ok, then_on_err, in_hand_goes, taken_is, out_as, stopped_as, take_quiet, quiet_idle, behind_quiet}
use Rattle.gv_vm.proofs.world.World.go_on.Goals as goal

pub returns-then-remaining-clause-went : goal.returns-then-remaining-clause-went
returns-then-remaining-clause-went c =
    let here : c.args.remaining.in_hand ≡ true = search rules in
    then_if_ok c.serve_hand.result _ _ (λ turn done. (
      done.0,
      done.1,
      λ hand waiting is.
          let at = in_hand_goes c.args.gives_up c.args.queue hand waiting c.args.remaining here is in
          out_as (going_on c.args.gives_up c.args.queue hand waiting) _ _ _ _ at.3 (done.2 at.0 at.1 at.2),
    )) c.serve_hand.ensures.served

pub returns-then-remaining-clause-stopped : goal.returns-then-remaining-clause-stopped
returns-then-remaining-clause-stopped c =
    let here : c.args.remaining.in_hand ≡ true = search rules in
    then_on_err c.serve_hand.result _ _ (λ done. (
      done.0,
      λ hand waiting is.
          let at = in_hand_goes c.args.gives_up c.args.queue hand waiting c.args.remaining here is in
          stopped_as (going_on c.args.gives_up c.args.queue hand waiting) _ _ _ _ at.3 (done.1 at.0 at.1 at.2),
    )) c.serve_hand.ensures.stopped

pub returns-then-not-is_taken-clause-went : goal.returns-then-not-is_taken-clause-went
returns-then-not-is_taken-clause-went c =
    let waits : c.args.remaining.in_hand ≡ false = search rules in
    let e : c.is_taken.result ≡ false = search rules in
    let reply = c.in_ok-reply.reply in
    let quiet = take_quiet c.args.queue reply _ _ c.in_ok-reply.ensures.step in (
      reply ∷ [],
      sym (quiet_idle (reply ∷ []) quiet),
      λ hand waiting is.
          let at = taken_is c.args.gives_up c.args.queue hand waiting c.args.remaining waits is in
          out_as (going_on c.args.gives_up c.args.queue hand waiting) _ _ _ _ at.2
          (carried_out (taking c.args.gives_up c.args.queue at.0) nothing _ _ _ refl
          (taken_stops c.args.gives_up c.args.queue at.0 reply _ _ (c.in_ok-reply.ensures.step, (c.in_ok-reply.ensures.says.1, c.in_ok-reply.ensures.says.2)) (sym c.is_taken.ensures ∙ e))),
    )

pub returns-clause-went : goal.returns-clause-went
returns-clause-went c =
    let waits : c.args.remaining.in_hand ≡ false = search rules in
    let e : c.is_taken.result ≡ true = search rules in
    let reply = c.in_ok-reply.reply in
    let quiet = take_quiet c.args.queue reply _ _ c.in_ok-reply.ensures.step in
    then_if_ok c.serve_hand-2.result _ _ (λ turn done. (
      reply ∷ done.0,
      behind_quiet (reply ∷ []) done.0 turn quiet done.1,
      λ hand waiting is.
          let at = taken_is c.args.gives_up c.args.queue hand waiting c.args.remaining waits is in
          out_as (going_on c.args.gives_up c.args.queue hand waiting) _ _ _ _ at.2
          (carried_out_behind (taking c.args.gives_up c.args.queue at.0) (looks c.args.gives_up c.args.queue at.0.waits.items at.0.signals.items) _ _ _ (reply ∷ []) done.0
          (taken_goes_on c.args.gives_up c.args.queue at.0 reply _ _ (c.in_ok-reply.ensures.step, (c.in_ok-reply.ensures.says.1, c.in_ok-reply.ensures.says.2)) (sym c.is_taken.ensures ∙ e))
          (done.2 at.0.waits.items at.0.signals.items at.1)),
    )) c.serve_hand-2.ensures.served

pub returns-clause-stopped : goal.returns-clause-stopped
returns-clause-stopped c =
    let waits : c.args.remaining.in_hand ≡ false = search rules in
    let e : c.is_taken.result ≡ true = search rules in
    let reply = c.in_ok-reply.reply in
    then_on_err c.serve_hand-2.result _ _ (λ done. (
      reply ∷ done.0,
      λ hand waiting is.
          let at = taken_is c.args.gives_up c.args.queue hand waiting c.args.remaining waits is in
          stopped_as (going_on c.args.gives_up c.args.queue hand waiting) _ _ _ _ at.2
          (stopped_behind (taking c.args.gives_up c.args.queue at.0) (looks c.args.gives_up c.args.queue at.0.waits.items at.0.signals.items) _ _ _ (reply ∷ []) done.0
          (taken_goes_on c.args.gives_up c.args.queue at.0 reply _ _ (c.in_ok-reply.ensures.step, (c.in_ok-reply.ensures.says.1, c.in_ok-reply.ensures.says.2)) (sym c.is_taken.ensures ∙ e))
          (done.1 at.0.waits.items at.0.signals.items at.1)),
    )) c.serve_hand-2.ensures.stopped
