use Rattle.std.proofs.Common.{◌≡◌, ◌++◌, ◌∷◌, [], sym, ap, ◌∙◌, arith}
use Rattle.gv_vm.specs.declared.event.LookResult.TheVariants.{NoneLacked, Lacked, Other}
use Rattle.gv_vm.specs.TurnParts.{seen_as}
use Rattle.gv_vm.specs.Plans.{looked_of, carrying_out}
use Rattle.gv_vm.proofs.PlanLemmas.{goes_nil, goes_trans, goes_as, look_goes_on, look_stops, looks_done, stopped_behind, wants_look}
use Rattle.gv_vm.proofs.QueueTurns.{quiet_nil, quiet-append, look_quiet, seen_looked, lacks_is, on_err}
use Rattle.gv_vm.proofs.world.World.look_all.Goals as goal

pub loop-done-init : goal.loop-done-init
loop-done-init c = record {
  replies = [];
  quiet = quiet_nil;
  goes = λ gives_up points signals is. goes_nil _ _;
}

pub loop-done-preserved : goal.loop-done-preserved
loop-done-preserved c =
    let reply = c.in_ok-reply.reply in
    let is : looked_of reply ≡ NoneLacked = seen_looked reply ∙ ap seen_as (sym c.in-NoneLacked.ensures) in
    record {
      replies = c.loop-done.invariant.replies ++ reply ∷ [];
      quiet = quiet-append c.loop-done.invariant.replies (reply ∷ []) c.loop-done.invariant.quiet (look_quiet c.args.queue reply _ _ c.in_ok-reply.ensures.step (λ same. let e = sym is ∙ same in cc));
      goes = λ gives_up points signals long.
          goes_trans _ _ _ _ _ _ _ _ (c.loop-done.invariant.goes gives_up points signals long)
          (look_goes_on gives_up c.args.queue c.loop-done.done points signals reply _ _ (omega arith) (c.in_ok-reply.ensures.step, (c.in_ok-reply.ensures.says.1, c.in_ok-reply.ensures.says.2)) is);
    }

pub returns-clause-looked : goal.returns-clause-looked
returns-clause-looked c = (
  c.loop-done.invariant.replies,
  c.loop-done.invariant.quiet,
  λ gives_up points signals long.
      goes_as _ _ (carrying_out c.args.queue signals) _ _ _ (λ later. looks_done gives_up c.args.queue c.loop-done.done points signals later (omega arith))
      (c.loop-done.invariant.goes gives_up points signals long),
)

pub returns-in-Lacks-clause-looked : goal.returns-in-Lacks-clause-looked
returns-in-Lacks-clause-looked c =
    let reply = c.in_ok-reply.reply in
    let is : looked_of reply ≡ Lacked = seen_looked reply ∙ ap seen_as (sym c.in-Lacks.ensures) in (
      c.loop-done.invariant.replies ++ reply ∷ [],
      (c.loop-done.invariant.replies, c.loop-done.invariant.quiet, (let same = lacks_is reply c.in-Lacks.point c.in-Lacks.have (sym c.in-Lacks.ensures) in ap (λ r. c.loop-done.invariant.replies ++ r ∷ []) same)),
      λ gives_up points signals long.
          goes_trans _ _ _ _ _ _ _ _ (c.loop-done.invariant.goes gives_up points signals long)
          (look_stops gives_up c.args.queue c.loop-done.done points signals reply Lacked _ _ (omega arith) (c.in_ok-reply.ensures.step, (c.in_ok-reply.ensures.says.1, c.in_ok-reply.ensures.says.2)) is (λ same. cc)),
    )

pub returns-in-Other-clause-looked : goal.returns-in-Other-clause-looked
returns-in-Other-clause-looked c =
    let reply = c.in_ok-reply.reply in
    let is : looked_of reply ≡ Other = seen_looked reply ∙ ap seen_as (sym c.in-Other.ensures) in (
      c.loop-done.invariant.replies ++ reply ∷ [],
      quiet-append c.loop-done.invariant.replies (reply ∷ []) c.loop-done.invariant.quiet (look_quiet c.args.queue reply _ _ c.in_ok-reply.ensures.step (λ same. let e = sym is ∙ same in cc)),
      λ gives_up points signals long.
          goes_trans _ _ _ _ _ _ _ _ (c.loop-done.invariant.goes gives_up points signals long)
          (look_stops gives_up c.args.queue c.loop-done.done points signals reply Other _ _ (omega arith) (c.in_ok-reply.ensures.step, (c.in_ok-reply.ensures.says.1, c.in_ok-reply.ensures.says.2)) is (λ same. cc)),
    )

pub returns-in_err-reply-clause-stopped : goal.returns-in_err-reply-clause-stopped
returns-in_err-reply-clause-stopped c = on_err c.from_residual.result _ c.from_residual.ensures.0 (
  c.loop-done.invariant.replies ++ [],
  λ gives_up points signals long.
      stopped_behind _ _ _ _ _ _ _ (c.loop-done.invariant.goes gives_up points signals long)
      (wants_look gives_up c.args.queue c.loop-done.done points signals _ c.loop-done.self c.step.new.self (omega arith) c.in_err-reply.ensures.step),
)
