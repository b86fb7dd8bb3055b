use Rattle.std.proofs.Common.{◌≡◌, ◌++◌, ◌∷◌, [], sym, ◌∙◌, arith, rules, true, false}
use Rattle.gv_vm.proofs.PlanLemmas.{goes_nil, goes_trans, goes_as, pay_goes_on, pay_stops, paying_done}
use Rattle.gv_vm.proofs.QueueTurns.{quiet_nil, quiet-append, pay_quiet}
use Rattle.gv_vm.proofs.world.World.pay_all.Goals as goal

pub loop-done-init : goal.loop-done-init
loop-done-init c = record {
  replies = [];
  quiet = quiet_nil;
  goes = λ points next is. goes_nil _ _;
}

pub loop-done-preserved : goal.loop-done-preserved
loop-done-preserved c =
    let reply = c.in-Ok.reply in
    let e : c.is_raised.result ≡ true = search rules in
    let is = sym c.is_raised.ensures ∙ e in
    record {
      replies = c.loop-done.invariant.replies ++ reply ∷ [];
      quiet = quiet-append c.loop-done.invariant.replies (reply ∷ []) c.loop-done.invariant.quiet (pay_quiet c.args.queue reply _ _ c.in-Ok.ensures.step);
      goes = λ points next long.
          goes_trans _ _ _ _ _ _ _ _ (c.loop-done.invariant.goes points next long)
          (pay_goes_on c.args.queue c.loop-done.done points next reply _ _ (omega arith) (c.in-Ok.ensures.step, (c.in-Ok.ensures.says.1, c.in-Ok.ensures.says.2)) is);
    }

pub returns-then-not-is_raised : goal.returns-then-not-is_raised
returns-then-not-is_raised c =
    let reply = c.in-Ok.reply in
    let e : c.is_raised.result ≡ false = search rules in
    let is = sym c.is_raised.ensures ∙ e in (
      c.loop-done.invariant.replies ++ reply ∷ [],
      quiet-append c.loop-done.invariant.replies (reply ∷ []) c.loop-done.invariant.quiet (pay_quiet c.args.queue reply _ _ c.in-Ok.ensures.step),
      λ points next long.
          goes_trans _ _ _ _ _ _ _ _ (c.loop-done.invariant.goes points next long)
          (pay_stops c.args.queue c.loop-done.done points next reply _ _ (omega arith) (c.in-Ok.ensures.step, (c.in-Ok.ensures.says.1, c.in-Ok.ensures.says.2)) is),
    )

pub returns : goal.returns
returns c = (
  c.loop-done.invariant.replies,
  c.loop-done.invariant.quiet,
  λ points next long.
      goes_as _ _ next _ _ _ (λ later. paying_done c.args.queue c.loop-done.done points next later (omega arith)) (c.loop-done.invariant.goes points next long),
)
