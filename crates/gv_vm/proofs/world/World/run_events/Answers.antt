use Rattle.std.proofs.Common.{◌≡◌, ◌∷◌, [], ◌++◌, List, length, inr, refl, sym, ap, subst, ◌∙◌, append_assoc, arith}
use Rattle.std.specs.Vec.Iter.{into_iter_items}
use Rattle.gv_vm.specs.Headline.{Says, Headline}
use Rattle.gv_vm.specs.declared.event.Reply.{Reply}
use Rattle.gv_vm.proofs.EventRuns.{RunsWith-more}
use Rattle.gv_vm.proofs.world.World.run_events.Goals as goal

pub returns-in-Err-clause-stopped : goal.returns-in-Err-clause-stopped
returns-in-Err-clause-stopped c = record {
  ran = [];
  rest = c.args.events.items;
  events_are = refl;
  runs = subst (λ (replies : List Reply). Headline c.args.self.now [] replies c.args.self.now) (sym c.new.ensures.items) refl;
  wanted = inr c.new.ensures.items;
}

pub loop-event-preserved : goal.loop-event-preserved
loop-event-preserved c =
    let at = c.loop-event in
    let x = c.in-Some.event in
    let steps : into_iter_items at.event-iterator ≡ x ∷ into_iter_items c.next.new.self = c.in-Some.ensures.steps.0 in
    let short = ap length steps in
    let gone = c.in-Some.ensures.steps.1 in
    let was = at.invariant.left in
    record {
      events = append_assoc at.yielded (x ∷ []) _ ∙ rw (← steps) at.invariant.events;
      ran =
          let more : Headline c.args.self.now (at.yielded ++ x ∷ []) (at.replies.items ++ c.in-Ok-step.reply ∷ []) c.step.new.self =
          RunsWith-more Says c.args.self.now at.self c.step.new.self at.yielded at.replies.items x c.in-Ok-step.reply at.invariant.ran c.in-Ok-step.ensures.step c.in-Ok-step.ensures.says in
          subst (λ (replies : List Reply). Headline c.args.self.now (at.yielded ++ x ∷ []) replies c.step.new.self) (sym c.push_reserved.ensures.items) more;
      left = omega arith;
      room = let room = at.invariant.room in omega arith;
    }
