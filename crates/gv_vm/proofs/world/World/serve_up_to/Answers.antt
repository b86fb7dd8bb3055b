use Rattle.std.proofs.Common.{◌≡◌, ◌-◌, ◌+◌, sym, ◌∙◌, rules, true, false, arith, subst, ℕ}
use Rattle.gv_vm.specs.QueueTurns.{AreTurns}
use Rattle.gv_vm.proofs.QueueTurns.{turned_last, turned_on, served_before, served_now}
use Rattle.gv_vm.proofs.world.World.serve_up_to.Goals as goal

pub returns-then-number-told : goal.returns-then-number-told
returns-then-number-told c = served_before c.args.queue c.args.number c.next_number-told.result c.args.self.now c.next_number-told.ensures (omega arith)

pub loop-done-init : goal.loop-done-init
loop-done-init c = record {
  rest = λ result new turns. (let e : c.args.number - c.next_number-told.result - 0 ≡ c.args.number - c.next_number-told.result = omega arith in
      subst (λ (n : ℕ). AreTurns n c.args.queue c.args.number c.args.self.now result new) e turns);
}

pub loop-done-preserved : goal.loop-done-preserved
loop-done-preserved c =
    let remaining = c.args.number - c.next_number-told.result - c.loop-done.done in
    let e : c.is_earlier.result ≡ true = search rules in
    record {
      rest = λ result new turns.
          c.loop-done.invariant.rest result new
          (turned_on remaining c.args.queue c.args.number c.loop-done.self c.turn-turn.new.self new c.turn-turn.result result (omega arith) c.turn-turn.ensures (sym c.is_earlier.ensures ∙ e)
          (let s : c.args.number - c.next_number-told.result - (c.loop-done.done + 1) ≡ remaining - 1 = omega arith in subst (λ (n : ℕ). AreTurns n c.args.queue c.args.number c.turn-turn.new.self result new) s turns));
    }

pub returns-then-not-is_earlier : goal.returns-then-not-is_earlier
returns-then-not-is_earlier c =
    let remaining = c.args.number - c.next_number-told.result - c.loop-done.done in
    let e : c.is_earlier.result ≡ false = search rules in
    served_now c.args.queue c.args.number c.next_number-told.result c.args.self.now c.turn-turn.new.self c.turn-turn.result c.next_number-told.ensures (omega arith)
    (c.loop-done.invariant.rest c.turn-turn.result c.turn-turn.new.self
    (turned_last remaining c.args.queue c.args.number c.loop-done.self c.turn-turn.new.self c.turn-turn.result (omega arith) c.turn-turn.ensures (sym c.is_earlier.ensures ∙ e)))

pub returns : goal.returns
returns c =
    served_now c.args.queue c.args.number c.next_number-told.result c.args.self.now c.turn.new.self c.turn.result c.next_number-told.ensures (omega arith)
    (c.loop-done.invariant.rest c.turn.result c.turn.new.self
    (let z : 0 ≡ c.args.number - c.next_number-told.result - c.loop-done.done = omega arith in subst (λ (n : ℕ). AreTurns n c.args.queue c.args.number c.loop-done.self c.turn.result c.turn.new.self) z c.turn.ensures))
