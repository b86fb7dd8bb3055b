use Rattle.std.proofs.Common.{◌≡◌, ap, ◌∙◌, refl, inl, inr}
use Rattle.gv_session.specs.Line.{plain}
use Rattle.gv_session.specs.State.{SessionState}
use Rattle.gv_session.proofs.LinesLemmas.{wrote_plain}
use Rattle.gv_session.proofs.StoppedLemmas.{on_err}
use Rattle.gv_serve.specs.DialogueLine.{turn_said, Turns}
use Rattle.gv_serve.proofs.queue_lines.turn.Goals as goal

pub returns-clause-done : goal.returns-clause-done
returns-clause-done c =
    let s = c.args.session.now in
    let ran = c.in_ok-turn.ensures in
    let turn = c.in_ok-turn.turn in
    let timelines : c.timelines.result.now.names ≡ s.timelines = c.timelines.ensures.names ∙ ap (λ (x : SessionState). x.timelines) ran.state in
    wrote_plain (Turns c.args.queue) s c.turn.new.self (turn_said s.timelines turn) c.args.out.now c.write_turn.new.out (rw timelines at c.in_ok-write_turn.ensures)
    (record { turn = turn; took = ran.turn; written = refl; state = ran.state })

pub returns-in_err-write_turn-clause-stopped : goal.returns-in_err-write_turn-clause-stopped
returns-in_err-write_turn-clause-stopped c =
    let ran = c.in_ok-turn.ensures in
    let turn = c.in_ok-turn.turn in
    on_err c.from_residual-in_err-write_turn.result _ (inl (inr (inr (
      plain (turn_said c.args.session.now.timelines turn),
      record { turn = turn; took = ran.turn; written = refl; state = ran.state },
    ))))
