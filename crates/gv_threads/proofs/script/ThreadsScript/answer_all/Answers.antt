use Rattle.std.proofs.Common.{Err, ◌≡◌, ◌<◌, ◌∙◌, ◌++◌, List, ℕ, length, get_or, take, ap, sym, subst, take_all, rules}
use Rattle.std.specs.Io.KnownBytes.{Appends, append_known}
use Rattle.std.proofs.KnownBytes.{Appends-trans}
use Rattle.gv_sync.specs.Seats.{SeatState}
use Rattle.gv_lines.specs.declared.line.Line.{Line}
use Rattle.gv_session.specs.State.{BufferNamesState}
use Rattle.gv_session.specs.declared.fault.LineFault.{LineFault}
use Rattle.gv_session.specs.declared.fault.ScriptFault.TheVariants.{BadLine}
use Rattle.gv_threads.specs.Naming.{HasNames, IsFirstBad}
use Rattle.gv_threads.specs.Parts.{unnumbered}
use Rattle.gv_threads.specs.Running.{AreAnswered, IsAnswered}
use Rattle.gv_threads.proofs.LastPart.{asked_at, same_answer}
use Rattle.gv_threads.proofs.UndeclaredNames.{answered_has, bad_at, first_bad, good_next}
use Rattle.gv_threads.proofs.OneLineMore.{answered_more, unnumbered_next}
use Rattle.gv_threads.proofs.script.ThreadsScript.answer_all.Goals as goal

pub ask-done-requires-clause-asked : goal.ask-done-requires-clause-asked
ask-done-requires-clause-asked g c =
    let below : c.loop-number.number-index < length c.args.self.now.questions = search rules in
    let is : c.loop-number-item.result ≡ get_or c.args.self.now.questions c.loop-number.number-index c.loop-number-item.result = search rules in
    asked_at c.args.self.now.questions c.loop-number.number-index c.loop-number-item.result below is c.requires.asked

pub loop-number-preserved : goal.loop-number-preserved
loop-number-preserved g c =
    let inv = c.loop-number.invariant in
    let k : ℕ = c.loop-number.number-index in
    let questions : List (ℕ × Line) = c.args.self.now.questions in
    let item : ℕ × Line = c.loop-number-item.result in
    let below : k < length questions = search rules in
    let is : item ≡ get_or questions k item = search rules in
    let found = c.in_default.ensures.done in
    let first : SeatState = c.args.harness.now.seat in
    let old : SeatState = c.loop-number.harness.seat in
    let new : SeatState = c.ask-done.new.harness.seat in
    let names : c.self.inside.timelines.names ≡ c.args.self.now.timelines = search rules in
    let inside : IsAnswered c.args.harness.now.buffers.entries c.self.inside.timelines.names c.args.harness.now.vm old item.1 found.0 new =
    same_answer item.1 c.loop-number.harness.buffers c.args.harness.now.buffers c.self.inside.timelines.names c.loop-number.harness.vm c.args.harness.now.vm old new found.0 inv.buffers inv.vm found.1 in
    let here : IsAnswered c.args.harness.now.buffers.entries c.args.self.now.timelines c.args.harness.now.vm old item.1 found.0 new =
    subst (λ (ns : List (List ℕ)). IsAnswered c.args.harness.now.buffers.entries ns c.args.harness.now.vm old item.1 found.0 new) names inside in
    let bytes : c.as_bytes.result.now ≡ found.0 = c.as_bytes.ensures.value ∙ found.2 ∙ ap (λ (front : List ℕ). front ++ found.0) c.clear.ensures.bytes in
    let pushed : Appends (append_known (g.W.Sink.written c.loop-number.writer) c.loop-number.output) (append_known (g.W.Sink.written c.push.new.sink) c.push.new.self) found.0 =
    subst (λ (t : List ℕ). Appends (append_known (g.W.Sink.written c.loop-number.writer) c.loop-number.output) (append_known (g.W.Sink.written c.push.new.sink) c.push.new.self) t) bytes c.in_ok-push.ensures.ok in
    record {
      own = c.ask-done.ensures.own;
      timelines = c.ask-done.ensures.timelines ∙ inv.timelines;
      vm = c.ask-done.ensures.vm ∙ inv.vm;
      buffers = c.ask-done.ensures.buffers ∙ inv.buffers;
      good = good_next (HasNames c.args.harness.now.buffers.entries c.args.self.now.timelines) questions k item below is inv.good
          (answered_has item.1 c.args.harness.now.buffers.entries c.args.self.now.timelines c.args.harness.now.vm old new found.0 here);
      text = inv.text ++ found.0;
      ran = subst (λ (qs : List Line). AreAnswered c.args.harness.now.buffers.entries c.args.self.now.timelines c.args.harness.now.vm first qs (inv.text ++ found.0) new)
          (sym (unnumbered_next questions k item below is))
          (answered_more c.args.harness.now.buffers.entries c.args.self.now.timelines c.args.harness.now.vm first old new (unnumbered (take k questions)) item.1 inv.text found.0 inv.ran here);
      wrote = Appends-trans _ _ _ _ _ inv.wrote pushed;
      flag = c.in_ok-push.ensures.unset ∙ inv.flag;
    }

pub returns-clause-answered : goal.returns-clause-answered
returns-clause-answered g c =
    let inv = c.loop-number.invariant in
    let questions : List (ℕ × Line) = c.args.self.now.questions in
    let all : take c.loop-number.number-index questions ≡ questions = take_all c.loop-number.number-index questions (search rules) in (
      inv.text,
      subst (λ (qs : List (ℕ × Line)). AreAnswered c.args.harness.now.buffers.entries c.args.self.now.timelines c.args.harness.now.vm c.args.harness.now.seat (unnumbered qs) inv.text c.loop-number.harness.seat) all inv.ran,
      inv.wrote,
    )

pub returns-in-Err-clause-bad_line : goal.returns-in-Err-clause-bad_line
returns-in-Err-clause-bad_line g c = λ line same.
    let inv = c.loop-number.invariant in
    let k : ℕ = c.loop-number.number-index in
    let questions : List (ℕ × Line) = c.args.self.now.questions in
    let item : ℕ × Line = c.loop-number-item.result in
    let below : k < length questions = search rules in
    let is : item ≡ get_or questions k item = search rules in
    let told : c.at.result ≡ BadLine line = cc in
    let bad = bad_at item.0 line c.in-Err.fault c.at.result c.at.ensures told in
    let names : c.self.inside.timelines.names ≡ c.args.self.now.timelines = search rules in
    let lacks : ¬ HasNames c.loop-number.harness.buffers.entries c.self.inside.timelines.names item.1 = c.ask-done.ensures.bad (c.in-Err.is ∙ ap (λ (f : LineFault). Err f) bad.0) in
    let same_names : ¬ HasNames c.args.harness.now.buffers.entries c.args.self.now.timelines item.1 =
    subst (λ (ns : List (List ℕ)). ¬ HasNames c.args.harness.now.buffers.entries ns item.1) names
    (subst (λ (b : BufferNamesState). ¬ HasNames b.entries c.self.inside.timelines.names item.1) inv.buffers lacks) in
    subst (λ (n : ℕ). IsFirstBad (HasNames c.args.harness.now.buffers.entries c.args.self.now.timelines) questions n) bad.1
    (first_bad (HasNames c.args.harness.now.buffers.entries c.args.self.now.timelines) questions k item below is inv.good same_names)
