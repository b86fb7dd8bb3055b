use Rattle.std.proofs.Common.{◌≡◌, ◌∙◌, ℕ, List, ap, sym, refl, subst}
use Rattle.std.specs.List.{All}
use Rattle.gv_sync.specs.Seats.{SeatState}
use Rattle.gv_lines.specs.declared.line.Line.{Line}
use Rattle.gv_session.proofs.AnswerLemmas.{then_ok}
use Rattle.gv_threads.specs.Parts.{AreLinesOf, IsAsked, unnumbered}
use Rattle.gv_threads.specs.Running.{IsTextOf, Ready}
use Rattle.gv_threads.proofs.DeviceFlags.{from_first}
use Rattle.gv_threads.proofs.LinesRead.{asked_all}
use Rattle.gv_threads.proofs.WholeRun.{begins_as}
use Rattle.gv_threads.proofs.run.run_threads_explained.Goals as goal

pub run_on-requires-clause-asked : goal.run_on-requires-clause-asked
run_on-requires-clause-asked g c =
    let kept = c.in-Ok-read.ensures.kept in
    let asked : All IsAsked (unnumbered c.in-Ok-read.script.questions) = subst (λ (qs : List Line). All IsAsked qs) (sym kept.3.questions) (asked_all kept.0) in
    λ κs within k d below. asked k d below

pub returns-in-Ok-new-2-clause-text : goal.returns-in-Ok-new-2-clause-text
returns-in-Ok-new-2-clause-text g c =
    let kept = c.in-Ok-read.ensures.kept in
    let lines : List Line = kept.0 in
    let raises : c.in-Ok-new.seat.raises ≡ _ = ap (λ (s : SeatState). s.raises) c.in-Ok-new.ensures.seat in
    let begins = begins_as lines c.in-Ok-new-2.vm c.new-in-Ok-new-2.result.entries c.in-Ok-new.seat.raises c.bounds.result c.limits.result
    c.in-Ok-new-2.ensures (c.bounds.ensures ∙ kept.3.bounds) (c.limits.ensures ∙ kept.3.limits) c.new-in-Ok-new-2.ensures raises in
    then_ok c.run_on.result _ _
    (λ found. (
      c.in-Ok.text.items,
      found.0,
      c.in-Ok.ensures.whole.1,
      record {
        short = c.in-Ok.ensures.whole.0;
        lines = lines;
        read = subst (λ (bytes : List ℕ). AreLinesOf bytes lines) c.as_slice.ensures.value kept.1;
        stand = kept.2;
        text_is = subst (λ (r : Ready). IsTextOf lines r c.args.terms.queues found.0) begins found.1;
      },
      found.2,
    ))
    (c.run_on.ensures.text lines kept.3)

pub returns-in-Ok-new-2-clause-ends : goal.returns-in-Ok-new-2-clause-ends
returns-in-Ok-new-2-clause-ends g c =
    from_first (g.S.Source.failed c.args.reader.now) (g.S.Source.failed c.read_script.new.source) (g.K.Sink.failed c.args.writer.now) (g.K.Sink.failed c.args.writer.now) (g.K.Sink.failed c.run_on.new.writer) c.args.terms.queues c.run_on.result
    c.in-Ok.ensures.fault refl c.run_on.ensures.ends
