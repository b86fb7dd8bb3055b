use Rattle.std.proofs.Common.{◌++◌, refl}
use Rattle.std.proofs.KnownBytes.{Appends-trans}
use Rattle.gv_session.proofs.AnswerLemmas.{then_ok}
use Rattle.gv_threads.specs.Running.{ready_of}
use Rattle.gv_threads.proofs.DeviceFlags.{from_first, begun_by_line}
use Rattle.gv_threads.proofs.WholeRun.{text_of}
use Rattle.gv_threads.proofs.run.run_on.Goals as goal

pub returns-in-Ok-clause-text : goal.returns-in-Ok-clause-text
returns-in-Ok-clause-text g c = λ lines keeps.
    let first = c.in-Ok.ensures.sets_up in
    then_ok c.run_requests.result _ _
    (λ found. (
      first.0 ++ found.0,
      text_of lines c.args.run.script c.begin.new.self (ready_of c.args.run.harness) (ready_of c.begin.new.harness) c.in-Ok.requests.items c.args.run.terms.queues first.0 found.0
          keeps c.begin.ensures.same first.1 c.in-Ok.ensures.named found.1,
      Appends-trans _ _ _ _ _ first.2 found.2,
    ))
    c.run_requests.ensures.served

pub returns-in-Ok-clause-ends : goal.returns-in-Ok-clause-ends
returns-in-Ok-clause-ends g c = λ read.
    from_first read read (g.K.Sink.failed c.args.writer.now) (g.K.Sink.failed c.begin.new.writer) (g.K.Sink.failed c.run_requests.new.writer) c.args.run.terms.queues c.run_requests.result
    refl c.in-Ok.ensures.write_fault c.run_requests.ensures.ends

pub returns-in-Err-clause-begun : goal.returns-in-Err-clause-begun
returns-in-Err-clause-begun g c = begun_by_line (Unit {0}) c.in-Err.fault c.in-Err.ensures.ends
