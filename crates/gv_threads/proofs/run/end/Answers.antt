use Rattle.std.proofs.Common.{List, subst}
use Rattle.std.specs.Io.KnownBytes.{Appends}
use Rattle.std.proofs.KnownBytes.{Appends-trans}
use Rattle.gv_queues.specs.declared.finishing.QueueEnd.{QueueEnd}
use Rattle.gv_threads.specs.Ending.{end_lines}
use Rattle.gv_threads.proofs.run.end.Goals as goal

pub returns-in-Ok-end-clause-text : goal.returns-in-Ok-end-clause-text
returns-in-Ok-end-clause-text g c =
    let last = c.in-Ok-end.ensures.answered in
    let wrote : Appends (g.K.Sink.written c.args.writer.now) (g.K.Sink.written c.write_ends.new.writer) (end_lines c.in-Ok.ends.items) =
    subst (λ (ends : List QueueEnd). Appends (g.K.Sink.written c.args.writer.now) (g.K.Sink.written c.write_ends.new.writer) (end_lines ends)) c.as_slice.ensures.value c.in_default.ensures.written in
    (c.in-Ok.ends, last.0, c.in-Ok.is, last.1, Appends-trans _ _ _ _ _ wrote last.2)
