use Rattle.std.proofs.Common.{◌≡◌, ◌∙◌, sym, ap, refl, None, is_some, false, rules, inl, inr}
use Rattle.gv_lines.specs.declared.line.Line.TheVariants as line
use Rattle.gv_session.specs.State.{SessionState, Buffers, names_alone, buffer_named}
use Rattle.gv_session.specs.ReplyTexts.{said}
use Rattle.gv_session.specs.Line.{Runs}
use Rattle.gv_vm.specs.declared.event.Event.TheVariants.{Create}
use Rattle.gv_session.proofs.AnswerLemmas.{none_of}
use Rattle.gv_session.proofs.LinesLemmas.{wrote_plain, once_done}
use Rattle.std.proofs.lemmas.Result.{err_from_is_err_and}
use Rattle.gv_session.specs.Line.{plain}
use Rattle.gv_session.proofs.run.buffer.Goals as goal

pub returns-clause-done : goal.returns-clause-done
returns-clause-done c =
    let s : SessionState = c.args.session.now in
    let t : SessionState = c.make_buffer.new.self in
    let ran = c.in_ok-reply.ensures in
    let absent : is_some c.id_of.result ≡ false = search rules in
    let undeclared : buffer_named s.buffers c.args.name ≡ None =
    ap (λ (bs : Buffers). buffer_named bs c.args.name) (sym c.buffers.ensures) ∙ sym c.id_of.ensures.id ∙ none_of c.id_of.result absent in
    wrote_plain (Runs (line.Buffer c.args.name c.args.pages)) s t (said (names_alone t.buffers) t.timelines c.in_ok-reply.reply) c.args.out.now c.write_said.new.out
    (rw (c.buffers-2.ensures, c.timelines.ensures.names) at c.in_ok-write_said.ensures)
    (record {
      undeclared = undeclared;
      reply = c.in_ok-reply.reply;
      carried_out = once_done (Create c.args.pages) c.in_ok-reply.reply s.world t.world ran.step;
      written = refl;
      state = ran.state;
    })

pub returns-in_err-reply-clause-stopped : goal.returns-in_err-reply-clause-stopped
returns-in_err-reply-clause-stopped c =
    let p = err_from_is_err_and c.from_residual.result c.from_residual.ensures.1 in
    rw (p.1, p.2) (inl (inr (inl c.in_err-reply.ensures.err)))

pub returns-in_err-write_said-clause-stopped : goal.returns-in_err-write_said-clause-stopped
returns-in_err-write_said-clause-stopped c =
    let p = err_from_is_err_and c.from_residual-in_err-write_said.result c.from_residual-in_err-write_said.ensures.1 in
    let s : SessionState = c.args.session.now in
    let t : SessionState = c.make_buffer.new.self in
    let ran = c.in_ok-reply.ensures in
    let absent : is_some c.id_of.result ≡ false = search rules in
    let undeclared : buffer_named s.buffers c.args.name ≡ None =
    ap (λ (bs : Buffers). buffer_named bs c.args.name) (sym c.buffers.ensures) ∙ sym c.id_of.ensures.id ∙ none_of c.id_of.result absent in
    rw (p.1, p.2) (inl (inr (inr (
      plain (said (names_alone t.buffers) t.timelines c.in_ok-reply.reply),
      record {
        undeclared = undeclared;
        reply = c.in_ok-reply.reply;
        carried_out = once_done (Create c.args.pages) c.in_ok-reply.reply s.world t.world ran.step;
        written = refl;
        state = ran.state;
      },
    ))))
