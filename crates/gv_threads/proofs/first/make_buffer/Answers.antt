use Rattle.std.proofs.Common.{◌≡◌, ◌≢◌, ◌∙◌, ◌++◌, ◌∷◌, [], ap, sym, refl, None, Some, is_some, false, string_bytes, rules}
use Rattle.gv_types.specs.declared.fault.Fault.TheVariants.{OutOfMemory}
use Rattle.gv_vm.specs.Step.{event_fault}
use Rattle.gv_vm.specs.declared.event.Event.TheVariants.{Create}
use Rattle.gv_vm.specs.declared.event.Reply.TheVariants.{Created, Refused}
use Rattle.gv_session.specs.Texts.{ok_reply, refused_reply}
use Rattle.gv_session.specs.State.{Buffers, buffer_named}
use Rattle.gv_session.proofs.AnswerLemmas.{fault_but_memory, none_from_ok, none_of}
use Rattle.gv_threads.specs.Running.{Ready, ready_of}
use Rattle.gv_threads.proofs.FirstPart.{refused_creates}
use Rattle.gv_threads.proofs.first.make_buffer.Goals as goal

pub returns-in_ok-push_str-in-Ok-clause-done : goal.returns-in_ok-push_str-in-Ok-clause-done
returns-in_ok-push_str-in-Ok-clause-done c = λ names.
    let old : Buffers = c.args.harness.now.buffers.entries in
    let absent : is_some c.id_of.result ≡ false = search rules in
    let undeclared : buffer_named old c.args.name ≡ None = sym c.id_of.ensures.id ∙ none_of c.id_of.result absent in
    let allowed : event_fault c.args.harness.now.vm (Create c.args.pages) ≡ None = none_from_ok _ c.in-Ok.id c.in-Ok.ensures.fault in
    let longer : c.declare.new.self.entries ≡ old ++ (c.args.name, c.in-Ok.id) ∷ [] =
    c.declare.ensures ∙ ap (λ (bs : Buffers). bs ++ (c.args.name, c.in-Ok.id) ∷ []) c.reserve-room.ensures.entries in
    let wrote : string_bytes c.push_str.new.self ≡ string_bytes c.args.out.now ++ ok_reply = search rules in (
      ok_reply,
      record {
        undeclared = undeclared;
        reply = Created c.in-Ok.id;
        creates = λ w. record { allowed = allowed; made = c.in-Ok.ensures.ok; vm = c.create.ensures.rest; state = refl };
        state = ap (λ (bs : Buffers). let r : Ready = record (ready_of c.args.harness.now) { vm = c.create.new.self; buffers = bs } in r) longer;
        text_is = refl;
      },
      wrote,
    )

pub returns-in_ok-write_refused-in-Err : goal.returns-in_ok-write_refused-in-Err
returns-in_ok-write_refused-in-Err c =
    let old : Buffers = c.args.harness.now.buffers.entries in
    let absent : is_some c.id_of.result ≡ false = search rules in
    let undeclared : buffer_named old c.args.name ≡ None = sym c.id_of.ensures.id ∙ none_of c.id_of.result absent in
    let other : c.in-Err.fault ≢ OutOfMemory = search rules in
    let refused : event_fault c.args.harness.now.vm (Create c.args.pages) ≡ Some c.in-Err.fault = fault_but_memory _ _ c.in-Err.fault c.in-Err.ensures.fault other in
    record {
      told = search rules;
      timelines = refl;
      seat = refl;
      done = λ names. (
        refused_reply c.in-Err.fault,
        record {
          undeclared = undeclared;
          reply = Refused c.in-Err.fault;
          creates = refused_creates c.args.harness.now.vm c.create.new.self c.args.pages c.in-Err.fault refused c.in-Err.ensures.err;
          state = ap (λ (bs : Buffers). let r : Ready = record (ready_of c.args.harness.now) { vm = c.create.new.self; buffers = bs } in r) c.reserve-room.ensures.entries;
          text_is = refl;
        },
        c.in_ok-write_refused-in-Err.ensures,
      );
    }
