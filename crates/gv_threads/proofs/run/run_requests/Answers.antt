use Rattle.std.proofs.Common.{◌≡◌, ◌++◌, ℕ, Vec, vec_len, refl, subst, rules}
use Rattle.std.specs.declared.alloc.Global.{Global}
use Rattle.gv_queues.specs.declared.finishing.QueueEnd.{QueueEnd}
use Rattle.gv_queues.specs.Ending.{AreCountedEnds}
use Rattle.gv_session.proofs.AnswerLemmas.{then_ok}
use Rattle.gv_threads.specs.Ending.{EndsAs, end_lines}
use Rattle.gv_sync.specs.Seats.{SeatState}
use Rattle.gv_threads.specs.Parts.{unnumbered}
use Rattle.gv_threads.specs.Running.{AreAnswered}
use Rattle.gv_threads.proofs.WholeRun.{of_ok, ends_on, seat_back}
use Rattle.gv_threads.proofs.run.run_requests.Goals as goal

pub returns-clause-served : goal.returns-clause-served
returns-clause-served g c =
    then_ok c.end-ended.result _ _
    (λ found.
    let ends : Vec QueueEnd Global = found.0 in
    let long : vec_len ends ≡ c.args.run.terms.queues = of_ok c.run_queues-vm.result.1 ends (λ (e : Vec QueueEnd Global). vec_len e ≡ c.args.run.terms.queues) found.2 c.run_queues-vm.ensures.len in (
      end_lines ends.items ++ found.1,
      record {
        back = c.run_queues-vm.result.0;
        sound = c.run_queues-vm.ensures.sound;
        ends = ends.items;
        each = search rules;
        counted = ends_on c.run_queues-vm.result.0 _ c.new-driver.result.asked c.args.requests.items ends.items c.new-driver.ensures (of_ok c.run_queues-vm.result.1 ends (λ (e : Vec QueueEnd Global). AreCountedEnds c.run_queues-vm.result.0 _ _ e.items) found.2 c.run_queues-vm.ensures.counted);
        seat = c.args.run.harness.seat;
        first_part = c.requires.first;
        raised_in_it = refl;
        last = found.1;
        after = c.end-ended.new.harness.seat;
        answered = subst (λ (s : SeatState). AreAnswered c.args.run.harness.buffers.entries c.args.run.script.timelines c.run_queues-vm.result.0 s (unnumbered c.args.run.script.questions) found.1 c.end-ended.new.harness.seat)
            (seat_back c.run_queues-vm.result.1 ends c.args.run.terms.queues (λ (before after : SeatState). after ≡ before) c.args.run.harness.seat c.run_queues-vm.new.seat found.2 c.run_queues-vm.ensures.lent) found.3;
        text_is = refl;
      },
      found.4,
    ))
    c.end-ended.ensures.text

pub returns-clause-ends : goal.returns-clause-ends
returns-clause-ends g c = λ read.
    subst (λ (n : ℕ). EndsAs read read (g.K.Sink.failed c.args.writer.now) (g.K.Sink.failed c.end-ended.new.writer) n c.end-ended.result) c.requires.read (c.end-ended.ensures.ends read)
