use mathlib.Core.Bool.{not}
use Rattle.std.proofs.Common.{rules, sym, ◌≡◌, ◌<◌, ◌+◌, ◌++◌, ◌∙◌, List, IfNone, ap, subst, refl, arith, map, vec_len, length}
use Rattle.std.proofs.lemmas.List.{length-append, length-map}
use Rattle.std.specs.declared.thread.PromisedHandle.{PromisedHandle}
use Rattle.gv_queues.specs.declared.worker_end.WorkerEnd.{WorkerEnd}
use Rattle.gv_queues.specs.declared.running.OfWorker.{OfWorker}
use Rattle.gv_queues.specs.Ending.{AreClosed}
use Rattle.gv_queues.specs.Submitting.{SubmitterState}
use Rattle.gv_queues.specs.Working.{AreEndsOfWorkers, WorkerState}
use Rattle.gv_queues.proofs.Channels.{end_channels, ended_among, ended_in_order}
use Rattle.gv_queues.proofs.QueueEnds.{if_none, if_none_of, if_some_none, if_some_with}
use Rattle.gv_queues.proofs.running.fn.ReadyQueues.run_workers.scope.Goals.{then-is_none, else-is_none}
use Rattle.gv_queues.proofs.running.fn.ReadyQueues.run_workers.scope.Goals as goal

pub returns : goal.returns
returns g c =
    let done = c.join_all-workers.result in
    let started = c.start_all-started.result in
    let first : List WorkerState = map (λ (h : PromisedHandle WorkerEnd OfWorker). h.promise.0.value) started.handles.items in
    let rest : List WorkerState = c.start_all-started.ensures.first.0 in
    let workers : List WorkerState = c.captures.opened-workers.items in
    let all : first ++ rest ≡ workers = c.start_all-started.ensures.first.1 in
    let joined : length done.items ≡ length started.handles.items = search rules in
    let long : length done.items ≡ length first = joined ∙ sym (length-map started.handles.items _) in
    let ended : AreEndsOfWorkers workers done.items = ended_among first rest workers done.items all long c.join_all-workers.ensures.ends in
    let total = ap (λ (l : List WorkerState). length l) all in
    let sum = length-append first rest in
    let few : length done.items < length workers + 1 = omega (arith, long, total, sum) in record {
      own = elim c.if-is_none.branch [
        | then-is_none w ↦ search rules
        | else-is_none w ↦ search rules
      ];
      driven = elim c.if-is_none.branch [
        | then-is_none w ↦ search rules
        | else-is_none w ↦ search rules
      ];
      order = ended_in_order workers done.items few c.requires.order ended;
      puts = elim c.if-is_none.branch [
        | then-is_none w ↦ search rules
        | else-is_none w ↦ search rules
      ];
      even = elim c.if-is_none.branch [
        | then-is_none w ↦ search rules
        | else-is_none w ↦ search rules
      ];
      ends = if_none _ _ ended;
      channels = elim c.if-is_none.branch [
        | then-is_none w ↦ (
            let even : IfNone started.refused ((vec_len c.if-is_none.puts ≡ vec_len c.captures.opened-submitters) × (vec_len done ≡ vec_len c.captures.opened-submitters)) = search rules in
            let submitters : List SubmitterState = c.captures.opened-submitters.items in
            let closed : AreClosed submitters c.if-is_none.puts.items = subst (λ (v : _). AreClosed submitters v.items) (sym w.puts-is) w.drive_all-puts.ensures.closed in
            let of_submitters : vec_len c.captures.opened-submitters ≡ length submitters = search rules in
            let of_puts : vec_len c.if-is_none.puts ≡ length c.if-is_none.puts.items = search rules in
            let of_done : vec_len done ≡ length done.items = search rules in
            if_none_of _ _ _ even (λ e. end_channels submitters workers c.if-is_none.puts.items done.items c.requires.channels closed ended
            (sym of_puts ∙ (e.0 ∙ of_submitters)) (sym of_done ∙ (e.1 ∙ of_submitters))))
        | else-is_none w ↦ search rules
      ];
      refused = elim c.if-is_none.branch [
        | then-is_none w ↦ if_some_none _ _ (c.is_none.ensures ∙ ap not w.if-is_none.true)
        | else-is_none w ↦ if_some_with _ _ _ _ _ c.requires.even w.driver-is w.seat-is c.start_all-started.ensures.refused
      ];
      same = refl;
      same_seat = refl;
    }
