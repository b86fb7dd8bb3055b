use Rattle.std.proofs.Common.{rules, ◌≡◌, ◌∙◌, ◌+◌, ℕ, length, vec_len, sym, refl, ap, arith}
use Rattle.gv_sync.specs.Seats.{SeatState, timeline_count, mark_of, split_from}
use Rattle.gv_sync.proofs.LookLemmas.{split_raised}
use Rattle.gv_queues.specs.SeatSplits.{after_splits, seat_of, split_behind}
use Rattle.gv_queues.specs.Submitting.{IsOpened, SubmitterState}
use Rattle.gv_queues.specs.Taking.{TakerState}
use Rattle.gv_queues.specs.Working.{WorkerState, no_worker}
use Rattle.gv_queues.proofs.Channels.{channels_more, own_channels}
use Rattle.gv_queues.proofs.QueueEnds.{each_more, one_more, opened_more, in_order_more}
use Rattle.gv_queues.proofs.opening.open_all.Goals as goal

-- two seats that agree in each part are one
seats_one : (a b : SeatState) → a.of ≡ b.of → a.marks ≡ b.marks → a.raises ≡ b.raises → a.halvings ≡ b.halvings → a ≡ b
seats_one a b of marks raises halvings i = record { of = of i; marks = marks i; raises = raises i; halvings = halvings i }

pub new-requires-in-loop-queue-2-clause-raised : goal.new-requires-in-loop-queue-2-clause-raised
new-requires-in-loop-queue-2-clause-raised c t =
    ap (λ (s : SeatState). (mark_of s t).raised) c.in_ok-own.ensures.given ∙ split_raised c.loop-queue.seat t

pub loop-queue-preserved : goal.loop-queue-preserved
loop-queue-preserved c =
    let was = c.loop-queue.invariant in
    let long : vec_len c.loop-queue.submitters ≡ length c.loop-queue.submitters.items = search rules in
    let wide : vec_len c.loop-queue.workers ≡ length c.loop-queue.workers.items = search rules in
    let opened : IsOpened (length c.loop-queue.submitters.items) c.args.sizes.limit c.args.sizes.depth (timeline_count c.args.timelines.now) c.new.result = record {
      queue = ap (λ (s : SubmitterState). s.queue) c.new.ensures ∙ (sym was.3 ∙ long);
      channel = ap (λ (s : SubmitterState). s.channel.queue) c.new.ensures ∙ (sym was.3 ∙ long);
      limit = ap (λ (s : SubmitterState). s.limit) c.new.ensures;
      depth = ap (λ (s : SubmitterState). s.depth) c.new.ensures ∙ search rules;
      timelines = ap (λ (s : SubmitterState). s.timelines) c.new.ensures ∙ c.count-named.ensures.count;
      none = ap (λ (s : SubmitterState). s.put) c.new.ensures;
    } in
    let shared : c.split.new.seat.halvings ≡ c.args.seat.now.halvings + (c.loop-queue.queue + 1) =
    let half = ap (λ (s : SeatState). s.halvings) c.split.ensures.kept in let so_far = was.2 in omega (arith, half, so_far) in
    let queue : c.new-in-loop-queue-2.result.queue ≡ length c.loop-queue.workers.items =
    ap (λ (w : WorkerState). w.queue) c.new-in-loop-queue-2.ensures ∙ (ap (λ (t : TakerState). t.queue) c.new-in-loop-queue.ensures ∙ (sym was.4 ∙ wide)) in
    let taker_channel = ap (λ (t : TakerState). t.channel) c.new-in-loop-queue.ensures in
    let worker_channel = ap (λ (w : WorkerState). w.channel) c.new-in-loop-queue-2.ensures in
    let submitter_channel = ap (λ (s : SubmitterState). s.channel) c.new.ensures in
    let lent : c.loop-queue.seat ≡ after_splits c.args.seat.now c.loop-queue.queue = seats_one _ _ (was.0 ∙ sym c.requires.own) was.1 was.12 was.2 in
    let given : c.in_ok-own.own ≡ split_behind c.args.seat.now (length c.loop-queue.workers.items) =
    c.in_ok-own.ensures.given ∙ (ap split_from lent ∙ ap (λ (n : ℕ). split_behind c.args.seat.now n) (sym was.4 ∙ wide)) in
    let own : seat_of c.new-in-loop-queue-2.result ≡ split_behind c.args.seat.now (length c.loop-queue.workers.items) =
    seats_one (seat_of c.new-in-loop-queue-2.result) _ (ap (λ (w : WorkerState). w.of) c.new-in-loop-queue-2.ensures ∙ ap (λ (s : SeatState). s.of) given)
    (ap (λ (w : WorkerState). w.marks) c.new-in-loop-queue-2.ensures ∙ ap (λ (s : SeatState). s.marks) given) refl
    (ap (λ (w : WorkerState). w.halvings) c.new-in-loop-queue-2.ensures ∙ ap (λ (s : SeatState). s.halvings) given) in
    let one : c.new.result.channel ≡ c.new-in-loop-queue-2.result.channel = search rules in (
      search rules,
      search rules,
      shared,
      search rules,
      search rules,
      opened_more c.args.sizes.limit c.args.sizes.depth (timeline_count c.args.timelines.now) c.loop-queue.submitters.items c.push_reserved.new.self.items c.new.result c.push_reserved.ensures.items opened was.5,
      in_order_more (λ (w : WorkerState). w.queue) c.loop-queue.workers.items c.push_reserved-in-loop-queue.new.self.items c.new-in-loop-queue-2.result was.6 queue c.push_reserved-in-loop-queue.ensures.items,
      each_more (λ (k : ℕ) (w : WorkerState). w.of ≡ c.args.timelines.now) c.loop-queue.workers.items c.push_reserved-in-loop-queue.new.self.items c.new-in-loop-queue-2.result
          c.push_reserved-in-loop-queue.ensures.items (ap (λ (w : WorkerState). w.of) c.new-in-loop-queue-2.ensures ∙ c.in_ok-own.ensures.own_given) was.7,
      channels_more c.loop-queue.submitters.items c.push_reserved.new.self.items c.loop-queue.workers.items c.push_reserved-in-loop-queue.new.self.items c.new.result c.new-in-loop-queue-2.result
          c.push_reserved.ensures.items c.push_reserved-in-loop-queue.ensures.items one was.8,
      one_more (λ (k : ℕ) (w : WorkerState). seat_of w ≡ split_behind c.args.seat.now k) c.loop-queue.workers.items c.push_reserved-in-loop-queue.new.self.items c.new-in-loop-queue-2.result no_worker
          c.push_reserved-in-loop-queue.ensures.items own was.9,
      search rules,
      search rules,
      search rules,
    )

pub returns-clause-channels : goal.returns-clause-channels
returns-clause-channels c =
    let was = c.loop-queue.invariant in own_channels c.args.sizes.limit c.args.sizes.depth (timeline_count c.args.timelines.now) c.loop-queue.submitters.items c.loop-queue.workers.items was.5 was.8

pub returns-clause-share : goal.returns-clause-share
returns-clause-share c =
    let was = c.loop-queue.invariant in
    let lent : c.loop-queue.seat ≡ after_splits c.args.seat.now c.loop-queue.queue = seats_one _ _ (was.0 ∙ sym c.requires.own) was.1 was.12 was.2 in
    let all : c.loop-queue.queue ≡ c.args.sizes.count = search rules in
    lent ∙ ap (λ (n : ℕ). after_splits c.args.seat.now n) all
