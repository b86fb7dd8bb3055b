use Rattle.std.proofs.Common.{◌≡◌, ◌<◌, ◌∙◌, ◌++◌, ◌∷◌, [], List, take, get_or, sym, ap, subst, length}
use Rattle.std.proofs.lemmas.List.{take_all, take_more}
use Rattle.gv_types.specs.declared.request.Point.{Point}
use Rattle.gv_sync.specs.Seats.{SeatState, after_raise}
use Rattle.gv_sync.specs.SeatSteps.{HasRaised}
use Rattle.gv_queues.proofs.serving.pay.Goals as goal

pub loop-signal-preserved : goal.loop-signal-preserved
loop-signal-preserved c =
    let was = c.loop-signal.invariant in
    let signals : List Point = c.args.signals.now in let seat : SeatState = c.loop-signal.seat in
    let no_point : Point = record { timeline = 0; value = 0 } in
    let point : Point = get_or signals c.loop-signal.signal-index no_point in
    let below : c.loop-signal.signal-index < length signals = c.loop-signal-test.true in
    let marks : length seat.marks ≡ seat.of.words =
    was.1.counted ∙ (c.has_each_mark.ensures ∙ ap (λ of. of.words) (c.requires.own ∙ sym was.0)) in
    let named : point.timeline < length seat.marks = subst (λ n. point.timeline < n) (ap (λ of. of.words) (sym was.0) ∙ sym marks) (c.requires.named c.loop-signal.signal-index no_point below) in
    let more : HasRaised _ c.args.seat.now (after_raise seat point c.raise.result) =
    c.seat_raises.ensures.one_more (take c.loop-signal.signal-index signals) point c.raise.result c.args.seat.now seat was.1 named c.raise.ensures.no_less in (
      c.raise.ensures.own,
      subst (λ (l : List Point). HasRaised l c.args.seat.now c.raise.new.seat) (sym (take_more signals c.loop-signal.signal-index no_point below))
          (subst (λ (s : SeatState). HasRaised (take c.loop-signal.signal-index signals ++ point ∷ []) c.args.seat.now s) (sym c.raise.ensures.step) more),
    )

pub loop-signal-init : goal.loop-signal-init
loop-signal-init c = (c.requires.own, c.seat_raises.ensures.none c.args.seat.now)

pub raise-requires-clause-own : goal.raise-requires-clause-own
raise-requires-clause-own c = c.loop-signal.invariant.0

pub raise-requires-clause-named : goal.raise-requires-clause-named
raise-requires-clause-named c = c.requires.named c.loop-signal.signal-index _ c.loop-signal-test.true

pub returns-clause-paid : goal.returns-clause-paid
returns-clause-paid c =
    subst (λ (l : List Point). HasRaised l c.args.seat.now c.loop-signal.seat) (take_all c.loop-signal.signal-index c.args.signals.now c.loop-signal-test.false)
    c.loop-signal.invariant.1
