use Rattle.std.proofs.Common.{◌≡◌, ◌<◌, ◌∙◌, Some, List, ℕ, ap, sym, rules}
use Rattle.gv_sync.specs.Seats.{SeatState, timeline_count}
use Rattle.gv_types.specs.declared.request.Point.{Point}
use Rattle.gv_session.specs.Requests.{point_named}
use Rattle.gv_session.specs.Texts.{number_reply}
use Rattle.gv_session.proofs.AnswerLemmas.{of_found, ok_or_some}
use Rattle.gv_threads.specs.Running.{Ready, IsFirst, ready_of}
use Rattle.gv_threads.proofs.FirstPart.{first_more, number_of}
use Rattle.gv_threads.proofs.first.set_up.Goals as goal

pub returns-in_err-write_number-in-Raise-clause-first : goal.returns-in_err-write_number-in-Raise-clause-first
returns-in_err-write_number-in-Raise-clause-first c =
    let named : c.in_ok-point-in-Raise.point.timeline < timeline_count c.args.harness.now.seat.of = search rules in
    first_more c.seat_raises.ensures.one_more c.in_ok-point-in-Raise.point c.raise-now.result c.args.harness.now.seat c.raise-now.new.seat c.requires.first named c.raise-now.ensures.no_less c.raise-now.ensures.step

pub returns-in_ok-write_number-in-Raise-clause-first : goal.returns-in_ok-write_number-in-Raise-clause-first
returns-in_ok-write_number-in-Raise-clause-first c =
    let named : c.in_ok-point-in-Raise.point.timeline < timeline_count c.args.harness.now.seat.of = search rules in
    first_more c.seat_raises.ensures.one_more c.in_ok-point-in-Raise.point c.raise-now.result c.args.harness.now.seat c.raise-now.new.seat c.requires.first named c.raise-now.ensures.no_less c.raise-now.ensures.step

pub returns-in-Buffer-clause-done : goal.returns-in-Buffer-clause-done
returns-in-Buffer-clause-done c = rw c.in-Buffer.is (c.make_buffer.ensures.done c.args.names.now.names)

pub returns-in_ok-write_number-in-Raise-clause-done : goal.returns-in_ok-write_number-in-Raise-clause-done
returns-in_ok-write_number-in-Raise-clause-done c =
    let p : Point = c.in_ok-point-in-Raise.point in
    let names : List (List ℕ) = c.args.names.now.names in
    let named : p.timeline < timeline_count c.args.harness.now.seat.of = search rules in
    let first : IsFirst c.raise-now.new.seat =
    first_more c.seat_raises.ensures.one_more p c.raise-now.result c.args.harness.now.seat c.raise-now.new.seat c.requires.first named c.raise-now.ensures.no_less c.raise-now.ensures.step in
    let found : Some p ≡ point_named names c.in-Raise.point =
    sym (ok_or_some c.point_named.result _ p c.in_ok-point-in-Raise.ensures.value) ∙ c.point_named.ensures in
    rw c.in-Raise.is (
      number_reply names p.timeline c.raise-now.result,
      of_found (point_named names c.in-Raise.point) p _ found (record {
        state = ap (λ (s : SeatState). let r : Ready = record (ready_of c.args.harness.now) { raises = s.raises } in r) c.raise-now.ensures.step;
        text_is = ap (number_reply names p.timeline) (number_of p.timeline c.raise-now.result c.raise-now.new.seat first (c.raise-now.ensures.only c.requires.first.halvings));
      }),
      c.in_ok-write_number-in-Raise.ensures,
    )
