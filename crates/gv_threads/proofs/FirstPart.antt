-- The seat with which the first part raises, and the buffers that it makes.
use Rattle.std.proofs.Common.{◌≡◌, ℕ, zero, suc, ◌<◌, Some, length, refl, sym, ◌∙◌, subst, arith}
use Rattle.std.specs.Prelude.{replicate}
use Rattle.std.proofs.lemmas.List.{length-replicate}
use Rattle.gv_types.specs.declared.request.Point.{Point}
use Rattle.gv_types.specs.declared.fault.Fault.{Fault}
use Rattle.gv_sync.specs.Marks.{IsNoLess, fresh_mark, mark_at}
use Rattle.gv_sync.specs.Raises.{raised, values_on}
use Rattle.gv_sync.specs.Seats.{SeatState, after_raise, timeline_count, first_seat, mark_of}
use Rattle.gv_sync.specs.SeatSteps.{OneMoreRaise}
use Rattle.gv_vm.specs.State.{VmState}
use Rattle.gv_vm.specs.Step.{event_fault, step}
use Rattle.gv_vm.specs.declared.event.Event.TheVariants.{Create}
use Rattle.gv_vm.specs.declared.event.Reply.TheVariants.{Refused}
use Rattle.gv_threads.specs.Running.{Creates, IsFirst}

-- one more raise
pub first_more : OneMoreRaise → (p : Point) (number : ℕ) (old new : SeatState) → IsFirst old → p.timeline < timeline_count old.of → IsNoLess (mark_of old p.timeline) number →
    new ≡ after_raise old p number → IsFirst new
first_more one_more p number old new first named no_less is =
    let marks : length old.marks ≡ timeline_count old.of = first.counted ∙ length-replicate (timeline_count old.of) fresh_mark in
    subst IsFirst (sym is) (one_more old.raises p number (first_seat old.of) old first (subst (λ (n : ℕ). p.timeline < n) (sym marks) named) no_less)

fresh_at : (count t : ℕ) → (mark_at (replicate count fresh_mark) t).raised ≡ 0
fresh_at zero t = refl
fresh_at (suc count) zero = refl
fresh_at (suc count) (suc t) = fresh_at count t

-- a number that is all that the seat raised
pub number_of : (t number : ℕ) (seat : SeatState) → IsFirst seat → number ≡ (mark_of seat t).raised → number ≡ raised (values_on t seat.raises)
number_of t number seat first is =
    let none : (mark_of (first_seat seat.of) t).raised ≡ 0 = fresh_at (timeline_count seat.of) t in
    let here = first.raised t in
    omega (arith, is, none, here)

pub refused_creates : (old new : VmState) (pages : ℕ) (fault : Fault) → event_fault old (Create pages) ≡ Some fault → new ≡ old → Creates old pages (Refused fault) new
refused_creates old new pages fault is same = λ w.
    subst (λ (m : VmState). step (record w { vm = old }) (Create pages) (Refused fault) (record w { vm = m })) (sym same)
    (is, refl)
