-- How much of a line was done when it stopped with a fault.
use Rattle.std.proofs.Common.{◌≡◌, ◌≢◌, ℕ, ◌<◌, ◌++◌, List, [], ◌∷◌, Some, true, drop, length, Result, Ok, Err, inl, inr, refl, ap, ◌∙◌, zero, suc, subst, arith, OnErr, IfErr}
use Rattle.gv_types.specs.declared.request.Point.{Point}
use Rattle.gv_vm.specs.Plans.{Plan, Goes, looks, payments}
use Rattle.gv_vm.specs.declared.event.Event.{Event}
use Rattle.gv_vm.specs.declared.event.Event.TheVariants.{Look, Pay}
use Rattle.gv_vm.specs.declared.event.Reply.{Reply}
use Rattle.gv_vm.proofs.PlanLemmas.{goes_trans}
use Rattle.gv_types.specs.declared.request.Request.{Request}
use Rattle.gv_vm.specs.Plans.{serving}
use Rattle.gv_lines.specs.Clause.{queue_asked}
use Rattle.gv_lines.specs.declared.clause.Clause.{Clause}
use Rattle.gv_lines.specs.declared.line.Line.TheVariants as line
use Rattle.gv_lines.specs.declared.line.Line.{Line}
use Rattle.gv_session.specs.Requests.{IsRequest}
use Rattle.std.specs.List.{flat_map, list_any}
use Rattle.gv_vm.specs.Plans.{once, Steps}
use Rattle.gv_session.specs.Line.{Written, Runs, Does}
use Rattle.gv_session.specs.ReplyTexts.{reply_out_of_memory}
use Rattle.gv_session.proofs.LinesLemmas.{once_done}
use Rattle.gv_session.specs.LineProgress.{StopsAt}
use Rattle.gv_session.specs.State.{SessionState, begun}
use Rattle.gv_session.specs.Stopping.{IsAmid, Loses, Leaves}
use Rattle.gv_session.specs.declared.fault.LineFault.{LineFault}
use Rattle.gv_session.specs.declared.fault.LineFault.TheVariants.{Bad, OutOfMemory}

-- a plan is stopped at its first event
pub amid_at : (plan : Plan) (event : Event) (s t : SessionState) → plan [] ≡ Some event → StopsAt event s t → IsAmid plan s t
amid_at plan event s t first (inl same) = rw same (record { replies = []; under_way = record { events = []; asked = tt; ran = refl }; state = refl })
amid_at plan event s t first (inr went) = record {
  replies = went.0 ∷ [];
  under_way = record { events = event ∷ []; asked = (first, tt); ran = (t.world, went.1.0, went.1.1, refl) };
  state = went.2;
}

-- a plan is stopped in what it goes on as
pub amid_behind : (p q : Plan) (s t u : SessionState) (replies : List Reply) → Goes p s.world replies t.world q → t ≡ record (begun s) { world = t.world } → IsAmid q t u → IsAmid p s u
amid_behind p q s t u replies goes state amid = record {
  replies = replies ++ amid.replies;
  under_way = (goes_trans p q (λ more. q (amid.replies ++ more)) s.world t.world u.world replies amid.replies goes (record { under_way = amid.under_way; goes_on = λ more. refl })).under_way;
  state = amid.state ∙ ap (λ (x : SessionState). let y : SessionState = record (begun x) { world = u.world } in y) state;
}

-- a look, or a payment, is next
pub look_next : (queue k : ℕ) (points signals : List Point) → k < length points → looks true queue (drop k points) signals [] ≡ Some (Look queue)
look_next queue k [] signals below = absurd (omega (arith, below))
look_next queue zero (p ∷ points) signals below = refl
look_next queue (suc k) (p ∷ points) signals below = look_next queue k points signals (omega (arith, below))

pub pay_next : (queue k : ℕ) (points : List Point) → k < length points → payments queue (drop k points) [] ≡ Some (Pay queue)
pay_next queue k [] below = absurd (omega (arith, below))
pay_next queue zero (p ∷ points) below = refl
pay_next queue (suc k) (p ∷ points) below = pay_next queue k points (omega (arith, below))

-- nothing changed
pub leaves_same : (said : Line) (s t : SessionState) (fault : LineFault) → t ≡ s → Leaves said s t fault
leaves_same said s t Bad same = same
leaves_same said s t OutOfMemory same = inl (inl same)

-- want of memory alone is the fault
pub leaves_lost : {T : Type 0} (said : Line) (s t : SessionState) (r : Result T LineFault) → r ≢ Err Bad → OnErr r (Loses (Runs said) s t) → IfErr r (Leaves said s t)
leaves_lost said s t (Ok done) some lost = tt
leaves_lost said s t (Err Bad) some lost = absurd (some refl)
leaves_lost said s t (Err OutOfMemory) some lost = inl lost

pub loses_as : (R Q : SessionState → Written → SessionState → Type 0) (s t : SessionState) → ((w : Written) → R s w t → Q s w t) → Loses R s t → Loses Q s t
loses_as R Q s t so (inl same) = inl same
loses_as R Q s t so (inr (inl same)) = inr (inl same)
loses_as R Q s t so (inr (inr lost)) = inr (inr (lost.0, so lost.0 lost.1))

pub on_err : {T E : Type 0} (r : Result T E) (P : Type 0) → P → OnErr r P
on_err (Ok done) P holds = tt
on_err (Err why) P holds = holds

pub then_on_err : {T E : Type 0} (r : Result T E) (A B : Type 0) → (A → B) → OnErr r A → OnErr r B
then_on_err (Ok done) A B so holds = tt
then_on_err (Err why) A B so holds = so holds

-- nothing changed, whatever the fault is
pub leaves_any : {T : Type 0} (said : Line) (s t : SessionState) (r : Result T LineFault) → t ≡ s → IfErr r (Leaves said s t)
leaves_any said s t (Ok done) same = tt
leaves_any said s t (Err fault) same = leaves_same said s t fault same

-- the reply to one event is lost
pub lost_once : (event : Event) (say : Reply → List ℕ) (s t : SessionState) (reply : Reply) → Steps s.world event reply t.world → t ≡ record (begun s) { world = t.world } →
    (w : Written) × Does (once event) (flat_map say) s w t
lost_once event say s t reply here state = (
  record { text = flat_map say (reply ∷ []); out_of_memory = list_any reply_out_of_memory (reply ∷ []) },
  record { replies = reply ∷ []; carried_out = once_done event reply s.world t.world here; written = refl; state = state },
)

-- a request was stopped on its way
pub leaves_amid : {T : Type 0} (clauses : List Clause) (s t : SessionState) (r : Result T LineFault) (request : Request) (queue : ℕ) → queue ≡ queue_asked clauses → IsRequest s clauses request →
    r ≢ Err Bad → OnErr r (IsAmid (serving queue request) s t) → IfErr r (Leaves (line.Bind clauses) s t)
leaves_amid clauses s t (Ok done) request queue is asked some amid = tt
leaves_amid clauses s t (Err Bad) request queue is asked some amid = absurd (some refl)
leaves_amid clauses s t (Err OutOfMemory) request queue is asked some amid = inr (request, asked, subst (λ (q : ℕ). IsAmid (serving q request) s t) is amid)
