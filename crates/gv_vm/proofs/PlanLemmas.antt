-- For callers: how a plan of events (specs/Plans.antt) goes on with the replies of a world.
use Rattle.std.proofs.Common.{◌≡◌, ◌≢◌, ℕ, zero, suc, ◌+◌, ◌<◌, List, [], ◌∷◌, ◌++◌, length, drop, Some, None, refl, sym, ap, ◌∙◌, subst, append_assoc, append-nil, arith, Bool, true, false, Err}
use Rattle.gv_types.specs.declared.fault.OutOfMemory.{OutOfMemory as WantOfMemory}
use Rattle.gv_types.specs.declared.request.Point.{Point}
use Rattle.gv_types.specs.declared.request.Request.{Request}
use Rattle.gv_vm.specs.Headline.{IsSoundStep}
use Rattle.gv_vm.specs.World.{WorldState}
use Rattle.gv_vm.specs.Run.{RunsWith}
use Rattle.gv_vm.specs.Step.{IsStep}
use Rattle.gv_vm.specs.declared.event.Event.{Event}
use Rattle.gv_vm.specs.declared.event.Event.TheVariants.{Put, Take, Look, Bind, GiveUp, Pay}
use Rattle.gv_vm.specs.declared.event.Reply.{Reply}
use Rattle.gv_vm.specs.declared.event.Reply.TheVariants.{Put as IsPut, Taken, Reached, Lacking, Told, Raised}
use Rattle.gv_vm.specs.declared.event.LookResult.{LookResult}
use Rattle.gv_vm.specs.declared.event.LookResult.TheVariants.{NoneLacked}
use Rattle.gv_vm.specs.declared.outcome.Outcome.TheVariants.{Accepted, Refused, NotReady}
use Rattle.gv_vm.specs.Plans.{Plan, nothing, once, serving, taking, looks, carrying_out, paying, payments, AreAsked, IsCarriedOut, IsStopped, Steps, GoesOn, Goes, is_put, is_taken, is_accepted, is_raised, looked_of, after_looks}

-- nothing was asked yet
pub goes_nil : (plan : Plan) (w : WorldState) → Goes plan w [] w plan
goes_nil plan w = record {
  under_way = record { events = []; asked = tt; ran = refl };
  goes_on = λ later. refl;
}

-- one event was asked
pub goes_first : (plan next : Plan) (event : Event) (reply : Reply) (w v : WorldState) → plan [] ≡ Some event → Steps w event reply v →
    ((later : List Reply) → plan (reply ∷ later) ≡ next later) → Goes plan w (reply ∷ []) v next
goes_first plan next event reply w v is here on = record {
  under_way = record { events = event ∷ []; asked = (is, tt); ran = (v, here.0, here.1, refl) };
  goes_on = on;
}

same_asked : (p q : Plan) (events : List Event) (replies : List Reply) → ((later : List Reply) → p later ≡ q later) → AreAsked q events replies → AreAsked p events replies
same_asked p q [] [] same asked = tt
same_asked p q (event ∷ events) (reply ∷ replies) same asked =
    (same [] ∙ asked.0, same_asked (λ later. p (reply ∷ later)) (λ later. q (reply ∷ later)) events replies (λ later. same (reply ∷ later)) asked.1)
same_asked p q [] (reply ∷ replies) same asked = asked
same_asked p q (event ∷ events) [] same asked = asked

asked-append : (p q : Plan) (events : List Event) (replies : List Reply) (more : List Event) (later : List Reply) →
    AreAsked p events replies → GoesOn p replies q → AreAsked q more later → AreAsked p (events ++ more) (replies ++ later)
asked-append p q [] [] more later asked on rest = same_asked p q more later on rest
asked-append p q (event ∷ events) (reply ∷ replies) more later asked on rest =
    (asked.0, asked-append (λ ls. p (reply ∷ ls)) q events replies more later asked.1 on rest)
asked-append p q [] (reply ∷ replies) more later asked on rest = absurd asked
asked-append p q (event ∷ events) [] more later asked on rest = absurd asked

run-append : (w v u : WorldState) (events : List Event) (replies : List Reply) (more : List Event) (later : List Reply) →
    RunsWith IsSoundStep w events replies v → RunsWith IsSoundStep v more later u → RunsWith IsSoundStep w (events ++ more) (replies ++ later) u
run-append w v u [] [] more later first rest = subst (λ (x : WorldState). RunsWith IsSoundStep x more later u) first rest
run-append w v u (event ∷ events) (reply ∷ replies) more later first rest =
    (first.0, first.1, first.2, run-append first.0 v u events replies more later first.3 rest)
run-append w v u [] (reply ∷ replies) more later first rest = absurd first
run-append w v u (event ∷ events) [] more later first rest = absurd first

pub goes_trans : (p q r : Plan) (w v u : WorldState) (replies later : List Reply) → Goes p w replies v q → Goes q v later u r → Goes p w (replies ++ later) u r
goes_trans p q r w v u replies later first rest = record {
  under_way = record {
    events = first.under_way.events ++ rest.under_way.events;
    asked = asked-append p q first.under_way.events replies rest.under_way.events later first.under_way.asked first.goes_on rest.under_way.asked;
    ran = run-append w v u first.under_way.events replies rest.under_way.events later first.under_way.ran rest.under_way.ran;
  };
  goes_on = λ more. ap p (append_assoc replies later more) ∙ first.goes_on (later ++ more) ∙ rest.goes_on more;
}

-- the same, where the plan goes on as one that says the same
pub goes_as : (p q r : Plan) (w v : WorldState) (replies : List Reply) → ((later : List Reply) → q later ≡ r later) → Goes p w replies v q → Goes p w replies v r
goes_as p q r w v replies same goes = record { under_way = goes.under_way; goes_on = λ later. goes.goes_on later ∙ same later }

pub carried_out : (p q : Plan) (w v : WorldState) (replies : List Reply) → q [] ≡ None → Goes p w replies v q → IsCarriedOut p w replies v
carried_out p q w v replies none goes = record {
  under_way = goes.under_way;
  done = ap p (sym (append-nil replies)) ∙ goes.goes_on [] ∙ none;
}

-- want of memory stopped what a plan goes on as
pub stopped_behind : (p q : Plan) (w v u : WorldState) (replies later : List Reply) → Goes p w replies v q → IsStopped q v later u → IsStopped p w (replies ++ later) u
stopped_behind p q w v u replies later first rest =
    let both = goes_trans p q (λ more. q (later ++ more)) w v u replies later first (record { under_way = rest.under_way; goes_on = λ more. refl }) in
    record {
      under_way = both.under_way;
      event = rest.event;
      next = first.goes_on later ∙ rest.next;
      wanted = rest.wanted;
    }

-- and so, where what it goes on as was carried out
pub carried_out_behind : (p q : Plan) (w v u : WorldState) (replies later : List Reply) → Goes p w replies v q → IsCarriedOut q v later u → IsCarriedOut p w (replies ++ later) u
carried_out_behind p q w v u replies later first rest = record {
  under_way = (goes_trans p q (λ more. q (later ++ more)) w v u replies later first (record { under_way = rest.under_way; goes_on = λ more. refl })).under_way;
  done = first.goes_on later ∙ rest.done;
}

-- The steps of a request.

pub put_goes : (queue : ℕ) (request : Request) (reply : Reply) → is_put reply ≡ true → (later : List Reply) → serving queue request (reply ∷ later) ≡ taking true queue request later
put_goes queue request (IsPut number) is later = refl
put_goes queue request reply is later = cc

pub not_put : (queue : ℕ) (request : Request) (reply : Reply) → is_put reply ≡ false → (later : List Reply) → serving queue request (reply ∷ later) ≡ None
not_put queue request (IsPut number) is later = cc
not_put queue request reply is later = refl

pub taken_goes : (gives_up : Bool) (queue : ℕ) (request : Request) (reply : Reply) → is_taken reply ≡ true → (later : List Reply) →
    taking gives_up queue request (reply ∷ later) ≡ looks gives_up queue request.waits.items request.signals.items later
taken_goes gives_up queue request (Taken number) is later = refl
taken_goes gives_up queue request reply is later = cc

pub not_taken : (gives_up : Bool) (queue : ℕ) (request : Request) (reply : Reply) → is_taken reply ≡ false → (later : List Reply) → taking gives_up queue request (reply ∷ later) ≡ None
not_taken gives_up queue request (Taken number) is later = cc
not_taken gives_up queue request reply is later = refl

pub reached_goes : (gives_up : Bool) (queue : ℕ) (point : Point) (points signals : List Point) (reply : Reply) → looked_of reply ≡ NoneLacked → (later : List Reply) →
    looks gives_up queue (point ∷ points) signals (reply ∷ later) ≡ looks gives_up queue points signals later
reached_goes gives_up queue point points signals (Reached at seen) is later = refl
reached_goes gives_up queue point points signals (Lacking at have) is later = cc
reached_goes gives_up queue point points signals reply is later = cc

pub look_ends : (gives_up : Bool) (queue : ℕ) (point : Point) (points signals : List Point) (reply : Reply) → looked_of reply ≢ NoneLacked → (later : List Reply) →
    looks gives_up queue (point ∷ points) signals (reply ∷ later) ≡ after_looks gives_up queue signals (looked_of reply) later
look_ends gives_up queue point points signals (Reached at seen) is later = absurd (is refl)
look_ends gives_up queue point points signals (Lacking at have) is later = refl
look_ends gives_up queue point points signals reply is later = refl

pub raised_goes : (queue : ℕ) (point : Point) (points : List Point) (next : Plan) (reply : Reply) → is_raised reply ≡ true → (later : List Reply) →
    paying queue (point ∷ points) next (reply ∷ later) ≡ paying queue points next later
raised_goes queue point points next (Raised at now) is later = refl
raised_goes queue point points next reply is later = cc

pub not_raised : (queue : ℕ) (point : Point) (points : List Point) (next : Plan) (reply : Reply) → is_raised reply ≡ false → (later : List Reply) →
    paying queue (point ∷ points) next (reply ∷ later) ≡ None
not_raised queue point points next (Raised at now) is later = cc
not_raised queue point points next reply is later = refl

pub accepted_goes : (queue : ℕ) (signals : List Point) (reply : Reply) → is_accepted reply ≡ true → (later : List Reply) →
    carrying_out queue signals (reply ∷ later) ≡ payments queue signals later
accepted_goes queue signals (Told number (Accepted entry)) is later = refl
accepted_goes queue signals (Told number (Refused op fault)) is later = cc
accepted_goes queue signals (Told number (NotReady point have)) is later = cc
accepted_goes queue signals reply is later = cc

pub not_accepted : (queue : ℕ) (signals : List Point) (reply : Reply) → is_accepted reply ≡ false → (later : List Reply) →
    carrying_out queue signals (reply ∷ later) ≡ None
not_accepted queue signals (Told number (Accepted entry)) is later = cc
not_accepted queue signals (Told number (Refused op fault)) is later = refl
not_accepted queue signals (Told number (NotReady point have)) is later = refl
not_accepted queue signals reply is later = refl

-- the first of the points that are left
next_point : (k : ℕ) (points : List Point) → k < length points → (p : Point) × (drop k points ≡ p ∷ drop (k + 1) points)
next_point k [] below = absurd (omega arith)
next_point zero (p ∷ points) below = (p, refl)
next_point (suc k) (p ∷ points) below =
    let q = next_point k points (omega arith) in
    let e : suc (k + 1) ≡ suc k + 1 = omega arith in
    (q.0, q.1 ∙ ap (λ (n : ℕ). q.0 ∷ drop n (p ∷ points)) e)

pub put_goes_on : (queue : ℕ) (request : Request) (reply : Reply) (w v : WorldState) → Steps w (Put queue request) reply v → is_put reply ≡ true →
    Goes (serving queue request) w (reply ∷ []) v (taking true queue request)
put_goes_on queue request reply w v here is = goes_first (serving queue request) (taking true queue request) (Put queue request) reply w v refl here (put_goes queue request reply is)

pub put_stops : (queue : ℕ) (request : Request) (reply : Reply) (w v : WorldState) → Steps w (Put queue request) reply v → is_put reply ≡ false →
    IsCarriedOut (serving queue request) w (reply ∷ []) v
put_stops queue request reply w v here is =
    carried_out (serving queue request) nothing w v (reply ∷ []) refl (goes_first (serving queue request) nothing (Put queue request) reply w v refl here (not_put queue request reply is))

pub taken_goes_on : (gives_up : Bool) (queue : ℕ) (request : Request) (reply : Reply) (w v : WorldState) → Steps w (Take queue) reply v → is_taken reply ≡ true →
    Goes (taking gives_up queue request) w (reply ∷ []) v (looks gives_up queue request.waits.items request.signals.items)
taken_goes_on gives_up queue request reply w v here is =
    goes_first (taking gives_up queue request) (looks gives_up queue request.waits.items request.signals.items) (Take queue) reply w v refl here (taken_goes gives_up queue request reply is)

pub taken_stops : (gives_up : Bool) (queue : ℕ) (request : Request) (reply : Reply) (w v : WorldState) → Steps w (Take queue) reply v → is_taken reply ≡ false →
    Goes (taking gives_up queue request) w (reply ∷ []) v nothing
taken_stops gives_up queue request reply w v here is = goes_first (taking gives_up queue request) nothing (Take queue) reply w v refl here (not_taken gives_up queue request reply is)

pub gives_up : (queue : ℕ) (reply : Reply) (w v : WorldState) → Steps w (GiveUp queue) reply v → Goes (once (GiveUp queue)) w (reply ∷ []) v nothing
gives_up queue reply w v here = goes_first (once (GiveUp queue)) nothing (GiveUp queue) reply w v refl here (λ later. refl)

pub bound_goes_on : (queue : ℕ) (signals : List Point) (reply : Reply) (w v : WorldState) → Steps w (Bind queue) reply v → is_accepted reply ≡ true →
    Goes (carrying_out queue signals) w (reply ∷ []) v (payments queue signals)
bound_goes_on queue signals reply w v here is =
    goes_first (carrying_out queue signals) (payments queue signals) (Bind queue) reply w v refl here (accepted_goes queue signals reply is)

pub bound_stops : (queue : ℕ) (signals : List Point) (reply : Reply) (w v : WorldState) → Steps w (Bind queue) reply v → is_accepted reply ≡ false →
    Goes (carrying_out queue signals) w (reply ∷ []) v nothing
bound_stops queue signals reply w v here is = goes_first (carrying_out queue signals) nothing (Bind queue) reply w v refl here (not_accepted queue signals reply is)

-- Looks and payments, so many of which are done.

pub look_goes_on : (gives_up : Bool) (queue k : ℕ) (points signals : List Point) (reply : Reply) (w v : WorldState) → k < length points → Steps w (Look queue) reply v → looked_of reply ≡ NoneLacked →
    Goes (looks gives_up queue (drop k points) signals) w (reply ∷ []) v (looks gives_up queue (drop (k + 1) points) signals)
look_goes_on gives_up queue k points signals reply w v below here is =
    let p = next_point k points below in
    rw p.1
    (goes_first (looks gives_up queue (p.0 ∷ drop (k + 1) points) signals) (looks gives_up queue (drop (k + 1) points) signals) (Look queue) reply w v refl here
    (reached_goes gives_up queue p.0 (drop (k + 1) points) signals reply is))

pub look_stops : (gives_up : Bool) (queue k : ℕ) (points signals : List Point) (reply : Reply) (came : LookResult) (w v : WorldState) → k < length points → Steps w (Look queue) reply v →
    looked_of reply ≡ came → came ≢ NoneLacked → Goes (looks gives_up queue (drop k points) signals) w (reply ∷ []) v (after_looks gives_up queue signals came)
look_stops gives_up queue k points signals reply came w v below here is ends =
    let p = next_point k points below in
    rw (p.1, ← is)
    (goes_first (looks gives_up queue (p.0 ∷ drop (k + 1) points) signals) (after_looks gives_up queue signals (looked_of reply)) (Look queue) reply w v refl here
    (look_ends gives_up queue p.0 (drop (k + 1) points) signals reply (λ e. ends (sym is ∙ e))))

pub pay_goes_on : (queue k : ℕ) (points : List Point) (next : Plan) (reply : Reply) (w v : WorldState) → k < length points → Steps w (Pay queue) reply v → is_raised reply ≡ true →
    Goes (paying queue (drop k points) next) w (reply ∷ []) v (paying queue (drop (k + 1) points) next)
pay_goes_on queue k points next reply w v below here is =
    let p = next_point k points below in
    rw p.1
    (goes_first (paying queue (p.0 ∷ drop (k + 1) points) next) (paying queue (drop (k + 1) points) next) (Pay queue) reply w v refl here
    (raised_goes queue p.0 (drop (k + 1) points) next reply is))

pub pay_stops : (queue k : ℕ) (points : List Point) (next : Plan) (reply : Reply) (w v : WorldState) → k < length points → Steps w (Pay queue) reply v → is_raised reply ≡ false →
    Goes (paying queue (drop k points) next) w (reply ∷ []) v nothing
pay_stops queue k points next reply w v below here is =
    let p = next_point k points below in
    rw p.1
    (goes_first (paying queue (p.0 ∷ drop (k + 1) points) next) nothing (Pay queue) reply w v refl here (not_raised queue p.0 (drop (k + 1) points) next reply is))

all_dropped : (points : List Point) → drop (length points) points ≡ []
all_dropped [] = refl
all_dropped (p ∷ points) = all_dropped points

pub looks_done : (gives_up : Bool) (queue k : ℕ) (points signals : List Point) (later : List Reply) → length points ≡ k → looks gives_up queue (drop k points) signals later ≡ carrying_out queue signals later
looks_done gives_up queue k points signals later is = rw (← is, all_dropped points) refl

pub paying_done : (queue k : ℕ) (points : List Point) (next : Plan) (later : List Reply) → length points ≡ k → paying queue (drop k points) next later ≡ next later
paying_done queue k points next later is = rw (← is, all_dropped points) refl

-- a request was put and taken, and its waits were looked at
pub looked_goes : (queue : ℕ) (request : Request) (put took : Reply) (replies : List Reply) (came : LookResult) (w v u x : WorldState) →
    Steps w (Put queue request) put v → is_put put ≡ true → Steps v (Take queue) took u → is_taken took ≡ true →
    Goes (looks true queue request.waits.items request.signals.items) u replies x (after_looks true queue request.signals.items came) →
    Goes (serving queue request) w (put ∷ (took ∷ replies)) x (after_looks true queue request.signals.items came)
looked_goes queue request put took replies came w v u x here is next so goes =
    goes_trans (serving queue request) (taking true queue request) (after_looks true queue request.signals.items came) w v x (put ∷ []) (took ∷ replies)
    (put_goes_on queue request put w v here is)
    (goes_trans (taking true queue request) (looks true queue request.waits.items request.signals.items) (after_looks true queue request.signals.items came) v u x (took ∷ []) replies
    (taken_goes_on true queue request took v u next so) goes)

-- want of memory at the event that a plan asks first stops it
pub wants_first : (plan : Plan) (event : Event) (want : WantOfMemory) (w v : WorldState) → plan [] ≡ Some event → IsStep w event (Err want) v → IsStopped plan w [] v
wants_first plan event want w v first wanted =
    rw wanted.1 (record { under_way = record { events = []; asked = tt; ran = refl }; event = event; next = first; wanted = wanted.0 })

-- and so at a look, so many of which are done
pub wants_look : (gives_up : Bool) (queue k : ℕ) (points signals : List Point) (want : WantOfMemory) (w v : WorldState) → k < length points → IsStep w (Look queue) (Err want) v →
    IsStopped (looks gives_up queue (drop k points) signals) w [] v
wants_look gives_up queue k points signals want w v below wanted =
    let p = next_point k points below in
    rw p.1 (wants_first (looks gives_up queue (p.0 ∷ drop (k + 1) points) signals) (Look queue) want w v refl wanted)
