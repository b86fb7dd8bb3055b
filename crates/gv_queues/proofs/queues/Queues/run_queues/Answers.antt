use Rattle.std.proofs.Common.{rules, ◌≡◌, ◌<◌, ◌∙◌, ℕ, Option, None, IfNone, Result, Ok, Err, IfErr, List, vec_len, sym, subst}
use denote.Param.Send.{arg_sync, param_sync}
use Rattle.gv_sync.specs.Seats.{SeatState}
use Rattle.gv_queues.specs.Ending.{IsOfQueueBelow}
use Rattle.gv_queues.specs.SeatSplits.{ComesBack, after_splits}
use Rattle.gv_queues.specs.Submitting.{AreOpened, SubmitterState}
use Rattle.gv_queues.specs.declared.finishing.QueuesFault.{QueuesFault}
use Rattle.gv_queues.specs.declared.finishing.QueuesFault.TheVariants.{Disagree}
use Rattle.gv_queues.proofs.QueueEnds.{counted_ends, if_ok, if_ok_both}
use Rattle.gv_queues.proofs.LockIsSync.{lock_sync}
use Rattle.gv_queues.proofs.queues.Queues.run_queues.Goals as goal

both : {A B : Type 0} → A → B → A × B
both a b = (a, b)

given_none : (r : Option ℕ) (P : Type 0) → r ≡ None → IfNone r P → P
given_none r P none holds = subst (λ (o : Option ℕ). IfNone o P) none holds

opened_so : (relies : ℕ → ℕ → Type 0) (timelines limit depth : ℕ) (submitters : List SubmitterState) → AreOpened limit depth timelines submitters → relies limit depth
    → (x : ℕ) × (y : ℕ) × AreOpened x y timelines submitters × relies x y
opened_so relies timelines limit depth submitters opened relied = (limit, depth, opened, relied)

-- queues that ran come back with what the driver did, whether they agree or not
comes_back : {T : Type 0} (P : ℕ → Type 0) (count : ℕ) (steps : SeatState → SeatState → Type 0) (old new : SeatState) (result : Result T QueuesFault) → steps (after_splits old count) new
    → IfErr result (λ fault. (queue : ℕ) × (fault ≡ Disagree queue) × P queue) → ComesBack count steps old new result
comes_back P count steps old new (Ok ends) did other = did
comes_back {T} P count steps old new (Err fault) did other = subst (λ (f : QueuesFault). ComesBack {T = T} count steps old new (Err f)) (sym other.1) did

-- and where they don't, a queue is told that there is
queue_below : {T : Type 0} (P : ℕ → Type 0) (count : ℕ) (result : Result T QueuesFault) → ((queue : ℕ) → P queue → queue < count)
    → IfErr result (λ fault. (queue : ℕ) × (fault ≡ Disagree queue) × P queue) → IfErr result (λ fault. IsOfQueueBelow count fault)
queue_below P count (Ok ends) below other = tt
queue_below P count (Err fault) below other = subst (IsOfQueueBelow count) (sym other.1) (below other.0 other.2)

pub run_workers-ran-requires-sync-L : goal.run_workers-ran-requires-sync-L
run_workers-ran-requires-sync-L g c κs within = search (lock_sync, param_sync, arg_sync) depth 6

pub run_workers-ran-requires-clause-opened : goal.run_workers-ran-requires-clause-opened
run_workers-ran-requires-clause-opened g c κs within =
    opened_so (λ (limit depth : ℕ). g.D.Driver.relies_on c.args.driver.now limit depth (vec_len c.in-Ok-open_all.opened.submitters)) _ c.told.result c.args.self.now.depth _ c.in-Ok-open_all.ensures.opened (rw (c.told.ensures.value, c.limits.ensures, c.in-Ok-open_all.ensures.even.1) c.requires.relied)

pub finish-ended-requires-clause-order : goal.finish-ended-requires-clause-order
finish-ended-requires-clause-order g c =
    both (rw c.as_slice.ensures.value (given_none _ _ c.in_default-refused.is c.run_workers-ran.ensures.puts).order) c.run_workers-ran.ensures.order

pub returns-clause-lent : goal.returns-clause-lent
returns-clause-lent g c =
    comes_back _ c.args.self.now.count (g.D.Driver.does_with c.run_workers-ran.new.driver) c.args.seat.now c.run_workers-ran.new.seat c.finish-ended.result
    (subst (λ (s : SeatState). g.D.Driver.does_with c.run_workers-ran.new.driver s c.run_workers-ran.new.seat) c.in-Ok-open_all.ensures.share
    (given_none _ _ c.in_default-refused.is c.run_workers-ran.ensures.driven)) c.finish-ended.ensures.disagree

pub returns-clause-len : goal.returns-clause-len
returns-clause-len g c =
    let even = given_none _ _ c.in_default-refused.is c.run_workers-ran.ensures.even in
    if_ok _ _ c.finish-ended.result (λ ends h. h ∙ c.as_slice.ensures.len ∙ even.0 ∙ c.in-Ok-open_all.ensures.even.1) c.finish-ended.ensures.len

pub returns-clause-queue : goal.returns-clause-queue
returns-clause-queue g c =
    let even = given_none _ _ c.in_default-refused.is c.run_workers-ran.ensures.even in
    queue_below _ c.args.self.now.count c.finish-ended.result
    (λ queue first. subst (λ (n : ℕ). queue < n) (c.as_slice.ensures.len ∙ even.0 ∙ c.in-Ok-open_all.ensures.even.1) first.exists) c.finish-ended.ensures.disagree

pub returns-clause-counted : goal.returns-clause-counted
returns-clause-counted g c =
    if_ok _ _ c.finish-ended.result (λ ends h. counted_ends _ _ _ _ _ _ (search rules) (search rules) (search rules) (search rules) h.1) (if_ok_both _ _ c.finish-ended.result c.finish-ended.ensures.len c.finish-ended.ensures.ends)
