-- Timelines rise along a run, and each is the greatest of its raises.
use Rattle.std.proofs.Common.{◌≡◌, ◌≢◌, ℕ, zero, suc, ◌<◌, ◌≤◌, true, false, Bool, cond, eqb, List, [], ◌∷◌, ◌++◌, length, map, filter, replicate, max, arith, refl, sym, ◌∙◌, ap, subst, append_assoc, append-nil, Result, Ok, Err}
use Rattle.std.specs.Prelude.{slice_index, slice_set}
use Rattle.std.proofs.lemmas.Bool.{eqb-true, eqb-false}
use Rattle.std.proofs.lemmas.List.{get_or-set_same, get_or-set_other, length-set}
use Rattle.gv_types.specs.Bounds.{BoundsState}
use Rattle.gv_types.specs.Limits.{LimitsState}
use Rattle.gv_types.specs.declared.fault.OutOfMemory.{OutOfMemory as WantOfMemory}
use Rattle.gv_types.specs.declared.request.Point.{Point}
use Rattle.gv_sync.specs.Laws.{RaisedOnceMore}
use Rattle.gv_sync.specs.Raises.{raised, values_on, with_raise, IsAfter}
use Rattle.gv_vm.specs.World.{WorldState, new_world}
use Rattle.gv_vm.specs.Step.{step, IsStep, NoneFalls}
use Rattle.gv_vm.specs.Run.{IsRunOf}
use Rattle.gv_vm.specs.QueueHistory.{raised_by}
use Rattle.gv_vm.specs.declared.event.Event.{Event}
use Rattle.gv_vm.specs.declared.event.Event.TheVariants.{Put, Take, Look, Bind, GiveUp, Pay, Raise, Create, Destroy, Rewind, Withdraw, Settle, Forget, Trim, JobBegin, JobEnd, Translate}
use Rattle.gv_vm.specs.declared.event.Reply.{Reply}
use Rattle.gv_vm.specs.declared.event.Reply.TheVariants.{Idle, Put as IsPut, NotPut, Taken, Reached, Lacking, Told, Raised, Created, Destroyed, Rewound, Withdrawn, Settled, Forgot, Trimmed, Begun, Ended, Found, Refused}

abbrev numbers_in : WorldState → List ℕ
numbers_in w = w.numbers

-- what a reply did to the timelines
abbrev numbers_after : Reply → List ℕ → List ℕ
numbers_after (Raised point now) ns = with_raise ns point
numbers_after reply ns = ns

moved : (old new : WorldState) (event : Event) (reply : Reply) → step old event reply new → new.numbers ≡ numbers_after reply old.numbers
moved old new (Pay n) (Raised point now) st = ap numbers_in st.state
moved old new (Raise asked) (Raised point now) st = ap numbers_in st.state
moved old new (Put n request) (IsPut number) st = ap numbers_in st.state
moved old new (Put n request) (NotPut fault back) st = ap numbers_in st.state
moved old new (Take n) (Taken number) st = ap numbers_in st.state
moved old new (Look n) (Reached point seen) st = ap numbers_in st.state
moved old new (Look n) (Lacking point have) st = ap numbers_in st.state
moved old new (Bind n) (Told number outcome) st = ap numbers_in st.state
moved old new (GiveUp n) (Told number outcome) st = ap numbers_in st.state
moved old new (Create size) (Created id) st = ap numbers_in st.state
moved old new (Destroy id) Destroyed st = ap numbers_in st.state
moved old new Rewind (Rewound item) st = ap numbers_in st.state
moved old new (Withdraw entry) (Withdrawn item) st = ap numbers_in st.state
moved old new (Settle to) (Settled count) st = ap numbers_in st.state
moved old new (Forget queue to) (Forgot count) st = ap numbers_in st.state
moved old new Trim Trimmed st = ap numbers_in st.state
moved old new (JobBegin accesses) (Begun number places) st = ap numbers_in st.state
moved old new (JobEnd asked) (Ended job) st = ap numbers_in st.state
moved old new (Translate addr) (Found place) st = ap numbers_in st.1
moved old new event Idle st = ap numbers_in st.1
moved old new event (Refused fault) st = ap numbers_in st.1
moved old new event reply st = absurd st

-- one raise
raise_is : (ns : List ℕ) (point : Point) (timeline : ℕ) → timeline < length ns →
    slice_index (with_raise ns point) timeline ≡ cond (eqb point.timeline timeline) (max (slice_index ns timeline) point.value) (slice_index ns timeline)
raise_is ns point timeline less =
    elim (eqb point.timeline timeline) as (λ t. eqb point.timeline timeline ≡ t → slice_index (with_raise ns point) timeline ≡ cond t (max (slice_index ns timeline) point.value) (slice_index ns timeline)) [
      | true ↦ (λ is.
          let same : point.timeline ≡ timeline = eqb-true point.timeline timeline is in
          ap (λ (k : ℕ). slice_index (slice_set ns k (max (slice_index ns k) point.value)) timeline) same ∙ get_or-set_same ns timeline (max (slice_index ns timeline) point.value) 0 less)
      | false ↦ (λ isnt.
          let other : timeline ≢ point.timeline = λ e. eqb-false point.timeline timeline isnt (sym e) in
          get_or-set_other ns point.timeline timeline (max (slice_index ns point.timeline) point.value) 0 other)
    ] refl

no_less : (ns : List ℕ) (k v timeline : ℕ) → slice_index ns k ≤ v → slice_index ns timeline ≤ slice_index (slice_set ns k v) timeline
no_less [] k v timeline h = omega arith
no_less (n ∷ ns) zero v zero h = h
no_less (n ∷ ns) zero v (suc timeline) h = omega arith
no_less (n ∷ ns) (suc k) v zero h = omega arith
no_less (n ∷ ns) (suc k) v (suc timeline) h = no_less ns k v timeline h

rises : (reply : Reply) (ns : List ℕ) (timeline : ℕ) → slice_index ns timeline ≤ slice_index (numbers_after reply ns) timeline
rises (Raised point now) ns timeline = no_less ns point.timeline (max (slice_index ns point.timeline) point.value) timeline (omega arith)
rises reply ns timeline = omega arith

pub never_falls : (old new : WorldState) (events : List Event) (replies : List Reply) (timeline : ℕ) → IsRunOf old events replies new → slice_index old.numbers timeline ≤ slice_index new.numbers timeline
never_falls old new [] [] timeline ran = subst (λ (w : WorldState). slice_index old.numbers timeline ≤ slice_index w.numbers timeline) (sym ran) (omega arith)
never_falls old new (event ∷ events) (reply ∷ replies) timeline ran =
    let here : slice_index old.numbers timeline ≤ slice_index ran.0.numbers timeline =
    subst (λ (ns : List ℕ). slice_index old.numbers timeline ≤ slice_index ns timeline) (sym (moved old ran.0 event reply ran.1)) (rises reply old.numbers timeline) in
    omega (arith, here, never_falls ran.0 new events replies timeline ran.3)
never_falls old new [] (reply ∷ replies) timeline ran = absurd ran
never_falls old new (event ∷ events) [] timeline ran = absurd ran

-- a step lowers no timeline, and want of memory none
pub none_falls : (old new : WorldState) (event : Event) (answer : Result Reply WantOfMemory) → IsStep old event answer new → NoneFalls old new
none_falls old new event (Ok reply) st timeline = subst (λ (ns : List ℕ). slice_index old.numbers timeline ≤ slice_index ns timeline) (sym (moved old new event reply st)) (rises reply old.numbers timeline)
none_falls old new event (Err want) st timeline = subst (λ (ns : List ℕ). slice_index old.numbers timeline ≤ slice_index ns timeline) (sym (ap numbers_in st.1)) (omega arith)

-- the raises of one more point
under : (t : Bool) (v : ℕ) (vs : List ℕ) (value : ℕ) → v ∷ cond t (vs ++ value ∷ []) vs ≡ cond t ((v ∷ vs) ++ value ∷ []) (v ∷ vs)
under true v vs value = refl
under false v vs value = refl

values_more : (timeline : ℕ) (points : List Point) (point : Point) → values_on timeline (points ++ point ∷ []) ≡ cond (eqb point.timeline timeline) (values_on timeline points ++ point.value ∷ []) (values_on timeline points)
values_more timeline [] point =
    elim (eqb point.timeline timeline) as (λ t. map (λ (p : Point). p.value) (cond t (point ∷ []) []) ≡ cond t (point.value ∷ []) []) [ true ↦ refl | false ↦ refl ]
values_more timeline (p ∷ points) point =
    elim (eqb p.timeline timeline) as (λ t. map (λ (x : Point). x.value) (cond t (p ∷ filter (λ (x : Point). eqb x.timeline timeline) (points ++ point ∷ [])) (filter (λ (x : Point). eqb x.timeline timeline) (points ++ point ∷ [])))
    ≡ cond (eqb point.timeline timeline) (map (λ (x : Point). x.value) (cond t (p ∷ filter (λ (x : Point). eqb x.timeline timeline) points) (filter (λ (x : Point). eqb x.timeline timeline) points)) ++ point.value ∷ [])
    (map (λ (x : Point). x.value) (cond t (p ∷ filter (λ (x : Point). eqb x.timeline timeline) points) (filter (λ (x : Point). eqb x.timeline timeline) points)))) [
      | true ↦ ap (λ (vs : List ℕ). p.value ∷ vs) (values_more timeline points point) ∙ under (eqb point.timeline timeline) p.value (values_on timeline points) point.value
      | false ↦ values_more timeline points point
    ]

chosen : RaisedOnceMore → (t : Bool) (vs : List ℕ) (value : ℕ) → cond t (max (raised vs) value) (raised vs) ≡ raised (cond t (vs ++ value ∷ []) vs)
chosen law true vs value = sym (law vs value)
chosen law false vs value = refl

after_more : RaisedOnceMore → (raises : List Point) (ns : List ℕ) (point : Point) → IsAfter raises ns → IsAfter (raises ++ point ∷ []) (with_raise ns point)
after_more law raises ns point after timeline less =
    let within : timeline < length ns = omega (arith, length-set ns point.timeline (max (slice_index ns point.timeline) point.value)) in
    raise_is ns point timeline within ∙ ap (λ (n : ℕ). cond (eqb point.timeline timeline) (max n point.value) n) (after timeline within)
    ∙ chosen law (eqb point.timeline timeline) (values_on timeline raises) point.value ∙ ap (λ (vs : List ℕ). raised vs) (sym (values_more timeline raises point))

reply_more : RaisedOnceMore → (raises : List Point) (ns : List ℕ) (reply : Reply) → IsAfter raises ns → IsAfter (raises ++ raised_by (reply ∷ [])) (numbers_after reply ns)
reply_more law raises ns (Raised point now) after = after_more law raises ns point after
reply_more law raises ns reply after = subst (λ (ps : List Point). IsAfter ps ns) (sym (append-nil raises)) after

raised_cons : (reply : Reply) (replies : List Reply) → raised_by (reply ∷ []) ++ raised_by replies ≡ raised_by (reply ∷ replies)
raised_cons (Raised point now) replies = refl
raised_cons reply replies = refl

runs_after : RaisedOnceMore → (raises : List Point) (old new : WorldState) (events : List Event) (replies : List Reply) → IsRunOf old events replies new → IsAfter raises old.numbers → IsAfter (raises ++ raised_by replies) new.numbers
runs_after law raises old new [] [] ran after =
    subst (λ (w : WorldState). IsAfter (raises ++ []) w.numbers) (sym ran) (subst (λ (ps : List Point). IsAfter ps old.numbers) (sym (append-nil raises)) after)
runs_after law raises old new (event ∷ events) (reply ∷ replies) ran after =
    let here : IsAfter (raises ++ raised_by (reply ∷ [])) ran.0.numbers = subst (λ (ns : List ℕ). IsAfter (raises ++ raised_by (reply ∷ [])) ns) (sym (moved old ran.0 event reply ran.1)) (reply_more law raises old.numbers reply after) in
    subst (λ (ps : List Point). IsAfter ps new.numbers) (append_assoc raises (raised_by (reply ∷ [])) (raised_by replies) ∙ ap (λ (ps : List Point). raises ++ ps) (raised_cons reply replies))
    (runs_after law (raises ++ raised_by (reply ∷ [])) ran.0 new events replies ran.3 here)
runs_after law raises old new [] (reply ∷ replies) ran after = absurd ran
runs_after law raises old new (event ∷ events) [] ran after = absurd ran

zeros : (n i : ℕ) → slice_index (replicate n 0) i ≡ 0
zeros zero i = refl
zeros (suc n) zero = refl
zeros (suc n) (suc i) = zeros n i

pub follows_raises : RaisedOnceMore → (area : BoundsState) (limits : LimitsState) (queues depth timelines : ℕ) (events : List Event) (replies : List Reply) (w : WorldState) →
    IsRunOf (new_world area limits queues depth timelines) events replies w → IsAfter (raised_by replies) w.numbers
follows_raises law area limits queues depth timelines events replies w ran =
    runs_after law [] (new_world area limits queues depth timelines) w events replies ran (λ timeline less. zeros timelines timeline)
