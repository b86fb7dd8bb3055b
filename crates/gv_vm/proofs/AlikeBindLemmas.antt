-- For callers: worlds that are alike stay alike when a request is carried out or given up, when a signal is
-- raised, and after a call.
use Rattle.std.proofs.Common.{◌≡◌, ℕ, List, ◌∷◌, None, slice_index, refl, sym, ap, ◌∙◌, subst}
use Rattle.std.proofs.lemmas.Option.{same_Some}
use Rattle.gv_types.specs.declared.request.Point.{Point}
use Rattle.gv_types.specs.declared.request.Request.{Request}
use Rattle.gv_sync.specs.Raises.{with_raise}
use Rattle.gv_sync.specs.Sights.{Sight}
use Rattle.gv_journal.specs.Bare.{BareRequest, bare_request}
use Rattle.gv_vm.specs.Outcomes.{with_outcome}
use Rattle.gv_vm.specs.BindOutcome.{IsBoundAndTold, seen_by}
use Rattle.gv_vm.specs.World.{WorldState, HandState, queue_at}
use Rattle.gv_vm.specs.Step.{owed_for, IsBoundNow, IsGivenUp, IsPaidNow, IsRaisedNow}
use Rattle.gv_vm.specs.Alike.{BareHand, bare_hand, BareQueue, bare_queue, AreAlikeVms, AreAlikeWorlds, IsAmple}
use Rattle.gv_vm.specs.declared.outcome.Outcome.{Outcome}
use Rattle.gv_vm.specs.declared.outcome.Outcome.TheVariants.{Accepted, NotReady, Refused as RefusedAt}
use Rattle.gv_vm.proofs.AlikeVmLemmas.{outcome_alike, carried_alike}
use Rattle.gv_vm.proofs.AlikeQueueLemmas.{queue_alike, hands_alike, owed_alike, next_number_alike, worlds_alike}

owed_same : (request request' : Request) (outcome : Outcome) → bare_request request ≡ bare_request request' → owed_for request outcome ≡ owed_for request' outcome
owed_same request request' (Accepted entry) same = ap (λ (r : BareRequest). r.signals) same
owed_same request request' (RefusedAt op fault) same = refl
owed_same request request' (NotReady point have) same = refl

module _ (w w' : WorldState) (alike : AreAlikeWorlds w w') where
  -- only the machine changed
  pub vms_alike : (x x' : WorldState) → x ≡ record w { vm = x.vm } → x' ≡ record w' { vm = x'.vm } → AreAlikeVms x.vm x'.vm → AreAlikeWorlds x x'
  vms_alike x x' is is' vm =
      subst (λ (z : WorldState). AreAlikeWorlds z x') (sym is) (subst (AreAlikeWorlds (record w { vm = x.vm })) (sym is')
      (record { vm = vm; numbers = alike.numbers; depth = alike.depth; queues = alike.queues }))

  -- a timeline was raised
  pub raised_alike : (asked point point' : Point) (now now' : ℕ) (x x' : WorldState) → IsRaisedNow w asked point now x → IsRaisedNow w' asked point' now' x' →
      (point ≡ point') × (now ≡ now') × AreAlikeWorlds x x'
  raised_alike asked point point' now now' x x' up up' =
      let one : point ≡ point' = up.point_is ∙ sym up'.point_is in
      let numbers : x.numbers ≡ x'.numbers =
      ap (λ (z : WorldState). z.numbers) up.state ∙ ap (λ (ns : List ℕ). with_raise ns point) alike.numbers ∙ ap (with_raise w'.numbers) one ∙ sym (ap (λ (z : WorldState). z.numbers) up'.state) in (
        one,
        up.now_is ∙ ap (λ (ns : List ℕ). slice_index ns point.timeline) numbers ∙ ap (λ (p : Point). slice_index x'.numbers p.timeline) one ∙ sym up'.now_is,
        subst (λ (z : WorldState). AreAlikeWorlds z x') (sym up.state) (subst (AreAlikeWorlds (record w { numbers = with_raise w.numbers point })) (sym up'.state)
            (record { vm = alike.vm; numbers = ap (λ (ns : List ℕ). with_raise ns point) alike.numbers ∙ ap (with_raise w'.numbers) one; depth = alike.depth; queues = alike.queues })),
      )

  -- a signal was paid
  pub paid_alike : (n : ℕ) (point point' : Point) (now now' : ℕ) (x x' : WorldState) → IsPaidNow w n point now x → IsPaidNow w' n point' now' x' →
      (point ≡ point') × (now ≡ now') × AreAlikeWorlds x x'
  paid_alike n point point' now now' x x' paid paid' =
      let both : paid.enabled.point ∷ paid.enabled.later ≡ paid'.enabled.point ∷ paid'.enabled.later = sym paid.enabled.owed ∙ owed_alike w w' alike n ∙ paid'.enabled.owed in
      let head : paid.enabled.point ≡ paid'.enabled.point = cc in
      let rest : paid.enabled.later ≡ paid'.enabled.later = cc in
      let one : point ≡ point' = paid.point_is ∙ head ∙ sym paid'.point_is in
      let up : with_raise w.numbers point ≡ with_raise w'.numbers point' = ap (λ (ns : List ℕ). with_raise ns point) alike.numbers ∙ ap (with_raise w'.numbers) one in
      let numbers : x.numbers ≡ x'.numbers = ap (λ (z : WorldState). z.numbers) paid.state ∙ up ∙ sym (ap (λ (z : WorldState). z.numbers) paid'.state) in (
        one,
        paid.now_is ∙ ap (λ (ns : List ℕ). slice_index ns point.timeline) numbers ∙ ap (λ (p : Point). slice_index x'.numbers p.timeline) one ∙ sym paid'.now_is,
        worlds_alike w w' alike x x' (record w { numbers = with_raise w.numbers point }) (record w' { numbers = with_raise w'.numbers point' }) n _ _ paid.state paid'.state refl refl refl refl
            alike.vm up
            (ap (λ (q : BareQueue). let y : BareQueue = record q { owed = paid.enabled.later } in y) (queue_alike w w' alike n)
            ∙ ap (λ (ps : List Point). let y : BareQueue = record (bare_queue (queue_at w' n)) { owed = ps } in y) rest),
      )

  -- a request was given up
  pub given_up_alike : (n number number' : ℕ) (outcome outcome' : Outcome) (x x' : WorldState) → IsGivenUp w n number outcome x → IsGivenUp w' n number' outcome' x' →
      (number ≡ number') × (outcome ≡ outcome') × AreAlikeWorlds x x'
  given_up_alike n number number' outcome outcome' x x' up up' =
      let hand : bare_hand up.enabled.has.hand ≡ bare_hand up'.enabled.has.hand =
      hands_alike w w' alike n up.enabled.has.hand up'.enabled.has.hand up.enabled.has.is up'.enabled.has.is in
      let saw : up.enabled.saw ≡ up'.enabled.saw =
      same_Some up.enabled.saw up'.enabled.saw (sym up.enabled.lacked ∙ ap (λ (h : BareHand). h.lacked) hand ∙ up'.enabled.lacked) in
      let one : outcome ≡ outcome' = up.outcome_is ∙ ap (λ (s : Sight). NotReady s.point s.number) saw ∙ sym up'.outcome_is in (
        up.number_is ∙ next_number_alike w w' alike n ∙ sym up'.number_is,
        one,
        worlds_alike w w' alike x x' (record w { vm = record w.vm { told = with_outcome w.vm.told n outcome } })
            (record w' { vm = record w'.vm { told = with_outcome w'.vm.told n outcome' } }) n _ _ up.state up'.state refl refl refl refl
            (record {
              space = alike.vm.space;
              journal = alike.vm.journal;
              jobs = alike.vm.jobs;
              told = ap (λ told. with_outcome told n outcome) alike.vm.told ∙ ap (with_outcome w'.vm.told n) one;
              forgotten = alike.vm.forgotten;
            }) alike.numbers
            (ap (λ (q : BareQueue). let y : BareQueue = record q { hand = None } in y) (queue_alike w w' alike n)),
      )

  -- a request was carried out
  pub bound_alike : (n number number' : ℕ) (outcome outcome' : Outcome) (x x' : WorldState) → IsBoundNow w n number outcome x → IsBoundNow w' n number' outcome' x' →
      IsAmple outcome → IsAmple outcome' → (number ≡ number') × (outcome ≡ outcome') × AreAlikeWorlds x x'
  bound_alike n number number' outcome outcome' x x' bound bound' ample ample' =
      let h : HandState = bound.enabled.has.hand in
      let h' : HandState = bound'.enabled.has.hand in
      let hand : bare_hand h ≡ bare_hand h' = hands_alike w w' alike n h h' bound.enabled.has.is bound'.enabled.has.is in
      let request : bare_request h.request ≡ bare_request h'.request = ap (λ (s : BareHand). s.request) hand in
      let seen : seen_by h.reached ≡ seen_by h'.reached = ap (λ (s : BareHand). seen_by s.reached) hand in
      let count : number ≡ number' = bound.number_is ∙ next_number_alike w w' alike n ∙ sym bound'.number_is in
      let done' : IsBoundAndTold w'.vm x'.vm n number h'.request (seen_by h.reached) outcome' =
      subst (λ k. IsBoundAndTold w'.vm x'.vm n k h'.request (seen_by h.reached) outcome') (sym count)
      (subst (λ (ns : List ℕ). IsBoundAndTold w'.vm x'.vm n number' h'.request ns outcome') (sym seen) bound'.vm) in
      let one : outcome ≡ outcome' =
      outcome_alike w.vm w'.vm alike.vm x.vm x'.vm n number h.request h'.request (seen_by h.reached) request outcome outcome' bound.vm.came done'.came ample ample' in
      let vm : AreAlikeVms x.vm x'.vm =
      carried_alike w.vm w'.vm alike.vm x.vm x'.vm n number h.request h'.request (seen_by h.reached) request outcome outcome' bound.vm done' ample ample' in (
        count,
        one,
        worlds_alike w w' alike x x' (record w { vm = x.vm }) (record w' { vm = x'.vm }) n _ _ bound.state bound'.state refl refl refl refl vm alike.numbers
            (ap (λ (q : BareQueue). let y : BareQueue = record q { hand = None; owed = owed_for h.request outcome } in y) (queue_alike w w' alike n)
            ∙ ap (λ (ps : List Point). let y : BareQueue = record (bare_queue (queue_at w' n)) { hand = None; owed = ps } in y) (owed_same h.request h'.request outcome request ∙ ap (owed_for h'.request) one)),
      )
