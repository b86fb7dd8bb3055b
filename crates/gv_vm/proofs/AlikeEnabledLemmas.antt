-- For callers: in worlds that are alike the same events are enabled.
use Rattle.std.proofs.Common.{◌≡◌, ℕ, ◌<◌, List, length, Option, Some, None, option_map, slice_get, refl, sym, ap, ◌∙◌, subst}
use Rattle.std.specs.List.{All}
use Rattle.std.proofs.lemmas.Option.{none-some, same_Some}
use Rattle.std.proofs.lemmas.List.{length-map}
use Rattle.gv_types.specs.declared.request.Point.{Point}
use Rattle.gv_types.specs.declared.request.Request.{Request}
use Rattle.gv_journal.specs.Bare.{BareRequest, bare_request}
use Rattle.gv_vm.specs.World.{WorldState, HandState, queue_at, next_wait}
use Rattle.gv_vm.specs.Step.{IsQueue, HasHand, CanTake, CanLook, CanBind, CanGiveUp, CanPay, IsEnabled}
use Rattle.gv_vm.specs.Alike.{BareHand, bare_hand, BareQueue, AreAlikeWorlds}
use Rattle.gv_vm.specs.declared.event.Event.TheVariants.{Put}
use Rattle.gv_vm.proofs.AlikeVmLemmas.{AreAlikeVms-sym}
use Rattle.gv_vm.proofs.AlikeQueueLemmas.{waiting_alike, hand_alike, owed_alike}

pub AreAlikeWorlds-sym : (w w' : WorldState) → AreAlikeWorlds w w' → AreAlikeWorlds w' w
AreAlikeWorlds-sym w w' alike = record {
  vm = AreAlikeVms-sym w.vm w'.vm alike.vm;
  numbers = sym alike.numbers;
  depth = sym alike.depth;
  queues = sym alike.queues;
}

none_in_hand : (o : Option HandState) → option_map bare_hand o ≡ None → o ≡ None
none_in_hand None is = refl
none_in_hand (Some h) is = absurd (none-some (bare_hand h) (sym is))

some_in_hand : (o : Option HandState) (seen : BareHand) → option_map bare_hand o ≡ Some seen → (h : HandState) × (o ≡ Some h) × (bare_hand h ≡ seen)
some_in_hand None seen is = absurd (none-some seen is)
some_in_hand (Some h) seen is = (h, refl, same_Some (bare_hand h) seen is)

module _ (w w' : WorldState) (alike : AreAlikeWorlds w w') where
  there : (n : ℕ) → IsQueue w n → IsQueue w' n
  there n is =
      let count : length w.queues ≡ length w'.queues =
      sym (length-map w.queues _) ∙ ap (λ (qs : List BareQueue). length qs) alike.queues ∙ length-map w'.queues _ in
      subst (λ k. n < k) count is

  pub put_enabled : (n : ℕ) (request request' : Request) → bare_request request ≡ bare_request request' → IsEnabled w (Put n request) → IsEnabled w' (Put n request')
  put_enabled n request request' same enabled =
      let count : length w.numbers ≡ length w'.numbers = ap (λ (ns : List ℕ). length ns) alike.numbers in
      let fits : (points points' : List Point) → points ≡ points' → All (λ (p : Point). p.timeline < length w.numbers) points → All (λ p. p.timeline < length w'.numbers) points' =
      λ points points' one all. subst (λ (ps : List Point). All (λ p. p.timeline < length w'.numbers) ps) one (subst (λ k. All (λ (p : Point). p.timeline < k) points) count all) in (
        there n enabled.0,
        (
          fits request.waits.items request'.waits.items (ap (λ (r : BareRequest). r.waits) same) enabled.1.0,
          fits request.signals.items request'.signals.items (ap (λ (r : BareRequest). r.signals) same) enabled.1.1,
        ),
      )

  pub take_enabled : (n : ℕ) → CanTake w n → CanTake w' n
  take_enabled n can =
      let count : length (queue_at w n).waiting ≡ length (queue_at w' n).waiting =
      sym (length-map (queue_at w n).waiting bare_request) ∙ ap (λ (rs : List BareRequest). length rs) (waiting_alike w w' alike n) ∙ length-map (queue_at w' n).waiting bare_request in
      record {
        there = there n can.there;
        waits = subst (λ k. 0 < k) count can.waits;
        free = none_in_hand (queue_at w' n).hand (sym (hand_alike w w' alike n) ∙ ap (option_map bare_hand) can.free);
        paid = sym (owed_alike w w' alike n) ∙ can.paid;
      }

  -- the request in hand, and that it tells the same
  pub record HasAlike (n : ℕ) (has : HasHand w n) : Type 0 where
    pub other : HasHand w' n
    pub same : bare_hand other.hand ≡ bare_hand has.hand

  pub has_alike : (n : ℕ) (has : HasHand w n) → HasAlike n has
  has_alike n has =
      let h = some_in_hand (queue_at w' n).hand (bare_hand has.hand) (sym (hand_alike w w' alike n) ∙ ap (option_map bare_hand) has.is) in
      record { other = record { there = there n has.there; hand = h.0; is = h.1 }; same = h.2 }

  wait_same : (h h' : HandState) → bare_hand h' ≡ bare_hand h → next_wait h' ≡ next_wait h
  wait_same h h' same = ap (λ (s : BareHand). slice_get s.request.waits (length s.reached)) same

  pub look_enabled : (n : ℕ) → CanLook w n → CanLook w' n
  look_enabled n can =
      let has = has_alike n can.has in
      record { has = has.other; point = can.point; wait = wait_same can.has.hand has.other.hand has.same ∙ can.wait }

  pub bind_enabled : (n : ℕ) → CanBind w n → CanBind w' n
  bind_enabled n can =
      let has = has_alike n can.has in
      record { has = has.other; reached = wait_same can.has.hand has.other.hand has.same ∙ can.reached }

  pub give_up_enabled : (n : ℕ) → CanGiveUp w n → CanGiveUp w' n
  give_up_enabled n can =
      let has = has_alike n can.has in
      record { has = has.other; saw = can.saw; lacked = ap (λ (s : BareHand). s.lacked) has.same ∙ can.lacked }

  pub pay_enabled : (n : ℕ) → CanPay w n → CanPay w' n
  pay_enabled n can = record { there = there n can.there; point = can.point; later = can.later; owed = sym (owed_alike w w' alike n) ∙ can.owed }

  pub raise_enabled : (point : Point) → point.timeline < length w.numbers → point.timeline < length w'.numbers
  raise_enabled point below = subst (λ (ns : List ℕ). point.timeline < length ns) alike.numbers below
