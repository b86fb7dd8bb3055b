-- For callers: queues that are alike stay alike when a request is put, taken, looked at or given up, and when
-- its signals are paid.
use Rattle.std.proofs.Common.{◌≡◌, ℕ, ◌+◌, ◌<◌, ◌≤◌, List, [], ◌∷◌, ◌++◌, map, length, get_or, Some, None, option_map, slice_get, slice_set, slice_index, arith, refl, sym, ap, ◌∙◌, subst}
use Rattle.std.proofs.Math.ListN.{get_or-map}
use Rattle.std.proofs.lemmas.Option.{same_Some}
use Rattle.std.proofs.lemmas.List.{map-set, map-append, length-map}
use Rattle.gv_types.specs.declared.request.Point.{Point}
use Rattle.gv_types.specs.declared.request.Request.{Request}
use Rattle.gv_sync.specs.Sights.{Sight, sight}
use Rattle.gv_journal.specs.Bare.{BareRequest, bare_request}
use Rattle.gv_vm.specs.Outcomes.{told_to}
use Rattle.gv_vm.specs.State.{told_limit}
use Rattle.gv_vm.specs.World.{WorldState, QueueState, HandState, new_queue, put_fault_of, queue_at, with_queue, taken, next_number, seen_at}
use Rattle.gv_vm.specs.Step.{put_fault, IsPutAs, IsTaken, CanLook, IsReachedNow, IsLackingNow}
use Rattle.gv_vm.proofs.AlikeForgettingLemmas.{told_limit_alike}
use Rattle.gv_vm.specs.Alike.{BareHand, bare_hand, BareQueue, bare_queue, AreAlikeVms, AreAlikeWorlds}

fault_by : (limit depth : ℕ) (q q' : QueueState) → q.put ≡ q'.put → length q.waiting ≡ length q'.waiting → put_fault_of limit depth q ≡ put_fault_of limit depth q'
fault_by limit depth q q' put count = rw (put, count) refl

module _ (w w' : WorldState) (alike : AreAlikeWorlds w w') where
  pub queue_alike : (n : ℕ) → bare_queue (queue_at w n) ≡ bare_queue (queue_at w' n)
  queue_alike n =
      sym (get_or-map bare_queue w.queues n new_queue) ∙ ap (λ (qs : List BareQueue). get_or qs n (bare_queue new_queue)) alike.queues ∙ get_or-map bare_queue w'.queues n new_queue

  pub put_is_alike : (n : ℕ) → (queue_at w n).put ≡ (queue_at w' n).put
  put_is_alike n = ap (λ (q : BareQueue). q.put) (queue_alike n)

  pub waiting_alike : (n : ℕ) → map bare_request (queue_at w n).waiting ≡ map bare_request (queue_at w' n).waiting
  waiting_alike n = ap (λ (q : BareQueue). q.waiting) (queue_alike n)

  pub hand_alike : (n : ℕ) → option_map bare_hand (queue_at w n).hand ≡ option_map bare_hand (queue_at w' n).hand
  hand_alike n = ap (λ (q : BareQueue). q.hand) (queue_alike n)

  pub owed_alike : (n : ℕ) → (queue_at w n).owed ≡ (queue_at w' n).owed
  owed_alike n = ap (λ (q : BareQueue). q.owed) (queue_alike n)

  -- the requests in hand are the same
  pub hands_alike : (n : ℕ) (h h' : HandState) → (queue_at w n).hand ≡ Some h → (queue_at w' n).hand ≡ Some h' → bare_hand h ≡ bare_hand h'
  hands_alike n h h' is is' =
      same_Some (bare_hand h) (bare_hand h') (ap (option_map bare_hand) (sym is) ∙ hand_alike n ∙ ap (option_map bare_hand) is')

  -- a queue became another one, and maybe the machine and the numbers
  pub worlds_alike : (x x' y y' : WorldState) (n : ℕ) (q q' : QueueState) → x ≡ with_queue y n q → x' ≡ with_queue y' n q' → y.queues ≡ w.queues → y'.queues ≡ w'.queues →
      y.depth ≡ w.depth → y'.depth ≡ w'.depth → AreAlikeVms y.vm y'.vm → y.numbers ≡ y'.numbers → bare_queue q ≡ bare_queue q' → AreAlikeWorlds x x'
  worlds_alike x x' y y' n q q' is is' queues queues' depth depth' vm numbers same =
      subst (λ (z : WorldState). AreAlikeWorlds z x') (sym is) (subst (AreAlikeWorlds (with_queue y n q)) (sym is') (record {
        vm = vm;
        numbers = numbers;
        depth = depth ∙ alike.depth ∙ sym depth';
        queues =
            map-set bare_queue y.queues n q ∙ ap (λ (qs : List QueueState). slice_set (map bare_queue qs) n (bare_queue q)) queues
            ∙ ap (λ (qs : List BareQueue). slice_set qs n (bare_queue q)) alike.queues
            ∙ ap (slice_set (map bare_queue w'.queues) n) same
            ∙ ap (λ (qs : List QueueState). slice_set (map bare_queue qs) n (bare_queue q')) (sym queues') ∙ sym (map-set bare_queue y'.queues n q');
      }))

  -- why a request isn't put
  pub put_fault_alike : (n : ℕ) → put_fault w n ≡ put_fault w' n
  put_fault_alike n =
      let count : length (queue_at w n).waiting ≡ length (queue_at w' n).waiting =
      sym (length-map (queue_at w n).waiting bare_request) ∙ ap (λ (rs : List BareRequest). length rs) (waiting_alike n) ∙ length-map (queue_at w' n).waiting bare_request in
      let limit : told_limit w.vm n ≡ told_limit w'.vm n = told_limit_alike w.vm w'.vm alike.vm n in
      ap (λ l. put_fault_of l w.depth (queue_at w n)) limit ∙ ap (λ d. put_fault_of (told_limit w'.vm n) d (queue_at w n)) alike.depth
      ∙ fault_by (told_limit w'.vm n) w'.depth (queue_at w n) (queue_at w' n) (put_is_alike n) count

  pub next_number_alike : (n : ℕ) → next_number w n ≡ next_number w' n
  next_number_alike n = ap (λ told. length (told_to told n)) alike.vm.told

  -- a request was put
  pub put_alike : (n number number' : ℕ) (request request' : Request) (x x' : WorldState) → bare_request request ≡ bare_request request' → IsPutAs w n request number x → IsPutAs w' n request' number' x' →
      (number ≡ number') × AreAlikeWorlds x x'
  put_alike n number number' request request' x x' same put put' =
      let count : number ≡ number' = put.number_is ∙ put_is_alike n ∙ sym put'.number_is in
      let waits : map bare_request ((queue_at w n).waiting ++ request ∷ []) ≡ map bare_request ((queue_at w' n).waiting ++ request' ∷ []) =
      map-append bare_request (queue_at w n).waiting (request ∷ []) ∙ ap (λ (rs : List BareRequest). rs ++ bare_request request ∷ []) (waiting_alike n)
      ∙ ap (λ (r : BareRequest). map bare_request (queue_at w' n).waiting ++ r ∷ []) same ∙ sym (map-append bare_request (queue_at w' n).waiting (request' ∷ [])) in (
        count,
        worlds_alike x x' w w' n _ _ put.state put'.state refl refl refl refl alike.vm alike.numbers
            (ap (λ (q : BareQueue). let y : BareQueue = record q { put = number + 1; waiting = map bare_request ((queue_at w n).waiting ++ request ∷ []) } in y) (queue_alike n)
            ∙ ap (λ (rs : List BareRequest). let y : BareQueue = record (bare_queue (queue_at w' n)) { put = number + 1; waiting = rs } in y) waits
            ∙ ap (λ (k : ℕ). let y : BareQueue = record (bare_queue (queue_at w' n)) { put = k + 1; waiting = map bare_request ((queue_at w' n).waiting ++ request' ∷ []) } in y) count),
      )

  -- one was taken
  pub taken_alike : (n number number' : ℕ) (x x' : WorldState) → IsTaken w n number x → IsTaken w' n number' x' → (number ≡ number') × AreAlikeWorlds x x'
  taken_alike n number number' x x' took took' =
      let both : bare_request took.request ∷ map bare_request took.later ≡ bare_request took'.request ∷ map bare_request took'.later =
      ap (map bare_request) (sym took.front) ∙ waiting_alike n ∙ ap (map bare_request) took'.front in
      let one : bare_request took.request ≡ bare_request took'.request = cc in
      let rest : map bare_request took.later ≡ map bare_request took'.later = cc in (
        took.number_is ∙ next_number_alike n ∙ sym took'.number_is,
        worlds_alike x x' w w' n _ _ took.state took'.state refl refl refl refl alike.vm alike.numbers
            (ap (λ (q : BareQueue). let y : BareQueue = record q { waiting = map bare_request took.later; hand = Some (bare_hand (taken took.request)) } in y) (queue_alike n)
            ∙ ap (λ (rs : List BareRequest). let y : BareQueue = record (bare_queue (queue_at w' n)) { waiting = rs; hand = Some (bare_hand (taken took.request)) } in y) rest
            ∙ ap (λ (r : BareRequest). let y : BareQueue = record (bare_queue (queue_at w' n)) { waiting = map bare_request took'.later; hand = Some (record { request = r; reached = []; lacked = None }) } in y) one),
      )

  -- the point of a look
  pub look_alike : (n : ℕ) (can : CanLook w n) (can' : CanLook w' n) → can.point ≡ can'.point
  look_alike n can can' =
      let hand : bare_hand can.has.hand ≡ bare_hand can'.has.hand = hands_alike n can.has.hand can'.has.hand can.has.is can'.has.is in
      same_Some can.point can'.point
      (sym can.wait ∙ ap (λ (h : BareHand). slice_get h.request.waits (length h.reached)) hand ∙ can'.wait)

  seen_alike : (point point' : Point) (have have' : ℕ) → point ≡ point' → sight point have ≡ seen_at w point → sight point' have' ≡ seen_at w' point' → have ≡ have'
  seen_alike point point' have have' one is is' =
      ap (λ (s : Sight). s.number) is ∙ ap (λ (ns : List ℕ). slice_index ns point.timeline) alike.numbers
      ∙ ap (λ (p : Point). slice_index w'.numbers p.timeline) one ∙ sym (ap (λ (s : Sight). s.number) is')

  -- one wait more is reached
  pub reached_alike : (n : ℕ) (point point' : Point) (seen seen' : ℕ) (x x' : WorldState) → IsReachedNow w n point seen x → IsReachedNow w' n point' seen' x' →
      (point ≡ point') × (seen ≡ seen') × AreAlikeWorlds x x'
  reached_alike n point point' seen seen' x x' now now' =
      let one : point ≡ point' = now.point_is ∙ look_alike n now.enabled now'.enabled ∙ sym now'.point_is in
      let have : seen ≡ seen' = seen_alike point point' seen seen' one now.seen_is now'.seen_is in
      let hand : bare_hand now.enabled.has.hand ≡ bare_hand now'.enabled.has.hand = hands_alike n now.enabled.has.hand now'.enabled.has.hand now.enabled.has.is now'.enabled.has.is in
      let saw : sight point seen ≡ sight point' seen' = ap (λ (p : Point). sight p seen) one ∙ ap (sight point') have in (
        one,
        have,
        worlds_alike x x' w w' n _ _ now.state now'.state refl refl refl refl alike.vm alike.numbers
            (ap (λ (q : BareQueue). let y : BareQueue = record q { hand = Some (record (bare_hand now.enabled.has.hand) { reached = now.enabled.has.hand.reached ++ sight point seen ∷ []; lacked = None }) } in y) (queue_alike n)
            ∙ ap (λ (h : BareHand). let y : BareQueue = record (bare_queue (queue_at w' n)) { hand = Some (record h { reached = h.reached ++ sight point seen ∷ []; lacked = None }) } in y) hand
            ∙ ap (λ (s : Sight). let y : BareQueue = record (bare_queue (queue_at w' n)) { hand = Some (record (bare_hand now'.enabled.has.hand) { reached = now'.enabled.has.hand.reached ++ s ∷ []; lacked = None }) } in y) saw),
      )

  -- it lacks
  pub lacking_alike : (n : ℕ) (point point' : Point) (have have' : ℕ) (x x' : WorldState) → IsLackingNow w n point have x → IsLackingNow w' n point' have' x' →
      (point ≡ point') × (have ≡ have') × AreAlikeWorlds x x'
  lacking_alike n point point' have have' x x' now now' =
      let one : point ≡ point' = now.point_is ∙ look_alike n now.enabled now'.enabled ∙ sym now'.point_is in
      let same : have ≡ have' = seen_alike point point' have have' one now.have_is now'.have_is in
      let hand : bare_hand now.enabled.has.hand ≡ bare_hand now'.enabled.has.hand = hands_alike n now.enabled.has.hand now'.enabled.has.hand now.enabled.has.is now'.enabled.has.is in
      let saw : sight point have ≡ sight point' have' = ap (λ (p : Point). sight p have) one ∙ ap (sight point') same in (
        one,
        same,
        worlds_alike x x' w w' n _ _ now.state now'.state refl refl refl refl alike.vm alike.numbers
            (ap (λ (q : BareQueue). let y : BareQueue = record q { hand = Some (record (bare_hand now.enabled.has.hand) { lacked = Some (sight point have) }) } in y) (queue_alike n)
            ∙ ap (λ (h : BareHand). let y : BareQueue = record (bare_queue (queue_at w' n)) { hand = Some (record h { lacked = Some (sight point have) }) } in y) hand
            ∙ ap (λ (s : Sight). let y : BareQueue = record (bare_queue (queue_at w' n)) { hand = Some (record (bare_hand now'.enabled.has.hand) { lacked = Some s }) } in y) saw),
      )

  -- a look doesn't reach in the one world and lack in the other
  pub reached_or_lacking : (n : ℕ) (point point' : Point) (seen have : ℕ) (x x' : WorldState) → IsReachedNow w n point seen x → IsLackingNow w' n point' have x' → ⊥
  reached_or_lacking n point point' seen have x x' now now' =
      let one : point ≡ point' = now.point_is ∙ look_alike n now.enabled now'.enabled ∙ sym now'.point_is in
      let same : seen ≡ have = seen_alike point point' seen have one now.seen_is now'.have_is in
      let value : point.value ≡ point'.value = ap (λ (p : Point). p.value) one in
      let number : seen ≡ slice_index w.numbers point.timeline = ap (λ (s : Sight). s.number) now.seen_is in
      let reached : point.value ≤ slice_index w.numbers point.timeline = now.reached in
      let lacks : have < point'.value = now'.lacking in
      omega (arith, same, value, number, reached, lacks)
