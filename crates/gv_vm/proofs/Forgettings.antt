-- What holds of a machine and of its queues still holds once outcomes are forgotten.
use Rattle.std.proofs.Common.{◌≡◌, ℕ, zero, suc, ◌+◌, ◌<◌, ◌≤◌, ◌&&◌, ◌||◌, true, false, Bool, cond, eqb, nat_lt, List, [], ◌∷◌, ◌++◌, length, drop, reverse, replicate, get_or, set, arith, refl, sym, ◌∙◌, ap, subst, Some, None, Option, option_map, Result, Ok, Err}
use Rattle.std.specs.Prelude.{nat_le, position, slice_get, slice_set, MatchOption, IsOk, OnOk, OnErr}
use Rattle.std.specs.List.{All, position_from}
use Rattle.std.proofs.lemmas.Bool.{eqb-true, eqb-false, le-ltb, lt-leb}
use Rattle.std.proofs.lemmas.List.{get_or-set_same, get_or-set_other, length-set, length-append, length-drop, length-replicate, reverse-append, reverse-reverse}
use Rattle.std.proofs.lemmas.List.Elements.{All-nil, All-cons, All-head, All-tail, All-append}
use Rattle.std.proofs.lemmas.Iterator.Adapters.{position_from-zero}
use Rattle.gv_types.specs.declared.fault.Fault.{Fault}
use Rattle.gv_types.specs.declared.fault.Fault.TheVariants.{NoOutcome, Held}
use Rattle.gv_journal.specs.Items.{NumberedItem, numbered, entries}
use Rattle.gv_journal.specs.declared.item.Item.{Item}
use Rattle.gv_journal.specs.declared.item.ItemKind.{ItemKind}
use Rattle.gv_journal.specs.declared.item.ItemKind.TheVariants.{Bind, Withdrawal}
use Rattle.gv_vm.specs.Outcomes.{told_to, forgotten_outcome}
use Rattle.gv_vm.specs.State.{VmState, IsVm, WasTold, ToldMatchesJournal, forgotten_of, told_limit}
use Rattle.gv_vm.specs.Forgetting.{is_told_below, least_held_below, forget_fault, with_forgotten}
use Rattle.gv_vm.specs.World.{WorldState, QueueState, queue_at, next_number}
use Rattle.gv_vm.specs.Queues.{IsQueueOf, AreQueues}
use Rattle.gv_vm.specs.declared.outcome.Outcome.{Outcome}
use Rattle.gv_vm.specs.declared.outcome.Outcome.TheVariants.{Accepted}
use Rattle.gv_vm.proofs.VmInvariant.{fits_space, IsVm-of}

-- where nothing refuses it, there is such a queue, the number is within what it was told, and no entry is found
fault_parts : (a b c : Bool) (o : Option ℕ) → cond (a || b || c) (Some NoOutcome) (option_map (λ by. Held by) o) ≡ None → (a ≡ false) × (b ≡ false) × (c ≡ false) × (o ≡ None)
fault_parts true b c o none = cc
fault_parts false true c o none = cc
fault_parts false false true o none = cc
fault_parts false false false None none = (refl, refl, refl, refl)
fault_parts false false false (Some by) none = cc

parts : (v : VmState) (queue to : ℕ) → forget_fault v queue to ≡ None →
    (nat_le (length v.told) queue ≡ false) × (nat_lt to (forgotten_of v queue) ≡ false) × (nat_lt (length (told_to v.told queue)) to ≡ false) × (least_held_below v.journal queue to ≡ None)
parts v queue to none =
    fault_parts (nat_le (length v.told) queue) (nat_lt to (forgotten_of v queue)) (nat_lt (length (told_to v.told queue)) to) (least_held_below v.journal queue to) none

above : (a b : ℕ) → nat_le a b ≡ false → b < a
above a b not = grind arith

within : (a b : ℕ) → nat_lt a b ≡ false → b ≤ a
within a b not = grind arith

pub there_from_none : (v : VmState) (queue to : ℕ) → forget_fault v queue to ≡ None → queue < length v.told
there_from_none v queue to none = above (length v.told) queue (parts v queue to none).0

pub low_from_none : (v : VmState) (queue to : ℕ) → forget_fault v queue to ≡ None → forgotten_of v queue ≤ to
low_from_none v queue to none = within to (forgotten_of v queue) (parts v queue to none).1

pub high_from_none : (v : VmState) (queue to : ℕ) → forget_fault v queue to ≡ None → to ≤ length (told_to v.told queue)
high_from_none v queue to none = within (length (told_to v.told queue)) to (parts v queue to none).2

-- so no entry of the queue has a number below
no_place : (o : Option ℕ) (first : ℕ) → option_map (λ index. first + index) o ≡ None → o ≡ None
no_place None first none = refl
no_place (Some index) first none = cc

not_first : (b : Bool) (i : ℕ) (rest : Option ℕ) → cond b (Some i) rest ≡ None → (b ≡ false) × (rest ≡ None)
not_first true i rest none = cc
not_first false i rest none = (refl, none)

none_passes : (p : Item → Bool) (i : ℕ) (items : List Item) → position_from p i items ≡ None → All (λ x. p x ≡ false) items
none_passes p i [] none = All-nil (λ x. p x ≡ false)
none_passes p i (item ∷ items) none =
    let here = not_first (p item) i (position_from p (i + 1) items) none in
    All-cons (λ x. p x ≡ false) item items here.0 (none_passes p (i + 1) items here.1)

All-reverse : (P : Item → Type 0) (items : List Item) → All P items → All P (reverse items)
All-reverse P [] all = All-nil P
All-reverse P (item ∷ items) all =
    subst (λ (xs : List Item). All P xs) (sym (reverse-append (item ∷ []) items))
    (All-append P (reverse items) (item ∷ []) (All-reverse P items (All-tail P item items all)) (All-cons P item [] (All-head P item items all) (All-nil P)))

All-numbered : (P : Item → Type 0) (first : ℕ) (items : List Item) → All P items → All (λ x. P x.item) (numbered first items)
All-numbered P first [] all = All-nil (λ x. P x.item)
All-numbered P first (item ∷ older) all =
    All-cons (λ x. P x.item) (record { number = first + length older; item = item }) (numbered first older) (All-head P item older all) (All-numbered P first older (All-tail P item older all))

none_below : (v : VmState) (queue to : ℕ) → forget_fault v queue to ≡ None → All (λ x. is_told_below queue to x.item.kind ≡ false) (entries v.journal)
none_below v queue to none =
    let p : Item → Bool = λ item. is_told_below queue to item.kind in
    let found : position p (reverse v.journal.items) ≡ None = no_place (position p (reverse v.journal.items)) v.journal.first (parts v queue to none).3 in
    let all : All (λ x. p x ≡ false) (reverse v.journal.items) = none_passes p 0 (reverse v.journal.items) (sym (position_from-zero p (reverse v.journal.items)) ∙ found) in
    All-numbered (λ x. p x ≡ false) v.journal.first v.journal.items
    (subst (λ (xs : List Item). All (λ x. p x ≡ false) xs) (reverse-reverse v.journal.items) (All-reverse (λ x. p x ≡ false) (reverse v.journal.items) all))

-- there are as many queues
pub forgotten_count : (v : VmState) (queue to : ℕ) → length (with_forgotten v queue to).told ≡ length v.told
forgotten_count v queue to = length-set v.told queue (replicate to forgotten_outcome ++ drop to (told_to v.told queue))

-- each was told as many
same_length : (to : ℕ) (list : List Outcome) → to ≤ length list → length (replicate to forgotten_outcome ++ drop to list) ≡ length list
same_length to list few = omega (arith, few, length-append (replicate to forgotten_outcome) (drop to list), length-replicate to forgotten_outcome, length-drop to list)

pub forgotten_length : (v : VmState) (queue to other : ℕ) → forget_fault v queue to ≡ None → length (told_to (with_forgotten v queue to).told other) ≡ length (told_to v.told other)
forgotten_length v queue to other none =
    let list : List Outcome = replicate to forgotten_outcome ++ drop to (told_to v.told queue) in
    elim (eqb other queue) as (λ t. eqb other queue ≡ t → length (told_to (slice_set v.told queue list) other) ≡ length (told_to v.told other)) [
      | true ↦ (λ same.
          let is : other ≡ queue = eqb-true other queue same in
          subst (λ (q : ℕ). length (told_to (slice_set v.told queue list) q) ≡ length (told_to v.told q)) (sym is)
          (ap (λ (xs : List Outcome). length xs) (get_or-set_same v.told queue list [] (there_from_none v queue to none))
          ∙ same_length to (told_to v.told queue) (high_from_none v queue to none)))
      | false ↦ (λ apart. ap (λ (xs : List Outcome). length xs) (get_or-set_other v.told queue other list [] (eqb-false other queue apart)))
    ] refl

-- the others stay
stays : (to n : ℕ) (list : List Outcome) → to ≤ n → to ≤ length list → slice_get (replicate to forgotten_outcome ++ drop to list) n ≡ slice_get list n
stays zero n list low few = refl
stays (suc to) n [] low few = absurd (omega (arith, few))
stays (suc to) zero (x ∷ list) low few = absurd (omega (arith, low))
stays (suc to) (suc n) (x ∷ list) low few = stays to n list (omega (arith, low)) (omega (arith, few))

not_below : (b : Bool) (number to : ℕ) → b ≡ true → (b && nat_lt number to) ≡ false → to ≤ number
not_below true number to is apart = within number to apart
not_below false number to is apart = cc

was_told : (v : VmState) (queue to : ℕ) (kind : ItemKind) (entry : ℕ) → forget_fault v queue to ≡ None → is_told_below queue to kind ≡ false → WasTold kind entry v.told →
    WasTold kind entry (with_forgotten v queue to).told
was_told v queue to (Bind q number request seen done) entry none apart h =
    let list : List Outcome = replicate to forgotten_outcome ++ drop to (told_to v.told queue) in
    elim (eqb q queue) as (λ t. eqb q queue ≡ t → slice_get (told_to (slice_set v.told queue list) q) number ≡ Some (Accepted entry)) [
      | true ↦ (λ same.
          let is : q ≡ queue = eqb-true q queue same in
          let low : to ≤ number = not_below (eqb q queue) number to same apart in
          let here : told_to (slice_set v.told queue list) queue ≡ list = get_or-set_same v.told queue list [] (there_from_none v queue to none) in
          subst (λ (k : ℕ). slice_get (told_to (slice_set v.told queue list) k) number ≡ Some (Accepted entry)) (sym is)
          (ap (λ (xs : List Outcome). slice_get xs number) here ∙ stays to number (told_to v.told queue) low (high_from_none v queue to none)
          ∙ subst (λ (k : ℕ). slice_get (told_to v.told k) number ≡ Some (Accepted entry)) is h))
      | false ↦ (λ other. ap (λ (xs : List Outcome). slice_get xs number) (get_or-set_other v.told queue q list [] (eqb-false q queue other)) ∙ h)
    ] refl
was_told v queue to (Withdrawal of) entry none apart h = tt

all_told : (v : VmState) (queue to : ℕ) (xs : List NumberedItem) → forget_fault v queue to ≡ None → All (λ x. is_told_below queue to x.item.kind ≡ false) xs → ToldMatchesJournal xs v.told →
    ToldMatchesJournal xs (with_forgotten v queue to).told
all_told v queue to [] none apart all = All-nil (λ x. WasTold x.item.kind x.number (with_forgotten v queue to).told)
all_told v queue to (x ∷ older) none apart all =
    All-cons (λ x. WasTold x.item.kind x.number (with_forgotten v queue to).told) x older
    (was_told v queue to x.item.kind x.number none (All-head (λ x. is_told_below queue to x.item.kind ≡ false) x older apart) (All-head (λ x. WasTold x.item.kind x.number v.told) x older all))
    (all_told v queue to older none (All-tail (λ x. is_told_below queue to x.item.kind ≡ false) x older apart) (All-tail (λ x. WasTold x.item.kind x.number v.told) x older all))

pub IsVm-forgotten : (v : VmState) (queue to : ℕ) → IsVm v → forget_fault v queue to ≡ None → IsVm (with_forgotten v queue to)
IsVm-forgotten v queue to holds none =
    IsVm-of v.space v.journal v.jobs (with_forgotten v queue to).told (with_forgotten v queue to).forgotten (fits_space v holds) holds.buffers_counted.used holds.buffers_counted.held
    (all_told v queue to (entries v.journal) none (none_below v queue to none) holds.told_matches_journal)
    holds.waits_were_reached (forgotten_count v queue to ∙ holds.queues) (length-set v.forgotten queue to ∙ holds.forgotten)

pub IsVm-forget : (v : VmState) (queue to : ℕ) (told : List (List Outcome)) (forgotten : List ℕ) → IsVm v → forget_fault v queue to ≡ None → told ≡ (with_forgotten v queue to).told →
    forgotten ≡ (with_forgotten v queue to).forgotten → IsVm (record { space = v.space; journal = v.journal; jobs = v.jobs; told = told; forgotten = forgotten })
IsVm-forget v queue to told forgotten holds none told_is forgotten_is =
    subst (λ (gone : List ℕ). IsVm (record { space = v.space; journal = v.journal; jobs = v.jobs; told = told; forgotten = gone })) (sym forgotten_is)
    (subst (λ (x : List (List Outcome)). IsVm (record { space = v.space; journal = v.journal; jobs = v.jobs; told = x; forgotten = (with_forgotten v queue to).forgotten })) (sym told_is)
    (IsVm-forgotten v queue to holds none))

pub forgot : (v : VmState) (queue to : ℕ) (told : List (List Outcome)) (forgotten : List ℕ) → told ≡ (with_forgotten v queue to).told → forgotten ≡ (with_forgotten v queue to).forgotten →
    record v { told = told; forgotten = forgotten } ≡ with_forgotten v queue to
forgot v queue to told forgotten told_is forgotten_is =
    ap (λ (x : List (List Outcome)). record v { told = x; forgotten = forgotten }) told_is
    ∙ ap (λ (gone : List ℕ). record v { told = (with_forgotten v queue to).told; forgotten = gone }) forgotten_is

-- nothing refuses it
pub none_from : (v : VmState) (queue to : ℕ) → queue < length v.told → forgotten_of v queue ≤ to → to ≤ length (told_to v.told queue) → least_held_below v.journal queue to ≡ None → forget_fault v queue to ≡ None
none_from v queue to there low high held = rw (lt-leb _ _ there, le-ltb _ _ low, le-ltb _ _ high, held) refl

-- No queue may be told fewer than before.
rises : (gone : List ℕ) (queue to n : ℕ) → get_or gone queue 0 ≤ to → get_or gone n 0 ≤ get_or (set gone queue to) n 0
rises [] queue to n low = omega arith
rises (k ∷ gone) zero to zero low = low
rises (k ∷ gone) zero to (suc n) low = omega arith
rises (k ∷ gone) (suc queue) to zero low = omega arith
rises (k ∷ gone) (suc queue) to (suc n) low = rises gone queue to n low

limit_rises : (v : VmState) (queue to n : ℕ) → forget_fault v queue to ≡ None → told_limit v n ≤ told_limit (with_forgotten v queue to) n
limit_rises v queue to n none = omega (arith, rises v.forgotten queue to n (low_from_none v queue to none))

IsQueueOf-more : (limit more timelines told tells : ℕ) (q : QueueState) → limit ≤ more → tells ≡ told → IsQueueOf limit timelines told q → IsQueueOf more timelines tells q
IsQueueOf-more limit more timelines told tells q up same h = subst (λ (k : ℕ). IsQueueOf more timelines k q) (sym same) (record {
  put = h.put;
  few = omega (arith, up, h.few);
  waiting = h.waiting;
  hand = h.hand;
  owed = h.owed;
})

AreQueues-forgotten : (w : WorldState) (queue to : ℕ) → AreQueues w → forget_fault w.vm queue to ≡ None → AreQueues (record w { vm = with_forgotten w.vm queue to })
AreQueues-forgotten w queue to holds none = record {
  few = holds.few;
  told = forgotten_count w.vm queue to ∙ holds.told;
  each = λ n below.
      IsQueueOf-more (told_limit w.vm n) (told_limit (with_forgotten w.vm queue to) n) (length w.numbers) (next_number w n) _ (queue_at w n)
      (limit_rises w.vm queue to n none) (forgotten_length w.vm queue to n none) (holds.each n below);
}

abbrev went : ℕ → Result ℕ Fault
went count = Ok count

pub none_where_went : (o : Option Fault) (count : ℕ) → MatchOption o (IsOk (went count)) (λ fault. went count ≡ Err fault) → o ≡ None
none_where_went None count h = refl
none_where_went (Some fault) count h = cc

pub forget_keeps : (w : WorldState) (v : VmState) (queue to : ℕ) (r : Result ℕ Fault) → AreQueues w → MatchOption (forget_fault w.vm queue to) (IsOk r) (λ fault. r ≡ Err fault) →
    OnOk r (v ≡ with_forgotten w.vm queue to) → OnErr r (v ≡ w.vm) → AreQueues (record w { vm = v })
forget_keeps w v queue to (Ok count) holds why is same =
    subst (λ (x : VmState). AreQueues (record w { vm = x })) (sym is) (AreQueues-forgotten w queue to holds (none_where_went (forget_fault w.vm queue to) count why))
forget_keeps w v queue to (Err fault) holds why is same = subst (λ (x : VmState). AreQueues (record w { vm = x })) (sym same) holds
