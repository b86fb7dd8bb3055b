-- The least held entry of a queue with a number below another: the outcomes below that number tell it as the journal does.
use Rattle.std.proofs.Common.{◌≡◌, ℕ, zero, suc, ◌+◌, ◌-◌, ◌<◌, ◌≤◌, ◌&&◌, min, Bool, true, false, cond, eqb, nat_lt, List, [], ◌∷◌, ◌++◌, length, take, reverse, replicate, arith, refl, sym, ◌∙◌, ap, subst, Some, None, Option, option_map, inl, inr}
use Rattle.std.specs.Prelude.{◌⊎◌, position, slice_get}
use Rattle.std.specs.List.{All, position_from}
use Rattle.std.proofs.lemmas.Bool.{cases_lt, eqb-true, le-ltb}
use Rattle.std.proofs.lemmas.List.{get_or_past, length-reverse, reverse-append, take_all}
use Rattle.std.proofs.lemmas.List.Elements.{All-head, All-tail}
use Rattle.std.proofs.lemmas.Iterator.Adapters.{position_from-zero}
use Rattle.gv_journal.specs.Items.{JournalState, NumberedItem, numbered, entries}
use Rattle.gv_journal.specs.Notes.{lesser}
use Rattle.gv_journal.specs.Withdrawing.{item_at}
use Rattle.gv_journal.specs.declared.item.Item.{Item}
use Rattle.gv_journal.specs.declared.item.ItemKind.{ItemKind}
use Rattle.gv_journal.specs.declared.item.ItemKind.TheVariants.{Bind, Withdrawal}
use Rattle.gv_vm.specs.Outcomes.{told_to, forgotten_outcome}
use Rattle.gv_vm.specs.State.{VmState, WasTold, ToldMatchesJournal}
use Rattle.gv_vm.specs.Forgetting.{is_told_below, least_held_below}
use Rattle.gv_vm.specs.HeldEntries.{is_held_below, held_by, least_held}
use Rattle.gv_vm.specs.declared.outcome.Outcome.{Outcome}
use Rattle.gv_vm.specs.declared.outcome.Outcome.TheVariants.{Accepted, Refused, NotReady}

-- there is one, and it is at most this
abbrev AtMost : Option ℕ → ℕ → Type 0
AtMost None n = ⊥
AtMost (Some m) n = m ≤ n

-- where each is at most the other, they are the same
same_least : (a b : Option ℕ) → ((n : ℕ) → a ≡ Some n → AtMost b n) → ((n : ℕ) → b ≡ Some n → AtMost a n) → a ≡ b
same_least None None up down = refl
same_least None (Some m) up down = absurd (down m refl)
same_least (Some n) None up down = absurd (up n refl)
same_least (Some n) (Some m) up down = let same : n ≡ m = omega (arith, up n refl, down m refl) in ap (λ (k : ℕ). Some k) same

at_most_shifted : (o : Option ℕ) (first n : ℕ) → AtMost o n → AtMost (option_map (λ index. first + index) o) (first + n)
at_most_shifted None first n h = absurd h
at_most_shifted (Some m) first n h = omega (arith, h)

-- The first place that passes is at most each that does, and passes.
first_at_most : (p : Item → Bool) (i : ℕ) (xs : List Item) (k : ℕ) (x : Item) → slice_get xs k ≡ Some x → p x ≡ true → AtMost (position_from p i xs) (i + k)
first_at_most p i [] k x at passes = cc
first_at_most p i (y ∷ xs) zero x at passes =
    let same : y ≡ x = cc in
    let here : p y ≡ true = ap p same ∙ passes in
    rw here (omega arith)
first_at_most p i (y ∷ xs) (suc k) x at passes =
    let same : (i + 1) + k ≡ i + suc k = omega arith in
    let later : AtMost (position_from p (i + 1) xs) (i + suc k) =
    subst (λ (n : ℕ). AtMost (position_from p (i + 1) xs) n) same (first_at_most p (i + 1) xs k x at passes) in
    elim (p y) as (λ b. AtMost (cond b (Some i) (position_from p (i + 1) xs)) (i + suc k)) [ true ↦ omega arith | false ↦ later ]

-- an item that passes stands there
record PassesAt (p : Item → Bool) (xs : List Item) (k : ℕ) : Type 0 where
  pub item : Item
  pub here : slice_get xs k ≡ Some item
  pub passes : p item ≡ true

first_passes : (p : Item → Bool) (i : ℕ) (xs : List Item) (k : ℕ) → position_from p i xs ≡ Some k → (i ≤ k) × PassesAt p xs (k - i)
first_passes p i [] k found = cc
first_passes p i (y ∷ xs) k found = by_cases (p y) refl found (λ h. first_passes p (i + 1) xs k h)
  where
    by_cases : (b : Bool) → p y ≡ b → cond b (Some i) (position_from p (i + 1) xs) ≡ Some k →
        (position_from p (i + 1) xs ≡ Some k → (i + 1 ≤ k) × PassesAt p xs (k - (i + 1))) → (i ≤ k) × PassesAt p (y ∷ xs) (k - i)
    by_cases true is h later =
        let index : i ≡ k = cc in
        let none : 0 ≡ k - i = omega (arith, index) in
        (omega (arith, index), subst (λ (n : ℕ). PassesAt p (y ∷ xs) n) none (record { item = y; here = refl; passes = is }))
    by_cases false is h later =
        let rest = later h in
        let index : suc (k - (i + 1)) ≡ k - i = omega (arith, rest.0) in
        (omega (arith, rest.0), subst (λ (n : ℕ). PassesAt p (y ∷ xs) n) index (record { item = rest.1.item; here = rest.1.here; passes = rest.1.passes }))

-- what holds of the entries holds of the item at a place, by its number
last_or_before : (xs : List Item) (y x : Item) (k : ℕ) → slice_get (xs ++ y ∷ []) k ≡ Some x → (slice_get xs k ≡ Some x) ⊎ ((k ≡ length xs) × (y ≡ x))
last_or_before [] y x zero at = let same : y ≡ x = cc in inr (refl, same)
last_or_before [] y x (suc k) at = cc
last_or_before (z ∷ xs) y x zero at = inl at
last_or_before (z ∷ xs) y x (suc k) at = by_cases (last_or_before xs y x k at)
  where
    by_cases : (slice_get xs k ≡ Some x) ⊎ ((k ≡ length xs) × (y ≡ x)) → (slice_get xs k ≡ Some x) ⊎ ((suc k ≡ suc (length xs)) × (y ≡ x))
    by_cases (inl h) = inl h
    by_cases (inr h) = let same : suc k ≡ suc (length xs) = omega (arith, h.0) in inr (same, h.1)

at_place : (P : NumberedItem → Type 0) (first : ℕ) (items : List Item) (k : ℕ) (x : Item) → All P (numbered first items) → slice_get (reverse items) k ≡ Some x → P (record { number = first + k; item = x })
at_place P first [] k x all at = cc
at_place P first (y ∷ older) k x all at =
    by_cases (last_or_before (reverse older) y x k (subst (λ (xs : List Item). slice_get xs k ≡ Some x) (reverse-append (y ∷ []) older) at))
    (λ h. at_place P first older k x (All-tail P (record { number = first + length older; item = y }) (numbered first older) all) h)
  where
    by_cases : (slice_get (reverse older) k ≡ Some x) ⊎ ((k ≡ length (reverse older)) × (y ≡ x)) →
        (slice_get (reverse older) k ≡ Some x → P (record { number = first + k; item = x })) → P (record { number = first + k; item = x })
    by_cases (inl h) earlier = earlier h
    by_cases (inr h) earlier =
        let number : first + length older ≡ first + k = omega (arith, h.0, length-reverse older) in
        subst (λ (z : Item). P (record { number = first + k; item = z })) h.1
        (subst (λ (n : ℕ). P (record { number = n; item = y })) number (All-head P (record { number = first + length older; item = y }) (numbered first older) all))

-- The least entry that outcomes tell of is at most each of them, and is one of them.
lesser_first : (a b : Option ℕ) (n : ℕ) → AtMost a n → AtMost (lesser a b) n
lesser_first None b n h = absurd h
lesser_first (Some a) None n h = h
lesser_first (Some a) (Some b) n h = omega (arith, h)

lesser_second : (a b : Option ℕ) (n : ℕ) → AtMost b n → AtMost (lesser a b) n
lesser_second None b n h = h
lesser_second (Some a) None n h = absurd h
lesser_second (Some a) (Some b) n h = omega (arith, h)

lesser_is : (a b : Option ℕ) (n : ℕ) → lesser a b ≡ Some n → (a ≡ Some n) ⊎ (b ≡ Some n)
lesser_is None b n is = inr is
lesser_is (Some a) None n is = inl is
lesser_is (Some a) (Some b) n is = by_cases (cases_lt a b)
  where
    by_cases : (a < b) ⊎ (b ≤ a) → (Some a ≡ Some n) ⊎ (Some b ≡ Some n)
    by_cases (inl less) = let same : min a b ≡ a = omega arith in inl (ap (λ (k : ℕ). Some k) (sym same) ∙ is)
    by_cases (inr le) = let same : min a b ≡ b = omega arith in inr (ap (λ (k : ℕ). Some k) (sym same) ∙ is)

still_least : (j : JournalState) (queue to : ℕ) (least : Option ℕ) (os : List Outcome) (n : ℕ) → AtMost least n → AtMost (least_held j queue to least os) n
still_least j queue to least [] n h = h
still_least j queue to least (o ∷ os) n h = still_least j queue to (lesser least (held_by j queue to o)) os n (lesser_first least (held_by j queue to o) n h)

least_at_most : (j : JournalState) (queue to : ℕ) (least : Option ℕ) (os : List Outcome) (k : ℕ) (o : Outcome) (n : ℕ) → slice_get os k ≡ Some o → held_by j queue to o ≡ Some n →
    AtMost (least_held j queue to least os) n
least_at_most j queue to least [] k o n at is = cc
least_at_most j queue to least (x ∷ os) zero o n at is =
    let same : x ≡ o = cc in
    let here : held_by j queue to x ≡ Some n = ap (λ (y : Outcome). held_by j queue to y) same ∙ is in
    let le : AtMost (held_by j queue to x) n = subst (λ (y : Option ℕ). AtMost y n) (sym here) (omega arith) in
    still_least j queue to (lesser least (held_by j queue to x)) os n (lesser_second least (held_by j queue to x) n le)
least_at_most j queue to least (x ∷ os) (suc k) o n at is = least_at_most j queue to (lesser least (held_by j queue to x)) os k o n at is

tested : (b : Bool) (entry n : ℕ) → cond b (Some entry) None ≡ Some n → (b ≡ true) × (entry ≡ n)
tested true entry n is = let same : entry ≡ n = cc in (refl, same)
tested false entry n is = cc

held_is : (j : JournalState) (queue to : ℕ) (o : Outcome) (n : ℕ) → held_by j queue to o ≡ Some n → is_held_below queue to (item_at j n) ≡ true
held_is j queue to (Accepted entry) n is =
    let both = tested (is_held_below queue to (item_at j entry)) entry n is in
    subst (λ (k : ℕ). is_held_below queue to (item_at j k) ≡ true) both.1 both.0
held_is j queue to (Refused op fault) n is = cc
held_is j queue to (NotReady point have) n is = cc

least_is : (j : JournalState) (queue to : ℕ) (least : Option ℕ) (os : List Outcome) (n : ℕ) → least_held j queue to least os ≡ Some n →
    (least ≡ Some n) ⊎ (is_held_below queue to (item_at j n) ≡ true)
least_is j queue to least [] n is = inl is
least_is j queue to least (o ∷ os) n is = by_cases (least_is j queue to (lesser least (held_by j queue to o)) os n is)
  where
    own : (least ≡ Some n) ⊎ (held_by j queue to o ≡ Some n) → (least ≡ Some n) ⊎ (is_held_below queue to (item_at j n) ≡ true)
    own (inl h) = inl h
    own (inr h) = inr (held_is j queue to o n h)

    by_cases : (lesser least (held_by j queue to o) ≡ Some n) ⊎ (is_held_below queue to (item_at j n) ≡ true) → (least ≡ Some n) ⊎ (is_held_below queue to (item_at j n) ≡ true)
    by_cases (inl h) = own (lesser_is least (held_by j queue to o) n h)
    by_cases (inr h) = inr h

-- so none of them is below the first entry of the journal that passes
above_first : (j : JournalState) (queue to n : ℕ) → is_held_below queue to (item_at j n) ≡ true → AtMost (least_held_below j queue to) n
above_first j queue to n is = by_number (nat_lt n j.first) refl is
  where
    p : Item → Bool
    p = λ item. is_told_below queue to item.kind

    by_item : (o : Option Item) → slice_get (reverse j.items) (n - j.first) ≡ o → is_held_below queue to o ≡ true → AtMost (position p (reverse j.items)) (n - j.first)
    by_item None at passes = cc
    by_item (Some item) at passes =
        let place : 0 + (n - j.first) ≡ n - j.first = omega arith in
        subst (λ (x : Option ℕ). AtMost x (n - j.first)) (sym (position_from-zero p (reverse j.items)))
        (subst (λ (k : ℕ). AtMost (position_from p 0 (reverse j.items)) k) place (first_at_most p 0 (reverse j.items) (n - j.first) item at passes))

    by_number : (b : Bool) → nat_lt n j.first ≡ b → is_held_below queue to (cond b None (slice_get (reverse j.items) (n - j.first))) ≡ true → AtMost (least_held_below j queue to) n
    by_number true test passes = cc
    by_number false test passes =
        let low : j.first ≤ n = grind arith in
        let number : j.first + (n - j.first) ≡ n = omega (arith, low) in
        subst (λ (k : ℕ). AtMost (least_held_below j queue to) k) number
        (at_most_shifted (position p (reverse j.items)) j.first (n - j.first) (by_item (slice_get (reverse j.items) (n - j.first)) refl passes))

-- And the first entry of the journal that passes is one that they tell of.
found_passes : (p : Item → Bool) (xs : List Item) (k : ℕ) → position p xs ≡ Some k → PassesAt p xs k
found_passes p xs k found =
    let place : k - 0 ≡ k = omega arith in
    subst (λ (n : ℕ). PassesAt p xs n) place (first_passes p 0 xs k (sym (position_from-zero p xs) ∙ found)).1

record IsFoundAt (o : Option ℕ) (first n : ℕ) : Type 0 where
  pub place : ℕ
  pub there : o ≡ Some place
  pub number : first + place ≡ n

found_at : (o : Option ℕ) (first n : ℕ) → option_map (λ index. first + index) o ≡ Some n → IsFoundAt o first n
found_at None first n is = cc
found_at (Some k) first n is = let number : first + k ≡ n = cc in record { place = k; there = refl; number = number }

record IsToldBelow (told : List (List Outcome)) (queue to entry : ℕ) : Type 0 where
  pub number : ℕ
  pub below : number < to
  pub there : slice_get (told_to told queue) number ≡ Some (Accepted entry)

both : (a b : Bool) → (a && b) ≡ true → (a ≡ true) × (b ≡ true)
both true b h = (refl, h)
both false b h = cc

told_below : (kind : ItemKind) (queue to entry : ℕ) (told : List (List Outcome)) → is_told_below queue to kind ≡ true → WasTold kind entry told → IsToldBelow told queue to entry
told_below (Bind q n request seen done) queue to entry told passes h =
    let tests = both (eqb q queue) (nat_lt n to) passes in
    let less : nat_lt n to ≡ true = tests.1 in
    let below : n < to = grind arith in
    record {
      number = n;
      below = below;
      there = subst (λ (k : ℕ). slice_get (told_to told k) n ≡ Some (Accepted entry)) (eqb-true q queue tests.0) h;
    }
told_below (Withdrawal of) queue to entry told passes h = cc

taken : (to n : ℕ) (list : List Outcome) → n < to → slice_get (take to list) n ≡ slice_get list n
taken zero n list less = absurd (omega (arith, less))
taken (suc to) n [] less = refl
taken (suc to) zero (x ∷ list) less = refl
taken (suc to) (suc n) (x ∷ list) less = taken to n list (omega (arith, less))

item_at_place : (j : JournalState) (k : ℕ) → item_at j (j.first + k) ≡ slice_get (reverse j.items) k
item_at_place j k =
    let low : j.first ≤ j.first + k = omega arith in
    let place : (j.first + k) - j.first ≡ k = omega arith in
    rw (le-ltb _ _ low, place) refl

first_told : (v : VmState) (queue to n : ℕ) → ToldMatchesJournal (entries v.journal) v.told → least_held_below v.journal queue to ≡ Some n →
    AtMost (least_held v.journal queue to None (take to (told_to v.told queue))) n
first_told v queue to n matches is =
    let j : JournalState = v.journal in
    let p : Item → Bool = λ item. is_told_below queue to item.kind in
    let found = found_at (position p (reverse j.items)) j.first n is in
    let k : ℕ = found.place in
    let at = found_passes p (reverse j.items) k found.there in
    let t = told_below at.item.kind queue to (j.first + k) v.told at.passes (at_place (λ x. WasTold x.item.kind x.number v.told) j.first j.items k at.item matches at.here) in
    let held : held_by j queue to (Accepted (j.first + k)) ≡ Some (j.first + k) =
    ap (λ (o : Option Item). cond (is_held_below queue to o) (Some (j.first + k)) None) (item_at_place j k ∙ at.here) ∙ ap (λ (b : Bool). cond b (Some (j.first + k)) None) at.passes in
    subst (λ (m : ℕ). AtMost (least_held j queue to None (take to (told_to v.told queue))) m) found.number
    (least_at_most j queue to None (take to (told_to v.told queue)) t.number (Accepted (j.first + k)) (j.first + k) (taken to t.number (told_to v.told queue) t.below ∙ t.there) held)

-- those that are forgotten tell of none
passed_over : (j : JournalState) (queue to gone : ℕ) (rest : List Outcome) → least_held j queue to None (replicate gone forgotten_outcome ++ rest) ≡ least_held j queue to None rest
passed_over j queue to zero rest = refl
passed_over j queue to (suc gone) rest = passed_over j queue to gone rest

-- so the outcomes below a number that aren't forgotten tell the same entry as the journal
pub told_least : (v : VmState) (queue to gone : ℕ) (rest : List Outcome) → ToldMatchesJournal (entries v.journal) v.told →
    take to (told_to v.told queue) ≡ replicate gone forgotten_outcome ++ rest → least_held v.journal queue to None rest ≡ least_held_below v.journal queue to
told_least v queue to gone rest matches told = same_least (least_held v.journal queue to None rest) (least_held_below v.journal queue to) up down
  where
    passing : (n : ℕ) → (None ≡ Some n) ⊎ (is_held_below queue to (item_at v.journal n) ≡ true) → AtMost (least_held_below v.journal queue to) n
    passing n (inl h) = cc
    passing n (inr h) = above_first v.journal queue to n h

    up : (n : ℕ) → least_held v.journal queue to None rest ≡ Some n → AtMost (least_held_below v.journal queue to) n
    up n is = passing n (least_is v.journal queue to None rest n is)

    down : (n : ℕ) → least_held_below v.journal queue to ≡ Some n → AtMost (least_held v.journal queue to None rest) n
    down n is =
        subst (λ (o : Option ℕ). AtMost o n) (ap (λ (os : List Outcome). least_held v.journal queue to None os) told ∙ passed_over v.journal queue to gone rest)
        (first_told v queue to n matches is)

-- where there is no such queue there is none
pub no_queue : (v : VmState) (queue to : ℕ) → ToldMatchesJournal (entries v.journal) v.told → length v.told ≤ queue → None ≡ least_held_below v.journal queue to
no_queue v queue to matches past =
    let none : told_to v.told queue ≡ [] = get_or_past v.told queue [] past in
    let few : length (told_to v.told queue) ≤ to = omega (arith, ap (λ (xs : List Outcome). length xs) none) in
    told_least v queue to 0 [] matches (take_all to (told_to v.told queue) few ∙ none)
