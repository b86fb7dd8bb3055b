-- The first element of a list that passes, and the least number in notes.
use Rattle.std.proofs.Common.{◌≡◌, ℕ, ◌+◌, ◌-◌, ◌<◌, ◌≤◌, zero, suc, min, Bool, true, false, cond, List, [], ◌∷◌, length, get_or, Option, Some, None, inl, inr, refl, ap, sym, ◌∙◌, subst, arith}
use Rattle.std.specs.Prelude.{◌⊎◌, nat_le}
use Rattle.std.specs.List.{position_from}
use Rattle.std.proofs.lemmas.Bool.{cases_lt}
use Rattle.std.proofs.lemmas.Bool.Decides.{nat_tests}
use Rattle.gv_journal.specs.Notes.{crossed, lesser, crossing_from}

-- the index of the first element of a list that passes
pub record IsFirstAt {A : Type 0} (p : A → Bool) (xs : List A) (k : ℕ) : Type 0 where
  pub below : k < length xs
  pub here : (d : A) → p (get_or xs k d) ≡ true
  pub before : (m : ℕ) (d : A) → m < k → p (get_or xs m d) ≡ false

pub none_passes : {A : Type 0} (p : A → Bool) (i : ℕ) (xs : List A) → position_from p i xs ≡ None → (m : ℕ) (d : A) → m < length xs → p (get_or xs m d) ≡ false
none_passes p i [] none m d below = absurd (omega arith)
none_passes p i (x ∷ xs) none zero d below = by_cases (p x) refl none
  where
    by_cases : (b : Bool) → p x ≡ b → cond b (Some i) (position_from p (i + 1) xs) ≡ None → p x ≡ false
    by_cases true is h = cc
    by_cases false is h = is
none_passes p i (x ∷ xs) none (suc m) d below = by_cases (p x) none (λ h. none_passes p (i + 1) xs h m d (omega arith))
  where
    by_cases : (b : Bool) → cond b (Some i) (position_from p (i + 1) xs) ≡ None → (position_from p (i + 1) xs ≡ None → p (get_or xs m d) ≡ false) → p (get_or xs m d) ≡ false
    by_cases true h rest = cc
    by_cases false h rest = rest h

pub first_passes : {A : Type 0} (p : A → Bool) (i : ℕ) (xs : List A) (k : ℕ) → position_from p i xs ≡ Some k → (i ≤ k) × IsFirstAt p xs (k - i)
first_passes p i [] k some = cc
first_passes {A = A} p i (x ∷ xs) k some = by_cases (p x) refl some (λ h. first_passes p (i + 1) xs k h)
  where
    by_cases : (b : Bool) → p x ≡ b → cond b (Some i) (position_from p (i + 1) xs) ≡ Some k →
        (position_from p (i + 1) xs ≡ Some k → (i + 1 ≤ k) × IsFirstAt p xs (k - (i + 1))) → (i ≤ k) × IsFirstAt p (x ∷ xs) (k - i)
    by_cases true is h rest =
        let index : i ≡ k = cc in
        let none : 0 ≡ k - i = omega (arith, index) in
        (omega (arith, index), subst (λ (n : ℕ). IsFirstAt p (x ∷ xs) n) none (record { below = omega arith; here = λ d. is; before = λ m d less. absurd (omega arith) }))
    by_cases false is h passed =
        let rest = passed h in
        let index : suc (k - (i + 1)) ≡ k - i = omega (arith, rest.0) in (
          omega (arith, rest.0),
          subst (λ (n : ℕ). IsFirstAt p (x ∷ xs) n) index (record {
            below = omega (arith, rest.1.below);
            here = rest.1.here;
            before = earlier rest.1.before;
          }),
        )
      where
        earlier : ((m : ℕ) (d : A) → m < k - (i + 1) → p (get_or xs m d) ≡ false) → (m : ℕ) (d : A) → m < suc (k - (i + 1)) → p (get_or (x ∷ xs) m d) ≡ false
        earlier h zero d less = is
        earlier h (suc m) d less = h m d (omega arith)

-- no greater than a number
abbrev pub AtMost : Option ℕ → ℕ → Type 0
AtMost None n = ⊥
AtMost (Some m) n = m ≤ n

lesser_first : (a b : Option ℕ) (n : ℕ) → AtMost a n → AtMost (lesser a b) n
lesser_first None b n h = absurd h
lesser_first (Some a) None n h = h
lesser_first (Some a) (Some b) n h = omega (arith, h)

lesser_second : (a b : Option ℕ) (n : ℕ) → AtMost b n → AtMost (lesser a b) n
lesser_second None b n h = h
lesser_second (Some a) None n h = absurd h
lesser_second (Some a) (Some b) n h = omega (arith, h)

still_least : (to : ℕ) (least : Option ℕ) (notes : List (Option ℕ)) (n : ℕ) → AtMost least n → AtMost (crossing_from to least notes) n
still_least to least [] n h = h
still_least to least (note ∷ notes) n h = still_least to (lesser least (crossed to note)) notes n (lesser_first least (crossed to note) n h)

is_crossed : (to by : ℕ) (w : Option ℕ) → w ≡ Some by → to ≤ by → AtMost (crossed to w) by
is_crossed to by w is le =
    let test : nat_le to by ≡ true = grind (arith, nat_tests) in
    subst (λ (o : Option ℕ). AtMost o by) (sym (ap (crossed to) is ∙ ap (λ (b : Bool). cond b (Some by) None) test)) (omega arith)

pub at_most_each : (to : ℕ) (least : Option ℕ) (notes : List (Option ℕ)) (i by : ℕ) (d : Option ℕ) → i < length notes → get_or notes i d ≡ Some by → to ≤ by → AtMost (crossing_from to least notes) by
at_most_each to least [] i by d below is le = absurd (omega arith)
at_most_each to least (note ∷ notes) zero by d below is le =
    still_least to (lesser least (crossed to note)) notes by (lesser_second least (crossed to note) by (is_crossed to by note is le))
at_most_each to least (note ∷ notes) (suc i) by d below is le = at_most_each to (lesser least (crossed to note)) notes i by d (omega arith) is le

-- a note has the number
pub record StandsIn (to : ℕ) (notes : List (Option ℕ)) (by : ℕ) (d : Option ℕ) : Type 0 where
  pub index : ℕ
  pub below : index < length notes
  pub here : get_or notes index d ≡ Some by
  pub from : to ≤ by

crossed_is : (to by : ℕ) (w : Option ℕ) → crossed to w ≡ Some by → (w ≡ Some by) × (to ≤ by)
crossed_is to by None is = cc
crossed_is to by (Some n) is = by_cases (nat_le to n) refl is
  where
    by_cases : (b : Bool) → nat_le to n ≡ b → cond b (Some n) None ≡ Some by → (Some n ≡ Some by) × (to ≤ by)
    by_cases false test h = cc
    by_cases true test h =
        let same : n ≡ by = cc in
        let le : to ≤ n = grind (arith, nat_tests) in
        (h, subst (λ (k : ℕ). to ≤ k) same le)

lesser_is : (a b : Option ℕ) (n : ℕ) → lesser a b ≡ Some n → (a ≡ Some n) ⊎ (b ≡ Some n)
lesser_is None b n is = inr is
lesser_is (Some a) None n is = inl is
lesser_is (Some a) (Some b) n is = by_cases (cases_lt a b)
  where
    by_cases : (a < b) ⊎ (b ≤ a) → (Some a ≡ Some n) ⊎ (Some b ≡ Some n)
    by_cases (inl less) = let same : min a b ≡ a = omega arith in inl (ap (λ (k : ℕ). Some k) (sym same) ∙ is)
    by_cases (inr le) = let same : min a b ≡ b = omega arith in inr (ap (λ (k : ℕ). Some k) (sym same) ∙ is)

pub stands_in : (to : ℕ) (least : Option ℕ) (notes : List (Option ℕ)) (by : ℕ) (d : Option ℕ) → crossing_from to least notes ≡ Some by → (least ≡ Some by) ⊎ StandsIn to notes by d
stands_in to least [] by d is = inl is
stands_in to least (note ∷ notes) by d is = by_cases (stands_in to (lesser least (crossed to note)) notes by d is)
  where
    own : (least ≡ Some by) ⊎ (crossed to note ≡ Some by) → (least ≡ Some by) ⊎ StandsIn to (note ∷ notes) by d
    own (inl h) = inl h
    own (inr h) = let at = crossed_is to by note h in inr (record { index = 0; below = omega arith; here = at.0; from = at.1 })

    by_cases : (lesser least (crossed to note) ≡ Some by) ⊎ StandsIn to notes by d → (least ≡ Some by) ⊎ StandsIn to (note ∷ notes) by d
    by_cases (inl h) = own (lesser_is least (crossed to note) by h)
    by_cases (inr at) = inr (record { index = suc at.index; below = omega (arith, at.below); here = at.here; from = at.from })
