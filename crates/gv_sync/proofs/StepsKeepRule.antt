-- Each step on a timeline keeps the rule, and tells what it owes.
use Rattle.std.proofs.Common.{◌≡◌, ◌≢◌, ◌⊎◌, ℕ, zero, suc, ◌+◌, ◌<◌, ◌≤◌, List, [], ◌∷◌, ◌++◌, length, get_or, set, max, replicate, slice_index, sym, refl, ap, ◌∙◌, subst, inl, inr, ⊎_elim, le_refl, le_trans, zero-le, arith, get_or-set_same, get_or-set_other, All}
use Rattle.std.proofs.lemmas.List.{length-replicate}
use Rattle.std.proofs.lemmas.List.Elements.{All-head, All-tail}
use Rattle.std.proofs.Math.Nat.{le-max_left, le-max_right, max-le, max-eq_left, max-eq_right}
use Rattle.std.proofs.Math.ListN.{length-set, get_or-map, length-map}
use mathlib.Core.Option.{some, some-injective, some-ne-none}
use native.Mathlib.Decide.{ℕ_discrete, dec_le}
use lib.ListN.{get_elem?}
use Rattle.atomic_table.specs.Table.{Allows, Splits, keeps, State, opening, step}
use Rattle.atomic_table.proofs.Lists.{at_set, at_snoc, set_else, at_longer}
use Rattle.gv_types.specs.declared.request.Point.{Point}
use Rattle.gv_sync.specs.declared.marks.Mark.{Mark}
use Rattle.gv_sync.specs.declared.marks.SeatKnowledge.{SeatKnowledge}
use Rattle.gv_sync.specs.Marks.{mark, fresh_mark, mark_at, marks_after_load, marks_after_raise, marks_split_off, known, first_known, known_after_split, known_split_off}
use Rattle.gv_sync.specs.Rule.{RaisedWhatItSaw, IsRaised, SeatsAgree, Loaded, Raised}
use Rattle.gv_sync.proofs.Shares.{at_set_here, opened, stepped_on, halved, own_raise}

-- a number of a list after one was set, by the two cases
set_cases : {A : Type 0} (P : A → Type 0) (xs : List A) (i : ℕ) (x d : A) (j : ℕ) → i < length xs → (j ≡ i → P x) → (j ≢ i → P (get_or xs j d)) → P (get_or (set xs i x) j d)
set_cases P xs i x d j lt here else =
    elim (ℕ_discrete j i) [
      | yes e ↦ subst P (sym (ap (λ (k : ℕ). get_or (set xs i x) k d) e ∙ get_or-set_same xs i x d lt)) (here e)
      | no ne ↦ subst P (sym (get_or-set_other xs i j x d ne)) (else ne)
    ]

-- one step of a seat on a timeline whose number goes from n to m. The seat's mark there becomes one that raised r and saw m
module _ (words : List ℕ) (seats : List SeatKnowledge) (seat timeline : ℕ) (old_known : SeatKnowledge) (points : List Point) (m r taken : ℕ)
    (within : (j : ℕ) (u : SeatKnowledge) → get_elem? seats j ≡ some u → RaisedWhatItSaw words u.marks)
    (raised : (t : ℕ) → IsRaised words seats t)
    (here : get_elem? seats seat ≡ some old_known)
    (named : timeline < length words)
    (up : slice_index words timeline ≤ m)
    (more : (mark_at old_known.marks timeline).raised ≤ r)
    (below : r ≤ m)
    (by : (m ≡ slice_index words timeline) ⊎ (r ≡ m)) where
  abbrev marks : List Mark
  marks = old_known.marks

  abbrev new_words : List ℕ
  new_words = set words timeline m

  abbrev new_marks : List Mark
  new_marks = set marks timeline (mark m r taken)

  abbrev new_known : SeatKnowledge
  new_known = known new_marks points old_known.halvings

  abbrev new_seats : List SeatKnowledge
  new_seats = set seats seat new_known

  marked : timeline < length marks
  marked = let same = (within seat old_known here).counted in omega (arith, same, named)

  words_rise : (t : ℕ) → slice_index words t ≤ slice_index new_words t
  words_rise t = set_cases (λ (k : ℕ). slice_index words t ≤ k) words timeline m 0 t named (λ e. subst (λ (k : ℕ). slice_index words k ≤ m) (sym e) up) (λ ne. le_refl _)

  mine : RaisedWhatItSaw new_words new_marks
  mine = let old = within seat old_known here in record {
    counted = simp length-set old.counted;
    raised = (λ t. set_cases (λ (k : Mark). k.raised ≤ k.seen) marks timeline (mark m r taken) fresh_mark t marked (λ e. below) (λ ne. old.raised t));
    seen = (λ t. set_cases (λ (k : Mark). k.seen ≤ slice_index new_words t) marks timeline (mark m r taken) fresh_mark t marked
        (λ e. subst (λ (k : ℕ). m ≤ slice_index new_words k) (sym e) (subst (λ (k : ℕ). m ≤ k) (sym (get_or-set_same words timeline m 0 named)) (le_refl m)))
        (λ ne. le_trans (old.seen t) (words_rise t)));
  }

  others : (u : List Mark) → RaisedWhatItSaw words u → RaisedWhatItSaw new_words u
  others u old = record { counted = simp length-set old.counted; raised = old.raised; seen = λ t. le_trans (old.seen t) (words_rise t) }

  pub within_after : (j : ℕ) (u : SeatKnowledge) → get_elem? new_seats j ≡ some u → RaisedWhatItSaw new_words u.marks
  within_after j u at = ⊎_elim (λ (e : (j ≡ seat) × (new_known ≡ u)). subst (λ (k : SeatKnowledge). RaisedWhatItSaw new_words k.marks) e.1 mine)
      (λ (e : (j ≢ seat) × (get_elem? seats j ≡ some u)). others u.marks (within j u e.1)) (at_set seats seat j new_known u at)

  at_mine : get_elem? new_seats seat ≡ some new_known
  at_mine = at_set_here seats seat old_known new_known here

  -- what a seat raised a timeline to stands for the seat's next marks, except on the timeline of the step
  still : (t : ℕ) → t ≢ timeline → (j : ℕ) (u : SeatKnowledge) → get_elem? seats j ≡ some u → (mark_at u.marks t).raised ≡ slice_index words t
      → (k : ℕ) × (w : SeatKnowledge) × (get_elem? new_seats k ≡ some w) × ((mark_at w.marks t).raised ≡ slice_index words t)
  still t other j u at is = elim (ℕ_discrete j seat) [
    | yes e ↦ (
      seat,
      new_known,
      at_mine,
      let same : old_known ≡ u = some-injective old_known u (sym here ∙ subst (λ (k : ℕ). get_elem? seats k ≡ some u) e at) in
          ap (λ (k : Mark). k.raised) (get_or-set_other marks timeline t (mark m r taken) fresh_mark other) ∙ (ap (λ (k : SeatKnowledge). (mark_at k.marks t).raised) same ∙ is),
    )
    | no ne ↦ (j, u, set_else seats seat j new_known ne ∙ at, is)
  ]

  mine_is_top : r ≡ m → IsRaised new_words new_seats timeline
  mine_is_top e = inr (seat, new_known, at_mine, ap (λ (k : Mark). k.raised) (get_or-set_same marks timeline (mark m r taken) fresh_mark marked) ∙ (e ∙ sym (get_or-set_same words timeline m 0 named)))

  same_word : m ≡ slice_index words timeline → slice_index new_words timeline ≡ slice_index words timeline
  same_word e = get_or-set_same words timeline m 0 named ∙ e

  -- where the number stayed, who raised it did so still
  stays : m ≡ slice_index words timeline → IsRaised words seats timeline → IsRaised new_words new_seats timeline
  stays e (inl none) = inl (same_word e ∙ none)
  stays e (inr (j, u, at, is)) = elim (ℕ_discrete j seat) [
    | yes mine ↦ mine_is_top (
        let same : old_known ≡ u = some-injective old_known u (sym here ∙ subst (λ (k : ℕ). get_elem? seats k ≡ some u) mine at) in
        let was : (mark_at marks timeline).raised ≡ slice_index words timeline = ap (λ (k : SeatKnowledge). (mark_at k.marks timeline).raised) same ∙ is in
        let r' : ℕ = r in let m' : ℕ = m in let w : ℕ = slice_index words timeline in let o : ℕ = (mark_at marks timeline).raised in
        let p : o ≡ w = was in let q : m' ≡ w = e in let a : o ≤ r' = more in let b : r' ≤ m' = below in omega (arith, p, q, a, b))
    | no ne ↦ inr (j, u, set_else seats seat j new_known ne ∙ at, is ∙ sym (same_word e))
  ]

  elsewhere : (t : ℕ) → t ≢ timeline → IsRaised words seats t → IsRaised new_words new_seats t
  elsewhere t other (inl none) = inl (get_or-set_other words timeline t m 0 other ∙ none)
  elsewhere t other (inr (j, u, at, is)) = let k = still t other j u at is in inr (k.0, k.1, k.2, k.3 ∙ sym (get_or-set_other words timeline t m 0 other))

  pub raised_after : (t : ℕ) → IsRaised new_words new_seats t
  raised_after t = elim (ℕ_discrete t timeline) [
    | yes e ↦ subst (λ (k : ℕ). IsRaised new_words new_seats k) (sym e) (⊎_elim (λ kept. stays kept (raised timeline)) (λ top. mine_is_top top) by)
    | no ne ↦ elsewhere t ne (raised t)
  ]

pub loads : (count slots seat timeline : ℕ) (before : SeatKnowledge) (out : List (ℕ × ℕ)) → timeline < count
    → Allows (SeatsAgree count) slots seat (before, out) timeline (λ n. n) (Loaded (step slots timeline 0 0 mathlib.Core.Option.none) (before, out))
loads count slots seat timeline before out named s kept deep here fits =
    let old = kept.within seat before here in
    let old_mark = mark_at before.marks timeline in
    let n : ℕ = slice_index s.words timeline in
    let lt : timeline < length s.words = subst (λ (k : ℕ). timeline < k) (sym kept.counted) named in
    let reaches : old_mark.raised ≤ n = le_trans (old.raised timeline) (old.seen timeline) in (
      known (marks_after_load before.marks timeline n) before.raises before.halvings,
      keeps,
      tt,
      record {
        counted = simp length-set kept.counted;
        within = within_after s.words s.views seat timeline before before.raises n old_mark.raised (old_mark.taken + 1) kept.within kept.raised here lt (le_refl n) (le_refl _) reaches (inl refl);
        raised = raised_after s.words s.views seat timeline before before.raises n old_mark.raised (old_mark.taken + 1) kept.within kept.raised here lt (le_refl n) (le_refl _) reaches (inl refl);
        shared = stepped_on s.views seat before (known (marks_after_load before.marks timeline n) before.raises before.halvings) here refl kept.shared;
      },
      record { marks = refl; raises = refl; halvings = refl; no_less = record { seen = old.seen timeline; raised = reaches }; alone = own_raise count seat timeline before s kept here },
    )

-- the greater of the number and the value is the number, or what the seat then raised to
max_by : (n r k : ℕ) → r ≤ n → (max n k ≡ n) ⊎ (max r k ≡ max n k)
max_by n r k le = elim (dec_le k n) [
  | yes low ↦ inl (max-eq_left low)
  | no high ↦ let up : n ≤ k = omega (arith, high) in inr (max-eq_right (le_trans le up) ∙ sym (max-eq_right up))
]

pub raises : (count slots seat timeline value : ℕ) (before : SeatKnowledge) (out : List (ℕ × ℕ)) → timeline < count
    → Allows (SeatsAgree count) slots seat (before, out) timeline (λ n. max n value) (Raised (step slots timeline value 0 mathlib.Core.Option.none) (before, out))
raises count slots seat timeline value before out named s kept deep here fits =
    let old = kept.within seat before here in
    let old_mark = mark_at before.marks timeline in
    let n : ℕ = slice_index s.words timeline in
    let lt : timeline < length s.words = subst (λ (k : ℕ). timeline < k) (sym kept.counted) named in
    let reaches : old_mark.raised ≤ n = le_trans (old.raised timeline) (old.seen timeline) in
    let point : Point = record { timeline = timeline; value = value } in
    let top : max old_mark.raised value ≤ max n value = max-le (le_trans reaches (le-max_left n value)) (le-max_right n value) in (
      known (marks_after_raise before.marks timeline value (max n value)) (before.raises ++ point ∷ []) before.halvings,
      keeps,
      tt,
      record {
        counted = simp length-set kept.counted;
        within = within_after s.words s.views seat timeline before (before.raises ++ point ∷ []) (max n value) (max old_mark.raised value) (old_mark.taken + 1) kept.within kept.raised here lt (le-max_left n value) (le-max_left old_mark.raised value) top (max_by n old_mark.raised value reaches);
        raised = raised_after s.words s.views seat timeline before (before.raises ++ point ∷ []) (max n value) (max old_mark.raised value) (old_mark.taken + 1) kept.within kept.raised here lt (le-max_left n value) (le-max_left old_mark.raised value) top (max_by n old_mark.raised value reaches);
        shared = stepped_on s.views seat before (known (marks_after_raise before.marks timeline value (max n value)) (before.raises ++ point ∷ []) before.halvings) here refl kept.shared;
      },
      record { marks = refl; raises = refl; halvings = refl; no_less = record { seen = old.seen timeline; raised = reaches }; alone = own_raise count seat timeline before s kept here },
    )

split_within : (words : List ℕ) (marks : List Mark) → RaisedWhatItSaw words marks → RaisedWhatItSaw words (marks_split_off marks)
split_within words marks old =
    let cut : Mark → Mark = λ (m : Mark). mark m.seen 0 0 in record {
      counted = simp length-map old.counted;
      raised = λ t. subst (λ (k : Mark). k.raised ≤ k.seen) (sym (get_or-map cut marks t fresh_mark)) zero-le;
      seen = λ t. subst (λ (k : Mark). k.seen ≤ slice_index words t) (sym (get_or-map cut marks t fresh_mark)) (old.seen t);
    }

-- a split leaves the marks of the seat
module _ (count seat : ℕ) (before : SeatKnowledge) (s : State ℕ SeatKnowledge) (kept : SeatsAgree count s) (here : get_elem? s.views seat ≡ some before) where
  abbrev left_seats : List SeatKnowledge
  left_seats = set s.views seat (known_after_split before)

  abbrev all_seats : List SeatKnowledge
  all_seats = left_seats ++ known_split_off before ∷ []

  within_left : (j : ℕ) (u : SeatKnowledge) → get_elem? left_seats j ≡ some u → RaisedWhatItSaw s.words u.marks
  within_left j u at = ⊎_elim (λ (e : (j ≡ seat) × (known_after_split before ≡ u)). subst (λ (k : SeatKnowledge). RaisedWhatItSaw s.words k.marks) e.1 (kept.within seat before here))
      (λ (e : (j ≢ seat) × (get_elem? s.views j ≡ some u)). kept.within j u e.1) (at_set s.views seat j (known_after_split before) u at)

  pub split_keeps_within : (j : ℕ) (u : SeatKnowledge) → get_elem? all_seats j ≡ some u → RaisedWhatItSaw s.words u.marks
  split_keeps_within j u at = ⊎_elim (λ was. within_left j u was)
      (λ (e : known_split_off before ≡ u). subst (λ (k : SeatKnowledge). RaisedWhatItSaw s.words k.marks) e (split_within s.words before.marks (kept.within seat before here)))
      (at_snoc left_seats (known_split_off before) u j at)

  -- who raised a timeline to what it is did so still
  raised_left : (t j : ℕ) (u : SeatKnowledge) → get_elem? s.views j ≡ some u → (mark_at u.marks t).raised ≡ slice_index s.words t
      → (k : ℕ) × (w : SeatKnowledge) × (get_elem? left_seats k ≡ some w) × ((mark_at w.marks t).raised ≡ slice_index s.words t)
  raised_left t j u at is = elim (ℕ_discrete j seat) [
    | yes e ↦
        let same : before ≡ u = some-injective before u (sym here ∙ subst (λ (k : ℕ). get_elem? s.views k ≡ some u) e at) in
        (seat, known_after_split before, at_set_here s.views seat before (known_after_split before) here, ap (λ (k : SeatKnowledge). (mark_at k.marks t).raised) same ∙ is)
    | no ne ↦ (j, u, set_else s.views seat j (known_after_split before) ne ∙ at, is)
  ]

  pub split_keeps_raised : (t : ℕ) → IsRaised s.words all_seats t
  split_keeps_raised t = ⊎_elim (λ none. inl none)
      (λ (w : (j : ℕ) × (u : SeatKnowledge) × (get_elem? s.views j ≡ some u) × ((mark_at u.marks t).raised ≡ slice_index s.words t)).
      let k = raised_left t w.0 w.1 w.2 w.3 in inr (k.0, k.1, at_longer left_seats (known_split_off before ∷ []) k.0 k.1 k.2, k.3)) (kept.raised t)

pub splits : (count seat : ℕ) (before : SeatKnowledge) → Splits (SeatsAgree count) seat before (known_after_split before) (known_split_off before)
splits count seat before s kept here = record {
  counted = kept.counted;
  within = split_keeps_within count seat before s kept here;
  raised = split_keeps_raised count seat before s kept here;
  shared = halved s.views seat before here kept.shared;
}

all_zero : (words : List ℕ) → All (λ n. n ≡ 0) words → (t : ℕ) → slice_index words t ≡ 0
all_zero [] all t = refl
all_zero (n ∷ words) all zero = All-head (λ (k : ℕ). k ≡ 0) n words all
all_zero (n ∷ words) all (suc t) = all_zero words (All-tail (λ (k : ℕ). k ≡ 0) n words all) t

pub replicated : (count : ℕ) (t : ℕ) → mark_at (replicate count fresh_mark) t ≡ fresh_mark
replicated zero t = refl
replicated (suc count) zero = refl
replicated (suc count) (suc t) = replicated count t

begins_within : (words : List ℕ) → RaisedWhatItSaw words (replicate (length words) fresh_mark)
begins_within words = record {
  counted = length-replicate (length words) fresh_mark;
  raised = λ t. subst (λ (k : Mark). k.raised ≤ k.seen) (sym (replicated (length words) t)) zero-le;
  seen = λ t. subst (λ (k : Mark). k.seen ≤ slice_index words t) (sym (replicated (length words) t)) zero-le;
}

pub begins : (words : List ℕ) → All (λ n. n ≡ 0) words → SeatsAgree (length words) (opening words [] (first_known (length words)))
begins words all = record {
  counted = refl;
  within = λ j u at. only j u at;
  raised = λ t. inl (all_zero words all t);
  shared = opened (length words);
}
  where
    only : (j : ℕ) (u : SeatKnowledge) → get_elem? (first_known (length words) ∷ []) j ≡ some u → RaisedWhatItSaw words u.marks
    only zero u at = subst (λ (k : SeatKnowledge). RaisedWhatItSaw words k.marks) (some-injective (first_known (length words)) u at) (begins_within words)
    only (suc j) u at = absurd (some-ne-none u (sym at))
