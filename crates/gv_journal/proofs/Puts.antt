-- A withdrawal restores what undo values took, one after another: one more keeps `ArePutBack`.
use Rattle.std.proofs.Common.{◌≡◌, ◌⊎◌, inl, inr, ℕ, ◌+◌, ◌-◌, ◌<◌, ◌≤◌, cond, List, [], ◌∷◌, ◌++◌, length, take, drop, reverse, get_or, Option, Some, None, Result, Ok, Err, refl, ap, sym, ◌∙◌, subst, arith, append_assoc}
use Rattle.std.specs.Prelude.{MatchOption, IsOkUnless}
use Rattle.std.proofs.lemmas.List.{drop_more, take_more, reverse-append, take-append-drop}
use Rattle.gv_types.specs.Page.{IsPage}
use Rattle.gv_types.specs.PageRange.{covers}
use Rattle.gv_types.specs.declared.fault.Fault.{Fault}
use Rattle.gv_types.specs.declared.fault.Fault.TheVariants.{OutOfMemory}
use Rattle.gv_types.specs.declared.mapping.Entry.{Entry}
use Rattle.gv_types.specs.declared.mapping.Mapping.{Mapping}
use Rattle.gv_ranges.specs.List.{at}
use Rattle.gv_ranges.specs.Edit.{restored, undone}
use Rattle.gv_space.specs.State.{SpaceState, AreKept}
use Rattle.gv_space.specs.Undo.{OpUndoState, AreAmongKept}
use Rattle.gv_space.specs.Refusal.{first_of, limit_fault}
use Rattle.gv_space.specs.Change.{IsChanged, changed_to}
use Rattle.gv_space.proofs.KeptLemmas.{kept_in_any_order}
use Rattle.gv_journal.specs.Undoing.{taken_by}
use Rattle.gv_journal.specs.Applying.{met, AreChanges}
use Rattle.gv_journal.specs.Restoring.{after_put, after_puts, put_limits, put_back, ArePutBack}
use Rattle.gv_journal.proofs.Lists.{last_first}
use Rattle.gv_journal.proofs.Runs.{taken_met}
use Rattle.gv_journal.proofs.Limits.{not_refused}
use Rattle.gv_journal.proofs.FaultsPassedOn.{same_err}
use Rattle.gv_journal.proofs.Changing.{AreChanges-none, AreChanges-more}

after_puts-last : (newer : List OpUndoState) (u : OpUndoState) (s : SpaceState) → after_puts (newer ++ u ∷ []) s ≡ after_put (after_puts newer s) u
after_puts-last [] u s = refl
after_puts-last (v ∷ newer) u s = after_puts-last newer u (after_put s v)

put_back-last : (newer : List OpUndoState) (u : OpUndoState) (page : ℕ) (now : Option Entry) →
    put_back (newer ++ u ∷ []) page now ≡ cond (covers u.range page) (at u.change.taken page) (put_back newer page now)
put_back-last [] u page now = refl
put_back-last (v ∷ newer) u page now = put_back-last newer u page (cond (covers v.range page) (at v.change.taken page) now)

put_limits-room : (us : List OpUndoState) (s : SpaceState) (room : ℕ) → put_limits us (record s { room = room }) ≡ put_limits us s
put_limits-room [] s room = refl
put_limits-room (u ∷ us) s room =
    ap (λ (o : Option Fault). first_of (limit_fault s u.range (restored s.mappings u.range u.change.taken)) o) (put_limits-room us (after_put s u) room)

taken_by-append : (newer older : List OpUndoState) → taken_by (newer ++ older) ≡ taken_by newer ++ taken_by older
taken_by-append [] older = refl
taken_by-append (u ∷ newer) older = ap (λ (ms : List Mapping). u.change.taken ++ ms) (taken_by-append newer older) ∙ sym (append_assoc u.change.taken (taken_by newer) (taken_by older))

-- nothing was put back yet
pub ArePutBack-none : (s : SpaceState) → ArePutBack s s [] []
ArePutBack-none s = record { state = refl; changes = AreChanges-none s; pages = λ page _. refl }

-- the state once one is put back
pub state_put : (mid new : SpaceState) (u fresh : OpUndoState) → IsChanged mid new (restored mid.mappings u.range u.change.taken) fresh → fresh.range ≡ u.range →
    new ≡ record (after_put mid u) { room = new.room }
state_put mid new u fresh did range_is =
    let taken_is : fresh.change.taken ≡ met mid.mappings u.range = rw range_is at (taken_met mid.mappings new.mappings fresh did.undo) in
    did.state ∙ ap (λ (ms : List Mapping). record (changed_to (restored mid.mappings u.range u.change.taken) ms mid) { room = new.room }) taken_is

pub ArePutBack-more : (old mid new : SpaceState) (newer fresh : List OpUndoState) (u undo : OpUndoState) → ArePutBack old mid newer fresh →
    IsChanged mid new (restored mid.mappings u.range u.change.taken) undo → undo.range ≡ u.range →
    ((page : ℕ) → IsPage page → at new.mappings page ≡ cond (covers u.range page) (at u.change.taken page) (at mid.mappings page)) →
    undone new.mappings undo.change ≡ mid.mappings → ArePutBack old new (newer ++ u ∷ []) (undo ∷ fresh)
ArePutBack-more old mid new newer fresh u undo was did range_is says undone_is = record {
  state = state_put mid new u undo did range_is
      ∙ ap (λ (s : SpaceState). record (after_put s u) { room = new.room }) was.state
      ∙ ap (λ (s : SpaceState). record s { room = new.room }) (sym (after_puts-last newer u old));
  changes = AreChanges-more old mid new (restored mid.mappings u.range u.change.taken) undo fresh was.changes did undone_is;
  pages = λ page is. says page is ∙ ap (λ (e : Option Entry). cond (covers u.range page) (at u.change.taken page) e) (was.pages page is)
      ∙ sym (put_back-last newer u page (at old.mappings page));
}

module _ (saved : List OpUndoState) (left : ℕ) (u : OpUndoState) (some : 0 < left) (within : left ≤ length saved) (is : u ≡ get_or saved (left - 1) u) where
  back_up : left - 1 + 1 ≡ left
  back_up = omega arith

  behind : drop (left - 1) saved ≡ u ∷ drop left saved
  behind = drop_more saved (left - 1) u (omega arith) ∙ ap (λ (x : OpUndoState). x ∷ drop (left - 1 + 1) saved) (sym is) ∙ ap (λ (n : ℕ). u ∷ drop n saved) back_up

  -- it comes last of those put back
  pub put_last : reverse (drop (left - 1) saved) ≡ reverse (drop left saved) ++ u ∷ []
  put_last = ap (λ (us : List OpUndoState). reverse us) behind ∙ reverse-append (u ∷ []) (drop left saved)

  -- and first of those left
  pub left_first : reverse (take left saved) ≡ u ∷ reverse (take (left - 1) saved)
  left_first =
      let grown : take (left - 1 + 1) saved ≡ take (left - 1) saved ++ get_or saved (left - 1) u ∷ [] = take_more saved (left - 1) u (omega arith) in
      last_first (take left saved) (take (left - 1) saved) u
      (ap (λ (n : ℕ). take n saved) (sym back_up) ∙ grown ∙ ap (λ (x : OpUndoState). take (left - 1) saved ++ x ∷ []) (sym is))

  -- its mappings are kept as long as it isn't spent
  pub still_kept : (old now : SpaceState) (fresh : List OpUndoState) → AreChanges old now fresh → AreAmongKept old (taken_by (reverse saved)) → AreAmongKept now u.change.taken
  still_kept old now fresh changes among =
      let front : List Mapping = taken_by fresh ++ taken_by (reverse (drop left saved)) in
      let rest : List Mapping = taken_by (reverse (take (left - 1) saved)) ++ among.others in
      let split : reverse saved ≡ reverse (drop left saved) ++ (u ∷ reverse (take (left - 1) saved)) =
      ap (λ (us : List OpUndoState). reverse us) (sym (take-append-drop left saved)) ∙ reverse-append (take left saved) (drop left saved)
      ∙ ap (λ (us : List OpUndoState). reverse (drop left saved) ++ us) left_first in
      let taken_is : taken_by (reverse saved) ++ among.others ≡ taken_by (reverse (drop left saved)) ++ (u.change.taken ++ rest) =
      ap (λ (us : List OpUndoState). taken_by us ++ among.others) split
      ∙ ap (λ (ms : List Mapping). ms ++ among.others) (taken_by-append (reverse (drop left saved)) (u ∷ reverse (take (left - 1) saved)))
      ∙ append_assoc (taken_by (reverse (drop left saved))) (u.change.taken ++ taken_by (reverse (take (left - 1) saved))) among.others
      ∙ ap (λ (ms : List Mapping). taken_by (reverse (drop left saved)) ++ ms) (append_assoc u.change.taken (taken_by (reverse (take (left - 1) saved))) among.others) in
      let all : AreKept now (front ++ (u.change.taken ++ rest)) =
      subst (λ (ms : List Mapping). AreKept now ms) (sym (append_assoc (taken_by fresh) (taken_by (reverse (drop left saved))) (u.change.taken ++ rest)))
      (changes.kept (taken_by (reverse (drop left saved)) ++ (u.change.taken ++ rest)) (subst (λ (ms : List Mapping). AreKept old ms) taken_is among.are_kept)) in
      record { others = front ++ rest; are_kept = kept_in_any_order now front u.change.taken rest all }

  -- the limits at its turn
  limits_turn : (now : SpaceState) → put_limits (reverse (take left saved)) now
      ≡ first_of (limit_fault now u.range (restored now.mappings u.range u.change.taken)) (put_limits (reverse (take (left - 1) saved)) (after_put now u))
  limits_turn now = ap (λ (us : List OpUndoState). put_limits us now) left_first

  pub put_more : {A : Type 0} (old now new : SpaceState) (answer : Result A Fault) (x : A) → answer ≡ Ok x →
      MatchOption (limit_fault now u.range (restored now.mappings u.range u.change.taken)) (IsOkUnless answer OutOfMemory) (λ g. answer ≡ Err g) →
      new ≡ record (after_put now u) { room = new.room } → put_limits (reverse saved) old ≡ put_limits (reverse (take left saved)) now →
      put_limits (reverse saved) old ≡ put_limits (reverse (take (left - 1) saved)) new
  put_more old now new answer x ok why state was =
      was ∙ limits_turn now
      ∙ ap (λ (o : Option Fault). first_of o (put_limits (reverse (take (left - 1) saved)) (after_put now u))) (not_refused answer x ok (limit_fault now u.range (restored now.mappings u.range u.change.taken)) why)
      ∙ sym (put_limits-room (reverse (take (left - 1) saved)) (after_put now u) new.room)
      ∙ ap (λ (s : SpaceState). put_limits (reverse (take (left - 1) saved)) s) (sym state)

  pub put_refused : {A : Type 0} (old now : SpaceState) (answer : Result A Fault) (fault : Fault) → answer ≡ Err fault →
      MatchOption (limit_fault now u.range (restored now.mappings u.range u.change.taken)) (IsOkUnless answer OutOfMemory) (λ g. answer ≡ Err g) →
      put_limits (reverse saved) old ≡ put_limits (reverse (take left saved)) now → (put_limits (reverse saved) old ≡ Some fault) ⊎ (fault ≡ OutOfMemory)
  put_refused old now answer fault is_err why was = by_cases (limit_fault now u.range (restored now.mappings u.range u.change.taken)) refl why
    where
      by_cases : (o : Option Fault) → limit_fault now u.range (restored now.mappings u.range u.change.taken) ≡ o → MatchOption o (IsOkUnless answer OutOfMemory) (λ g. answer ≡ Err g) →
          (put_limits (reverse saved) old ≡ Some fault) ⊎ (fault ≡ OutOfMemory)
      by_cases None none h = inr (subst (λ x. IsOkUnless x OutOfMemory) is_err h)
      by_cases (Some g) passed h =
          inl (was ∙ limits_turn now ∙ ap (λ (o : Option Fault). first_of o (put_limits (reverse (take (left - 1) saved)) (after_put now u))) passed
          ∙ ap (λ (f : Fault). Some f) (sym (same_err fault g answer is_err h)))
