-- The room that undo values which are put back may make, and so a withdrawal.
use Rattle.std.proofs.Common.{◌≡◌, ℕ, ◌-◌, ◌<◌, ◌≤◌, List, [], ◌∷◌, ◌++◌, length, max, take, drop, get_or, reverse, refl, sym, ◌∙◌, ap, arith}
use Rattle.std.proofs.lemmas.List.{reverse-append, take-append-drop}
use Rattle.gv_types.specs.PageRange.{PageRangeState}
use Rattle.gv_types.specs.Operation.{range_of}
use Rattle.gv_types.specs.declared.mapping.Mapping.{Mapping}
use Rattle.gv_types.specs.declared.operation.PageOp.{PageOp}
use Rattle.gv_ranges.specs.Edit.{restored, edited_by_all}
use Rattle.gv_space.specs.State.{SpaceState}
use Rattle.gv_space.specs.Undo.{OpUndoState}
use Rattle.gv_space.specs.Change.{GrowsJustFor}
use Rattle.gv_journal.specs.History.{AreUndosOf}
use Rattle.gv_journal.specs.Restoring.{list_after_puts, longest_of_puts, GrowsForPuts, ArePutBack}
use Rattle.gv_journal.specs.Withdrawing.{longest_withdrawn}
use Rattle.gv_journal.proofs.WithdrawableItem.{restored_same}
use Rattle.gv_journal.specs.Undoing.{reverted_by}
use Rattle.gv_journal.proofs.Growing.{grown_room, reverted_by-same_room}
use Rattle.gv_journal.proofs.Puts.{left_first}
use Rattle.gv_journal.proofs.PutUndos.{after_puts-mappings}

start : (us : List OpUndoState) (ms : List Mapping) → length ms ≤ longest_of_puts us ms
start [] ms = omega arith
start (u ∷ us) ms = omega arith

behind : (xs ys : List OpUndoState) (ms : List Mapping) → longest_of_puts ys (list_after_puts xs ms) ≤ longest_of_puts (xs ++ ys) ms
behind [] ys ms = omega arith
behind (x ∷ xs) ys ms = omega (arith, behind xs ys (restored ms x.range x.change.taken))

-- one put more
pub grows_put : (saved : List OpUndoState) (left : ℕ) (u : OpUndoState) (some : 0 < left) (within : left ≤ length saved) (is : u ≡ get_or saved (left - 1) u) (old mid new : SpaceState) (fresh : List OpUndoState) →
    ArePutBack old mid (reverse (drop left saved)) fresh → GrowsForPuts (reverse saved) old mid → GrowsJustFor (restored mid.mappings u.range u.change.taken) mid new → GrowsForPuts (reverse saved) old new
grows_put saved left u some within is old mid new fresh put was grown =
    let xs : List OpUndoState = reverse (drop left saved) in
    let zs : List OpUndoState = reverse (take (left - 1) saved) in
    let split : reverse saved ≡ xs ++ (u ∷ zs) =
    ap (λ (us : List OpUndoState). reverse us) (sym (take-append-drop left saved)) ∙ reverse-append (take left saved) (drop left saved)
    ∙ ap (λ (us : List OpUndoState). xs ++ us) (left_first saved left u some within is) in
    let list : mid.mappings ≡ list_after_puts xs old.mappings = ap (λ (s : SpaceState). s.mappings) put.state ∙ after_puts-mappings xs old in
    let here : max (length mid.mappings) (length (restored mid.mappings u.range u.change.taken)) ≤ longest_of_puts (u ∷ zs) mid.mappings =
    omega (arith, start zs (restored mid.mappings u.range u.change.taken)) in
    omega (
      arith,
      was,
      grown_room (restored mid.mappings u.range u.change.taken) mid new grown,
      here,
      behind xs (u ∷ zs) old.mappings,
      ap (λ (ms : List Mapping). longest_of_puts (u ∷ zs) ms) list,
      ap (λ (us : List OpUndoState). longest_of_puts us old.mappings) split,
    )

-- and what is taken back makes none
pub grows_put_back : (saved : List OpUndoState) (old mid new : SpaceState) (fresh : List OpUndoState) → GrowsForPuts saved old mid → new ≡ reverted_by mid fresh → GrowsForPuts saved old new
grows_put_back saved old mid new fresh grown state =
    omega (arith, grown, ap (λ (t : SpaceState). t.room) state, reverted_by-same_room mid fresh)

-- those of an item's own undo values are those of its withdrawal
pub longest_of_puts-withdrawn : (before : List Mapping) (ops : List PageOp) (us : List OpUndoState) (ms : List Mapping) → AreUndosOf before ops us → longest_of_puts us ms ≡ longest_withdrawn before ops ms
longest_of_puts-withdrawn before [] [] ms undos = refl
longest_of_puts-withdrawn before (op ∷ ops) (u ∷ us) ms undos =
    let same : restored ms u.range u.change.taken ≡ restored ms (range_of op) (edited_by_all ops before) =
    restored_same ms (edited_by_all ops before) _ u undos.1 ∙ ap (λ (r : PageRangeState). restored ms r (edited_by_all ops before)) undos.0 in
    ap (λ (xs : List Mapping). max (length ms) (longest_of_puts us xs)) same
    ∙ ap (λ (n : ℕ). max (length ms) n) (longest_of_puts-withdrawn before ops us (restored ms (range_of op) (edited_by_all ops before)) undos.2)
longest_of_puts-withdrawn before [] (u ∷ us) ms undos = absurd undos
longest_of_puts-withdrawn before (op ∷ ops) [] ms undos = absurd undos
