-- What items keep, and how much of it stays once one is gone.
use Rattle.std.proofs.Common.{◌≡◌, ℕ, ◌≤◌, List, [], ◌∷◌, ◌++◌, take, drop, reverse, Option, refl, ap, sym, ◌∙◌, subst, append_assoc}
use Rattle.std.proofs.lemmas.List.{reverse-append, append-nil, take-append-drop}
use Rattle.std.proofs.lemmas.List.Elements.{All-head, All-tail}
use Rattle.std.specs.List.{All}
use Rattle.gv_types.specs.declared.mapping.Entry.{Entry}
use Rattle.gv_types.specs.declared.mapping.Mapping.{Mapping}
use Rattle.gv_space.specs.State.{SpaceState, AreKept}
use Rattle.gv_space.specs.Undo.{OpUndoState, AreAmongKept, reverted, released}
use Rattle.gv_journal.specs.Undoing.{taken_by, undone_by, reverted_by, AreRevertible}
use Rattle.gv_journal.specs.History.{undos_of, kept_by, base, Translates, UndoSavesTheView, Rewinds}
use Rattle.gv_journal.specs.Items.{JournalState, numbered}
use Rattle.gv_journal.specs.Fits.{FitsSpace}
use Rattle.gv_journal.specs.ItemStore.{IsSpent}
use Rattle.gv_journal.specs.declared.item.Item.{Item}
use Rattle.gv_space.proofs.ReleasedLemmas.{released-released}
use Rattle.gv_journal.proofs.Undoings.{reverted_by-mappings}
use Rattle.gv_journal.proofs.Changing.{AreRevertible-room}

pub kept_by-append : (newer older : List Item) → kept_by (newer ++ older) ≡ kept_by newer ++ kept_by older
kept_by-append [] older = refl
kept_by-append (item ∷ newer) older =
    ap (λ (ms : List Mapping). taken_by (undos_of item) ++ ms) (kept_by-append newer older)
    ∙ sym (append_assoc (taken_by (undos_of item)) (kept_by newer) (kept_by older))

-- what is left of settled items keeps nothing
kept_by-spent : (items : List Item) → All IsSpent items → kept_by (reverse items) ≡ []
kept_by-spent [] spent = refl
kept_by-spent (item ∷ items) spent =
    let here : item.undos.items ≡ [] = All-head IsSpent item items spent in
    ap (λ (xs : List Item). kept_by xs) (reverse-append (item ∷ []) items)
    ∙ kept_by-append (reverse items) (item ∷ [])
    ∙ ap (λ (ms : List Mapping). ms ++ kept_by (item ∷ [])) (kept_by-spent items (All-tail IsSpent item items spent))
    ∙ ap (λ us. taken_by (reverse us) ++ []) here

-- so only the held items keep something
pub held_keep : (all : List Item) (spent : ℕ) → All IsSpent (take spent all) → kept_by (reverse all) ≡ kept_by (reverse (drop spent all))
held_keep all spent gone =
    ap (λ (xs : List Item). kept_by (reverse xs)) (sym (take-append-drop spent all))
    ∙ ap (λ (xs : List Item). kept_by xs) (reverse-append (take spent all) (drop spent all))
    ∙ kept_by-append (reverse (drop spent all)) (reverse (take spent all))
    ∙ ap (λ (ms : List Mapping). kept_by (reverse (drop spent all)) ++ ms) (kept_by-spent (take spent all) gone)
    ∙ append-nil (kept_by (reverse (drop spent all)))

-- an item's mappings are given up
pub kept_without : (s new : SpaceState) (items : List Item) (item : Item) (older : List Item) → items ≡ item ∷ older →
    ((others : List Mapping) → AreKept s (taken_by (undos_of item) ++ others) → AreKept new others) → AreKept s (kept_by items) → AreKept new (kept_by older)
kept_without s new items item older is spent saved =
    spent (kept_by older) (subst (λ (xs : List Item). AreKept s (kept_by xs)) is saved)

pub released_without : (s new : SpaceState) (items : List Item) (item : Item) (older : List Item) → items ≡ item ∷ older →
    new ≡ released s (taken_by (undos_of item)) → released new (kept_by older) ≡ released s (kept_by items)
released_without s new items item older is state =
    ap (λ (t : SpaceState). released t (kept_by older)) state
    ∙ released-released s (taken_by (undos_of item)) (kept_by older)
    ∙ ap (λ (xs : List Item). released s (kept_by xs)) (sym is)

pub newest_held : (s : SpaceState) (items : List Item) (item : Item) (older : List Item) → items ≡ item ∷ older → AreKept s (kept_by items) → AreAmongKept s (taken_by (undos_of item))
newest_held s items item older is saved = record { others = kept_by older; are_kept = subst (λ (xs : List Item). AreKept s (kept_by xs)) is saved }

-- a space that is reverted has its limits and its room
pub reverted_by-limit : (s : SpaceState) (us : List OpUndoState) → (reverted_by s us).limits.mappings ≡ s.limits.mappings
reverted_by-limit s [] = refl
reverted_by-limit s (u ∷ us) = reverted_by-limit (reverted s u) us

pub reverted_by-room_is : (s : SpaceState) (us : List OpUndoState) → (reverted_by s us).room ≡ s.room
reverted_by-room_is s [] = refl
reverted_by-room_is s (u ∷ us) = reverted_by-room_is (reverted s u) us

-- more room does no harm
pub Rewinds-room : (limit room more first : ℕ) (ms : List Mapping) (items : List Item) (below : ℕ → Option Entry) → room ≤ more →
    Rewinds limit room first ms items below → Rewinds limit more first ms items below
Rewinds-room limit room more first ms [] below le h = tt
Rewinds-room limit room more first ms (item ∷ older) below le h =
    (AreRevertible-room limit room more ms (undos_of item) le h.0, h.1, h.2, h.3, Rewinds-room limit room more first (undone_by ms (undos_of item)) older below le h.4)

-- the newest item is taken back
fits_back : (s t : SpaceState) (limit first : ℕ) (item : Item) (older : List Item) →
    FitsSpace s (record { limit = limit; first = first; items = item ∷ older }) → t ≡ reverted_by s (undos_of item) → AreKept t (kept_by older) →
    FitsSpace t (record { limit = limit; first = first; items = older })
fits_back s t limit first item older fits state kept =
    let list_is : t.mappings ≡ undone_by s.mappings (undos_of item) = ap (λ (x : SpaceState). x.mappings) state ∙ reverted_by-mappings s (undos_of item) in
    let limit_is : t.limits.mappings ≡ s.limits.mappings = ap (λ (x : SpaceState). x.limits.mappings) state ∙ reverted_by-limit s (undos_of item) in
    let room_is : t.room ≡ s.room = ap (λ (x : SpaceState). x.room) state ∙ reverted_by-room_is s (undos_of item) in
    let below = base (undone_by s.mappings (undos_of item)) older in
    record {
      translates = subst (λ (ms : List Mapping). Translates ms (numbered first older) (base ms older)) (sym list_is) fits.rewinds.2;
      saves = subst (λ (ms : List Mapping). UndoSavesTheView (numbered first older) (base ms older)) (sym list_is) fits.rewinds.3;
      rewinds = subst (λ (ms : List Mapping). Rewinds t.limits.mappings t.room first ms older (base ms older)) (sym list_is)
          (subst (λ (n : ℕ). Rewinds n t.room first (undone_by s.mappings (undos_of item)) older below) (sym limit_is)
          (subst (λ (n : ℕ). Rewinds s.limits.mappings n first (undone_by s.mappings (undos_of item)) older below) (sym room_is) fits.rewinds.4));
      kept = kept;
    }

pub fits_rewound : (s t : SpaceState) (old new : JournalState) (item : Item) → old ≡ record new { items = item ∷ new.items } →
    FitsSpace s old → t ≡ reverted_by s (undos_of item) → AreKept t (kept_by new.items) → FitsSpace t new
fits_rewound s t old new item is fits state kept =
    fits_back s t new.limit new.first item new.items (subst (λ (j : JournalState). FitsSpace s j) is fits) state kept

-- the newest item can be taken back
pub newest_revertible : (s : SpaceState) (j : JournalState) (item : Item) (older : List Item) → j.items ≡ item ∷ older → FitsSpace s j →
    AreRevertible s.limits.mappings s.room s.mappings (undos_of item)
newest_revertible s j item older is fits =
    (subst (λ (xs : List Item). Rewinds s.limits.mappings s.room j.first s.mappings xs (base s.mappings j.items)) is fits.rewinds).0
