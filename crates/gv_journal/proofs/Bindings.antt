-- A journal with one Bind more fits the space that the request made.
use Rattle.std.proofs.Common.{◌≡◌, ℕ, ◌+◌, ◌<◌, ◌≤◌, Bool, false, cond, ◌||◌, List, [], ◌∷◌, ◌++◌, length, reverse, Option, Vec, Global, refl, ap, sym, ◌∙◌, subst, arith}
use Rattle.std.proofs.lemmas.Bool.Decides.{nat_tests}
use Rattle.gv_types.specs.Page.{IsPage}
use Rattle.gv_types.specs.Operation.{view as view_of_ops}
use Rattle.gv_types.specs.declared.mapping.Entry.{Entry}
use Rattle.gv_types.specs.declared.mapping.Mapping.{Mapping}
use Rattle.gv_types.specs.declared.operation.PageOp.{PageOp}
use Rattle.gv_types.specs.declared.request.Request.{Request}
use Rattle.gv_ranges.specs.List.{at}
use Rattle.gv_space.specs.State.{SpaceState}
use Rattle.gv_space.specs.Undo.{OpUndoState}
use Rattle.gv_space.specs.declared.undo.OpUndo.{OpUndo}
use Rattle.gv_journal.specs.Undoing.{undone_by}
use Rattle.gv_journal.specs.Items.{JournalState, numbered, entries, names, is_withdrawn, live_ops, view}
use Rattle.gv_journal.specs.History.{undos_of, kept_by, base, Translates, Save, UndoSavesTheView, Rewinds, AreUndosOf}
use Rattle.gv_journal.specs.Fits.{FitsOver, FitsSpace}
use Rattle.gv_journal.specs.Applying.{after_all, AreApplied}
use Rattle.gv_journal.specs.Inside.{NamesBelow, NameOlder}
use Rattle.gv_journal.specs.Covering.{WereLive}
use Rattle.gv_journal.specs.declared.item.Item.{Item}
use Rattle.gv_journal.specs.declared.item.ItemKind.{ItemKind}
use Rattle.gv_journal.specs.declared.item.ItemKind.TheVariants.{Bind, Withdrawal}
use Rattle.gv_journal.proofs.Views.{view-at, view-append}
use Rattle.gv_journal.proofs.KeptMappings.{Rewinds-room}

-- a Bind of a request
abbrev pub bound : ℕ → ℕ → Request → Vec ℕ Global → Vec PageOp Global → Vec OpUndo Global → Item
bound queue number request seen done undos = record { kind = Bind queue number request seen done; undos = undos }

names_no_later : (kind : ItemKind) (own n : ℕ) → NamesBelow kind own → own ≤ n → names kind n ≡ false
names_no_later (Bind queue number request seen done) own n below le = refl
names_no_later (Withdrawal of) own n below le = let apart : of < n = omega arith in grind (arith, nat_tests)

or_false : (a b : Bool) → a ≡ false → b ≡ false → (a || b) ≡ false
or_false a b first second = rw (first, second) refl

-- no item names a number that comes after it
pub not_named : (first : ℕ) (items : List Item) (n : ℕ) → NameOlder (numbered first items) → first + length items ≤ n → is_withdrawn (numbered first items) n ≡ false
not_named first [] n older le = refl
not_named first (item ∷ items) n older le =
    or_false (names item.kind n) (is_withdrawn (numbered first items) n)
    (names_no_later item.kind (first + length items) n older.0 (omega arith))
    (not_named first items n older.1 (omega arith))

-- undo values save the same where the maps below agree
pub Save-at : (ops : List PageOp) (us : List OpUndoState) (below other : ℕ → Option Entry) → ((page : ℕ) → IsPage page → below page ≡ other page) → Save ops us below → Save ops us other
Save-at [] [] below other same h = tt
Save-at (op ∷ ops) (u ∷ us) below other same h =
    (λ page is c. h.0 page is c ∙ view-at ops below other page (same page is), Save-at ops us below other same h.1)
Save-at [] (u ∷ us) below other same h = absurd h
Save-at (op ∷ ops) [] below other same h = absurd h

after_all-limit : (ops : List PageOp) (s : SpaceState) → (after_all ops s).limits.mappings ≡ s.limits.mappings
after_all-limit [] s = refl
after_all-limit (op ∷ ops) s = after_all-limit ops s

pub limit_applied : (old new : SpaceState) (ops : List PageOp) → new ≡ record (after_all ops old) { room = new.room } → new.limits.mappings ≡ old.limits.mappings
limit_applied old new ops is = ap (λ (s : SpaceState). s.limits.mappings) is ∙ after_all-limit ops old

-- the base stays where the newest item's undo values give the list before
pub base_stays : (old new : List Mapping) (item : Item) (items : List Item) → undone_by new (undos_of item) ≡ old → base new (item ∷ items) ≡ base old items
base_stays old new item items is = ap (λ (ms : List Mapping). base ms items) is

module _ (s t : SpaceState) (first : ℕ) (items : List Item) (below : ℕ → Option Entry) (queue number : ℕ) (request : Request) (seen : Vec ℕ Global) (done : Vec PageOp Global) (undos : Vec OpUndo Global)
    (applied : AreApplied s t (reverse done.items) (reverse undos.items)) (older : NameOlder (numbered first items)) where
  live : is_withdrawn (numbered first items) (first + length items) ≡ false
  live = not_named first items (first + length items) older (omega arith)

  translates_bound : Translates s.mappings (numbered first items) below → Translates t.mappings (numbered first (bound queue number request seen done undos ∷ items)) below
  translates_bound was = λ page is.
      applied.pages page is
      ∙ view-at (reverse done.items) (at s.mappings) (view (numbered first items) below) page (was page is)
      ∙ sym (view-append (reverse done.items) (live_ops (numbered first items)) below page)
      ∙ ap (λ (b : Bool). view_of_ops (cond b [] (reverse done.items) ++ live_ops (numbered first items)) below page) (sym live)

  saves_bound : Translates s.mappings (numbered first items) below → UndoSavesTheView (numbered first items) below →
      UndoSavesTheView (numbered first (bound queue number request seen done undos ∷ items)) below
  saves_bound was saves =
      (λ _. Save-at (reverse done.items) (reverse undos.items) (at s.mappings) (view (numbered first items) below) was applied.save, saves)

  rewinds_bound : Translates s.mappings (numbered first items) below → UndoSavesTheView (numbered first items) below →
      Rewinds s.limits.mappings s.room first s.mappings items below →
      Rewinds t.limits.mappings t.room first t.mappings (bound queue number request seen done undos ∷ items) below
  rewinds_bound was saves rewinds =
      let list_is : undone_by t.mappings (reverse undos.items) ≡ s.mappings = applied.changes.list in
      let roomy : Rewinds s.limits.mappings t.room first s.mappings items below = Rewinds-room s.limits.mappings s.room t.room first s.mappings items below applied.changes.room rewinds in (
        applied.changes.revertible,
        subst (λ (ms : List Mapping). AreUndosOf ms (reverse done.items) (reverse undos.items)) (sym list_is) applied.undos,
        subst (λ (ms : List Mapping). Translates ms (numbered first items) below) (sym list_is) was,
        saves,
        subst (λ (ms : List Mapping). Rewinds t.limits.mappings t.room first ms items below) (sym list_is)
            (subst (λ (n : ℕ). Rewinds n t.room first s.mappings items below) (sym (limit_applied s t (reverse done.items) applied.state)) roomy),
      )

  pub fits_over_bound : (limit : ℕ) → FitsOver s (record { limit = limit; first = first; items = items }) below →
      FitsOver t (record { limit = limit; first = first; items = bound queue number request seen done undos ∷ items }) below
  fits_over_bound limit fits = record {
    translates = translates_bound fits.translates;
    saves = saves_bound fits.translates fits.saves;
    rewinds = rewinds_bound fits.translates fits.saves fits.rewinds;
    kept = applied.changes.kept (kept_by items) fits.kept;
  }

-- a journal with one Bind more fits
pub fits_bound : (s t : SpaceState) (j : JournalState) (queue number : ℕ) (request : Request) (seen : Vec ℕ Global) (done : Vec PageOp Global) (undos : Vec OpUndo Global) →
    AreApplied s t (reverse done.items) (reverse undos.items) → NameOlder (entries j) → FitsSpace s j →
    FitsSpace t (record j { items = bound queue number request seen done undos ∷ j.items })
fits_bound s t j queue number request seen done undos applied older fits =
    subst (λ (below : ℕ → Option Entry). FitsOver t (record j { items = bound queue number request seen done undos ∷ j.items }) below)
    (sym (base_stays s.mappings t.mappings (bound queue number request seen done undos) j.items applied.changes.list))
    (fits_over_bound s t j.first j.items (base s.mappings j.items) queue number request seen done undos applied older j.limit fits)

-- each item was live when it was the newest
pub were_live : (first : ℕ) (items : List Item) → NameOlder (numbered first items) → WereLive (numbered first items)
were_live first [] older = tt
were_live first (item ∷ items) older = (
  or_false (names item.kind (first + length items)) (is_withdrawn (numbered first items) (first + length items))
      (names_no_later item.kind (first + length items) (first + length items) older.0 (omega arith))
      (not_named first items (first + length items) older.1 (omega arith)),
  were_live first items older.1,
)
