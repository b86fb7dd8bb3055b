-- The held items of a journal, and one item more or less.
use Rattle.std.proofs.Common.{◌≡◌, ℕ, ◌+◌, suc, List, [], ◌∷◌, ◌++◌, length, reverse, ap, sym, ◌∙◌, subst, arith, add-one}
use Rattle.std.proofs.Common.{get_or, Bool, true, false, cond, Some, None, ◌<◌, refl}
use Rattle.std.specs.Prelude.{nat_le, ◌||◌}
use Rattle.std.proofs.lemmas.Bool.Decides.{nat_tests}
use Rattle.gv_types.specs.declared.fault.Fault.TheVariants.{JournalFull}
use Rattle.std.proofs.lemmas.List.{reverse-reverse}
use Rattle.std.proofs.lemmas.Bool.{or_parts}
use Rattle.gv_types.specs.declared.mapping.Mapping.{Mapping}
use Rattle.gv_space.specs.State.{SpaceState, IsUnchanged}
use Rattle.gv_space.proofs.KeptLemmas.{AreKept-room_alone}
use Rattle.gv_journal.specs.Undoing.{undone_by}
use Rattle.gv_journal.specs.Items.{JournalState, next}
use Rattle.gv_journal.specs.Verdict.{full_fault, numbers}
use Rattle.gv_journal.specs.History.{undos_of, kept_by, back, base, Translates, UndoSavesTheView, Rewinds}
use Rattle.gv_journal.specs.Items.{entries}
use Rattle.gv_journal.specs.Fits.{FitsSpace}
use Rattle.gv_journal.specs.declared.item.Item.{Item}
use Rattle.gv_journal.proofs.Lists.{last_first}
use Rattle.gv_journal.proofs.KeptMappings.{Rewinds-room}

abbrev pub journaled : ℕ → ℕ → List Item → JournalState
journaled limit first items = record { limit = limit; first = first; items = items }

-- a journal with one item more
pub one_more : (limit first : ℕ) (all mid more : List Item) (j : JournalState) (item : Item) → journaled limit first (reverse all) ≡ j → mid ≡ all → more ≡ mid ++ item ∷ [] →
    journaled limit first (reverse more) ≡ record j { items = item ∷ j.items }
one_more limit first all mid more j item is same grown =
    ap (λ (xs : List Item). journaled limit first xs) (last_first more all item (grown ∙ ap (λ (xs : List Item). xs ++ item ∷ []) same))
    ∙ ap (λ (k : JournalState). record k { items = item ∷ k.items }) is

-- a journal with one item less
pub one_less : (limit first : ℕ) (all rest : List Item) (j : JournalState) (item : Item) → journaled limit first (reverse all) ≡ j → all ≡ rest ++ item ∷ [] →
    j ≡ record (journaled limit first (reverse rest)) { items = item ∷ reverse rest }
one_less limit first all rest j item is was =
    sym is ∙ ap (λ (xs : List Item). journaled limit first xs) (last_first all rest item was)

-- one item further back
pub back_one_more : (now : List Mapping) (items older : List Item) (item : Item) (before : List Mapping) (n : ℕ) → items ≡ item ∷ older → undone_by now (undos_of item) ≡ before →
    back now items (n + 1) ≡ back before older n
back_one_more now items older item before n is undone =
    ap (λ (k : ℕ). back now items k) (add-one n)
    ∙ ap (λ (xs : List Item). back now xs (suc n)) is
    ∙ ap (λ (ms : List Mapping). back ms older n) undone

-- a journal fits a space that only has more room
pub fits_room : (s t : SpaceState) (j : JournalState) → IsUnchanged s t → FitsSpace s j → FitsSpace t j
fits_room s t j same fits =
    let list_is : t.mappings ≡ s.mappings = ap (λ (x : SpaceState). x.mappings) same.state in
    let limit_is : t.limits.mappings ≡ s.limits.mappings = ap (λ (x : SpaceState). x.limits.mappings) same.state in
    let below = base s.mappings j.items in
    record {
      translates = subst (λ (ms : List Mapping). Translates ms (entries j) (base ms j.items)) (sym list_is) fits.translates;
      saves = subst (λ (ms : List Mapping). UndoSavesTheView (entries j) (base ms j.items)) (sym list_is) fits.saves;
      rewinds = subst (λ (ms : List Mapping). Rewinds t.limits.mappings t.room j.first ms j.items (base ms j.items)) (sym list_is)
          (subst (λ (n : ℕ). Rewinds n t.room j.first s.mappings j.items below) (sym limit_is)
          (Rewinds-room s.limits.mappings s.room t.room j.first s.mappings j.items below same.room fits.rewinds));
      kept = AreKept-room_alone s t (kept_by j.items) same.state fits.kept;
    }

-- an item stands at its index among those held
pub found_at : (limit first index : ℕ) (all mid : List Item) (j : JournalState) (item : Item) → journaled limit first (reverse all) ≡ j → mid ≡ all → item ≡ get_or mid index item →
    item ≡ get_or (reverse j.items) index item
found_at limit first index all mid j item is same at =
    at ∙ ap (λ (xs : List Item). get_or xs index item) same
    ∙ ap (λ (xs : List Item). get_or xs index item) (sym (reverse-reverse all) ∙ ap (λ (k : JournalState). reverse k.items) is)

not_some : (b : Bool) → cond b (Some JournalFull) None ≡ None → b ≡ false
not_some true h = cc
not_some false h = refl

-- a number is left where a journal isn't full
pub number_left : (j : JournalState) → full_fault j ≡ None → next j < numbers
number_left j room =
    let free : nat_le numbers (next j) ≡ false = (or_parts (nat_le j.limit (length j.items)) (nat_le numbers (next j)) (not_some (nat_le j.limit (length j.items) || nat_le numbers (next j)) room)).1 in
    grind (arith, nat_tests)

-- what stands on its store
pub item_store_items : (limit first : ℕ) (all : List Item) (j : JournalState) → journaled limit first (reverse all) ≡ j → all ≡ reverse j.items
item_store_items limit first all j is = sym (reverse-reverse all) ∙ ap (λ (k : JournalState). reverse k.items) is
