-- The items that stay when the older ones are settled.
use Rattle.std.proofs.Common.{◌≡◌, ℕ, ◌+◌, ◌-◌, ◌≤◌, Bool, true, false, cond, ◌||◌, zero, suc, List, [], ◌∷◌, ◌++◌, length, reverse, take, drop, Option, refl, ap, sym, ◌∙◌, subst, arith}
use Rattle.std.proofs.lemmas.List.{append-nil, take-append-drop, reverse-append, reverse-reverse, length-reverse, length-drop, take_at, drop_at, length-take-le}
use Rattle.std.proofs.lemmas.Bool.Decides.{nat_tests}
use Rattle.std.specs.Prelude.{position, None, Some, nat_lt}
use Rattle.std.specs.Option.{option_map}
use Rattle.gv_types.specs.Page.{IsPage}
use Rattle.gv_types.specs.declared.mapping.Entry.{Entry}
use Rattle.gv_types.specs.declared.mapping.Mapping.{Mapping}
use Rattle.gv_space.specs.State.{SpaceState, AreKept}
use Rattle.gv_space.specs.Undo.{AreAmongKept, released}
use Rattle.gv_space.proofs.KeptLemmas.{kept_in_any_order}
use Rattle.gv_journal.specs.Undoing.{undone_by}
use Rattle.gv_journal.specs.Items.{JournalState, next, NumberedItem, numbered, entries, view}
use Rattle.gv_journal.specs.History.{undos_of, kept_by, back, base, Translates, Rewinds}
use Rattle.gv_journal.specs.Settling.{crosses, crossing, later, earlier, settle_fault, IsSettled}
use Rattle.gv_types.specs.declared.fault.Fault.TheVariants.{Crossed}
use Rattle.gv_journal.specs.Fits.{FitsOver, FitsSpace}
use Rattle.gv_journal.specs.Inside.{NameOlder}
use Rattle.gv_journal.specs.declared.item.Item.{Item}
use Rattle.gv_journal.proofs.KeptMappings.{kept_by-append}
use Rattle.gv_journal.proofs.HeldItems.{journaled}
use Rattle.std.proofs.lemmas.Iterator.Adapters.{position_from-zero}
use Rattle.std.specs.List.{position_from}
use Rattle.gv_journal.proofs.SettledViews.{numbered-append, NoneCross, translates_settled, saves_settled, rewinds_settled}

-- the list under the later items
abbrev pub under : List Mapping → List Item → List Mapping
under ms later = back ms later (length later)

-- the earlier items translate it
pub translates_under : (limit room first : ℕ) (ms : List Mapping) (later earlier : List Item) (below : ℕ → Option Entry) → Translates ms (numbered first (later ++ earlier)) below →
    Rewinds limit room first ms (later ++ earlier) below → Translates (under ms later) (numbered first earlier) below
translates_under limit room first ms [] earlier below was h = was
translates_under limit room first ms (item ∷ later) earlier below was h = translates_under limit room first (undone_by ms (undos_of item)) later earlier below h.2 h.4

-- taking back later items is the same whether the earlier ones are there or not
pub back_settled : (ms : List Mapping) (later earlier : List Item) (n : ℕ) → n ≤ length later → back ms (later ++ earlier) n ≡ back ms later n
back_settled ms later earlier zero le = refl
back_settled ms [] earlier (suc n) le = absurd (omega arith)
back_settled ms (item ∷ later) earlier (suc n) le = back_settled (undone_by ms (undos_of item)) later earlier n (omega arith)

-- the journal's items stand in their indices
pub held_settled : (held : List Item) (count : ℕ) → count ≤ length held →
    (take (length held - count) (reverse held) ≡ reverse (drop count held)) × (drop (length held - count) (reverse held) ≡ reverse (take count held))
held_settled held count le =
    let turned : reverse held ≡ reverse (drop count held) ++ reverse (take count held) =
    ap (λ (xs : List Item). reverse xs) (sym (take-append-drop count held)) ∙ reverse-append (take count held) (drop count held) in
    let size : length (reverse (drop count held)) ≡ length held - count = length-reverse (drop count held) ∙ length-drop count held in (
      ap (λ (xs : List Item). take (length held - count) xs) turned ∙ take_at (reverse (drop count held)) (reverse (take count held)) (length held - count) size,
      ap (λ (xs : List Item). drop (length held - count) xs) turned ∙ drop_at (reverse (drop count held)) (reverse (take count held)) (length held - count) size,
    )

-- names stay in order
NameOlder-append : (newer older : List NumberedItem) → NameOlder (newer ++ older) → NameOlder newer × NameOlder older
NameOlder-append [] older h = (tt, h)
NameOlder-append (x ∷ newer) older h =
    let rest = NameOlder-append newer older h.1 in
    ((h.0, rest.0), rest.1)

pub names_apart : (first : ℕ) (later earlier : List Item) → NameOlder (numbered first (later ++ earlier)) → NameOlder (numbered (first + length earlier) later) × NameOlder (numbered first earlier)
names_apart first later earlier h =
    NameOlder-append (numbered (first + length earlier) later) (numbered first earlier) (subst NameOlder (numbered-append first later earlier) h)

NoneCross-append : (to : ℕ) (newer older : List Item) → NoneCross to newer → NoneCross to older → NoneCross to (newer ++ older)
NoneCross-append to [] older new old = old
NoneCross-append to (item ∷ newer) older new old = (new.0, NoneCross-append to newer older new.1 old)

not_first : (b : Bool) (i : ℕ) (rest : Option ℕ) → cond b (Some i) rest ≡ None → (b ≡ false) × (rest ≡ None)
not_first true i rest none = cc
not_first false i rest none = (refl, none)

none_from : (to i : ℕ) (items : List Item) → position_from (λ (item : Item). crosses to item.kind) i items ≡ None → NoneCross to (reverse items)
none_from to i [] none = tt
none_from to i (item ∷ items) none =
    let here = not_first (crosses to item.kind) i (position_from (λ (x : Item). crosses to x.kind) (i + 1) items) none in
    subst (λ (xs : List Item). NoneCross to xs) (sym (reverse-append (item ∷ []) items))
    (NoneCross-append to (reverse items) (item ∷ []) (none_from to (i + 1) items here.1) (here.0, tt))

-- no item was found that crosses
pub none_cross : (to : ℕ) (items : List Item) → position (λ item. crosses to item.kind) items ≡ None → NoneCross to (reverse items)
none_cross to items none = none_from to 0 items (sym (position_from-zero (λ (item : Item). crosses to item.kind) items) ∙ none)

module _ (s t : SpaceState) (limit first : ℕ) (held : List Item) (count : ℕ) (le : count ≤ length held) where
  abbrev pub old_journal : JournalState
  old_journal = record { limit = limit; first = first; items = reverse held }

  abbrev pub new_journal : JournalState
  new_journal = record { limit = limit; first = first + count; items = reverse (drop count held) }

  early_size : length (reverse (take count held)) ≡ count
  early_size = length-reverse (take count held) ∙ length-take-le count held le

  turned : reverse held ≡ reverse (drop count held) ++ reverse (take count held)
  turned = ap (λ (xs : List Item). reverse xs) (sym (take-append-drop count held)) ∙ reverse-append (take count held) (drop count held)

  split : next old_journal - (first + count) ≡ length held - count
  split = omega (arith, length-reverse held)

  pub later_is : later old_journal (first + count) ≡ reverse (drop count held)
  later_is = ap (λ (n : ℕ). take n (reverse held)) split ∙ (held_settled held count le).0

  pub earlier_is : earlier old_journal (first + count) ≡ reverse (take count held)
  earlier_is = ap (λ (n : ℕ). drop n (reverse held)) split ∙ (held_settled held count le).1

  kept_turned : kept_by (reverse held) ≡ kept_by (reverse (drop count held)) ++ kept_by (reverse (take count held))
  kept_turned = ap (λ (xs : List Item). kept_by xs) turned ∙ kept_by-append (reverse (drop count held)) (reverse (take count held))

  -- what the earlier items keep may be given up first
  earlier_first : AreKept s (kept_by (reverse held)) → AreKept s (kept_by (reverse (take count held)) ++ (kept_by (reverse (drop count held)) ++ []))
  earlier_first kept =
      kept_in_any_order s (kept_by (reverse (drop count held))) (kept_by (reverse (take count held))) []
      (subst (λ (ms : List Mapping). AreKept s ms) (kept_turned ∙ ap (λ (ms : List Mapping). kept_by (reverse (drop count held)) ++ ms) (sym (append-nil (kept_by (reverse (take count held)))))) kept)

  pub earlier_kept : AreKept s (kept_by (reverse held)) → AreAmongKept s (kept_by (reverse (take count held)))
  earlier_kept kept = record { others = kept_by (reverse (drop count held)) ++ []; are_kept = earlier_first kept }

  pub names_later : NameOlder (entries old_journal) → NameOlder (entries new_journal)
  names_later older =
      subst (λ (n : ℕ). NameOlder (numbered (first + n) (reverse (drop count held)))) early_size
      (names_apart first (reverse (drop count held)) (reverse (take count held)) (subst (λ (xs : List Item). NameOlder (numbered first xs)) turned older)).0

  module _ (fits : FitsSpace s old_journal) (older : NameOlder (entries old_journal)) (none : NoneCross (first + count) (reverse (drop count held)))
      (released_is : t ≡ released s (kept_by (reverse (take count held))))
      (spent : (others : List Mapping) → AreKept s (kept_by (reverse (take count held)) ++ others) → AreKept t others) where
    abbrev below : ℕ → Option Entry
    below = base s.mappings (reverse held)

    was : FitsOver s (record { limit = limit; first = first; items = reverse (drop count held) ++ reverse (take count held) }) below
    was = subst (λ (xs : List Item). FitsOver s (record { limit = limit; first = first; items = xs }) below) turned fits

    uncrossed : NoneCross (first + length (reverse (take count held))) (reverse (drop count held))
    uncrossed = subst (λ (n : ℕ). NoneCross (first + n) (reverse (drop count held))) (sym early_size) none

    older_early : NameOlder (numbered first (reverse (take count held)))
    older_early = (names_apart first (reverse (drop count held)) (reverse (take count held)) (subst (λ (xs : List Item). NameOlder (numbered first xs)) turned older)).1

    pub base_is : (page : ℕ) → IsPage page → base s.mappings (reverse (drop count held)) page ≡ view (numbered first (reverse (take count held))) below page
    base_is = translates_under s.limits.mappings s.room first s.mappings (reverse (drop count held)) (reverse (take count held)) below was.translates was.rewinds

    list_is : t.mappings ≡ s.mappings
    list_is = ap (λ (x : SpaceState). x.mappings) released_is

    fits_at : FitsOver t (record { limit = limit; first = first + length (reverse (take count held)); items = reverse (drop count held) }) (base s.mappings (reverse (drop count held)))
    fits_at = record {
      translates = subst (λ (ms : List Mapping). Translates ms (numbered (first + length (reverse (take count held))) (reverse (drop count held))) (base s.mappings (reverse (drop count held)))) (sym list_is)
          (translates_settled first (reverse (take count held)) below (base s.mappings (reverse (drop count held))) older_early base_is s.mappings (reverse (drop count held)) uncrossed was.translates);
      saves = saves_settled first (reverse (take count held)) below (base s.mappings (reverse (drop count held))) older_early base_is (reverse (drop count held)) uncrossed was.saves;
      rewinds = subst (λ (x : SpaceState). Rewinds x.limits.mappings x.room (first + length (reverse (take count held))) x.mappings (reverse (drop count held)) (base s.mappings (reverse (drop count held)))) (sym released_is)
          (rewinds_settled first (reverse (take count held)) below (base s.mappings (reverse (drop count held))) older_early base_is s.limits.mappings s.room s.mappings (reverse (drop count held)) uncrossed was.rewinds);
      kept = subst (λ (ms : List Mapping). AreKept t ms) (append-nil (kept_by (reverse (drop count held)))) (spent (kept_by (reverse (drop count held)) ++ []) (earlier_first fits.kept));
    }

    pub fits_settled : FitsSpace t new_journal
    fits_settled =
        subst (λ (ms : List Mapping). FitsOver t new_journal (base ms (reverse (drop count held)))) (sym list_is)
        (subst (λ (n : ℕ). FitsOver t (record { limit = limit; first = first + n; items = reverse (drop count held) }) (base s.mappings (reverse (drop count held)))) early_size fits_at)

    pub is_settled : IsSettled s t old_journal new_journal (first + count)
    is_settled = record {
      items = ap (λ (xs : List Item). record { limit = limit; first = first + count; items = xs }) (sym later_is);
      space = released_is ∙ ap (λ (xs : List Item). released s (kept_by xs)) (sym earlier_is);
      back = λ n within. ap (λ (ms : List Mapping). back ms (reverse (drop count held)) n) list_is
          ∙ sym (back_settled s.mappings (reverse (drop count held)) (reverse (take count held)) n within)
          ∙ ap (λ (xs : List Item). back s.mappings xs n) (sym turned);
      base = λ page is. ap (λ (ms : List Mapping). base ms (reverse (drop count held)) page) list_is ∙ base_is page is
          ∙ ap (λ (xs : List Item). view (numbered first xs) below page) (sym earlier_is);
    }

-- the later items, the oldest one first
pub reversed_later : (j : JournalState) (to count : ℕ) → j.first + count ≡ to → to ≤ next j → reverse (later j to) ≡ drop count (reverse j.items)
reversed_later j to count is within =
    let size : length (reverse j.items) ≡ length j.items = length-reverse j.items in
    let le : count ≤ length (reverse j.items) = omega arith in
    let number : next j - to ≡ length (reverse j.items) - count = omega arith in
    let same : take (next j - to) j.items ≡ reverse (drop count (reverse j.items)) =
    ap (λ (n : ℕ). take n j.items) number
    ∙ ap (λ (xs : List Item). take (length (reverse j.items) - count) xs) (sym (reverse-reverse j.items))
    ∙ (held_settled (reverse j.items) count le).0 in
    ap (λ (xs : List Item). reverse xs) same ∙ reverse-reverse (drop count (reverse j.items))

in_range : (low n high : ℕ) → low ≤ n → n ≤ high → (nat_lt n low || nat_lt high n) ≡ false
in_range low n high le ge = grind (arith, nat_tests)

-- the fault of a number of an item held or of the next one
pub settle_fault_is : (j : JournalState) (to : ℕ) → j.first ≤ to → to ≤ next j → (o : Option ℕ) → crossing j to ≡ o → settle_fault j to ≡ option_map (λ by. Crossed by) o
settle_fault_is j to low high o is = rw (in_range j.first to (next j) low high, is) refl

later_alone : (limit first : ℕ) (held : List Item) (count : ℕ) → count ≤ length held → later (journaled limit first (reverse held)) (first + count) ≡ reverse (drop count held)
later_alone limit first held count le =
    let split : next (journaled limit first (reverse held)) - (first + count) ≡ length held - count = omega (arith, length-reverse held) in
    ap (λ (n : ℕ). take n (reverse held)) split ∙ (held_settled held count le).0

-- how many items of a journal are settled
pub count_is : (limit first : ℕ) (held : List Item) (j : JournalState) (to count : ℕ) → journaled limit first (reverse held) ≡ j → j.first + count ≡ to → to ≤ next j →
    (first + count ≡ to) × (count ≤ length held)
count_is limit first held j to count is number within =
    let first_is : first ≡ j.first = ap (λ (k : JournalState). k.first) is in
    let size : length (reverse held) ≡ length j.items = ap (λ (k : JournalState). length k.items) is in
    (omega arith, omega (arith, length-reverse held))

-- the journal that is left
pub left_is : (limit first to count : ℕ) (items held : List Item) → first + count ≡ to → items ≡ drop count held →
    journaled limit to (reverse items) ≡ journaled limit (first + count) (reverse (drop count held))
left_is limit first to count items held number is =
    ap (λ (xs : List Item). journaled limit to (reverse xs)) is ∙ ap (λ (n : ℕ). journaled limit n (reverse (drop count held))) (sym number)

-- none of the later items crosses
pub none_left : (limit first to count : ℕ) (held : List Item) (j : JournalState) → journaled limit first (reverse held) ≡ j → first + count ≡ to → count ≤ length held →
    position (λ item. crosses to item.kind) (reverse (later j to)) ≡ None → NoneCross (first + count) (reverse (drop count held))
none_left limit first to count held j is number le none =
    let which : reverse (reverse (later j to)) ≡ reverse (drop count held) =
    reverse-reverse (later j to) ∙ ap (λ (k : JournalState). later k to) (sym is) ∙ ap (λ (n : ℕ). later (journaled limit first (reverse held)) n) (sym number)
    ∙ later_alone limit first held count le in
    subst (λ (n : ℕ). NoneCross n (reverse (drop count held))) (sym number) (subst (λ (xs : List Item). NoneCross to xs) which (none_cross to (reverse (later j to)) none))
