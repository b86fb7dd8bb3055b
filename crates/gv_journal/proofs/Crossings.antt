-- The notes of settled items tell the least later item that withdraws one of them.
use Rattle.std.proofs.Common.{◌≡◌, ℕ, ◌+◌, ◌-◌, ◌<◌, ◌≤◌, suc, Bool, true, false, cond, List, [], ◌∷◌, length, take, drop, get_or, reverse, Option, Some, None, inl, inr, refl, ap, sym, ◌∙◌, subst, arith}
use Rattle.std.specs.Prelude.{◌⊎◌, is_some, position}
use Rattle.std.specs.Option.{option_map}
use Rattle.std.specs.List.{position_from}
use Rattle.std.proofs.lemmas.Bool.{cases_lt}
use Rattle.std.proofs.lemmas.Bool.Decides.{nat_tests}
use Rattle.std.proofs.lemmas.List.{reverse-append, length-reverse, length-drop, get_or_append_left, get_or_at, get_or-drop, get_or-take, length-take-le}
use Rattle.std.proofs.lemmas.Iterator.Adapters.{position_from-zero}
use Rattle.gv_journal.specs.Items.{JournalState, NumberedItem, numbered, entries, next, names, is_withdrawn}
use Rattle.gv_journal.specs.Inside.{NamesOnce, NameOnce}
use Rattle.gv_journal.specs.Notes.{named_by, notes_of, crossing_from}
use Rattle.gv_journal.specs.Settling.{crosses, later, crossing}
use Rattle.gv_journal.specs.declared.item.Item.{Item}
use Rattle.gv_journal.specs.declared.item.ItemKind.{ItemKind}
use Rattle.gv_journal.specs.declared.item.ItemKind.TheVariants.{Bind, Withdrawal}
use Rattle.gv_journal.proofs.NotesByIndex.{named_is, note_at, length-notes}
use Rattle.gv_journal.proofs.FirstAndLeast.{IsFirstAt, none_passes, first_passes, AtMost, at_most_each, StandsIn, stands_in}
use Rattle.gv_journal.proofs.Settlings.{reversed_later}

both : (b : Bool) → b ≡ true → b ≡ false → ⊥
both b here there = cc

-- an item that names another one crosses each number above that one
naming_crosses : (kind : ItemKind) (n to : ℕ) → names kind n ≡ true → n < to → crosses to kind ≡ true
naming_crosses (Bind queue number request seen done) n to here below = cc
naming_crosses (Withdrawal of) n to here below = grind (arith, nat_tests)

-- and what crosses a number names one below it
pub record CrossesAt (kind : ItemKind) (to : ℕ) : Type 0 where
  pub of : ℕ
  pub below : of < to
  pub here : names kind of ≡ true

crossing_names : (kind : ItemKind) (to : ℕ) → crosses to kind ≡ true → CrossesAt kind to
crossing_names (Bind queue number request seen done) to here = cc
crossing_names (Withdrawal of) to here = record { of = of; below = grind (arith, nat_tests); here = grind (arith, nat_tests) }

named_once : (kind : ItemKind) (first : ℕ) (older : List NumberedItem) (n : ℕ) → NamesOnce kind first older → names kind n ≡ true → (first ≤ n) × (is_withdrawn older n ≡ false)
named_once (Bind queue number request seen done) first older n once here = cc
named_once (Withdrawal of) first older n once here =
    let same : of ≡ n = grind (arith, nat_tests) in
    (omega (arith, once.0, same), subst (λ (k : ℕ). is_withdrawn older k ≡ false) same once.1)

-- the item at an index
item_last : (item : Item) (items : List Item) (i : ℕ) (d : Item) → length items ≤ i → i < suc (length items) → get_or (reverse (item ∷ items)) i d ≡ item
item_last item items i d le below =
    ap (λ (xs : List Item). get_or xs i d) (reverse-append (item ∷ []) items)
    ∙ get_or_at (reverse items) item [] d i (length-reverse items ∙ omega arith)

item_older : (item : Item) (items : List Item) (i : ℕ) (d : Item) → i < length items → get_or (reverse (item ∷ items)) i d ≡ get_or (reverse items) i d
item_older item items i d below =
    ap (λ (xs : List Item). get_or xs i d) (reverse-append (item ∷ []) items)
    ∙ get_or_append_left (reverse items) (item ∷ []) d i (omega (arith, length-reverse items))

-- what the item at an index names is held, and no other item names it
pub names_there : (first : ℕ) (items : List Item) (i : ℕ) (d : Item) (n : ℕ) → NameOnce first (numbered first items) → i < length items → names (get_or (reverse items) i d).kind n ≡ true →
    (first ≤ n) × (named_by (numbered first items) n ≡ Some (first + i))
names_there first [] i d n once below here = absurd (omega arith)
names_there first (item ∷ items) i d n once below here = by_cases (cases_lt i (length items)) (λ less same. names_there first items i d n once.1 less same)
  where
    newest : length items ≤ i → (first ≤ n) × (named_by (numbered first (item ∷ items)) n ≡ Some (first + i))
    newest le =
        let own : names item.kind n ≡ true = ap (λ (x : Item). names x.kind n) (sym (item_last item items i d le below)) ∙ here in
        let index : length items ≡ i = omega arith in (
          (named_once item.kind first (numbered first items) n once.0 own).0,
          ap (λ (b : Bool). cond b (Some (first + length items)) (named_by (numbered first items) n)) own ∙ ap (λ (k : ℕ). Some (first + k)) index,
        )

    not_own : (b : Bool) → names item.kind n ≡ b → named_by (numbered first items) n ≡ Some (first + i) → names item.kind n ≡ false
    not_own false is found = is
    not_own true is found =
        absurd (both (is_withdrawn (numbered first items) n)
        (sym (named_is (numbered first items) n) ∙ ap (λ (o : Option ℕ). is_some o) found)
        (named_once item.kind first (numbered first items) n once.0 is).1)

    by_cases : (i < length items) ⊎ (length items ≤ i) → (i < length items → names (get_or (reverse items) i d).kind n ≡ true → (first ≤ n) × (named_by (numbered first items) n ≡ Some (first + i))) → (first ≤ n) × (named_by (numbered first (item ∷ items)) n ≡ Some (first + i))
    by_cases (inr le) older = newest le
    by_cases (inl less) older =
        let rest = older less (ap (λ (x : Item). names x.kind n) (sym (item_older item items i d less)) ∙ here) in (
          rest.0,
          ap (λ (b : Bool). cond b (Some (first + length items)) (named_by (numbered first items) n)) (not_own (names item.kind n) refl rest.1) ∙ rest.1,
        )

-- and where one names a number, it stands at its index
pub record NamedAt (first : ℕ) (items : List Item) (n by : ℕ) (d : Item) : Type 0 where
  pub index : ℕ
  pub below : index < length items
  pub number : by ≡ first + index
  pub here : names (get_or (reverse items) index d).kind n ≡ true

named_there : (first : ℕ) (items : List Item) (n by : ℕ) (d : Item) → named_by (numbered first items) n ≡ Some by → NamedAt first items n by d
named_there first [] n by d found = cc
named_there first (item ∷ items) n by d found = by_cases (names item.kind n) refl found (λ rest. named_there first items n by d rest)
  where
    by_cases : (b : Bool) → names item.kind n ≡ b → cond b (Some (first + length items)) (named_by (numbered first items) n) ≡ Some by →
        (named_by (numbered first items) n ≡ Some by → NamedAt first items n by d) → NamedAt first (item ∷ items) n by d
    by_cases true is here older = record {
      index = length items;
      below = omega arith;
      number = cc;
      here = ap (λ (x : Item). names x.kind n) (item_last item items (length items) d (omega arith) (omega arith)) ∙ is;
    }
    by_cases false is rest older =
        let at = older rest in
        record {
          index = at.index;
          below = omega (arith, at.below);
          number = at.number;
          here = ap (λ (x : Item). names x.kind n) (item_older item items at.index d at.below) ∙ at.here;
        }

module _ (j : JournalState) (to count : ℕ) (notes : List (Option ℕ)) (is : j.first + count ≡ to) (within : to ≤ next j) (once : NameOnce j.first (entries j))
    (front : notes ≡ take count (notes_of (entries j))) where
  abbrev after : List Item
  after = reverse (later j to)

  few : count ≤ length j.items
  few = omega (arith, within)

  after_is : after ≡ drop count (reverse j.items)
  after_is = reversed_later j to count is within

  after_size : length after ≡ length j.items - count
  after_size = ap (λ (xs : List Item). length xs) after_is ∙ length-drop count (reverse j.items) ∙ omega (arith, length-reverse j.items)

  notes_size : length notes ≡ count
  notes_size = ap (λ (ms : List (Option ℕ)). length ms) front ∙ length-take-le count (notes_of (entries j)) (omega (arith, length-notes (entries j) j.first j.items, few))

  abbrev test : Item → Bool
  test item = crosses to item.kind

  position_is : position test after ≡ position_from test 0 after
  position_is = position_from-zero test after

  module _ (d : Item) (x : Option ℕ) where
    after_at : (k : ℕ) → get_or after k d ≡ get_or (reverse j.items) (count + k) d
    after_at k = ap (λ (xs : List Item). get_or xs k d) after_is ∙ get_or-drop count (reverse j.items) k d

    note_there : (i : ℕ) → i < count → get_or notes i x ≡ named_by (entries j) (j.first + i)
    note_there i below =
        ap (λ (ms : List (Option ℕ)). get_or ms i x) front
        ∙ get_or-take count (notes_of (entries j)) i x below ∙ note_at (entries j) j.first j.items i x d (omega (arith, few))

    -- a number that stands in a note is that of a later item that crosses
    noted_crosses : (by : ℕ) → StandsIn to notes by x → (to ≤ by) × ((by - to < length after) × (crosses to (get_or after (by - to) d).kind ≡ true))
    noted_crosses by at =
        let settled : at.index < count = omega (arith, notes_size, at.below) in
        let found : NamedAt j.first j.items (j.first + at.index) by d = named_there j.first j.items (j.first + at.index) by d (sym (note_there at.index settled) ∙ at.here) in
        let index : count + (by - to) ≡ found.index = omega (arith, found.number, is, at.from) in (
          at.from,
          (
            omega (arith, after_size, found.below, index, few),
            ap (λ (y : Item). crosses to y.kind) (after_at (by - to)) ∙ ap (λ (n : ℕ). crosses to (get_or (reverse j.items) n d).kind) index
                ∙ naming_crosses (get_or (reverse j.items) found.index d).kind (j.first + at.index) to found.here (omega (arith, is)),
          ),
        )

    -- and a later item that crosses stands in a note
    crossing_noted : (k : ℕ) → k < length after → crosses to (get_or after k d).kind ≡ true → AtMost (crossing_from to None notes) (to + k)
    crossing_noted k below here =
        let at = crossing_names (get_or after k d).kind to here in
        let there = names_there j.first j.items (count + k) d at.of once (omega (arith, after_size, few, below)) (ap (λ (y : Item). names y.kind at.of) (sym (after_at k)) ∙ at.here) in
        let index : j.first + (at.of - j.first) ≡ at.of = omega (arith, there.0) in
        let number : j.first + (count + k) ≡ to + k = omega (arith, is) in
        let settled : at.of - j.first < count = omega (arith, at.below, there.0, is) in
        at_most_each to None notes (at.of - j.first) (to + k) x (omega (arith, notes_size, settled))
        (note_there (at.of - j.first) settled ∙ ap (named_by (entries j)) index ∙ there.1 ∙ ap (λ (n : ℕ). Some n) number) (omega arith)

    none_crosses : position_from test 0 after ≡ None → crossing_from to None notes ≡ None
    none_crosses none = by_cases (crossing_from to None notes) refl
      where
        by_cases : (o : Option ℕ) → crossing_from to None notes ≡ o → o ≡ None
        by_cases None h = refl
        by_cases (Some by) h = from_index (stands_in to None notes by x h)
          where
            from_index : (None ≡ Some by) ⊎ StandsIn to notes by x → Some by ≡ None
            from_index (inl e) = cc
            from_index (inr at) =
                let there = noted_crosses by at in
                absurd (both (crosses to (get_or after (by - to) d).kind) there.1.1 (none_passes test 0 after none (by - to) d there.1.0))

    first_crosses : (k : ℕ) → position_from test 0 after ≡ Some k → crossing_from to None notes ≡ Some (to + k)
    first_crosses k some = by_cases (crossing_from to None notes) refl (crossing_noted k at.below (at.here d))
      where
        at : IsFirstAt test after k
        at = let none : k - 0 ≡ k = omega arith in subst (λ (n : ℕ). IsFirstAt test after n) none (first_passes test 0 after k some).1

        by_cases : (o : Option ℕ) → crossing_from to None notes ≡ o → AtMost o (to + k) → o ≡ Some (to + k)
        by_cases None h most = absurd most
        by_cases (Some by) h most = from_index (stands_in to None notes by x h)
          where
            from_index : (None ≡ Some by) ⊎ StandsIn to notes by x → Some by ≡ Some (to + k)
            from_index (inl e) = cc
            from_index (inr stands) =
                let there = noted_crosses by stands in
                from_order there.0 there.1.1 (cases_lt (by - to) k)
              where
                from_order : to ≤ by → crosses to (get_or after (by - to) d).kind ≡ true → (by - to < k) ⊎ (k ≤ by - to) → Some by ≡ Some (to + k)
                from_order le here (inl less) = absurd (both (crosses to (get_or after (by - to) d).kind) here (at.before (by - to) d less))
                from_order le here (inr ge) = let same : by ≡ to + k = omega (arith, most) in ap (λ (n : ℕ). Some n) same

  no_elements : {A : Type 0} (xs : List A) → length xs ≡ 0 → xs ≡ []
  no_elements [] size = refl
  no_elements (x ∷ xs) size = absurd (omega (arith, size))

  -- the first later item that crosses, where there is an item or none
  first_is : position_from test 0 after ≡ None → crossing_from to None notes ≡ None
  first_is none = by_items j.items refl
    where
      by_items : (items : List Item) → j.items ≡ items → crossing_from to None notes ≡ None
      by_items [] is_empty = ap (crossing_from to None) (no_elements notes (notes_size ∙ omega (arith, few, ap (λ (xs : List Item). length xs) is_empty)))
      by_items (d ∷ items) some = none_crosses d None none

  some_is : (k : ℕ) → position_from test 0 after ≡ Some k → crossing_from to None notes ≡ Some (to + k)
  some_is k found = by_items after refl
    where
      by_items : (items : List Item) → after ≡ items → crossing_from to None notes ≡ Some (to + k)
      by_items [] is_empty = absurd (nothing (position_from test 0 after) (ap (position_from test 0) is_empty) found)
        where
          nothing : (o : Option ℕ) → o ≡ None → o ≡ Some k → ⊥
          nothing o none some = cc
      by_items (d ∷ items) some = first_crosses d None k found

  -- so the least number in the notes is that of the least later item that crosses
  pub crossing_is : crossing j to ≡ crossing_from to None notes
  crossing_is = ap (option_map (λ index. to + index)) position_is ∙ by_cases (position_from test 0 after) refl
    where
      by_cases : (o : Option ℕ) → position_from test 0 after ≡ o → option_map (λ index. to + index) o ≡ crossing_from to None notes
      by_cases None h = sym (first_is h)
      by_cases (Some k) h = sym (some_is k h)

  pub none_is : crossing_from to None notes ≡ None → position (λ item. crosses to item.kind) (reverse (later j to)) ≡ None
  none_is none = position_is ∙ by_cases (position_from test 0 after) refl
    where
      by_cases : (o : Option ℕ) → position_from test 0 after ≡ o → o ≡ None
      by_cases None h = refl
      by_cases (Some k) h = absurd (apart (crossing_from to None notes) (some_is k h) none)
        where
          apart : (o : Option ℕ) → o ≡ Some (to + k) → o ≡ None → ⊥
          apart o some empty = cc
