-- The notes that stand beside items, index by index.
use Rattle.std.proofs.Common.{◌≡◌, ℕ, ◌+◌, ◌<◌, ◌≤◌, suc, Bool, true, false, cond, ◌||◌, List, [], ◌∷◌, ◌++◌, map, length, set, get_or, reverse, Option, Some, None, inl, inr, refl, ap, sym, ◌∙◌, arith}
use Rattle.std.specs.Prelude.{is_some, ◌⊎◌}
use Rattle.std.proofs.lemmas.List.{reverse-append, length-reverse, length-map, length-set, get_or-map, get_or_append_left, get_or_at, get_or-set_same, get_or-set_other, same_lists}
use Rattle.std.proofs.lemmas.Bool.{cases_lt, cases_eq}
use Rattle.gv_journal.specs.Items.{NumberedItem, numbered, names, is_withdrawn}
use Rattle.gv_journal.specs.Notes.{named_by}
use Rattle.gv_journal.specs.declared.item.Item.{Item}

-- the note of an item among others
abbrev pub note_in : List NumberedItem → NumberedItem → Option ℕ
note_in xs x = named_by xs x.number

-- an item is gone where one names it
pub named_is : (xs : List NumberedItem) (n : ℕ) → is_some (named_by xs n) ≡ is_withdrawn xs n
named_is [] n = refl
named_is (x ∷ xs) n = by_cases (names x.item.kind n) (named_is xs n)
  where
    by_cases : (b : Bool) → is_some (named_by xs n) ≡ is_withdrawn xs n → is_some (cond b (Some x.number) (named_by xs n)) ≡ (b || is_withdrawn xs n)
    by_cases true rest = refl
    by_cases false rest = rest

no_name : (o : Option ℕ) → is_some o ≡ false → o ≡ None
no_name None h = refl
no_name (Some n) h = cc

pub not_named_by : (xs : List NumberedItem) (n : ℕ) → is_withdrawn xs n ≡ false → named_by xs n ≡ None
not_named_by xs n none = no_name (named_by xs n) (named_is xs n ∙ none)

pub length-numbered : (first : ℕ) (items : List Item) → length (numbered first items) ≡ length items
length-numbered first [] = refl
length-numbered first (item ∷ items) = ap suc (length-numbered first items)

-- the item at an index, with its number
pub numbered_at : (first : ℕ) (items : List Item) (i : ℕ) (x : NumberedItem) → i < length items →
    get_or (reverse (numbered first items)) i x ≡ record { number = first + i; item = get_or (reverse items) i x.item }
numbered_at first [] i x below = absurd (omega arith)
numbered_at first (item ∷ items) i x below = by_cases (cases_lt i (length items)) (λ less. numbered_at first items i x less)
  where
    last : NumberedItem
    last = record { number = first + length items; item = item }

    split : reverse (numbered first (item ∷ items)) ≡ reverse (numbered first items) ++ last ∷ []
    split = reverse-append (last ∷ []) (numbered first items)

    items_split : reverse (item ∷ items) ≡ reverse items ++ item ∷ []
    items_split = reverse-append (item ∷ []) items

    size : length (reverse (numbered first items)) ≡ length items
    size = length-reverse (numbered first items) ∙ length-numbered first items

    by_cases : (i < length items) ⊎ (length items ≤ i) → (i < length items → get_or (reverse (numbered first items)) i x ≡ record { number = first + i; item = get_or (reverse items) i x.item }) → get_or (reverse (numbered first (item ∷ items))) i x ≡ record { number = first + i; item = get_or (reverse (item ∷ items)) i x.item }
    by_cases (inl less) rest =
        ap (λ (ys : List NumberedItem). get_or ys i x) split
        ∙ get_or_append_left (reverse (numbered first items)) (last ∷ []) x i (omega (arith, size))
        ∙ rest less
        ∙ ap (λ (y : Item). record { number = first + i; item = y })
        (sym (ap (λ (ys : List Item). get_or ys i x.item) items_split ∙ get_or_append_left (reverse items) (item ∷ []) x.item i (omega (arith, length-reverse items))))
    by_cases (inr le) rest =
        let is : i ≡ length items = omega arith in
        ap (λ (ys : List NumberedItem). get_or ys i x) split
        ∙ get_or_at (reverse (numbered first items)) last [] x i (size ∙ sym is)
        ∙ ap (λ (n : ℕ). record { number = first + n; item = item }) (sym is)
        ∙ ap (λ (y : Item). record { number = first + i; item = y })
        (sym (ap (λ (ys : List Item). get_or ys i x.item) items_split ∙ get_or_at (reverse items) item [] x.item i (length-reverse items ∙ sym is)))

-- the note at an index, of items among others
pub note_at : (xs : List NumberedItem) (first : ℕ) (items : List Item) (i : ℕ) (note : Option ℕ) (item : Item) → i < length items →
    get_or (map (note_in xs) (reverse (numbered first items))) i note ≡ named_by xs (first + i)
note_at xs first items i note item below =
    let x : NumberedItem = record { number = 0; item = item } in
    get_or-map (note_in xs) (reverse (numbered first items)) i x note (omega (arith, length-reverse (numbered first items), length-numbered first items))
    ∙ ap (note_in xs) (numbered_at first items i x below)

pub length-notes : (xs : List NumberedItem) (first : ℕ) (items : List Item) → length (map (note_in xs) (reverse (numbered first items))) ≡ length items
length-notes xs first items =
    length-map (reverse (numbered first items)) (note_in xs) ∙ length-reverse (numbered first items) ∙ length-numbered first items

-- lists of notes that differ at one index
pub marked_one : (ms ns : List (Option ℕ)) (p : ℕ) (w : Option ℕ) → length ms ≡ length ns → p < length ns →
    ((i : ℕ) (d : Option ℕ) → i < length ns → (i ≡ p → ⊥) → get_or ms i d ≡ get_or ns i d) →
    ((d : Option ℕ) → get_or ms p d ≡ w) →
    set ns p w ≡ ms
marked_one ms ns p w size below others here =
    same_lists (set ns p w) ms (length-set ns p _ ∙ sym size)
    (λ i d within. by_cases i d (omega (arith, length-set ns p w)) (cases_eq i p))
  where
    by_cases : (i : ℕ) (d : Option ℕ) → i < length ns → (i ≡ p) ⊎ (i ≡ p → ⊥) → get_or (set ns p w) i d ≡ get_or ms i d
    by_cases i d within (inl is) =
        ap (λ (k : ℕ). get_or (set ns p w) k d) is
        ∙ get_or-set_same ns p w d below
        ∙ sym (here d) ∙ ap (λ (k : ℕ). get_or ms k d) (sym is)
    by_cases i d within (inr apart) = get_or-set_other ns p i w d apart ∙ sym (others i d within apart)
