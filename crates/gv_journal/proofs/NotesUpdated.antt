-- The notes beside the items of a journal with one item more or less.
use Rattle.std.proofs.Common.{◌≡◌, ℕ, ◌+◌, ◌-◌, ◌<◌, Bool, true, false, cond, List, [], ◌∷◌, ◌++◌, map, length, take, set, get_or, reverse, Option, Some, None, Vec, Global, refl, ap, sym, ◌∙◌, subst, arith}
use Rattle.std.specs.Prelude.{◌==◌}
use Rattle.std.proofs.lemmas.Bool.Decides.{nat_tests}
use Rattle.std.proofs.lemmas.List.{reverse-append, length-reverse, map_push, take_at}
use Rattle.gv_types.specs.declared.operation.PageOp.{PageOp}
use Rattle.gv_types.specs.declared.request.Request.{Request}
use Rattle.gv_space.specs.declared.undo.OpUndo.{OpUndo}
use Rattle.gv_journal.specs.Items.{NumberedItem, numbered, is_withdrawn}
use Rattle.gv_journal.specs.Inside.{NamesBelow, NameOlder, NamesOnce, NameOnce}
use Rattle.gv_journal.specs.Notes.{named_by, notes_of, NamesWithin, cleared}
use Rattle.gv_journal.specs.declared.item.Item.{Item}
use Rattle.gv_journal.specs.declared.item.ItemKind.{ItemKind}
use Rattle.gv_journal.specs.declared.item.ItemKind.TheVariants.{Bind, Withdrawal}
use Rattle.gv_journal.proofs.Bindings.{bound, not_named}
use Rattle.gv_journal.proofs.Withdrawals.{withdrawal}
use Rattle.gv_journal.proofs.NotesByIndex.{note_in, not_named_by, note_at, length-notes, marked_one}

equal_numbers : (m n : ℕ) → m ≡ n → (m == n) ≡ true
equal_numbers m n is = grind (arith, nat_tests)

other_numbers : (m n : ℕ) → (m ≡ n → ⊥) → (m == n) ≡ false
other_numbers m n apart = grind (arith, nat_tests)

-- the newest item and its number
abbrev newest : ℕ → Item → List Item → NumberedItem
newest first item items = record { number = first + length items; item = item }

last_note : (first : ℕ) (item : Item) (items : List Item) (xs : List NumberedItem) →
    map (note_in xs) (reverse (numbered first (item ∷ items))) ≡ map (note_in xs) (reverse (numbered first items)) ++ note_in xs (newest first item items) ∷ []
last_note first item items xs =
    ap (map (note_in xs)) (reverse-append (newest first item items ∷ []) (numbered first items)) ∙ map_push (note_in xs) (reverse (numbered first items)) (newest first item items)

-- no item names the newest one
newest_free : (first : ℕ) (items : List Item) → NameOlder (numbered first items) → named_by (numbered first items) (first + length items) ≡ None
newest_free first items older = not_named_by (numbered first items) (first + length items) (not_named first items (first + length items) older (omega arith))

-- with a Bind more
pub notes_bound : (first : ℕ) (items : List Item) (queue number : ℕ) (request : Request) (seen : Vec ℕ Global) (done : Vec PageOp Global) (undos : Vec OpUndo Global) → NameOlder (numbered first items) →
    notes_of (numbered first (bound queue number request seen done undos ∷ items)) ≡ notes_of (numbered first items) ++ None ∷ []
notes_bound first items queue number request seen done undos older =
    last_note first (bound queue number request seen done undos) items (numbered first (bound queue number request seen done undos ∷ items))
    ∙ ap (λ (w : Option ℕ). notes_of (numbered first items) ++ w ∷ []) (newest_free first items older)

-- the item with this number is withdrawn, and no other
module _ (first index : ℕ) (items : List Item) (undos : Vec OpUndo Global) (below : index < length items) where
  abbrev pub more : List NumberedItem
  more = numbered first (withdrawal (first + index) undos ∷ items)

  abbrev pub fewer : List NumberedItem
  fewer = numbered first items

  here : named_by more (first + index) ≡ Some (first + length items)
  here = ap (λ (b : Bool). cond b (Some (first + length items)) (named_by fewer (first + index))) (equal_numbers (first + index) (first + index) refl)

  elsewhere : (n : ℕ) → (first + index ≡ n → ⊥) → named_by more n ≡ named_by fewer n
  elsewhere n apart = ap (λ (b : Bool). cond b (Some (first + length items)) (named_by fewer n)) (other_numbers (first + index) n apart)

  abbrev item : Item
  item = withdrawal 0 undos

  size : length (map (note_in more) (reverse fewer)) ≡ length (notes_of fewer)
  size = length-notes more first items ∙ sym (length-notes fewer first items)

  same_there : (i : ℕ) (note : Option ℕ) → i < length items → (i ≡ index → ⊥) → get_or (map (note_in more) (reverse fewer)) i note ≡ get_or (notes_of fewer) i note
  same_there i note within apart =
      note_at more first items i note item within
      ∙ elsewhere (first + i) (λ is. apart (omega (arith, is)))
      ∙ sym (note_at fewer first items i note item within)

  -- with a Withdrawal more
  pub notes_withdrawn : NameOlder fewer → notes_of more ≡ set (notes_of fewer) index (Some (first + length items)) ++ None ∷ []
  notes_withdrawn older =
      last_note first (withdrawal (first + index) undos) items more
      ∙ ap (λ (ms : List (Option ℕ)). ms ++ note_in more (newest first (withdrawal (first + index) undos) items) ∷ [])
      (sym (marked_one (map (note_in more) (reverse fewer)) (notes_of fewer) index (Some (first + length items)) size (omega (arith, length-notes fewer first items))
      (λ i d within apart. same_there i d (omega (arith, length-notes fewer first items)) apart) (λ d. note_at more first items index d item below ∙ here)))
      ∙ ap (λ (w : Option ℕ). set (notes_of fewer) index (Some (first + length items)) ++ w ∷ [])
      (elsewhere (first + length items) (λ is. absurd (omega (arith, is))) ∙ newest_free first items older)

  -- and with that Withdrawal less
  pub notes_cleared : is_withdrawn fewer (first + index) ≡ false → set (map (note_in more) (reverse fewer)) index None ≡ notes_of fewer
  notes_cleared live =
      marked_one (notes_of fewer) (map (note_in more) (reverse fewer)) index None (sym size) (omega (arith, length-notes more first items))
      (λ i d within apart. sym (same_there i d (omega (arith, length-notes more first items)) apart))
      (λ d. note_at fewer first items index d item below ∙ not_named_by fewer (first + index) live)

-- the notes of all items but the newest
pub notes_before : (first : ℕ) (item : Item) (older : List Item) →
    take (length older) (notes_of (numbered first (item ∷ older))) ≡ map (note_in (numbered first (item ∷ older))) (reverse (numbered first older))
notes_before first item older =
    let xs : List NumberedItem = numbered first (item ∷ older) in
    ap (λ (ms : List (Option ℕ)). take (length older) ms) (last_note first item older xs)
    ∙ take_at (map (note_in xs) (reverse (numbered first older))) (note_in xs (newest first item older) ∷ []) (length older) (length-notes xs first older)

-- what the newest item names is one of those before it
pub names_within : (first : ℕ) (rest : List Item) (item : Item) → NameOlder (numbered first (reverse (rest ++ item ∷ []))) → NameOnce first (numbered first (reverse (rest ++ item ∷ []))) →
    NamesWithin item.kind first (length rest)
names_within first rest item older once =
    let turned : reverse (rest ++ item ∷ []) ≡ item ∷ reverse rest = reverse-append rest (item ∷ []) in
    by_kind item.kind (subst (λ (xs : List Item). NameOlder (numbered first xs)) turned older).0 (subst (λ (xs : List Item). NameOnce first (numbered first xs)) turned once).0
  where
    by_kind : (kind : ItemKind) → NamesBelow kind (first + length (reverse rest)) → NamesOnce kind first (numbered first (reverse rest)) → NamesWithin kind first (length rest)
    by_kind (Bind queue number request seen done) below held = tt
    by_kind (Withdrawal of) below held = (held.0, omega (arith, below, length-reverse rest))

-- the notes of all items but the newest, once what that one names is cleared
pub notes_rewound : (first : ℕ) (kind : ItemKind) (undos : Vec OpUndo Global) (older : List Item) →
    NameOlder (numbered first (record { kind = kind; undos = undos } ∷ older)) → NameOnce first (numbered first (record { kind = kind; undos = undos } ∷ older)) →
    cleared kind first (take (length older) (notes_of (numbered first (record { kind = kind; undos = undos } ∷ older)))) ≡ notes_of (numbered first older)
notes_rewound first (Bind queue number request seen done) undos older names once = notes_before first (bound queue number request seen done undos) older
notes_rewound first (Withdrawal of) undos older names once =
    let index : first + (of - first) ≡ of = omega (arith, once.0.0) in
    let below : of - first < length older = omega (arith, names.0, once.0.0) in
    ap (λ (ms : List (Option ℕ)). set ms (of - first) None) (notes_before first (withdrawal of undos) older)
    ∙ subst (λ (n : ℕ). set (map (note_in (numbered first (withdrawal n undos ∷ older))) (reverse (numbered first older))) (of - first) None ≡ notes_of (numbered first older)) index
    (notes_cleared first (of - first) older undos below (ap (λ (n : ℕ). is_withdrawn (numbered first older) n) index ∙ once.0.1))
