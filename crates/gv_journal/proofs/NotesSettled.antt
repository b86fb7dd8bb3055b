-- The notes that stay when older items are settled.
use Rattle.std.proofs.Common.{◌≡◌, ℕ, ◌+◌, ◌<◌, ◌≤◌, Bool, true, false, cond, ◌||◌, List, [], ◌∷◌, ◌++◌, length, take, drop, get_or, reverse, Option, Some, None, refl, ap, sym, ◌∙◌, subst, arith}
use Rattle.std.proofs.lemmas.List.{reverse-append, length-reverse, length-drop, length-take-le, take-append-drop, get_or-drop, same_lists}
use Rattle.gv_journal.specs.Items.{NumberedItem, numbered, names, is_withdrawn}
use Rattle.gv_journal.specs.Inside.{NameOlder, NamesOnce, NameOnce}
use Rattle.gv_journal.specs.Notes.{named_by, notes_of}
use Rattle.gv_journal.specs.Settling.{crosses}
use Rattle.gv_journal.specs.declared.item.Item.{Item}
use Rattle.gv_journal.specs.declared.item.ItemKind.{ItemKind}
use Rattle.gv_journal.specs.declared.item.ItemKind.TheVariants.{Bind, Withdrawal}
use Rattle.gv_journal.proofs.Bindings.{not_named}
use Rattle.gv_journal.proofs.NotesByIndex.{not_named_by, note_at, length-notes}
use Rattle.gv_journal.proofs.SettledViews.{numbered-append, is_withdrawn-append, NoneCross}
use Rattle.gv_journal.proofs.Settlings.{names_apart}
use Rattle.std.proofs.lemmas.Bool.Decides.{nat_tests}

named_by-append : (newer older : List NumberedItem) (n : ℕ) → named_by older n ≡ None → named_by (newer ++ older) n ≡ named_by newer n
named_by-append [] older n none = none
named_by-append (x ∷ newer) older n none = ap (λ (o : Option ℕ). cond (names x.item.kind n) (Some x.number) o) (named_by-append newer older n none)

or_first : (a b : Bool) → (a || b) ≡ false → a ≡ false
or_first false b h = refl
or_first true b h = h

-- a withdrawal that doesn't cross names a later item
not_crossing : (kind : ItemKind) (to first : ℕ) (newer older : List NumberedItem) → crosses to kind ≡ false → NamesOnce kind first (newer ++ older) → NamesOnce kind to newer
not_crossing (Bind queue number request seen done) to first newer older none once = tt
not_crossing (Withdrawal of) to first newer older none once = (
  grind (arith, nat_tests),
  or_first (is_withdrawn newer of) (is_withdrawn older of) (sym (is_withdrawn-append newer older of) ∙ once.1),
)

once_later : (to first : ℕ) (later : List Item) (older : List NumberedItem) → NoneCross to later → NameOnce first (numbered to later ++ older) → NameOnce to (numbered to later)
once_later to first [] older none once = tt
once_later to first (item ∷ later) older none once = (not_crossing item.kind to first (numbered to later) older none.0 once.0, once_later to first later older none.1 once.1)

module _ (first : ℕ) (held : List Item) (count : ℕ) (le : count ≤ length held) where
  abbrev late : List Item
  late = reverse (drop count held)

  abbrev early : List Item
  early = reverse (take count held)

  early_size : length early ≡ count
  early_size = length-reverse (take count held) ∙ length-take-le count held le

  apart : numbered first (reverse held) ≡ numbered (first + count) late ++ numbered first early
  apart =
      ap (λ (xs : List Item). numbered first (reverse xs)) (sym (take-append-drop count held))
      ∙ ap (λ (xs : List Item). numbered first xs) (reverse-append (take count held) (drop count held))
      ∙ numbered-append first late early
      ∙ ap (λ (n : ℕ). numbered (first + n) late ++ numbered first early) early_size

  named_late : NameOlder (numbered first early) → (n : ℕ) → first + count ≤ n → named_by (numbered first (reverse held)) n ≡ named_by (numbered (first + count) late) n
  named_late older n ge =
      ap (λ (xs : List NumberedItem). named_by xs n) apart
      ∙ named_by-append (numbered (first + count) late) (numbered first early) n
      (not_named_by (numbered first early) n (not_named first early n older (omega (arith, early_size))))

  size : length (drop count (notes_of (numbered first (reverse held)))) ≡ length (drop count held)
  size = length-drop count (notes_of (numbered first (reverse held))) ∙ omega (arith, length-notes (numbered first (reverse held)) first (reverse held), length-reverse held, length-drop count held)

  module _ (older : NameOlder (numbered first early)) (i : ℕ) (note : Option ℕ) (item : Item) (below : i < length (drop count held)) where
    index : count + i < length (reverse held)
    index = omega (arith, below, length-drop count held, length-reverse held)

    number : first + (count + i) ≡ first + count + i
    number = omega arith

    note_same : get_or (drop count (notes_of (numbered first (reverse held)))) i note ≡ get_or (notes_of (numbered (first + count) late)) i note
    note_same =
        get_or-drop count (notes_of (numbered first (reverse held))) i note
        ∙ note_at (numbered first (reverse held)) first (reverse held) (count + i) note item index
        ∙ ap (named_by (numbered first (reverse held))) number ∙ named_late older (first + count + i) (omega arith)
        ∙ sym (note_at (numbered (first + count) late) (first + count) late i note item (omega (arith, length-reverse (drop count held))))

  pub notes_settled : NameOlder (numbered first early) → drop count (notes_of (numbered first (reverse held))) ≡ notes_of (numbered (first + count) late)
  notes_settled older =
      same_lists (drop count (notes_of (numbered first (reverse held)))) (notes_of (numbered (first + count) late))
      (size ∙ sym (length-notes (numbered (first + count) late) (first + count) late ∙ length-reverse (drop count held)))
      (λ i note below. at_each i note (omega (arith, size)))
    where
      at_each : (i : ℕ) (note : Option ℕ) → i < length (drop count held) → get_or (drop count (notes_of (numbered first (reverse held)))) i note ≡ get_or (notes_of (numbered (first + count) late)) i note
      at_each i note below = by_items (drop count held) refl
        where
          by_items : (xs : List Item) → drop count held ≡ xs → get_or (drop count (notes_of (numbered first (reverse held)))) i note ≡ get_or (notes_of (numbered (first + count) late)) i note
          by_items [] is = absurd (omega (arith, below, ap (λ (xs : List Item). length xs) is))
          by_items (item ∷ xs) is = note_same older i note item below

  -- the older items name older ones
  pub early_older : NameOlder (numbered first (reverse held)) → NameOlder (numbered first early)
  early_older older =
      (names_apart first late early (subst (λ (xs : List Item). NameOlder (numbered first xs))
      (ap (λ (xs : List Item). reverse xs) (sym (take-append-drop count held)) ∙ reverse-append (take count held) (drop count held)) older)).1

  pub once_settled : NoneCross (first + count) late → NameOnce first (numbered first (reverse held)) → NameOnce (first + count) (numbered (first + count) late)
  once_settled none once = once_later (first + count) first late (numbered first early) none (subst (λ (xs : List NumberedItem). NameOnce first xs) apart once)
