-- What stands on a store: spent items in front of those held.
use Rattle.std.proofs.Common.{◌≡◌, ℕ, ◌+◌, ◌-◌, ◌≤◌, List, [], ◌∷◌, ◌++◌, length, take, drop, Option, Some, ap, sym, ◌∙◌, arith, append_assoc, length-append}
use Rattle.std.specs.List.{All}
use Rattle.std.proofs.lemmas.List.{append-nil, take_at, drop_at, drop-drop, drop_all, take_all, length-drop, length-take-le, length-take, drop-append-le, take-append-le, drop-take}
use Rattle.std.proofs.lemmas.List.Elements.{All-pop}
use Rattle.gv_journal.specs.ItemStore.{IsSpent}
use Rattle.gv_journal.specs.declared.item.Item.{Item}

-- what a write of the first items leaves
pub written : (all xs new : List Item) (len spent count m : ℕ) → xs ≡ all → length all ≡ len → spent + count ≤ len → m ≡ count → length new ≡ count →
    take len ((take spent xs ++ (new ++ drop m (drop spent xs))) ++ drop (length (take spent xs ++ (new ++ drop m (drop spent xs)))) all)
    ≡ take spent all ++ (new ++ drop (spent + count) all)
written all xs new len spent count m same size within is filled =
    let whole : take spent xs ++ (new ++ drop m (drop spent xs)) ≡ take spent all ++ (new ++ drop (spent + count) all) =
    ap (λ (ys : List Item). take spent ys ++ (new ++ drop m (drop spent ys))) same
    ∙ ap (λ (n : ℕ). take spent all ++ (new ++ drop n (drop spent all))) is
    ∙ ap (λ (ys : List Item). take spent all ++ (new ++ ys)) (drop-drop count spent all) in
    let long : length (take spent all ++ (new ++ drop (spent + count) all)) ≡ len =
    length-append (take spent all) (new ++ drop (spent + count) all)
    ∙ omega (arith, length-append new (drop (spent + count) all), length-drop (spent + count) all, length-take-le spent all (omega arith)) in
    ap (λ (ys : List Item). take len (ys ++ drop (length ys) all)) whole
    ∙ ap (λ (n : ℕ). take len ((take spent all ++ (new ++ drop (spent + count) all)) ++ drop n all)) long
    ∙ ap (λ (ys : List Item). take len ((take spent all ++ (new ++ drop (spent + count) all)) ++ ys)) (drop_all len all (omega arith))
    ∙ ap (λ (ys : List Item). take len ys) (append-nil (take spent all ++ (new ++ drop (spent + count) all)))
    ∙ take_all len (take spent all ++ (new ++ drop (spent + count) all)) (omega (arith, long))

pub front_written : (all new : List Item) (spent count : ℕ) → spent + count ≤ length all → length new ≡ count →
    (take (spent + count) (take spent all ++ (new ++ drop (spent + count) all)) ≡ take spent all ++ new)
    × (drop (spent + count) (take spent all ++ (new ++ drop (spent + count) all)) ≡ drop (spent + count) all)
front_written all new spent count within filled =
    let apart : take spent all ++ (new ++ drop (spent + count) all) ≡ (take spent all ++ new) ++ drop (spent + count) all = sym (append_assoc (take spent all) new (drop (spent + count) all)) in
    let size : length (take spent all ++ new) ≡ spent + count = length-append (take spent all) new ∙ omega (arith, length-take-le spent all (omega arith)) in (
      ap (λ (ys : List Item). take (spent + count) ys) apart ∙ take_at (take spent all ++ new) (drop (spent + count) all) (spent + count) size,
      ap (λ (ys : List Item). drop (spent + count) ys) apart ∙ drop_at (take spent all ++ new) (drop (spent + count) all) (spent + count) size,
    )

-- the items that are settled
pub settled_items : (all xs : List Item) (spent count : ℕ) → xs ≡ all → take (spent + count - spent) (drop spent xs) ≡ take count (drop spent all)
settled_items all xs spent count same =
    let n : spent + count - spent ≡ count = omega arith in
    ap (λ (k : ℕ). take k (drop spent xs)) n ∙ ap (λ (ys : List Item). take count (drop spent ys)) same

-- the items that are written
pub items_written : (spent count len m : ℕ) (all xs new : List Item) → xs ≡ all → length all ≡ len → count ≤ length (drop spent all) → spent ≤ length all → m ≡ count → length new ≡ count →
    (drop (spent + count) (take len ((take spent xs ++ (new ++ drop m (drop spent xs))) ++ drop (length (take spent xs ++ (new ++ drop m (drop spent xs)))) all)) ≡ drop count (drop spent all))
    × (take (spent + count) (take len ((take spent xs ++ (new ++ drop m (drop spent xs))) ++ drop (length (take spent xs ++ (new ++ drop m (drop spent xs)))) all)) ≡ take spent all ++ new)
items_written spent count len m all xs new same size few within is filled =
    let room : spent + count ≤ length all = omega (arith, length-drop spent all) in
    let whole = written all xs new len spent count m same size (omega arith) is filled in
    let parts = front_written all new spent count room filled in (
      ap (λ (ys : List Item). drop (spent + count) ys) whole ∙ parts.1 ∙ sym (drop-drop count spent all),
      ap (λ (ys : List Item). take (spent + count) ys) whole ∙ parts.0,
    )

-- no less is left than was there
pub still_within : (n : ℕ) (xs ys : List Item) → take n xs ≡ ys → length ys ≡ n → n ≤ length xs
still_within n xs ys is size = omega (arith, length-take n xs, ap (λ (zs : List Item). length zs) is)

-- no item is held
pub none_held : (spent : ℕ) (all : List Item) → length all ≤ spent → drop spent all ≡ []
none_held spent all le = drop_all spent all le

-- the notes of all but the newest item
pub notes_left : (spent : ℕ) (rest : List Item) (all notes left : List (Option ℕ)) → drop spent all ≡ notes → left ≡ take (length rest) all → spent ≤ length rest →
    drop spent left ≡ take (length (drop spent rest)) notes
notes_left spent rest all notes left is cut within =
    let size : spent + (length rest - spent) ≡ length rest = omega arith in
    ap (λ (xs : List (Option ℕ)). drop spent xs) (cut ∙ ap (λ (n : ℕ). take n all) (sym size))
    ∙ drop-take spent (length rest - spent) all
    ∙ ap (λ (n : ℕ). take n (drop spent all)) (sym (length-drop spent rest))
    ∙ ap (λ (xs : List (Option ℕ)). take (length (drop spent rest)) xs) is

-- one spent item less behind those held
module _ (held : ℕ) (now rest : List Item) (item : Item) (is : now ≡ rest ++ item ∷ []) (within : held ≤ length rest) where
  behind : drop held now ≡ drop held rest ++ item ∷ []
  behind = ap (λ (xs : List Item). drop held xs) is ∙ drop-append-le held rest (item ∷ []) within

  pub last_spent : All IsSpent (drop held now) → IsSpent item × All IsSpent (drop held rest)
  last_spent spent =
      let parts = All-pop IsSpent (drop held now) (drop held rest) (Some item) behind spent in
      (parts.1, parts.0)

  pub front_same : take held rest ≡ take held now
  front_same = sym (ap (λ (xs : List Item). take held xs) is ∙ take-append-le held rest (item ∷ []) within)
