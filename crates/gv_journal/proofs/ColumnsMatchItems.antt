-- Columns that stay beside their items.
use Rattle.std.proofs.Common.{◌≡◌, ℕ, ◌+◌, ◌-◌, ◌*◌, ◌<◌, ◌≤◌, min, max, List, [], ◌∷◌, ◌++◌, map, length, take, drop, get_or, ap, sym, ◌∙◌, arith}
use Rattle.std.proofs.lemmas.List.{take-map, drop-map, map-append, length-map, drop-drop, drop-take, drop-append-le, get_or-map}
use Rattle.gv_journal.specs.Reach.{AreReaches, item_first, item_past, item_regions}
use Rattle.gv_journal.specs.declared.item.Item.{Item}

-- one column
module _ (f : Item → ℕ) (s : ℕ) (column : List ℕ) (items : List Item) (is : drop s column ≡ map f (drop s items)) where
  as_long : length (drop s column) ≡ length (drop s items)
  as_long = ap (λ (xs : List ℕ). length xs) is ∙ length-map (drop s items) f

  one_pushed : (item : Item) → s ≤ length column → s ≤ length items → drop s (column ++ f item ∷ []) ≡ map f (drop s (items ++ item ∷ []))
  one_pushed item within items_within =
      drop-append-le s column (f item ∷ []) within ∙ ap (λ (xs : List ℕ). xs ++ f item ∷ []) is
      ∙ sym (ap (map f) (drop-append-le s items (item ∷ []) items_within) ∙ map-append f (drop s items) (item ∷ []))

  one_cut : (n : ℕ) → s ≤ n → drop s (take n column) ≡ map f (drop s (take n items))
  one_cut n within =
      let size : s + (n - s) ≡ n = omega arith in
      ap (λ (k : ℕ). drop s (take k column)) (sym size) ∙ drop-take s (n - s) column
      ∙ ap (λ (xs : List ℕ). take (n - s) xs) is ∙ take-map f (n - s) (drop s items)
      ∙ ap (map f) (sym (drop-take s (n - s) items)) ∙ ap (λ (k : ℕ). map f (drop s (take k items))) size

  one_passed : (count : ℕ) → drop (s + count) column ≡ map f (drop (s + count) items)
  one_passed count =
      sym (drop-drop count s column) ∙ ap (λ (xs : List ℕ). drop count xs) is ∙ drop-map f count (drop s items) ∙ ap (map f) (drop-drop count s items)

module _ (s : ℕ) (fs ps rs : List ℕ) (items : List Item) (are : AreReaches (drop s fs) (drop s ps) (drop s rs) (drop s items)) where
  pub reaches_pushed : (item : Item) (f p r : ℕ) → f ≡ item_first item → p ≡ item_past item → r ≡ item_regions item →
      s ≤ length fs → s ≤ length ps → s ≤ length rs → s ≤ length items →
      AreReaches (drop s (fs ++ f ∷ [])) (drop s (ps ++ p ∷ [])) (drop s (rs ++ r ∷ [])) (drop s (items ++ item ∷ []))
  reaches_pushed item f p r f_is p_is r_is fs_long ps_long rs_long items_long = record {
    firsts = ap (λ (n : ℕ). drop s (fs ++ n ∷ [])) f_is ∙ one_pushed item_first s fs items are.firsts item fs_long items_long;
    pasts = ap (λ (n : ℕ). drop s (ps ++ n ∷ [])) p_is ∙ one_pushed item_past s ps items are.pasts item ps_long items_long;
    regions = ap (λ (n : ℕ). drop s (rs ++ n ∷ [])) r_is ∙ one_pushed item_regions s rs items are.regions item rs_long items_long;
  }

  pub reaches_cut : (n : ℕ) → s ≤ n → AreReaches (drop s (take n fs)) (drop s (take n ps)) (drop s (take n rs)) (drop s (take n items))
  reaches_cut n within = record {
    firsts = one_cut item_first s fs items are.firsts n within;
    pasts = one_cut item_past s ps items are.pasts n within;
    regions = one_cut item_regions s rs items are.regions n within;
  }

  pub reaches_passed : (count : ℕ) → AreReaches (drop (s + count) fs) (drop (s + count) ps) (drop (s + count) rs) (drop (s + count) items)
  reaches_passed count = record {
    firsts = one_passed item_first s fs items are.firsts count;
    pasts = one_passed item_past s ps items are.pasts count;
    regions = one_passed item_regions s rs items are.regions count;
  }

-- the same columns and items under other names
pub same_reaches : {fs ps rs gs qs ts : List ℕ} {items others : List Item} → AreReaches fs ps rs items → gs ≡ fs → qs ≡ ps → ts ≡ rs → others ≡ items → AreReaches gs qs ts others
same_reaches are f p r i = record {
  firsts = f ∙ are.firsts ∙ ap (map item_first) (sym i);
  pasts = p ∙ are.pasts ∙ ap (map item_past) (sym i);
  regions = r ∙ are.regions ∙ ap (map item_regions) (sym i);
}

-- a part of them
pub reaches_between : (k s : ℕ) (fs ps rs : List ℕ) (items : List Item) → AreReaches fs ps rs items →
    AreReaches (take k (drop s fs)) (take k (drop s ps)) (take k (drop s rs)) (take k (drop s items))
reaches_between k s fs ps rs items are = record {
  firsts = part item_first fs are.firsts;
  pasts = part item_past ps are.pasts;
  regions = part item_regions rs are.regions;
}
  where
    part : (f : Item → ℕ) (column : List ℕ) → column ≡ map f items → take k (drop s column) ≡ map f (take k (drop s items))
    part f column is =
        ap (λ (xs : List ℕ). take k (drop s xs)) is ∙ ap (λ (xs : List ℕ). take k xs) (drop-map f s items) ∙ take-map f k (drop s items)

-- the number at an index
pub column_at : (f : Item → ℕ) (column : List ℕ) (items : List Item) (i : ℕ) (d : ℕ) (item : Item) → column ≡ map f items → i < length items → get_or column i d ≡ f (get_or items i item)
column_at f column items i d item is below = ap (λ (xs : List ℕ). get_or xs i d) is ∙ get_or-map f items i item d below

-- the least of several capacities, each of which grows to its double or to four at most, grows no more
few_of_both : (f g f' g' : ℕ) → f' ≤ max (2 * f) 4 → g' ≤ max (2 * g) 4 → min f' g' ≤ max (2 * min f g) 4
few_of_both f g f' g' first second = omega (arith, first, second)

pub few_of_all : (f g h i f' g' h' i' n : ℕ) → f' ≤ max (2 * f) 4 → g' ≤ max (2 * g) 4 → h' ≤ max (2 * h) 4 → i' ≤ max (2 * i) 4 →
    n ≤ min (min f g) (min h i) → n ≤ min (min f' g') (min h' i') →
    n + (min (min f' g') (min h' i') - n) ≤ max (2 * (n + (min (min f g) (min h i) - n))) 4
few_of_all f g h i f' g' h' i' n first second third fourth within new_within =
    let most = few_of_both (min f g) (min h i) (min f' g') (min h' i') (few_of_both f g f' g' first second) (few_of_both h i h' i' third fourth) in
    least (min (min f g) (min h i)) (min (min f' g') (min h' i')) most within new_within
  where
    least : (m m' : ℕ) → m' ≤ max (2 * m) 4 → n ≤ m → n ≤ m' → n + (m' - n) ≤ max (2 * (n + (m - n))) 4
    least m m' most within new_within = omega (arith, most, within, new_within)
