-- Items searched in blocks: a part of their list at a time.
use Rattle.std.proofs.Common.{◌≡◌, ℕ, ◌+◌, ◌-◌, ◌<◌, ◌≤◌, suc, Bool, true, false, not, cond, ◌&&◌, List, [], ◌∷◌, ◌++◌, map, length, take, drop, get_or, Option, Some, None, inl, inr, refl, ap, sym, ◌∙◌, subst, arith}
use Rattle.std.specs.Prelude.{is_some, ◌⊎◌, bit_and}
use Rattle.std.specs.List.{list_any}
use Rattle.std.specs.Option.{option_or}
use Rattle.std.proofs.lemmas.Bool.{or_parts}
use Rattle.std.proofs.lemmas.Bool.Decides.{nat_tests}
use Rattle.std.proofs.lemmas.List.{length-take-le, length-drop, get_or-take, get_or-drop, take-append-drop, drop-drop}
use Rattle.gv_types.specs.declared.operation.PageOp.{PageOp}
use Rattle.gv_journal.specs.Items.{done_by}
use Rattle.gv_journal.specs.Notes.{TellGone}
use Rattle.gv_journal.specs.Reach.{extent_of, regions_of, regions_meet, IsReachOf, AreReaches, AllApart, item_first, item_past, item_regions}
use Rattle.gv_journal.specs.declared.reach.Reach.{Reach}
use Rattle.gv_journal.specs.Withdrawing.{touch, touched_from}
use Rattle.gv_journal.specs.declared.item.Item.{Item}
use Rattle.gv_journal.proofs.Reaches.{IsFar, out_of_reach}

-- an item that doesn't touch is passed over
one_passed : (gone : ℕ → Bool) (ops : List PageOp) (n : ℕ) (item : Item) (items : List Item) → touch ops (done_by item.kind) ≡ false →
    touched_from gone ops (n + 1) items ≡ None → touched_from gone ops n (item ∷ items) ≡ None
one_passed gone ops n item items misses rest = ap (λ (b : Bool). cond (b && not (gone n)) (Some n) (touched_from gone ops (n + 1) items)) misses ∙ rest

-- items whose pages lie apart, and then items without a region in common, touch nowhere
module _ (gone : ℕ → Bool) (ops : List PageOp) (own : Reach) (is : IsReachOf own ops) where
  none_apart : (n : ℕ) (items : List Item) → AllApart own.first own.past (map item_first items) (map item_past items) → touched_from gone ops n items ≡ None
  none_apart n [] far = refl
  none_apart n (item ∷ items) far =
      one_passed gone ops n item items (out_of_reach ops (done_by item.kind) (here (far 0 (omega arith)))) (none_apart (n + 1) items (λ k below. far (suc k) (omega (arith, below))))
    where
      here : (own.past ≤ item_first item) ⊎ (item_past item ≤ own.first) → IsFar (extent_of ops) (regions_of ops) (extent_of (done_by item.kind)) (regions_of (done_by item.kind))
      here (inl le) = inl (inl (omega (arith, le, is.past)))
      here (inr le) = inl (inr (omega (arith, le, is.first)))

  no_bit : (a b : ℕ) → regions_meet a b ≡ false → bit_and a b ≡ 0
  no_bit a b none = grind (arith, nat_tests)

  none_shared : (n : ℕ) (items : List Item) → list_any (λ (other : ℕ). regions_meet own.regions other) (map item_regions items) ≡ false → touched_from gone ops n items ≡ None
  none_shared n [] none = refl
  none_shared n (item ∷ items) none =
      let parts = or_parts (regions_meet own.regions (item_regions item)) (list_any (λ (other : ℕ). regions_meet own.regions other) (map item_regions items)) none in
      one_passed gone ops n item items
      (out_of_reach ops (done_by item.kind) (inr (ap (λ (x : ℕ). bit_and x (item_regions item)) (sym is.regions) ∙ no_bit own.regions (item_regions item) parts.0)))
      (none_shared (n + 1) items parts.1)

  pub none_met : (n : ℕ) (fs ps rs : List ℕ) (items : List Item) → AreReaches fs ps rs items → AllApart own.first own.past fs ps → touched_from gone ops n items ≡ None
  none_met n fs ps rs items columns far =
      none_apart n items (subst (λ (xs : List ℕ). AllApart own.first own.past xs (map item_past items)) columns.firsts (subst (λ (xs : List ℕ). AllApart own.first own.past fs xs) columns.pasts far))

  pub none_reached : (n : ℕ) (fs ps rs : List ℕ) (items : List Item) → AreReaches fs ps rs items → list_any (λ (other : ℕ). regions_meet own.regions other) rs ≡ false → touched_from gone ops n items ≡ None
  none_reached n fs ps rs items columns none =
      none_shared n items (ap (λ (xs : List ℕ). list_any (λ (other : ℕ). regions_meet own.regions other) xs) (sym columns.regions) ∙ none)

-- the notes of a part of the items tell which of these are gone
pub gone_part : (gone : ℕ → Bool) (n : ℕ) (notes : List (Option ℕ)) (s k : ℕ) → s + k ≤ length notes → TellGone gone n notes → TellGone gone (n + s) (take k (drop s notes))
gone_part gone n notes s k within tell i note below =
    let small : i < k = omega (arith, below, length-take-le k (drop s notes), length-drop s notes) in
    let number : n + s + i ≡ n + (s + i) = omega arith in
    let noted : get_or (take k (drop s notes)) i note ≡ get_or notes (s + i) note = get_or-take k (drop s notes) i note small ∙ get_or-drop s notes i note in
    ap gone number ∙ tell (s + i) note (omega arith) ∙ ap is_some (sym noted)

-- where nothing is found in the first part of a list, the search goes on behind it
touched_parts : (gone : ℕ → Bool) (ops : List PageOp) (n : ℕ) (first later : List Item) →
    touched_from gone ops n (first ++ later) ≡ option_or (touched_from gone ops n first) (touched_from gone ops (n + length first) later)
touched_parts gone ops n [] later =
    let number : n ≡ n + 0 = omega arith in
    ap (λ (k : ℕ). touched_from gone ops k later) number
touched_parts gone ops n (item ∷ first) later = by_cases (touch ops (done_by item.kind) && not (gone n)) (touched_parts gone ops (n + 1) first later)
  where
    number : n + 1 + length first ≡ n + suc (length first)
    number = omega arith

    by_cases : (b : Bool) → touched_from gone ops (n + 1) (first ++ later) ≡ option_or (touched_from gone ops (n + 1) first) (touched_from gone ops (n + 1 + length first) later) →
        cond b (Some n) (touched_from gone ops (n + 1) (first ++ later))
        ≡ option_or (cond b (Some n) (touched_from gone ops (n + 1) first)) (touched_from gone ops (n + suc (length first)) later)
    by_cases true rest = refl
    by_cases false rest = rest ∙ ap (λ (k : ℕ). option_or (touched_from gone ops (n + 1) first) (touched_from gone ops k later)) number

-- a block of the items, from one index up to another, and what its search found
module _ (gone : ℕ → Bool) (ops : List PageOp) (n start end : ℕ) (items : List Item) (found : Option ℕ) (ordered : start ≤ end) (within : end ≤ length items)
    (is : found ≡ touched_from gone ops (n + start) (take (end - start) (drop start items)))
    (rest : touched_from gone ops n items ≡ touched_from gone ops (n + start) (drop start items)) where
  abbrev block : List Item
  block = take (end - start) (drop start items)

  abbrev behind : Option ℕ
  behind = touched_from gone ops (n + end) (drop end items)

  split : touched_from gone ops n items ≡ option_or found behind
  split =
      let number : n + start + length block ≡ n + end = omega (arith, length-take-le (end - start) (drop start items), length-drop start items) in
      let whole : start + (end - start) ≡ end = omega arith in
      let left : drop (end - start) (drop start items) ≡ drop end items = drop-drop (end - start) start items ∙ ap (λ (k : ℕ). drop k items) whole in
      rest ∙ ap (λ (xs : List Item). touched_from gone ops (n + start) xs) (sym (take-append-drop (end - start) (drop start items)))
      ∙ touched_parts gone ops (n + start) block (drop (end - start) (drop start items))
      ∙ ap (λ (o : Option ℕ). option_or o (touched_from gone ops (n + start + length block) (drop (end - start) (drop start items)))) (sym is)
      ∙ ap (λ (m : ℕ). option_or found (touched_from gone ops m (drop (end - start) (drop start items)))) number
      ∙ ap (λ (xs : List Item). option_or found (touched_from gone ops (n + end) xs)) left

  pub block_found : is_some found ≡ true → found ≡ touched_from gone ops n items
  block_found some = by_cases found some ∙ sym split
    where
      by_cases : (o : Option ℕ) → is_some o ≡ true → o ≡ option_or o behind
      by_cases None so = cc
      by_cases (Some m) so = refl

  pub block_passed : is_some found ≡ false → touched_from gone ops n items ≡ behind
  block_passed none = split ∙ by_cases found none
    where
      by_cases : (o : Option ℕ) → is_some o ≡ false → option_or o behind ≡ behind
      by_cases None so = refl
      by_cases (Some m) so = cc
