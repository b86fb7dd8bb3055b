-- Items release their undo values one after another, the newest item first.
use Rattle.std.proofs.Common.{◌≡◌, ℕ, ◌+◌, ◌-◌, ◌<◌, ◌≤◌, List, [], ◌∷◌, ◌++◌, take, drop, length, reverse, get_or, set, ap, sym, ◌∙◌, subst, arith, append_assoc}
use Rattle.std.specs.List.{All}
use Rattle.std.proofs.lemmas.List.{take_more, take-set, drop-set, take-take}
use Rattle.std.proofs.lemmas.List.Elements.{All-cons}
use Rattle.gv_types.specs.declared.mapping.Mapping.{Mapping}
use Rattle.gv_space.specs.State.{SpaceState, AreKept}
use Rattle.gv_journal.specs.Undoing.{taken_by}
use Rattle.gv_journal.specs.History.{undos_of, kept_by}
use Rattle.gv_journal.specs.ItemStore.{IsSpent}
use Rattle.gv_journal.specs.declared.item.Item.{Item}
use Rattle.gv_journal.proofs.Lists.{last_first}

module _ (now all : List Item) (left : ℕ) (item : Item) (some : 0 < left) (within : left ≤ length now) (ahead : take left now ≡ take left all)
    (is : item ≡ get_or now (left - 1) item) where
  back_up : left - 1 + 1 ≡ left
  back_up = omega arith

  still_ahead : take (left - 1) now ≡ take (left - 1) all
  still_ahead =
      sym (take-take (left - 1) left now (omega arith)) ∙ ap (λ (xs : List Item). take (left - 1) xs) ahead ∙ take-take (left - 1) left all (omega arith)

  pub ahead_of : (spent : Item) → take (left - 1) (set now (left - 1) spent) ≡ take (left - 1) all
  ahead_of spent = take-set now (left - 1) spent ∙ still_ahead

  pub spent_behind : (spent : Item) → IsSpent spent → All IsSpent (drop left now) → All IsSpent (drop (left - 1) (set now (left - 1) spent))
  spent_behind spent here rest =
      let behind : drop (left - 1) (set now (left - 1) spent) ≡ spent ∷ drop left now =
      drop-set now (left - 1) spent (omega arith) ∙ ap (λ (n : ℕ). spent ∷ drop n now) back_up in
      subst (λ (xs : List Item). All IsSpent xs) (sym behind) (All-cons IsSpent spent (drop left now) here rest)

  pub last_of : reverse (take left all) ≡ item ∷ reverse (take (left - 1) all)
  last_of =
      let grown : take (left - 1 + 1) now ≡ take (left - 1) now ++ get_or now (left - 1) item ∷ [] = take_more now (left - 1) item (omega arith) in
      last_first (take left all) (take (left - 1) all) item
      (sym ahead ∙ ap (λ (n : ℕ). take n now) (sym back_up) ∙ grown
      ∙ ap (λ (x : Item). take (left - 1) now ++ x ∷ []) (sym is) ∙ ap (λ (xs : List Item). xs ++ item ∷ []) still_ahead)

-- an item's mappings are given up, and others stay kept
pub others_stay : (s new : SpaceState) (items : List Item) (item : Item) (older : List Item) (others : List Mapping) → items ≡ item ∷ older →
    ((xs : List Mapping) → AreKept s (taken_by (undos_of item) ++ xs) → AreKept new xs) → AreKept s (kept_by items ++ others) → AreKept new (kept_by older ++ others)
others_stay s new items item older others is spent kept =
    spent (kept_by older ++ others)
    (subst (λ (ms : List Mapping). AreKept s ms) (append_assoc (taken_by (undos_of item)) (kept_by older) others)
    (subst (λ (xs : List Item). AreKept s (kept_by xs ++ others)) is kept))
