-- For callers: what the items say without one of them is what the list without it says.
use Rattle.std.proofs.Common.{◌≡◌, ℕ, Bool, true, false, cond, not, ◌||◌, List, [], ◌∷◌, ◌++◌, reverse, Option, refl, ap, sym, ◌∙◌}
use Rattle.std.specs.Prelude.{◌==◌}
use Rattle.gv_types.specs.Operation.{view as view_of_ops}
use Rattle.gv_types.specs.declared.mapping.Entry.{Entry}
use Rattle.gv_types.specs.declared.operation.PageOp.{PageOp}
use Rattle.gv_journal.specs.Items.{NumberedItem, names, is_withdrawn, done_by, ops_without, view, view_without}
use Rattle.gv_journal.specs.Laws.{others, NamesNone}

still_named : (n : ℕ) (xs : List NumberedItem) (m : ℕ) → NamesNone n xs → is_withdrawn (others n xs) m ≡ is_withdrawn xs m
still_named n [] m none = refl
still_named n (x ∷ xs) m none = by_cases (n == x.number) none.0 (still_named n xs m none.1)
  where
    by_cases : (b : Bool) → (b ≡ true → (k : ℕ) → names x.item.kind k ≡ false) → is_withdrawn (others n xs) m ≡ is_withdrawn xs m →
        is_withdrawn (cond (not b) (x ∷ others n xs) (others n xs)) m ≡ (names x.item.kind m || is_withdrawn xs m)
    by_cases true own rest = rest ∙ sym (ap (λ (b : Bool). b || is_withdrawn xs m) (own refl m))
    by_cases false own rest = ap (λ (b : Bool). names x.item.kind m || b) rest

same_ops : (gone other : ℕ → Bool) (xs : List NumberedItem) → ((m : ℕ) → gone m ≡ other m) → ops_without gone xs ≡ ops_without other xs
same_ops gone other [] same = refl
same_ops gone other (x ∷ xs) same =
    ap (λ (b : Bool). cond b [] (reverse (done_by x.item.kind)) ++ ops_without gone xs) (same x.number)
    ∙ ap (λ (ops : List PageOp). cond (other x.number) [] (reverse (done_by x.item.kind)) ++ ops) (same_ops gone other xs same)

left_out : (n : ℕ) (gone : ℕ → Bool) (xs : List NumberedItem) → ops_without (λ m. (n == m) || gone m) xs ≡ ops_without gone (others n xs)
left_out n gone [] = refl
left_out n gone (x ∷ xs) = by_cases (n == x.number) (left_out n gone xs)
  where
    by_cases : (b : Bool) → ops_without (λ m. (n == m) || gone m) xs ≡ ops_without gone (others n xs) →
        (cond (b || gone x.number) [] (reverse (done_by x.item.kind)) ++ ops_without (λ m. (n == m) || gone m) xs) ≡ ops_without gone (cond (not b) (x ∷ others n xs) (others n xs))
    by_cases true rest = rest
    by_cases false rest = ap (λ (ops : List PageOp). cond (gone x.number) [] (reverse (done_by x.item.kind)) ++ ops) rest

pub view_of_others : (n : ℕ) (xs : List NumberedItem) (base : ℕ → Option Entry) (page : ℕ) → NamesNone n xs → view_without n xs base page ≡ view (others n xs) base page
view_of_others n xs base page none =
    ap (λ (ops : List PageOp). view_of_ops ops base page)
    (left_out n (is_withdrawn xs) xs ∙ same_ops (is_withdrawn xs) (is_withdrawn (others n xs)) (others n xs) (λ m. sym (still_named n xs m none)))
