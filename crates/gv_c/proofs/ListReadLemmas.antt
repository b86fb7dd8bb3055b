-- Lists that are read one thing after another.
use Rattle.std.proofs.Common.{◌≡◌, ℕ, ◌+◌, ◌<◌, ◌≤◌, List, [], ◌∷◌, ◌++◌, drop, length, get_or, Option, Some, None, refl, sym, ap, ◌∙◌, append_assoc, append-nil}
use Rattle.std.proofs.lemmas.List.{drop_more, drop_all}
use Rattle.gv_c.specs.Values.{also, all_of}

-- what was read, and then the rest
abbrev pub after : {Y : Type 0} → List Y → Option (List Y) → Option (List Y)
after items None = None
after items (Some rest) = Some (items ++ rest)

pub after_nil : {Y : Type 0} (o : Option (List Y)) → o ≡ after [] o
after_nil None = refl
after_nil (Some rest) = refl

after_also : {Y : Type 0} (items : List Y) (y : Y) (rest : Option (List Y)) → after items (also (Some y) rest) ≡ after (items ++ y ∷ []) rest
after_also items y None = refl
after_also items y (Some rest) = ap (λ (ys : List _). Some ys) (sym (append_assoc items (y ∷ []) rest))

-- one more was read
pub read_more : {X Y : Type 0} (f : X → Option Y) (xs : List X) (i : ℕ) (d : X) (items : List Y) (y : Y) → i < length xs → f (get_or xs i d) ≡ Some y →
    all_of f xs ≡ after items (all_of f (drop i xs)) → all_of f xs ≡ after (items ++ y ∷ []) (all_of f (drop (i + 1) xs))
read_more f xs i d items y below is so =
    so ∙ ap (λ (ys : List _). after items (all_of f ys)) (drop_more xs i d below)
    ∙ ap (λ (o : Option _). after items (also o (all_of f (drop (i + 1) xs)))) is ∙ after_also items y (all_of f (drop (i + 1) xs))

-- one is nothing
pub read_none : {X Y : Type 0} (f : X → Option Y) (xs : List X) (i : ℕ) (d : X) (items : List Y) → i < length xs → f (get_or xs i d) ≡ None →
    all_of f xs ≡ after items (all_of f (drop i xs)) → all_of f xs ≡ None
read_none f xs i d items below is so =
    so ∙ ap (λ (ys : List _). after items (all_of f ys)) (drop_more xs i d below)
    ∙ ap (λ (o : Option _). after items (also o (all_of f (drop (i + 1) xs)))) is

-- all were read
pub read_all : {X Y : Type 0} (f : X → Option Y) (xs : List X) (i : ℕ) (items : List Y) → length xs ≤ i → all_of f xs ≡ after items (all_of f (drop i xs)) → all_of f xs ≡ Some items
read_all f xs i items past so =
    so ∙ ap (λ (ys : List _). after items (all_of f ys)) (drop_all i xs past) ∙ ap (λ (ys : List _). Some ys) (append-nil items)
