-- Pages that come between others or leave from between them: what is known is exact before, and so it is after.
use Rattle.std.proofs.Common.{◌≡◌, ℕ, ◌+◌, ◌-◌, ◌<◌, ◌≤◌, suc, List, [], ◌∷◌, ◌++◌, length, insert, get_or, true, false, cond, ◌&&◌, nat_lt, eqb, arith, refl, ap}
use Rattle.std.specs.List.{All, remove}
use Rattle.std.proofs.lemmas.Bool.{lt-ltb, le-ltb, eq-eqb, eqb-true, and_parts}
use Rattle.std.proofs.lemmas.List.{length-append}
use Rattle.std.proofs.lemmas.List.Elements.{All-cons}
use Rattle.std.proofs.lemmas.List.Folds.{list_any_at}
use Rattle.gv_buffers.specs.FirstPages.{FirstPagesState, IsRowOf, page_added, page_removed, are_known, is_among, count_lower, can_add_page}

none_lower : (page : ℕ) (ys : List ℕ) → All (λ y. page ≤ y) ys → count_lower page ys ≡ 0
none_lower page [] above = refl
none_lower page (y ∷ ys) above =
    let past : nat_lt y page ≡ false = le-ltb _ _ (above 0 y (omega arith)) in
    rw past (none_lower page ys (λ k d within. above (suc k) d (omega arith)))

-- as many are lower as stand before
lower_before : (page : ℕ) (xs ys : List ℕ) → All (λ x. x < page) xs → All (λ y. page ≤ y) ys → count_lower page (xs ++ ys) ≡ length xs
lower_before page [] ys below above = none_lower page ys above
lower_before page (x ∷ xs) ys below above =
    let less : nat_lt x page ≡ true = lt-ltb _ _ (below 0 x (omega arith)) in
    rw less (ap suc (lower_before page xs ys (λ k d within. below (suc k) d (omega arith)) above))

inserted_between : (page : ℕ) (xs ys : List ℕ) → insert (xs ++ ys) (length xs) page ≡ xs ++ page ∷ ys
inserted_between page [] ys = refl
inserted_between page (x ∷ xs) ys = ap (λ (zs : List ℕ). x ∷ zs) (inserted_between page xs ys)

removed_between : (page : ℕ) (xs ys : List ℕ) → remove (xs ++ page ∷ ys) (length xs) ≡ xs ++ ys
removed_between page [] ys = refl
removed_between page (x ∷ xs) ys = ap (λ (zs : List ℕ). x ∷ zs) (removed_between page xs ys)

get_or-middle : (xs : List ℕ) (page : ℕ) (ys : List ℕ) → get_or (xs ++ page ∷ ys) (length xs) 0 ≡ page
get_or-middle [] page ys = refl
get_or-middle (x ∷ xs) page ys = get_or-middle xs page ys

among_between : (page : ℕ) (xs ys : List ℕ) → is_among page (xs ++ page ∷ ys) ≡ true
among_between page xs ys =
    let long = length-append xs (page ∷ ys) in
    let here : eqb (get_or (xs ++ page ∷ ys) (length xs) 0) page ≡ true = eq-eqb _ _ (get_or-middle xs page ys) in
    list_any_at (λ other. eqb other page) (xs ++ page ∷ ys) (length xs) 0 (omega (arith, long)) here

long_between : (page : ℕ) (xs ys : List ℕ) → length (xs ++ page ∷ ys) ≡ length (xs ++ ys) + 1
long_between page xs ys =
    let more = length-append xs (page ∷ ys) in
    let both = length-append xs ys in
    omega (arith, more, both)

-- a page comes between others
pub page_added_between : (page : ℕ) (xs ys : List ℕ) (p : FirstPagesState) → All (λ x. x < page) xs → All (λ y. page < y) ys → IsRowOf (xs ++ ys) p →
    IsRowOf (xs ++ page ∷ ys) (page_added page p)
page_added_between page xs ys p below above stand =
    let count : p.count + 1 ≡ length (xs ++ page ∷ ys) = (let long = long_between page xs ys in omega (arith, long, stand.count)) in
    let higher : All (λ y. page ≤ y) ys = (λ k d within. (let more = above k d within in omega (arith, more))) in
    record {
      count = count;
      pages = elim (can_add_page p) as (λ t. can_add_page p ≡ t → length (cond t (insert p.pages (count_lower page p.pages) page) []) ≡ p.count + 1 →
          cond t (insert p.pages (count_lower page p.pages) page) [] ≡ xs ++ page ∷ ys) [
            | true ↦ (λ can _.
                let known : are_known p ≡ true = (and_parts _ _ (and_parts _ _ can).0).1 in
                let same : p.pages ≡ xs ++ ys = stand.pages (eqb-true _ _ known) in
                rw (same, lower_before page xs ys below higher) (inserted_between page xs ys))
            | false ↦ (λ can none. absurd (omega (arith, none)))
          ] refl;
    }

nothing : (xs : List ℕ) → length xs ≡ 0 → [] ≡ xs
nothing [] none = refl
nothing (x ∷ xs) none = absurd (omega (arith, none))

-- a page leaves from between others
pub page_removed_between : (page : ℕ) (xs ys : List ℕ) (p : FirstPagesState) → All (λ x. x < page) xs → All (λ y. page < y) ys → IsRowOf (xs ++ page ∷ ys) p →
    IsRowOf (xs ++ ys) (page_removed page p)
page_removed_between page xs ys p below above stand =
    let long = long_between page xs ys in
    let count : p.count - 1 ≡ length (xs ++ ys) = omega (arith, long, stand.count) in
    let higher : All (λ y. page ≤ y) (page ∷ ys) = All-cons (λ y. page ≤ y) page ys (omega arith) (λ k d within. (let more = above k d within in omega (arith, more))) in
    record {
      count = count;
      pages = elim (are_known p && is_among page p.pages) as (λ t. are_known p && is_among page p.pages ≡ t →
          length (cond t (remove p.pages (count_lower page p.pages)) []) ≡ p.count - 1 → cond t (remove p.pages (count_lower page p.pages)) [] ≡ xs ++ ys) [
            | true ↦ (λ is _.
                let same : p.pages ≡ xs ++ page ∷ ys = stand.pages (eqb-true _ _ (and_parts _ _ is).0) in
                rw (same, lower_before page xs (page ∷ ys) below higher) (removed_between page xs ys))
            | false ↦ (λ _ none. nothing (xs ++ ys) (omega (arith, none, count)))
          ] refl;
    }
