-- Numbered lines, one more at their end.
use Rattle.std.proofs.Common.{◌≡◌, ◌∙◌, ◌∷◌, [], List, ℕ, ◌++◌, ◌+◌, ◌<◌, ap, sym, append_assoc, append-nil, add-zero, length, take, get_or, arith}
use Rattle.std.proofs.lemmas.List.{take_more, length-take-le}
use Rattle.gv_session.specs.Texts.{numbered_lines}

-- some lines, and more
numbered_lines-append : {X : Type 0} (line : ℕ → X → List ℕ) (number : ℕ) (xs ys : List X) →
    numbered_lines line number (xs ++ ys) ≡ numbered_lines line number xs ++ numbered_lines line (number + length xs) ys
numbered_lines-append line number [] ys = ap (λ (n : ℕ). numbered_lines line n ys) (sym (add-zero number))
numbered_lines-append line number (x ∷ xs) ys =
    let here : List ℕ = line number x in
    let count : number + 1 + length xs ≡ number + length (x ∷ xs) = omega arith in
    ap (λ (bytes : List ℕ). here ++ bytes) (numbered_lines-append line (number + 1) xs ys)
    ∙ sym (append_assoc here (numbered_lines line (number + 1) xs) (numbered_lines line (number + 1 + length xs) ys))
    ∙ ap (λ (n : ℕ). (here ++ numbered_lines line (number + 1) xs) ++ numbered_lines line n ys) count

-- the first k lines, and the one behind them
pub numbered_lines-from : {X : Type 0} (line : ℕ → X → List ℕ) (first k : ℕ) (xs : List X) (d : X) → k < length xs →
    numbered_lines line first (take (k + 1) xs) ≡ numbered_lines line first (take k xs) ++ line (first + k) (get_or xs k d)
numbered_lines-from line first k xs d below =
    let taken : length (take k xs) ≡ k = length-take-le k xs (omega arith) in
    let count : first + length (take k xs) ≡ first + k = omega (arith, taken) in
    ap (numbered_lines line first) (take_more xs k d below)
    ∙ numbered_lines-append line first (take k xs) (get_or xs k d ∷ [])
    ∙ ap (λ (n : ℕ). numbered_lines line first (take k xs) ++ numbered_lines line n (get_or xs k d ∷ [])) count
    ∙ ap (λ (bytes : List ℕ). numbered_lines line first (take k xs) ++ bytes) (append-nil _)

pub numbered_lines-more : {X : Type 0} (line : ℕ → X → List ℕ) (k : ℕ) (xs : List X) (d : X) → k < length xs →
    numbered_lines line 0 (take (k + 1) xs) ≡ numbered_lines line 0 (take k xs) ++ line k (get_or xs k d)
numbered_lines-more line k xs d below =
    let number : 0 + k ≡ k = omega arith in
    numbered_lines-from line 0 k xs d below ∙ ap (λ (n : ℕ). numbered_lines line 0 (take k xs) ++ line n (get_or xs k d)) number
