-- Lists of which the same is shown are written as the same lines.
use Rattle.std.proofs.Common.{◌≡◌, ℕ, List, [], ◌∷◌, ◌++◌, map, refl, sym, ap, ◌∙◌}
use Rattle.std.specs.List.{flat_map}
use Rattle.gv_session.specs.Texts.{reply, lines_reply}

each_line : {X Z : Type 0} (write : X → List ℕ) (shown : X → Z) (other : Z → List ℕ) → ((x : X) → write x ≡ other (shown x)) → (xs : List X) →
    flat_map (λ x. reply (write x ∷ [])) xs ≡ flat_map (λ z. reply (other z ∷ [])) (map shown xs)
each_line write shown other is [] = refl
each_line write shown other is (x ∷ xs) =
    ap (λ (text : List ℕ). reply (text ∷ []) ++ flat_map (λ y. reply (write y ∷ [])) xs) (is x)
    ∙ ap (λ (rest : List ℕ). reply (other (shown x) ∷ []) ++ rest) (each_line write shown other is xs)

lines_shown : {X Z : Type 0} (write : X → List ℕ) (shown : X → Z) (other : Z → List ℕ) → ((x : X) → write x ≡ other (shown x)) → (xs : List X) →
    lines_reply write xs ≡ lines_reply other (map shown xs)
lines_shown write shown other is [] = refl
lines_shown write shown other is (x ∷ xs) = each_line write shown other is (x ∷ xs)

pub lines_same : {X Z : Type 0} (write write' : X → List ℕ) (shown : X → Z) (other : Z → List ℕ) → ((x : X) → write x ≡ other (shown x)) → ((x : X) → write' x ≡ other (shown x)) →
    (xs xs' : List X) → map shown xs ≡ map shown xs' → lines_reply write xs ≡ lines_reply write' xs'
lines_same write write' shown other is is' xs xs' same =
    lines_shown write shown other is xs ∙ ap (λ zs. lines_reply other zs) same ∙ sym (lines_shown write' shown other is' xs')
