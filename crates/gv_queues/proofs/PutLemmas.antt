-- For callers: some of the requests that were to be put.
use Rattle.std.proofs.Common.{◌≡◌, suc, ◌≤◌, List, [], ◌∷◌, length, refl, ap, ◌∙◌, ⊎_elim, arith}
use Rattle.gv_queues.specs.Driving.{AreSomeOf}

-- they are no more than all
pub some_few : {X : Type 0} (all some : List X) → AreSomeOf all some → length some ≤ length all
some_few all [] h = omega arith
some_few [] (x ∷ some) h = absurd h
some_few (y ∷ all) (x ∷ some) h =
    ⊎_elim
    (λ (w : (x ≡ y) × AreSomeOf all some). let few = some_few all some w.1 in omega (arith, few))
    (λ (w : AreSomeOf all (x ∷ some)). let few : suc (length some) ≤ length all = some_few all (x ∷ some) w in omega (arith, few))
    h

-- where they are as many as all, they are all
pub some_are_all : {X : Type 0} (all some : List X) → AreSomeOf all some → length some ≡ length all → some ≡ all
some_are_all [] [] h e = refl
some_are_all (y ∷ all) [] h e = absurd (omega (arith, e))
some_are_all [] (x ∷ some) h e = absurd h
some_are_all (y ∷ all) (x ∷ some) h e =
    ⊎_elim
    (λ (w : (x ≡ y) × AreSomeOf all some).
    let even : length some ≡ length all = omega (arith, e) in
    ap (λ (l : List _). x ∷ l) (some_are_all all some w.1 even) ∙ ap (λ (z : _). z ∷ all) w.0)
    (λ (w : AreSomeOf all (x ∷ some)).
    let few : suc (length some) ≤ length all = some_few all (x ∷ some) w in absurd (omega (arith, e, few)))
    h
