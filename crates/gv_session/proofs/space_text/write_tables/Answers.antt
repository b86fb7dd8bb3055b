use Rattle.std.proofs.Common.{rules, ◌≡◌, ℕ, List, [], ◌∷◌, ◌++◌, append_assoc, Result, Ok, Err, OnOk, ◌∙◌, ap, arith, get_or, length, refl, subst}
use Rattle.std.specs.Prelude.{codes, decimal, string_bytes}
use Rattle.gv_session.specs.Texts.{tables_reply}
use Rattle.gv_session.proofs.space_text.write_tables.Goals as goal

-- texts that are appended one after another
appended : (o a b c d e line : List ℕ) → (((((o ++ (a ++ line)) ++ (b ++ line)) ++ (c ++ line)) ++ (d ++ line)) ++ (e ++ codes "\n"))
    ≡ o ++ (((a ++ line) ++ ((b ++ line) ++ ((c ++ line) ++ ((d ++ line) ++ e)))) ++ codes "\n")
appended o a b c d e line = simp append_assoc

-- the last of them may be refused
OnOk-last : {T E : Type 0} (r : Result T E) (last before whole : List ℕ) → before ≡ whole → OnOk r (last ≡ before) → OnOk r (last ≡ whole)
OnOk-last (Ok done) last before whole same is = is ∙ same
OnOk-last (Err why) last before whole same is = is

-- five numbers, each read at its place
five : (ns : List ℕ) → length ns ≡ 5 → (get_or ns 0 0 ∷ get_or ns 1 0 ∷ get_or ns 2 0 ∷ get_or ns 3 0 ∷ get_or ns 4 0 ∷ []) ≡ ns
five [] long = absurd cc
five (a ∷ []) long = absurd cc
five (a ∷ (b ∷ [])) long = absurd cc
five (a ∷ (b ∷ (c ∷ []))) long = absurd cc
five (a ∷ (b ∷ (c ∷ (d ∷ [])))) long = absurd cc
five (a ∷ (b ∷ (c ∷ (d ∷ (e ∷ []))))) long = refl
five (a ∷ (b ∷ (c ∷ (d ∷ (e ∷ (f ∷ more)))))) long = absurd (omega (arith, long))

pub returns : goal.returns
returns c =
    let line : List ℕ = codes " " in
    let ns : List ℕ = c.args.tables in
    let long : length ns ≡ 5 = search rules in
    let one = c.in_ok-write_count.ensures in
    let two = c.in_ok-write_count-2.ensures in
    let three = c.in_ok-write_count-3.ensures in
    let four = c.in_ok-write_count-4.ensures in
    subst (λ (l : List ℕ). OnOk c.write_last_count.result (string_bytes c.write_last_count.new.out ≡ string_bytes c.args.out.now ++ tables_reply l)) (five ns long)
    (OnOk-last c.write_last_count.result (string_bytes c.write_last_count.new.out) _ _
    (ap (λ (s : List ℕ). s ++ (decimal (get_or ns 4 0) ++ codes "\n")) (four ∙ ap (λ (s : List ℕ). s ++ (decimal (get_or ns 3 0) ++ line)) (three ∙ ap (λ (s : List ℕ). s ++ (decimal (get_or ns 2 0) ++ line)) (two ∙ ap (λ (s : List ℕ). s ++ (decimal (get_or ns 1 0) ++ line)) one)))
    ∙ appended (string_bytes c.args.out.now) (decimal (get_or ns 0 0)) (decimal (get_or ns 1 0)) (decimal (get_or ns 2 0)) (decimal (get_or ns 3 0)) (decimal (get_or ns 4 0)) line)
    c.write_last_count.ensures)
