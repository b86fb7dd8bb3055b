-- A list that is walked: what comes next, and what is left behind it.
use Rattle.std.proofs.Common.{◌≡◌, ℕ, ◌+◌, ◌-◌, ◌<◌, ◌≤◌, List, [], ◌∷◌, length, drop, get_or, arith, sym, ◌∙◌, ap}
use Rattle.std.proofs.lemmas.List.{drop_more, length-drop}
use Rattle.gv_types.specs.declared.mapping.Mapping.{Mapping}

-- the mapping that comes next after the first `i`
pub record IsNext (ms : List Mapping) (i : ℕ) (m : Mapping) (rest : List Mapping) : Type 0 where
  pub within : i < length ms
  pub is : m ≡ get_or ms i m
  pub behind : rest ≡ drop (i + 1) ms

pub next_is : (ms left rest : List Mapping) (i : ℕ) (m : Mapping) → left ≡ drop i ms → left ≡ m ∷ rest → IsNext ms i m rest
next_is ms left rest i m walked steps =
    let same : drop i ms ≡ m ∷ rest = sym walked ∙ steps in
    let long : length ms - i ≡ length (m ∷ rest) = sym (length-drop i ms) ∙ ap (λ (xs : List Mapping). length xs) same in
    let within : i < length ms = omega (arith, long) in
    let more : drop i ms ≡ get_or ms i m ∷ drop (i + 1) ms = drop_more ms i m within in
    record { within = within; is = cc; behind = cc }

-- nothing is left
pub none_is_left : (ms left : List Mapping) (i : ℕ) → left ≡ drop i ms → left ≡ [] → length ms ≤ i
none_is_left ms left i walked empty =
    let long : length ms - i ≡ 0 = sym (length-drop i ms) ∙ ap (λ (xs : List Mapping). length xs) (sym walked ∙ empty) in
    omega (arith, long)
