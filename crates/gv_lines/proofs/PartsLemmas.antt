-- For callers: a text cut at its first such byte.
use Rattle.std.proofs.Common.{◌≡◌, ℕ, ◌+◌, ◌<◌, ◌≤◌, List, [], ◌∷◌, Some, None, Bool, true, false, cond, ◌==◌, length, take, drop, refl, ap, arith}
use Rattle.std.proofs.lemmas.Bool.{ltb-true, ltb-false}
use Rattle.std.proofs.lemmas.Option.{cond_some}
use Rattle.std.proofs.lemmas.List.Splits.{slice_split_first, length-slice_split}
use Rattle.std.specs.List.{position, position_or_len, prefix_len, onto_first}
use Rattle.std.specs.Prelude.{not}
use Rattle.gv_lines.specs.Words.{parts}

-- a text in parts is never empty
pub parts_some : (byte : ℕ) (text : List ℕ) → parts byte text ≡ [] → ⊥
parts_some byte text none =
    let e = ap length none in omega (arith, length-slice_split (λ b. b == byte) text, e)

-- a text without that byte is one part
uncut : (byte : ℕ) (text : List ℕ) → length text ≤ position_or_len (λ b. b == byte) text → parts byte text ≡ text ∷ []
uncut byte [] h = refl
uncut byte (c ∷ cs) h = elim (c == byte) as (λ v. length (c ∷ cs) ≤ cond (not v) (1 + prefix_len (λ b. not (b == byte)) cs) 0 → cond v ([] ∷ parts byte cs) (onto_first c (parts byte cs)) ≡ (c ∷ cs) ∷ []) [
  | true ↦ λ g. absurd (omega arith)
  | false ↦ λ g. rw (uncut byte cs (omega arith)) refl
] h

none_from_cond : (b : Bool) (x : ℕ) → cond b (Some x) None ≡ None → b ≡ false
none_from_cond true x e = cc
none_from_cond false x e = refl

-- no such byte in the text
pub cut_none : (byte : ℕ) (text : List ℕ) → position (λ b. b == byte) text ≡ None → parts byte text ≡ text ∷ []
cut_none byte text none = uncut byte text (ltb-false _ _ (none_from_cond _ _ none))

-- such a byte in the text, first at this place
pub cut_some : (byte : ℕ) (text : List ℕ) (at : ℕ) → position (λ b. b == byte) text ≡ Some at → (at < length text) × (parts byte text ≡ take at text ∷ parts byte (drop (at + 1) text))
cut_some byte text at found =
    let both = cond_some _ _ _ found in
    let below = ltb-true _ _ both.0 in
    (rw both.1 at below, rw both.1 at (slice_split_first (λ b. b == byte) text 0 below))
