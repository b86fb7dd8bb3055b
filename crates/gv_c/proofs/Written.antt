-- Lists that are written over others, one thing after another.
use Rattle.std.proofs.Common.{◌≡◌, ℕ, zero, suc, ◌+◌, ◌-◌, ◌<◌, List, [], ◌∷◌, take, drop, length, map, set, get_or, refl, sym, ap, ◌∙◌, arith}
use Rattle.std.specs.Prelude.{max, min}
use Rattle.std.proofs.lemmas.List.{drop-drop}
use Rattle.gv_vm.specs.declared.outcome.Outcome.{Outcome}
use Rattle.gv_c.specs.Lists.{written_over, numbered, IsWritten}
use Rattle.gv_c.specs.Values.{c_outcome}
use Rattle.gv_c.specs.declared.outcome.RequestOutcome.{RequestOutcome}

pub over_nil : {X : Type 0} (old : List X) → written_over old [] ≡ old
over_nil [] = refl
over_nil (o ∷ old) = refl

pub over_length : {X : Type 0} (old new : List X) → length (written_over old new) ≡ length old
over_length [] new = refl
over_length (o ∷ old) [] = refl
over_length (o ∷ old) (n ∷ new) = ap suc (over_length old new)

-- one more
pub over_more : {X : Type 0} (old new : List X) (k : ℕ) (d : X) → k < length old → k < length new →
    set (written_over old (take k new)) k (get_or new k d) ≡ written_over old (take (k + 1) new)
over_more [] new k d room some = absurd (omega (arith, room))
over_more (o ∷ old) [] k d room some = absurd (omega (arith, some))
over_more (o ∷ old) (n ∷ new) zero d room some = ap (λ (xs : List _). n ∷ xs) (sym (over_nil old))
over_more (o ∷ old) (n ∷ new) (suc k) d room some =
    let e : suc (k + 1) ≡ suc k + 1 = omega arith in
    ap (λ (xs : List _). n ∷ xs) (over_more old new k d (omega (arith, room)) (omega (arith, some))) ∙ ap (λ (m : ℕ). written_over (o ∷ old) (take m (n ∷ new))) e

-- as many as there is room for, or as there are
pub over_all : {X : Type 0} (old new : List X) (k : ℕ) → k ≡ min (length old) (length new) → written_over old (take k new) ≡ written_over old new
over_all [] new k is = refl
over_all (o ∷ old) [] zero is = refl
over_all (o ∷ old) [] (suc k) is = refl
over_all (o ∷ old) (n ∷ new) zero is = absurd (omega (arith, is))
over_all (o ∷ old) (n ∷ new) (suc k) is = ap (λ (xs : List _). n ∷ xs) (over_all old new k (omega (arith, is)))

-- as long as what stood there
pub over_whole : {X : Type 0} (old new : List X) → length new ≡ length old → written_over old new ≡ new
over_whole [] [] is = refl
over_whole [] (n ∷ new) is = absurd (omega (arith, is))
over_whole (o ∷ old) [] is = absurd (omega (arith, is))
over_whole (o ∷ old) (n ∷ new) is = ap (λ (xs : List _). n ∷ xs) (over_whole old new (omega (arith, is)))

-- What stands at an index.

pub at_map : {X Y : Type 0} (f : X → Y) (xs : List X) (k : ℕ) (d : Y) (e : X) → k < length xs → get_or (map f xs) k d ≡ f (get_or xs k e)
at_map f [] k d e below = absurd (omega (arith, below))
at_map f (x ∷ xs) zero d e below = refl
at_map f (x ∷ xs) (suc k) d e below = at_map f xs k d e (omega (arith, below))

pub at_drop : {X : Type 0} (xs : List X) (n k : ℕ) (d : X) → get_or (drop n xs) k d ≡ get_or xs (n + k) d
at_drop xs zero k d = let e : k ≡ zero + k = omega arith in ap (λ (m : ℕ). get_or xs m d) e
at_drop [] (suc n) k d = refl
at_drop (x ∷ xs) (suc n) k d = let e : suc (n + k) ≡ suc n + k = omega arith in at_drop xs n k d ∙ ap (λ (m : ℕ). get_or (x ∷ xs) m d) e

pub at_numbered : (number : ℕ) (outcomes : List Outcome) (k : ℕ) (d : RequestOutcome) (e : Outcome) → k < length outcomes →
    get_or (numbered number outcomes) k d ≡ c_outcome (number + k) (get_or outcomes k e)
at_numbered number [] k d e below = absurd (omega (arith, below))
at_numbered number (o ∷ os) zero d e below = let same : number ≡ number + 0 = omega arith in ap (λ (n : ℕ). c_outcome n o) same
at_numbered number (o ∷ os) (suc k) d e below =
    let same : number + 1 + k ≡ number + suc k = omega arith in at_numbered (number + 1) os k d e (omega (arith, below)) ∙ ap (λ (n : ℕ). c_outcome n (get_or os k e)) same

pub length-numbered : (number : ℕ) (outcomes : List Outcome) → length (numbered number outcomes) ≡ length outcomes
length-numbered number [] = refl
length-numbered number (o ∷ os) = ap suc (length-numbered (number + 1) os)

-- one more of a list from an index on
pub write_one : {X : Type 0} (old now all : List X) (from k : ℕ) (y : X) → now ≡ written_over old (take k (drop from all)) → k < length old → k < length (drop from all) →
    y ≡ get_or all (from + k) y → set now k y ≡ written_over old (take (k + 1) (drop from all))
write_one old now all from k y is room some value =
    ap (λ (ts : List _). set ts k y) is ∙ ap (λ (z : _). set (written_over old (take k (drop from all))) k z) (value ∙ sym (at_drop all from k y))
    ∙ over_more old (drop from all) k y room some

-- outcomes from a number on, but for the first ones
drop_numbered : (n number : ℕ) (outcomes : List Outcome) → numbered (number + n) (drop n outcomes) ≡ drop n (numbered number outcomes)
drop_numbered zero number outcomes = let same : number + 0 ≡ number = omega arith in ap (λ (k : ℕ). numbered k outcomes) same
drop_numbered (suc n) number [] = refl
drop_numbered (suc n) number (o ∷ os) =
    let same : number + suc n ≡ number + 1 + n = omega arith in
    ap (λ (k : ℕ). numbered k (drop n os)) same ∙ drop_numbered n (number + 1) os

pub told_written : (told : List Outcome) (first from : ℕ) (old new : List RequestOutcome) (count part : ℕ) → IsWritten (numbered first (drop first told)) (from - first) old new count part →
    IsWritten (numbered 0 told) (max first from) old new count (length told)
told_written told first from old new count part is =
    let number : 0 + first ≡ first = omega arith in
    let rest : numbered first (drop first told) ≡ drop first (numbered 0 told) = ap (λ (k : ℕ). numbered k (drop first told)) (sym number) ∙ drop_numbered first 0 told in
    let place : first + (from - first) ≡ max first from = omega arith in
    let same : drop (from - first) (numbered first (drop first told)) ≡ drop (max first from) (numbered 0 told) =
    ap (drop (from - first)) rest ∙ drop-drop (from - first) first (numbered 0 told) ∙ ap (λ (k : ℕ). drop k (numbered 0 told)) place in
    record {
      list = is.list ∙ ap (written_over old) same;
      written = is.written ∙ ap (λ (xs : List RequestOutcome). min (length old) (length xs)) same;
      in_all = sym (length-numbered 0 told);
    }
