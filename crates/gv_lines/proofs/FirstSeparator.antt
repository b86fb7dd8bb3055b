-- Words cut at their first separator.
use Rattle.std.proofs.Common.{◌≡◌, ℕ, zero, suc, ◌+◌, ◌<◌, List, [], ◌∷◌, ◌++◌, Bool, true, false, not, cond, length, take, drop, refl, sym, ap, ◌∙◌, append_assoc, length-append, arith}
use Rattle.std.proofs.lemmas.List.{take_all, take-append-drop}
use Rattle.std.proofs.lemmas.Bool.Decides.{nat_tests}
use Rattle.std.proofs.lemmas.List.Elements.{All-nil, All-cons, All-append, All-head, All-tail, All-take, All-weaker}
use Rattle.std.proofs.lemmas.List.Splits.{slice_split_none, slice_split_at, length-slice_split}
use Rattle.std.proofs.lemmas.List.Sums.{count_by-le-length}
use Rattle.std.proofs.lemmas.List.{append-nil}
use Rattle.std.proofs.Math.Seq.{take-append_seam}
use Rattle.std.specs.List.{All, list_any, onto_first}
use Rattle.std.specs.Prelude.{IsTrue, ◌↔◌, ◌==◌, ◌||◌, nat_eq}
use Rattle.gv_lines.proofs.PartsLemmas.{parts_some}
use Rattle.gv_lines.specs.Words.{parts, space_byte, words, is_separator, clauses}

-- no line has more words than one above its bytes
pub words_all : (line : List ℕ) → take (length line + 1) (words line) ≡ words line
words_all line = take_all (length line + 1) (words line) (omega (arith, length-slice_split (λ b. b == 32) line, count_by-le-length (λ b. b == 32) line))

front_none : {X : Type 0} (limit : ℕ) (xs : List X) → 0 < limit → take limit xs ≡ [] → xs ≡ []
front_none zero xs some none = absurd (omega arith)
front_none (suc limit) [] some none = refl
front_none (suc limit) (x ∷ xs) some none = absurd (cc)

-- whether no word is left, by how many are allowed
pub none_left : (limit : ℕ) (text : List ℕ) (done : Bool) → nat_eq limit 0 ≡ done → IsTrue done ↔ (take limit (words text) ≡ [])
none_left zero text true is = (λ _. refl, λ _. refl)
none_left zero text false is = absurd (cc)
none_left (suc limit) text true is = absurd (grind (arith, nat_tests, is))
none_left (suc limit) text false is = (λ done. absurd (cc), λ none. absurd (parts_some space_byte text (front_none (suc limit) (words text) (omega arith) none)))

-- the words so far, none of them a separator, and the words left are all
pub record IsCut (whole : List (List ℕ)) (count : ℕ) (left : List (List ℕ)) : Type 0 where
  pub front : List (List ℕ)
  pub whole_is : whole ≡ front ++ left
  pub counted : length front ≡ count
  pub apart : All (λ w. is_separator w ≡ false) front

pub cut_start : (whole : List (List ℕ)) → IsCut whole 0 whole
cut_start whole = record { front = []; whole_is = refl; counted = refl; apart = All-nil (λ w. is_separator w ≡ false) }

pub cut_more : (whole left more : List (List ℕ)) (count : ℕ) (word : List ℕ) → IsCut whole count left → left ≡ word ∷ more → is_separator word ≡ false → IsCut whole (count + 1) more
cut_more whole left more count word cut next other =
    record {
      front = cut.front ++ word ∷ [];
      whole_is = cut.whole_is ∙ ap (λ xs. cut.front ++ xs) next ∙ sym (append_assoc cut.front (word ∷ []) more);
      counted = omega (arith, length-append cut.front (word ∷ []), cut.counted);
      apart = All-append (λ w. is_separator w ≡ false) cut.front (word ∷ []) cut.apart (All-cons (λ w. is_separator w ≡ false) word [] other (All-nil (λ w. is_separator w ≡ false)));
    }

-- the words so far, among all that the text has
front_within : {X : Type 0} (limit : ℕ) (xs front left : List X) → take limit xs ≡ front ++ left → take (length front) xs ≡ front
front_within limit xs front left whole =
    let all : xs ≡ front ++ (left ++ drop limit xs) = sym (take-append-drop limit xs) ∙ ap (λ ys. ys ++ drop limit xs) whole ∙ append_assoc front left (drop limit xs) in
    ap (take (length front)) all ∙ take-append_seam front (left ++ drop limit xs)

-- at a separator
pub cut_found : (limit count : ℕ) (xs left more : List (List ℕ)) (word : List ℕ) → IsCut (take limit xs) count left → left ≡ word ∷ more → is_separator word ≡ true → clauses (take limit xs) ≡ take count xs ∷ clauses more
cut_found limit count xs left more word cut next found =
    let front : take count xs ≡ cut.front = ap (λ n. take n xs) (sym cut.counted) ∙ front_within limit xs cut.front left cut.whole_is in
    ap clauses (cut.whole_is ∙ ap (λ ys. cut.front ++ ys) next) ∙ slice_split_at is_separator cut.front word more cut.apart found ∙ ap (λ f. f ∷ clauses more) (sym front)

-- at the end
pub cut_end : (whole left : List (List ℕ)) (count : ℕ) → IsCut whole count left → left ≡ [] → clauses whole ≡ whole ∷ []
cut_end whole left count cut none =
    let all : whole ≡ cut.front = cut.whole_is ∙ ap (λ ys. cut.front ++ ys) none ∙ append-nil cut.front in
    ap clauses all ∙ slice_split_none is_separator cut.front cut.apart ∙ ap (λ f. f ∷ []) (sym all)

neither : (a b : Bool) → (a || b) ≡ false → (a ≡ false) × (b ≡ false)
neither true b h = absurd (cc)
neither false b h = (refl, h)

-- the byte of a semicolon
abbrev pub semicolon : ℕ
semicolon = 59

-- a text without one
abbrev HasNone : List ℕ → Type 0
HasNone text = list_any (λ b. b == semicolon) text ≡ false

none_in_part : (c : ℕ) (is_space : Bool) (ws : List (List ℕ)) → (c == semicolon) ≡ false → All HasNone ws → All HasNone (cond is_space ([] ∷ ws) (onto_first c ws))
none_in_part c true ws other all = All-cons HasNone [] ws refl all
none_in_part c false [] other all = All-cons HasNone (c ∷ []) [] (rw other refl) (All-nil HasNone)
none_in_part c false (w ∷ ws) other all = All-cons HasNone (c ∷ w) ws (rw other (All-head HasNone w ws all)) (All-tail HasNone w ws all)

none_in_parts : (text : List ℕ) → HasNone text → All HasNone (parts space_byte text)
none_in_parts [] none = All-cons HasNone [] [] refl (All-nil HasNone)
none_in_parts (c ∷ cs) none =
    let both = neither (c == semicolon) (list_any (λ b. b == semicolon) cs) none in
    none_in_part c (c == space_byte) (parts space_byte cs) both.0 (none_in_parts cs both.1)

no_separator : (word : List ℕ) → HasNone word → is_separator word ≡ false
no_separator [] none = refl
no_separator (c ∷ cs) none = rw (neither (c == semicolon) (list_any (λ b. b == semicolon) cs) none).0 refl

without : (limit : ℕ) (text : List ℕ) → HasNone text → clauses (take limit (parts space_byte text)) ≡ take limit (parts space_byte text) ∷ []
without limit text none =
    slice_split_none is_separator (take limit (parts space_byte text))
    (All-take (λ w. is_separator w ≡ false) limit (parts space_byte text) (All-weaker HasNone (λ w. is_separator w ≡ false) no_separator (parts space_byte text) (none_in_parts text none)))

-- words of a text without a semicolon are one clause
pub one_clause : (limit : ℕ) (text : List ℕ) (has : Bool) → has ≡ list_any (λ b. b == semicolon) text → IsTrue (not has) →
    clauses (take limit (words text)) ≡ take limit (words text) ∷ []
one_clause limit text true found none = absurd (cc)
one_clause limit text false found none = without limit text (sym found)
