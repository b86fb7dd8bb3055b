-- Where no reply is want of memory, two runs of a script come to the same.
use Rattle.std.proofs.Common.{◌≡◌, ℕ, ◌+◌, Bool, true, false, List, [], ◌∷◌, ◌++◌, length, Option, Some, None, refl, sym, ap, ◌∙◌, subst, arith}
use Rattle.gv_lines.specs.Words.{parts}
use Rattle.gv_session.specs.State.{SessionState, start}
use Rattle.gv_session.specs.Line.{Written, RunsText, IsGoodText}
use Rattle.gv_text.specs.Script.{refusals_of, Replies, IsBadBefore, RunsWhole, StopsBefore, ComesTo, IsOnly}
use Rattle.gv_text.proofs.AlikeStates.{AreAlikeStates, AreAlikeStates-sym, WriteAlike, start_alike}
use Rattle.gv_text.proofs.AlikeGood.{text_good, text_alike}

-- How lines end that ran: nothing is left behind the last line end, or the next line is bad. It has this number, where so many
-- lines ran.
abbrev EndsSo : Option ℕ → SessionState → List (List ℕ) → ℕ → Type 0
EndsSo None now rest count = rest ≡ [] ∷ []
EndsSo (Some number) now rest count =
    (line : List ℕ) × (more : List (List ℕ)) × (rest ≡ line ∷ more) × IsBadBefore now line more × (number ≡ count + 1)

-- Two runs come to the same text, and to the same bad line or none.
record EndsAlike (stop stop' : Option ℕ) (text text' : List ℕ) : Type 0 where
  texts : text ≡ text'
  stops : stop ≡ stop'

head_same : (x y : List ℕ) (xs ys : List (List ℕ)) → x ∷ xs ≡ y ∷ ys → x ≡ y
head_same x y xs ys same = cc

tail_same : (x y : List ℕ) (xs ys : List (List ℕ)) → x ∷ xs ≡ y ∷ ys → xs ≡ ys
tail_same x y xs ys same = cc

no_refusal : (lacks : Bool) (more : ℕ) → 0 ≡ refusals_of lacks + more → (lacks ≡ false) × (0 ≡ more)
no_refusal true more is = absurd (omega (arith, is))
no_refusal false more is = (refl, omega (arith, is))

-- a line stands behind the rest
some_rest : (stop : Option ℕ) (now : SessionState) (rest : List (List ℕ)) (count : ℕ) → EndsSo stop now rest count → (line : List ℕ) × (more : List (List ℕ)) × (rest ≡ line ∷ more)
some_rest None now rest count ends = ([], [], ends)
some_rest (Some number) now rest count ends = (ends.0, ends.1, ends.2)

-- a bad line stands before no others but those that a run has not reached
bad_alone : (line : List ℕ) (more : List (List ℕ)) (now : SessionState) → IsBadBefore now line more → line ∷ more ≡ [] ∷ [] → ⊥
bad_alone line [] now bad same = bad (head_same line [] [] [] same)
bad_alone line (next ∷ more) now bad same = absurd cc

not_bad : (line : List ℕ) (more : List (List ℕ)) (now : SessionState) → IsGoodText line now → (next : List ℕ) (later : List (List ℕ)) → more ≡ next ∷ later → IsBadBefore now line more → ⊥
not_bad line [] now good next later is bad = absurd cc
not_bad line (first ∷ more) now good next later is bad = bad good

-- neither run goes on
both_end : (stop stop' : Option ℕ) (now now' : SessionState) (rest : List (List ℕ)) (count : ℕ) → EndsSo stop now rest count → EndsSo stop' now' rest count → stop ≡ stop'
both_end None None now now' rest count ends ends' = refl
both_end None (Some number) now now' rest count ends ends' = absurd (bad_alone ends'.0 ends'.1 now' ends'.3 (sym ends'.2 ∙ ends))
both_end (Some number) None now now' rest count ends ends' = absurd (bad_alone ends.0 ends.1 now ends.3 (sym ends.2 ∙ ends'))
both_end (Some number) (Some number') now now' rest count ends ends' = ap (λ (n : ℕ). Some n) (ends.4 ∙ sym ends'.4)

-- one run ends where the other runs a line
one_ends : (stop : Option ℕ) (now now' next : SessionState) (rest : List (List ℕ)) (count : ℕ) (line : List ℕ) (here : Written) (first : List ℕ) (more : List (List ℕ)) →
    AreAlikeStates now' now → EndsSo stop now rest count → RunsText line now' here next → rest ≡ line ∷ (first ∷ more) → ⊥
one_ends None now now' next rest count line here first more alike ends ran is = let same : [] ∷ [] ≡ line ∷ (first ∷ more) = sym ends ∙ is in absurd cc
one_ends (Some number) now now' next rest count line here first more alike ends ran is =
    let same : ends.0 ∷ ends.1 ≡ line ∷ (first ∷ more) = sym ends.2 ∙ is in
    not_bad ends.0 ends.1 now
    (subst (λ (l : List ℕ). IsGoodText l now) (sym (head_same ends.0 line ends.1 (first ∷ more) same)) (text_good line now' now next here alike ran))
    first more (tail_same ends.0 line ends.1 (first ∷ more) same) ends.3

-- behind these lines a line stands
more_behind : (lines rest : List (List ℕ)) (line : List ℕ) (more : List (List ℕ)) → rest ≡ line ∷ more → (first : List ℕ) × (later : List (List ℕ)) × (lines ++ rest ≡ first ∷ later)
more_behind [] rest line more is = (line, more, is)
more_behind (l ∷ lines) rest line more is = (l, lines ++ rest, refl)

-- two runs of the same lines
same_run : (lines lines' rest rest' : List (List ℕ)) (s s' now now' : SessionState) (text text' : List ℕ) (stop stop' : Option ℕ) (before : ℕ) → AreAlikeStates s s' →
    lines ++ rest ≡ lines' ++ rest' → Replies s lines text now 0 → Replies s' lines' text' now' 0 →
    EndsSo stop now rest (before + length lines) → EndsSo stop' now' rest' (before + length lines') → EndsAlike stop stop' text text'
same_run [] [] rest rest' s s' now now' text text' stop stop' before alike same run run' ends ends' = record {
  texts = run.0 ∙ sym run'.0;
  stops = both_end stop stop' now now' rest (before + 0) ends (subst (λ (r : List (List ℕ)). EndsSo stop' now' r (before + 0)) (sym same) ends');
}
same_run [] (l' ∷ ls') rest rest' s s' now now' text text' stop stop' before alike same run run' ends ends' =
    let after = some_rest stop' now' rest' (before + length (l' ∷ ls')) ends' in
    let behind = more_behind ls' rest' after.0 after.1 after.2 in
    absurd (one_ends stop now s' run'.1 rest (before + 0) l' run'.0 behind.0 behind.1
    (subst (λ (x : SessionState). AreAlikeStates s' x) (sym run.1) (AreAlikeStates-sym s s' alike)) ends run'.4 (same ∙ ap (λ (ls : List (List ℕ)). l' ∷ ls) behind.2))
same_run (l ∷ ls) [] rest rest' s s' now now' text text' stop stop' before alike same run run' ends ends' =
    let after = some_rest stop now rest (before + length (l ∷ ls)) ends in
    let behind = more_behind ls rest after.0 after.1 after.2 in
    absurd (one_ends stop' now' s run.1 rest' (before + 0) l run.0 behind.0 behind.1
    (subst (λ (x : SessionState). AreAlikeStates s x) (sym run'.1) alike) ends' run.4 (sym same ∙ ap (λ (more : List (List ℕ)). l ∷ more) behind.2))
same_run (l ∷ ls) (l' ∷ ls') rest rest' s s' now now' text text' stop stop' before alike same run run' ends ends' =
    let line : l ≡ l' = head_same l l' (ls ++ rest) (ls' ++ rest') same in
    let lacks = no_refusal run.0.out_of_memory run.3 run.7 in
    let lacks' = no_refusal run'.0.out_of_memory run'.3 run'.7 in
    let here : WriteAlike run.0 run'.0 run.1 run'.1 =
    text_alike l s s' run.1 run'.1 run.0 run'.0 alike run.4 (subst (λ (t : List ℕ). RunsText t s' run'.0 run'.1) (sym line) run'.4) lacks.0 lacks'.0 in
    let count : before + length (l ∷ ls) ≡ (before + 1) + length ls = omega arith in
    let count' : before + length (l' ∷ ls') ≡ (before + 1) + length ls' = omega arith in
    let rest_alike : EndsAlike stop stop' run.2 run'.2 =
    same_run ls ls' rest rest' run.1 run'.1 now now' run.2 run'.2 stop stop' (before + 1) here.states (tail_same l l' (ls ++ rest) (ls' ++ rest') same)
    (subst (λ (n : ℕ). Replies run.1 ls run.2 now n) (sym lacks.1) run.5) (subst (λ (n : ℕ). Replies run'.1 ls' run'.2 now' n) (sym lacks'.1) run'.5)
    (subst (λ (n : ℕ). EndsSo stop now rest n) count ends) (subst (λ (n : ℕ). EndsSo stop' now' rest' n) count' ends') in
    record {
      texts = run.6 ∙ ap (λ (t : List ℕ). t ++ run.2) here.text ∙ ap (λ (t : List ℕ). run'.0.text ++ t) rest_alike.texts ∙ sym run'.6;
      stops = rest_alike.stops;
    }

-- how a script came to its text
record CameTo (script text : List ℕ) (stop : Option ℕ) : Type 0 where
  lines : List (List ℕ)
  rest : List (List ℕ)
  now : SessionState
  cut : parts 10 script ≡ lines ++ rest
  run : Replies start lines text now 0
  ends : EndsSo stop now rest (length lines)

came_to : (script text : List ℕ) (stop : Option ℕ) → ComesTo script text stop → CameTo script text stop
came_to script text None whole = record {
  lines = whole.front.lines;
  rest = [] ∷ [];
  now = whole.now;
  cut = whole.front.cut;
  run = whole.front.run;
  ends = refl;
}
came_to script text (Some number) stops = record {
  lines = stops.front.lines;
  rest = stops.line ∷ stops.more;
  now = stops.now;
  cut = stops.front.cut;
  run = stops.front.run;
  ends = (stops.line, stops.more, refl, stops.bad, stops.counted ∙ ap (λ (n : ℕ). n + 1) (sym stops.front.counted));
}

-- whatever places buffers get, a script comes to one text and one bad line
same_end : (script text other : List ℕ) (bad_line stop : Option ℕ) → ComesTo script text bad_line → ComesTo script other stop →
    (other ≡ text) × (stop ≡ bad_line)
same_end script text other bad_line stop one two =
    let came = came_to script text bad_line one in
    let came' = came_to script other stop two in
    let both : EndsAlike stop bad_line other text =
    same_run came'.lines came.lines came'.rest came.rest start start came'.now came.now other text stop bad_line 0 start_alike (sym came'.cut ∙ came.cut)
    came'.run came.run (subst (λ (n : ℕ). EndsSo stop came'.now came'.rest n) (let none : length came'.lines ≡ 0 + length came'.lines = omega arith in none) came'.ends)
    (subst (λ (n : ℕ). EndsSo bad_line came.now came.rest n) (let none : length came.lines ≡ 0 + length came.lines = omega arith in none) came.ends) in
    (both.texts, both.stops)

pub only_whole : (script text : List ℕ) (refusals : ℕ) → RunsWhole script text refusals → refusals ≡ 0 → IsOnly script text None
only_whole script text refusals whole none = λ other stop comes. same_end script text other None stop (rw none at whole) comes

pub only_stop : (script text : List ℕ) (refusals number : ℕ) → StopsBefore script text refusals number → refusals ≡ 0 → IsOnly script text (Some number)
only_stop script text refusals number stops none = λ other stop comes. same_end script text other (Some number) stop (rw none at stops) comes
