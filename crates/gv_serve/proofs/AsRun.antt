-- Where each line is answered as that of a script, the answers are the text of its run.
use Rattle.std.proofs.Common.{◌≡◌, ℕ, ◌+◌, List, [], ◌∷◌, ◌++◌, length, Option, Some, None, refl, ap, ◌∙◌, append-nil, arith, inl, inr}
use Rattle.std.specs.Prelude.{IsSomeAnd}
use Rattle.gv_lines.specs.Grammar.{parsed}
use Rattle.gv_lines.specs.ServeLine.{serve_parsed, run_or, added}
use Rattle.gv_lines.specs.declared.line.Line.{Line}
use Rattle.gv_lines.specs.declared.serve_line.ServeLine.{ServeLine}
use Rattle.gv_session.specs.State.{SessionState, start}
use Rattle.gv_session.specs.Line.{Written, Runs, RunsText}
use Rattle.gv_text.specs.Script.{Replies, RunsWhole, refusals_of}
use Rattle.gv_serve.specs.DialogueLine.{Serves, ServesText}
use Rattle.gv_serve.specs.Dialogue.{IsAnswered, AreAnswered, IsDialogue, EndsWith, others_in, following}

run_only : (o : Option Line) (other : Option ServeLine) (s t : SessionState) (w : Written) → IsSomeAnd (run_or o other) (λ said. Serves said s w t) → 0 ≡ others_in o →
    IsSomeAnd o (λ line. Runs line s w t)
run_only (Some line) other s t w serves none = serves
run_only None other s t w serves none = absurd (omega (arith, none))

text_only : (line : List ℕ) (s t : SessionState) (w : Written) → ServesText line s w t → 0 ≡ others_in (parsed line) → RunsText line s w t
unfolding serve_parsed
text_only line s t w serves none = run_only (parsed line) (added line) s t w serves none

-- a line that counts for nothing was run
served_only : (s t : SessionState) (number : ℕ) (line text : List ℕ) (others : ℕ) → IsAnswered s number line text t others → 0 ≡ others → (w : Written) × RunsText line s w t × (text ≡ w.text)
served_only s t number line text others (inl served) none = (served.written, text_only line s t served.written served.serves (none ∙ served.counted), served.text_is)
served_only s t number line text others (inr (inl refused)) none = absurd (omega (arith, none, refused.1))
served_only s t number line text others (inr (inr wanting)) none = absurd (omega (arith, none, wanting.1))

as_replies : (old new : SessionState) (first last : ℕ) (lines : List (List ℕ)) (text : List ℕ) (others : ℕ) → AreAnswered old first lines text new last others → 0 ≡ others →
    (refusals : ℕ) × Replies old lines text new refusals
as_replies old new first last [] text others answered none = (0, (answered.0, answered.1, refl))
as_replies old new first last (line ∷ lines) text others answered none =
    let here = served_only old answered.1 first line answered.0 answered.2 answered.5 (omega (arith, none, answered.8)) in
    let after = as_replies answered.1 new (following first) last lines answered.3 answered.4 answered.6 (omega (arith, none, answered.8)) in
    (refusals_of here.0.out_of_memory + after.0, (here.0, answered.1, answered.3, after.0, here.1, after.1, answered.7 ∙ ap (λ (t : List ℕ). t ++ answered.3) here.2, refl))

ends_so : (number : ℕ) (rest last : List ℕ) (others : ℕ) → EndsWith number rest last others → 0 ≡ others → (rest ≡ []) × (last ≡ [])
ends_so number [] last others ends none = (refl, ends.0)
ends_so number (c ∷ cs) last others ends none = absurd (omega (arith, none, ends.1))

-- the answers are the text of a run
pub as_run : (input text : List ℕ) (others : ℕ) → IsDialogue input text others → others ≡ 0 → (refusals : ℕ) × RunsWhole input text refusals
as_run input text others dialogue none =
    let ran = as_replies start dialogue.now 1 dialogue.number dialogue.answered.lines dialogue.front dialogue.before dialogue.answered.answered (omega (arith, none, dialogue.others_are)) in
    let ends = ends_so dialogue.number dialogue.rest dialogue.last dialogue.at_end dialogue.ended (omega (arith, none, dialogue.others_are)) in
    let text_is : text ≡ dialogue.front = dialogue.text_is ∙ ap (λ (l : List ℕ). dialogue.front ++ l) ends.1 ∙ append-nil dialogue.front in
    rw text_is (
      ran.0,
      record {
        count = length dialogue.answered.lines;
        now = dialogue.now;
        front = record {
          lines = dialogue.answered.lines;
          cut = dialogue.answered.cut ∙ ap (λ (r : List ℕ). dialogue.answered.lines ++ r ∷ []) ends.0;
          run = ran.1;
          counted = refl;
        };
      },
    )
