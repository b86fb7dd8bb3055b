-- How far a dialogue has come. No public clause cites this module.
use Rattle.std.specs.Prelude.{ℕ, List, [], ◌∷◌, ◌++◌}
use Rattle.gv_lines.specs.Words.{parts}
use Rattle.gv_session.specs.State.{SessionState}
use Rattle.gv_serve.specs.Dialogue.{IsFront}
use Rattle.gv_serve.specs.Partial.{PartialState, Holds}

-- All lines of the input are answered, and what stands behind the last line end is kept.
pub record HasAnswered (input text : List ℕ) (now : SessionState) (number : ℕ) (partial : PartialState) : Type 0 where
  pub line : List ℕ
  pub others : ℕ
  pub front : IsFront input text (line ∷ []) number others now
  pub kept : Holds partial line

-- these bytes in front of the first part
abbrev pub glued : List ℕ → List (List ℕ) → List (List ℕ)
glued line [] = line ∷ []
glued line (part ∷ parts) = (line ++ part) ∷ parts

-- The same, where the last bytes of the input are still to be heard.
pub record HasAnsweredUpTo (input text : List ℕ) (now : SessionState) (number : ℕ) (partial : PartialState) (remaining : List ℕ) : Type 0 where
  pub line : List ℕ
  pub others : ℕ
  pub front : IsFront input text (glued line (parts 10 remaining)) number others now
  pub kept : Holds partial line

-- these bytes are heard behind any input, and answered by this text
abbrev pub AnswersBytes : SessionState → ℕ → PartialState → List ℕ → List ℕ → SessionState → ℕ → PartialState → Type 0
AnswersBytes old number partial bytes text new last kept =
    (input before : List ℕ) → HasAnswered input before old number partial → HasAnswered (input ++ bytes) (before ++ text) new last kept
