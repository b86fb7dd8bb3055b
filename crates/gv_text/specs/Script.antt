-- What a script does: its lines one after another, and the text of their replies.
use Rattle.std.specs.Prelude.{◌≡◌, ◌≢◌, ℕ, ◌+◌, ◌≤◌, Bool, true, false, List, [], ◌∷◌, ◌++◌, length, Option, Some, None, Result, Ok, Err, ◌⊎◌}
use Rattle.std.specs.Io.KnownBytes.{Appends}
use Rattle.gv_lines.specs.Grammar.{parsed}
use Rattle.gv_lines.specs.Words.{parts}
use Rattle.gv_lines.specs.declared.line.Line.TheVariants.{Silent}
use Rattle.gv_text.specs.Reading.{script_limit}
use Rattle.gv_session.specs.State.{SessionState, start}
use Rattle.gv_session.specs.Line.{Written, RunsText, IsGoodText}
use Rattle.gv_session.specs.declared.fault.ScriptFault.{ScriptFault}
use Rattle.gv_session.specs.declared.fault.ScriptFault.TheVariants.{BadLine, ScriptTooLong, ReadFault, WriteFault, OutOfMemory}

abbrev pub refusals_of : Bool → ℕ
refusals_of true = 1
refusals_of false = 0

-- These lines, run one after another, give this text and lead from the old state to the new; to as many of them
-- as `refusals` counts memory was refused, and they replied so.
abbrev pub Replies : SessionState → List (List ℕ) → List ℕ → SessionState → ℕ → Type 0
Replies old [] text new refusals = (text ≡ []) × (new ≡ old) × (refusals ≡ 0)
Replies old (line ∷ lines) text new refusals =
    (here : Written) × (mid : SessionState) × (after : List ℕ) × (more : ℕ)
    × RunsText line old here mid × Replies mid lines after new more
    × (text ≡ here.text ++ after) × (refusals ≡ refusals_of here.out_of_memory + more)

-- The text is the replies of a front of the script's lines, `count` of them, and the rest of the script follows:
-- lines, and at last what stands behind the last line end.
pub record IsFront (script text : List ℕ) (rest : List (List ℕ)) (count refusals : ℕ) (now : SessionState) : Type 0 where
  pub lines : List (List ℕ)
  pub cut : parts 10 script ≡ lines ++ rest
  pub run : Replies start lines text now refusals
  pub counted : length lines ≡ count

-- a line is bad: with nothing behind it, it has no line end, and is bad unless it is nothing
abbrev pub IsBadBefore : SessionState → List ℕ → List (List ℕ) → Type 0
IsBadBefore now line [] = line ≢ []
IsBadBefore now line (next ∷ more) = ¬ IsGoodText line now

-- A line that may want memory: it is not bad, and neither empty nor a comment.
pub record MayWant (text : List ℕ) (s : SessionState) : Type 0 where
  pub good : IsGoodText text s
  pub says : parsed text ≢ Some Silent

-- a line has its line end, and may want memory
abbrev pub WantsBefore : SessionState → List ℕ → List (List ℕ) → Type 0
WantsBefore now line [] = ⊥
WantsBefore now line (next ∷ more) = MayWant line now

-- The text is the replies of all lines of the script, and nothing stands behind the last line end. To so many lines memory was
-- refused.
pub record RunsWhole (script text : List ℕ) (refusals : ℕ) : Type 0 where
  pub count : ℕ
  pub now : SessionState
  pub front : IsFront script text ([] ∷ []) count refusals now

-- The text is the replies of the lines before the line of this number, counted from 1, which is the first bad one.
pub record StopsBefore (script text : List ℕ) (refusals number : ℕ) : Type 0 where
  pub line : List ℕ
  pub more : List (List ℕ)
  pub count : ℕ
  pub now : SessionState
  pub front : IsFront script text (line ∷ more) count refusals now
  pub bad : IsBadBefore now line more
  pub counted : number ≡ count + 1

-- a script may come to this text and this bad line, where no reply is want of memory
abbrev pub ComesTo : List ℕ → List ℕ → Option ℕ → Type 0
ComesTo script text None = RunsWhole script text 0
ComesTo script text (Some number) = StopsBefore script text 0 number

-- and to nothing else
abbrev pub IsOnly : List ℕ → List ℕ → Option ℕ → Type 0
IsOnly script text bad_line =
    (other : List ℕ) (stop : Option ℕ) → ComesTo script other stop → (other ≡ text) × (stop ≡ bad_line)

-- The text is that of a run of the whole script. Where no reply is want of memory, the script comes to nothing else.
pub record IsRun (script text : List ℕ) : Type 0 where
  pub short : length script ≤ script_limit
  pub refusals : ℕ
  pub whole : RunsWhole script text refusals
  pub ample : refusals ≡ 0 → IsOnly script text None

-- The text is that of a run of the lines before the first bad one, which has this number. Where no reply is want of memory, the
-- script comes to nothing else.
pub record StopsAt (script text : List ℕ) (number : ℕ) : Type 0 where
  pub short : length script ≤ script_limit
  pub refusals : ℕ
  pub stops : StopsBefore script text refusals number
  pub ample : refusals ≡ 0 → IsOnly script text (Some number)

-- The text is the replies of some first lines, each with its line end. They are none, or the next line may want memory.
pub record IsStart (script text : List ℕ) : Type 0 where
  pub short : length script ≤ script_limit
  pub next : List ℕ
  pub more : List (List ℕ)
  pub count : ℕ
  pub refusals : ℕ
  pub now : SessionState
  pub front : IsFront script text (next ∷ more) count refusals now
  pub good : (count ≡ 0) ⊎ WantsBefore now next more

-- What a run of this script may answer, with what was written before it and after it.
abbrev pub Ends : {T : Type 0} → List ℕ → Option (List ℕ) → Option (List ℕ) → Result T ScriptFault → Type 0
Ends script held holds (Ok done) = (text : List ℕ) × IsRun script text × Appends held holds text
Ends script held holds (Err (BadLine number)) = (text : List ℕ) × StopsAt script text number × Appends held holds text
Ends script held holds (Err OutOfMemory) = (text : List ℕ) × IsStart script text × Appends held holds text
Ends script held holds (Err WriteFault) = Unit {0}
Ends script held holds (Err ReadFault) = ⊥
Ends script held holds (Err ScriptTooLong) = ⊥

-- The same for the line of this number, run on a state.
abbrev pub LineEnds : {T : Type 0} → SessionState → List ℕ → ℕ → SessionState → Option (List ℕ) → Option (List ℕ) → Result T ScriptFault → Type 0
LineEnds old line number new held holds (Ok done) =
    (here : Written) × RunsText line old here new × Appends held holds here.text
LineEnds old line number new held holds (Err (BadLine bad)) =
    (¬ IsGoodText line old) × (bad ≡ number) × Appends held holds []
LineEnds old line number new held holds (Err OutOfMemory) = MayWant line old × Appends held holds []
LineEnds old line number new held holds (Err WriteFault) = Unit {0}
LineEnds old line number new held holds (Err ReadFault) = ⊥
LineEnds old line number new held holds (Err ScriptTooLong) = ⊥
