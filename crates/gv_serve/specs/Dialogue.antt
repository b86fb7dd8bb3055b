-- A dialogue: lines that are answered one after another.
use Rattle.std.specs.Prelude.{◌≡◌, ◌≢◌, ℕ, ◌+◌, ◌-◌, ◌^◌, ◌≤◌, min, Bool, true, false, List, [], ◌∷◌, ◌++◌, length, codes, decimal, Option, Some, None, Result, Ok, Err, ◌⊎◌, ◌==◌}
use Rattle.std.specs.List.{list_any}
use Rattle.std.specs.Io.KnownBytes.{Appends, Consumes, IsAtEnd}
use Rattle.gv_lines.specs.Grammar.{parsed}
use Rattle.gv_lines.specs.ServeLine.{serve_parsed}
use Rattle.gv_lines.specs.Words.{parts}
use Rattle.gv_lines.specs.declared.line.Line.{Line}
use Rattle.gv_lines.specs.declared.line.Line.TheVariants.{Silent}
use Rattle.gv_lines.specs.declared.serve_line.ServeLine.TheVariants.{Run}
use Rattle.gv_session.specs.Line.{Written}
use Rattle.gv_session.specs.Texts.{reply}
use Rattle.gv_session.specs.State.{SessionState, start}
use Rattle.gv_serve.specs.DialogueLine.{ServesText, IsGoodText, LeavesText}
use Rattle.gv_serve.specs.Partial.{line_limit}
use Rattle.gv_serve.specs.declared.fault.ServeFault.{ServeFault}
use Rattle.gv_serve.specs.declared.fault.ServeFault.TheVariants.{ReadFault, WriteFault, OutOfMemory}

-- the number of the line behind that with this number; no number is above the greatest of 64 bits
abbrev pub following : ℕ → ℕ
following number = min (number + 1) (2 ^ 64 - 1)

-- a line is not too long, is of a dialogue, and is not bad
abbrev pub IsGoodLine : List ℕ → SessionState → Type 0
IsGoodLine line s = (length line ≤ line_limit) × IsGoodText line s

-- a line counts here where a script does not have it
abbrev pub others_in : Option Line → ℕ
others_in (Some line) = 0
others_in None = 1

-- A line was carried out.
pub record IsServed (s : SessionState) (line text : List ℕ) (t : SessionState) (others : ℕ) : Type 0 where
  pub written : Written
  pub serves : ServesText line s written t
  pub text_is : text ≡ written.text
  pub counted : others ≡ others_in (parsed line)

-- the reply to a bad line: its number, and a reason of one line
abbrev pub IsBadReply : ℕ → List ℕ → Type 0
IsBadReply number text =
    (reason : List ℕ) × (list_any (λ b. b == 10) reason ≡ false)
    × (text ≡ reply (codes "bad line " ∷ decimal number ∷ codes ": " ∷ reason ∷ []))

-- A bad line changes nothing.
pub record IsRefused (s : SessionState) (number : ℕ) (line text : List ℕ) (t : SessionState) : Type 0 where
  pub bad : ¬ IsGoodLine line s
  pub replied : IsBadReply number text
  pub state : t ≡ s

abbrev pub no_memory_reply : List ℕ
no_memory_reply = reply (codes "out of memory" ∷ [])

-- A line wanted memory: it is not bad, and neither empty nor a comment.
pub record RanOutOfMemory (s : SessionState) (line text : List ℕ) (t : SessionState) : Type 0 where
  pub good : IsGoodLine line s
  pub says : serve_parsed line ≢ Some (Run Silent)
  pub stopped : LeavesText line s t
  pub text_is : text ≡ no_memory_reply

-- The answer to a line. `others` is 0 where the line was run as that of a script.
abbrev pub IsAnswered : SessionState → ℕ → List ℕ → List ℕ → SessionState → ℕ → Type 0
IsAnswered s number line text t others =
    IsServed s line text t others ⊎ (IsRefused s number line text t × (others ≡ 1)) ⊎ (RanOutOfMemory s line text t × (others ≡ 1))

-- These lines, of which the first has this number, are answered by this text, one after another, and lead from the old state to
-- the new; the next line has the last number. So many are not run as those of a script.
abbrev pub AreAnswered : SessionState → ℕ → List (List ℕ) → List ℕ → SessionState → ℕ → ℕ → Type 0
AreAnswered old number [] text new last others = (text ≡ []) × (new ≡ old) × (last ≡ number) × (others ≡ 0)
AreAnswered old number (line ∷ lines) text new last others =
    (here : List ℕ) × (mid : SessionState) × (one : ℕ) × (after : List ℕ) × (more : ℕ)
    × IsAnswered old number line here mid one × AreAnswered mid (following number) lines after new last more
    × (text ≡ here ++ after) × (others ≡ one + more)

-- The text answers a front of the input's lines, and the rest of the input follows: lines, and at last what stands behind the
-- last line end.
pub record IsFront (input text : List ℕ) (rest : List (List ℕ)) (number others : ℕ) (now : SessionState) : Type 0 where
  pub lines : List (List ℕ)
  pub cut : parts 10 input ≡ lines ++ rest
  pub answered : AreAnswered start 1 lines text now number others

-- What stands behind the last line end, if it is anything, is a bad line.
abbrev pub EndsWith : ℕ → List ℕ → List ℕ → ℕ → Type 0
EndsWith number [] text others = (text ≡ []) × (others ≡ 0)
EndsWith number (c ∷ cs) text others = IsBadReply number text × (others ≡ 1)

-- The text answers all lines of the input, and what stands behind the last line end.
pub record IsDialogue (input text : List ℕ) (others : ℕ) : Type 0 where
  pub front : List ℕ
  pub rest : List ℕ
  pub number : ℕ
  pub before : ℕ
  pub now : SessionState
  pub answered : IsFront input front (rest ∷ []) number before now
  pub last : List ℕ
  pub at_end : ℕ
  pub ended : EndsWith number rest last at_end
  pub text_is : text ≡ front ++ last
  pub others_are : others ≡ before + at_end

-- The text answers all lines of the input that have their line end.
pub record IsBroken (input text : List ℕ) : Type 0 where
  pub rest : List ℕ
  pub number : ℕ
  pub others : ℕ
  pub now : SessionState
  pub answered : IsFront input text (rest ∷ []) number others now

-- no more reads than this are asked for
abbrev pub most_reads : ℕ
most_reads = 2 ^ 64 - 1

-- the input is at its end, or so many reads have each given a byte
abbrev pub IsReadToEnd : Option (List ℕ) → List ℕ → Type 0
IsReadToEnd remaining input = IsAtEnd remaining ⊎ (most_reads ≤ length input)

-- A failed read is the answer exactly where the reader's flag goes up. The flag is given before and after.
abbrev pub TellsReads : {T : Type 0} → Bool → Bool → Result T ServeFault → Type 0
TellsReads old new (Err ReadFault) = new ≡ true
TellsReads old new (Err WriteFault) = new ≡ old
TellsReads old new (Err OutOfMemory) = new ≡ old
TellsReads old new (Ok done) = new ≡ old

-- A failed write is the answer exactly where the writer's flag goes up. The flag is given before and after.
abbrev pub TellsWrites : {T : Type 0} → Bool → Bool → Result T ServeFault → Type 0
TellsWrites old new (Err WriteFault) = new ≡ true
TellsWrites old new (Err ReadFault) = new ≡ old
TellsWrites old new (Err OutOfMemory) = new ≡ old
TellsWrites old new (Ok done) = new ≡ old
