-- One more line of a script has run.
use Rattle.std.proofs.Common.{◌≡◌, ℕ, ◌+◌, ◌≤◌, length, List, [], ◌∷◌, ◌++◌, Option, Some, None, IfSome, refl, sym, ap, inl, ◌∙◌, append_assoc, append-nil, length-append, arith}
use Rattle.std.specs.Io.KnownBytes.{Appends, append_known}
use Rattle.std.proofs.KnownBytes.{Appends-nil}
use Rattle.gv_lines.specs.Words.{parts}
use Rattle.gv_lines.proofs.PartsLemmas.{parts_some}
use Rattle.gv_text.specs.Reading.{script_limit, AreShort}
use Rattle.gv_session.specs.State.{SessionState, start}
use Rattle.gv_session.specs.Line.{Written, RunsText}
use Rattle.gv_text.specs.Script.{Replies, IsFront, IsStart, refusals_of}

Replies-more : (old mid new : SessionState) (lines : List (List ℕ)) (line text : List ℕ) (here : Written) (refusals : ℕ) →
    Replies old lines text mid refusals → RunsText line mid here new →
    Replies old (lines ++ line ∷ []) (text ++ here.text) new (refusals + refusals_of here.out_of_memory)
Replies-more old mid new [] line text here refusals before ran = (
  here,
  new,
  [],
  0,
  rw before.1 at ran,
  (refl, refl, refl),
  rw (before.0, append-nil) refl,
  omega (arith, before.2),
)
Replies-more old mid new (first ∷ lines) line text here refusals before ran = (
  before.0,
  before.1,
  before.2 ++ here.text,
  before.3 + refusals_of here.out_of_memory,
  before.4,
  Replies-more before.1 mid new lines line before.2 here before.3 before.5 ran,
  rw before.6 (append_assoc before.0.text before.2 here.text),
  omega (arith, before.7),
)

-- before the first line
pub front_start : (script : List ℕ) → IsFront script [] (parts 10 script) 0 0 start
front_start script = record { lines = []; cut = refl; run = (refl, refl, refl); counted = refl }

pub front_more : (script text line : List ℕ) (here : Written) (rest : List (List ℕ)) (count refusals : ℕ) (now new : SessionState) →
    IsFront script text (line ∷ rest) count refusals now → RunsText line now here new →
    IsFront script (text ++ here.text) rest (count + 1) (refusals + refusals_of here.out_of_memory) new
front_more script text line here rest count refusals now new front ran = record {
  lines = front.lines ++ line ∷ [];
  cut = front.cut ∙ sym (append_assoc front.lines (line ∷ []) rest);
  run = Replies-more start now new front.lines line text here refusals front.run ran;
  counted = simp length-append (omega (arith, front.counted));
}

pub keeps_pending : (known : Option (List ℕ)) (pending : List ℕ) → pending ≡ [] → Appends known (append_known known pending) []
keeps_pending None pending none = tt
keeps_pending (Some bytes) pending none = ap (λ (rest : List ℕ). bytes ++ rest) none

-- nothing has run of this script
pub nothing_ran : (script : List ℕ) (known : Option (List ℕ)) (pending : List ℕ) → length script ≤ script_limit → pending ≡ [] →
    (text : List ℕ) × IsStart script text × Appends known (append_known known pending) text
nothing_ran script known pending short none =
    (elim (parts 10 script) as (λ (ps : List (List ℕ)). parts 10 script ≡ ps → (text : List ℕ) × IsStart script text × Appends known (append_known known pending) text) [
      | [] ↦ λ nothing. absurd (parts_some 10 script nothing)
      | next ∷ more ↦ λ is. ([], record { short = short; next = next; more = more; count = 0; refusals = 0; now = start; front = rw is at (front_start script); good = inl refl }, keeps_pending known pending none)
    ]) refl

-- nothing has run of what was read
pub nothing_run : (known held : Option (List ℕ)) → AreShort known →
    (script text : List ℕ) × IfSome known (λ bytes. script ≡ bytes) × IsStart script text × Appends held held text
nothing_run None held short = ([], [], tt, record { short = omega arith; next = []; more = []; count = 0; refusals = 0; now = start; front = front_start []; good = inl refl }, Appends-nil held)
nothing_run (Some bytes) held short =
    (elim (parts 10 bytes) as (λ (ps : List (List ℕ)). parts 10 bytes ≡ ps → (script text : List ℕ) × (script ≡ bytes) × IsStart script text × Appends held held text) [
      | [] ↦ λ none. absurd (parts_some 10 bytes none)
      | next ∷ more ↦ λ is. (bytes, [], refl, record { short = short; next = next; more = more; count = 0; refusals = 0; now = start; front = rw is at (front_start bytes); good = inl refl }, Appends-nil held)
    ]) refl
