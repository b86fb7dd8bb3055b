-- Parts of a script that are longer by one line.
use Rattle.std.proofs.Common.{◌≡◌, ℕ, ◌+◌, ◌<◌, List, [], ◌∷◌, ◌++◌, length, take, get_or, refl, sym, ap, ◌∙◌, subst, append_assoc, append-nil}
use Rattle.std.proofs.lemmas.List.{take_more, map-append}
use Rattle.gv_types.specs.declared.request.Request.{Request}
use Rattle.gv_sync.specs.Seats.{SeatState}
use Rattle.gv_vm.specs.State.{VmState}
use Rattle.gv_lines.specs.declared.clause.Clause.{Clause}
use Rattle.gv_lines.specs.declared.line.Line.{Line}
use Rattle.gv_session.specs.State.{Buffers}
use Rattle.gv_threads.specs.Parts.{unnumbered}
use Rattle.gv_threads.specs.Running.{AreAnswered, AreNamed, IsAnswered, IsNamed, Ready, SetsUp, SetUpAll}
use Rattle.gv_threads.specs.declared.setting.SetupLine.{SetupLine}

-- one line more was carried out
pub set_up_more : (timelines : List (List ℕ)) (settings : List SetupLine) (setting : SetupLine) (old mid new : Ready) (text here : List ℕ) →
    SetUpAll timelines settings old text mid → SetsUp timelines setting mid here new →
    SetUpAll timelines (settings ++ setting ∷ []) old (text ++ here) new
set_up_more timelines [] setting old mid new text here before ran = (
  here,
  [],
  new,
  subst (λ (r : Ready). SetsUp timelines setting r here new) before.1 ran,
  (refl, refl),
  ap (λ (bytes : List ℕ). bytes ++ here) before.0 ∙ sym (append-nil here),
)
set_up_more timelines (first ∷ settings) setting old mid new text here before ran = (
  before.0,
  before.1 ++ here,
  before.2,
  before.3,
  set_up_more timelines settings setting before.2 mid new before.1 here before.4 ran,
  ap (λ (bytes : List ℕ). bytes ++ here) before.5 ∙ append_assoc before.0 before.1 here,
)

-- one line more was answered
pub answered_more : (buffers : Buffers) (timelines : List (List ℕ)) (m : VmState) (old mid new : SeatState) (questions : List Line) (question : Line) (text here : List ℕ) →
    AreAnswered buffers timelines m old questions text mid → IsAnswered buffers timelines m mid question here new →
    AreAnswered buffers timelines m old (questions ++ question ∷ []) (text ++ here) new
answered_more buffers timelines m old mid new [] question text here before answer = (
  here,
  [],
  new,
  subst (λ (s : SeatState). IsAnswered buffers timelines m s question here new) before.1 answer,
  (refl, refl),
  ap (λ (bytes : List ℕ). bytes ++ here) before.0 ∙ sym (append-nil here),
)
answered_more buffers timelines m old mid new (first ∷ questions) question text here before answer = (
  before.0,
  before.1 ++ here,
  before.2,
  before.3,
  answered_more buffers timelines m before.2 mid new questions question before.1 here before.4 answer,
  ap (λ (bytes : List ℕ). bytes ++ here) before.5 ∙ append_assoc before.0 before.1 here,
)

-- one request more was made
pub named_more : (buffers : Buffers) (timelines : List (List ℕ)) (lines : List (List Clause)) (clauses : List Clause) (entries : List (ℕ × Request)) (entry : ℕ × Request) →
    AreNamed buffers timelines lines entries → IsNamed buffers timelines clauses entry →
    AreNamed buffers timelines (lines ++ clauses ∷ []) (entries ++ entry ∷ [])
named_more buffers timelines [] clauses [] entry before here = (here, tt)
named_more buffers timelines [] clauses (e ∷ entries) entry before here = absurd before
named_more buffers timelines (l ∷ lines) clauses [] entry before here = absurd before
named_more buffers timelines (l ∷ lines) clauses (e ∷ entries) entry before here =
    (before.0, named_more buffers timelines lines clauses entries entry before.1 here)

-- the first lines, and the one behind them, without their numbers
pub unnumbered_more : {X : Type 0} (entries : List (ℕ × X)) (k : ℕ) (entry : ℕ × X) → k < length entries →
    unnumbered (take (k + 1) entries) ≡ unnumbered (take k entries) ++ (get_or entries k entry).1 ∷ []
unnumbered_more entries k entry below =
    ap unnumbered (take_more entries k entry below) ∙ map-append (λ e. e.1) (take k entries) (get_or entries k entry ∷ [])

pub unnumbered_next : {X : Type 0} (entries : List (ℕ × X)) (k : ℕ) (entry : ℕ × X) → k < length entries → entry ≡ get_or entries k entry →
    unnumbered (take (k + 1) entries) ≡ unnumbered (take k entries) ++ entry.1 ∷ []
unnumbered_next entries k entry below is =
    unnumbered_more entries k entry below ∙ ap (λ (e : ℕ × _). unnumbered (take k entries) ++ e.1 ∷ []) (sym is)
