-- Questions of the last part.
use Rattle.std.proofs.Common.{◌≡◌, ℕ, ◌<◌, List, length, get_or, refl, sym, ap, ◌∙◌, subst}
use Rattle.std.specs.List.{All}
use Rattle.std.proofs.lemmas.List.{get_or-map, length-map}
use Rattle.gv_sync.specs.Seats.{SeatState}
use Rattle.gv_vm.specs.State.{VmState}
use Rattle.gv_lines.specs.declared.line.Line.{Line}
use Rattle.gv_lines.specs.declared.line.Line.TheVariants as line
use Rattle.gv_session.specs.State.{Buffers, BufferNamesState}
use Rattle.gv_session.specs.Question.{IsAnswer, IsQuestion}
use Rattle.gv_threads.specs.Parts.{IsAsked, unnumbered}
use Rattle.gv_threads.specs.Running.{IsAnswered}

-- a question that is not for a number is one of the address space
pub is_question : (q : Line) → IsAsked q → ((name : List ℕ) → q ≡ line.Value name → ⊥) → IsQuestion q
is_question (line.Value name) asked other = absurd (other name refl)
is_question q asked other = asked

pub is_answered : (q : Line) (buffers : Buffers) (timelines : List (List ℕ)) (m : VmState) (seat : SeatState) (text : List ℕ) → ((name : List ℕ) → q ≡ line.Value name → ⊥) →
    IsAnswer q buffers timelines m text → IsAnswered buffers timelines m seat q text seat
is_answered (line.Value name) buffers timelines m seat text other answer = absurd (other name refl)
is_answered q buffers timelines m seat text other answer = (answer, refl)

pub asked_at : (entries : List (ℕ × Line)) (k : ℕ) (e : ℕ × Line) → k < length entries → e ≡ get_or entries k e → All IsAsked (unnumbered entries) → IsAsked e.1
asked_at entries k e below is all =
    subst IsAsked (get_or-map (λ x. x.1) entries k e e.1 below ∙ ap (λ (x : ℕ × Line). x.1) (sym is))
    (all k e.1 (subst (λ (n : ℕ). k < n) (sym (length-map entries (λ x. x.1))) below))

-- the same is answered of the same names and the same address space
pub same_answer : (q : Line) (b b' : BufferNamesState) (timelines : List (List ℕ)) (m m' : VmState) (old new : SeatState) (text : List ℕ) → b ≡ b' → m ≡ m' →
    IsAnswered b.entries timelines m old q text new → IsAnswered b'.entries timelines m' old q text new
same_answer q b b' timelines m m' old new text same_names same_vm answer =
    subst (λ (x : VmState). IsAnswered b'.entries timelines x old q text new) same_vm
    (subst (λ (x : BufferNamesState). IsAnswered x.entries timelines m old q text new) same_names answer)
