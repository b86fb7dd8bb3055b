-- The first request or question that names a buffer which isn't declared.
use Rattle.std.proofs.Common.{◌≡◌, ℕ, zero, suc, ◌+◌, ◌<◌, List, [], ◌∷◌, ◌++◌, length, take, drop, get_or, refl, sym, ap, subst, Option, Some, None, IsSome, is_some, true, false, true≢false, ◌∙◌, arith}
use Rattle.std.specs.List.{All}
use Rattle.std.proofs.lemmas.List.Elements.{All-nil, All-cons, All-append}
use Rattle.gv_types.specs.declared.mapping.BufferId.{BufferId}
use Rattle.gv_lines.specs.declared.line.Line.{Line}
use Rattle.gv_lines.specs.declared.line.Line.TheVariants as line
use Rattle.gv_sync.specs.Seats.{SeatState}
use Rattle.gv_vm.specs.State.{VmState}
use Rattle.gv_session.specs.Requests.{op_named}
use Rattle.gv_session.specs.Line.{IsGood, Of}
use Rattle.gv_session.specs.Question.{with_vm}
use Rattle.gv_session.specs.Faults.{fault_at}
use Rattle.gv_session.specs.State.{Buffers, SessionState, buffer_named, start, timeline_named}
use Rattle.gv_session.specs.declared.fault.LineFault.{LineFault}
use Rattle.gv_session.specs.declared.fault.LineFault.TheVariants.{Bad, OutOfMemory}
use Rattle.gv_session.specs.declared.fault.ScriptFault.{ScriptFault}
use Rattle.gv_session.specs.declared.fault.ScriptFault.TheVariants.{BadLine}
use Rattle.gv_threads.specs.Naming.{HasBuffer, HasNames, IsFirstBad}
use Rattle.gv_threads.specs.Parts.{IsAsked, unnumbered}
use Rattle.gv_threads.specs.Running.{IsAnswered}
use Rattle.gv_threads.proofs.OneLineMore.{unnumbered_next}

split_at : {X : Type 0} (xs : List X) (k : ℕ) (x : X) → k < length xs → x ≡ get_or xs k x → xs ≡ take k xs ++ x ∷ drop (suc k) xs
split_at [] k x below is = absurd (omega (arith, below))
split_at (y ∷ xs) zero x below is = ap (λ (z : _). z ∷ xs) (sym is)
split_at (y ∷ xs) (suc k) x below is = ap (λ (l : List _). y ∷ l) (split_at xs k x (omega (arith, below)) is)

pub first_bad : {X : Type 0} (holds : X → Type 0) (entries : List (ℕ × X)) (k : ℕ) (entry : ℕ × X) → k < length entries → entry ≡ get_or entries k entry →
    All holds (unnumbered (take k entries)) → ¬ holds entry.1 → IsFirstBad holds entries entry.0
first_bad holds entries k entry below is good bad = record {
  before = take k entries;
  entry = entry.1;
  after = drop (suc k) entries;
  split = split_at entries k entry below is;
  good = good;
  bad = bad;
}

pub good_next : {X : Type 0} (holds : X → Type 0) (entries : List (ℕ × X)) (k : ℕ) (entry : ℕ × X) → k < length entries → entry ≡ get_or entries k entry →
    All holds (unnumbered (take k entries)) → holds entry.1 → All holds (unnumbered (take (k + 1) entries))
good_next holds entries k entry below is good here =
    subst (λ (xs : List _). All holds xs) (sym (unnumbered_next entries k entry below is))
    (All-append holds (unnumbered (take k entries)) (entry.1 ∷ []) good (All-cons holds entry.1 [] here (All-nil holds)))

some_of : {X : Type 0} (o p : Option X) → o ≡ p → is_some o ≡ true → IsSome p
some_of o p same is = ap is_some (sym same) ∙ is

not_some : {X : Type 0} (o : Option X) → is_some o ≡ false → ¬ IsSome o
not_some o is h = true≢false (sym h ∙ is)

-- the buffer that a question names isn't declared
pub lacks_buffer : (q : Line) (name : List ℕ) (buffers : Buffers) (o : Option BufferId) → q ≡ line.Uses name → o ≡ buffer_named buffers name → is_some o ≡ false → ¬ HasBuffer buffers q
lacks_buffer q name buffers o is found none has =
    not_some (buffer_named buffers name) (ap is_some (sym found) ∙ none) (subst (λ (l : Line). HasBuffer buffers l) is has)

-- it is declared
pub has_buffer : (q : Line) (name : List ℕ) (buffers : Buffers) (o : Option BufferId) → q ≡ line.Uses name → o ≡ buffer_named buffers name → is_some o ≡ true → HasBuffer buffers q
has_buffer q name buffers o is found some = subst (λ (l : Line). HasBuffer buffers l) (sym is) (some_of o (buffer_named buffers name) found some)

-- it names none
pub has_other : (q : Line) (buffers : Buffers) → ((name : List ℕ) → q ≡ line.Uses name → ⊥) → HasBuffer buffers q
has_other (line.Uses name) buffers other = absurd (other name refl)
has_other q buffers other = tt

of_some : {X : Type 0} (o : Option X) (P : X → Type 0) → Of o P → IsSome o
of_some None P h = absurd h
of_some (Some x) P h = refl

-- a question that was answered has its names
pub answered_has : (q : Line) (buffers : Buffers) (timelines : List (List ℕ)) (m : VmState) (old new : SeatState) (text : List ℕ) →
    IsAnswered buffers timelines m old q text new → HasNames buffers timelines q
answered_has (line.Value name) buffers timelines m old new text answer = of_some (timeline_named timelines name) _ answer
answered_has (line.Uses name) buffers timelines m old new text answer = of_some (buffer_named buffers name) _ (answer.0 start)
answered_has (line.Plan operation) buffers timelines m old new text answer = of_some (op_named buffers operation) _ (answer.0 start)
answered_has (line.Told queue) buffers timelines m old new text answer = (answer.0 start).0
answered_has q buffers timelines m old new text answer = tt

-- a question that has its names isn't bad
pub has_good : (q : Line) (buffers : Buffers) (timelines : List (List ℕ)) (m : VmState) (s : SessionState) → IsAsked q → ((name : List ℕ) → q ≡ line.Value name → ⊥) →
    HasNames buffers timelines q → IsGood q (with_vm buffers timelines m s)
has_good (line.Value name) buffers timelines m s asked other has = absurd (other name refl)
has_good (line.Uses name) buffers timelines m s asked other has = has
has_good (line.Plan operation) buffers timelines m s asked other has = has
has_good line.Map buffers timelines m s asked other has = tt
has_good (line.At addr) buffers timelines m s asked other has = tt
has_good line.Tables buffers timelines m s asked other has = tt
has_good line.Journal buffers timelines m s asked other has = tt
has_good (line.Told queue) buffers timelines m s asked other has = has
has_good q buffers timelines m s asked other has = absurd asked

-- a bad line is told by its number
pub bad_at : (number line : ℕ) (fault : LineFault) (told : ScriptFault) → told ≡ fault_at number fault → told ≡ BadLine line → (fault ≡ Bad) × (number ≡ line)
bad_at number line Bad told is same = let here : number ≡ line = cc in (refl, here)
bad_at number line OutOfMemory told is same = absurd (cc)
