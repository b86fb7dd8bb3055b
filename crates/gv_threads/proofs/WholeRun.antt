-- What comes back from running queues, and the text of a whole run.
use Rattle.std.proofs.Common.{◌≡◌, ◌∙◌, ◌++◌, [], ℕ, List, Result, Ok, IfOk, ap, refl, subst}
use Rattle.gv_types.specs.Bounds.{BoundsState}
use Rattle.gv_types.specs.Limits.{LimitsState}
use Rattle.gv_types.specs.declared.request.Point.{Point}
use Rattle.gv_types.specs.declared.request.Request.{Request}
use Rattle.gv_sync.specs.Seats.{SeatState}
use Rattle.gv_vm.specs.State.{VmState, new_vm}
use Rattle.gv_lines.specs.declared.clause.Clause.{Clause}
use Rattle.gv_lines.specs.declared.line.Line.{Line}
use Rattle.gv_session.specs.State.{Buffers}
use Rattle.gv_queues.specs.declared.finishing.QueueEnd.{QueueEnd}
use Rattle.gv_queues.specs.Driving.{AreSomeOf, requests_on}
use Rattle.gv_queues.specs.Ending.{AreCountedEnds}
use Rattle.gv_queues.specs.SeatSplits.{ComesBack, after_splits}
use Rattle.gv_queues.specs.declared.finishing.QueuesFault.{QueuesFault}
use Rattle.gv_threads.specs.Parts.{Keeps, area_of, limits_of, questions_of, requests_of, settings_of, timelines_of, unnumbered}
use Rattle.gv_threads.specs.Running.{AreEndsOn, AreNamed, IsRestOfRun, IsTextOf, Ready, SetUpAll, begun_by}
use Rattle.gv_threads.specs.Script.{ThreadsScriptState}
use Rattle.gv_threads.specs.declared.setting.SetupLine.{SetupLine}

pub of_ok : {A E : Type 0} (r : Result A E) (a : A) (P : A → Type 0) → r ≡ Ok a → IfOk r P → P a
of_ok r a P is p = subst (λ (x : Result _ _). IfOk x P) is p

pub ends_on : (m : VmState) (count : ℕ → ℕ) (asked requests : List (ℕ × Request)) (ends : List QueueEnd) → asked ≡ requests
    → AreCountedEnds m count (λ queue put. AreSomeOf (requests_on queue asked) put) ends → AreEndsOn m requests ends
ends_on m count asked requests ends same counted = λ queue d below.
    let h = counted queue d below in record {
      each = h.each;
      told = h.told;
      put = h.put;
      some = subst (λ (es : List (ℕ × Request)). AreSomeOf (requests_on queue es) h.put) same h.allowed;
      many = h.many;
    }

-- the seat that was lent comes back after the splits, and a driver that takes no step took none
pub seat_back : {T : Type 0} (r : Result T QueuesFault) (ends : T) (count : ℕ) (steps : SeatState → SeatState → Type 0) (old new : SeatState) → r ≡ Ok ends →
    ComesBack count steps old new r → steps (after_splits old count) new
seat_back r ends count steps old new is back = subst (λ (x : Result _ QueuesFault). ComesBack count steps old new x) is back

-- the parts of a script's text are those of its lines
pub text_of : (lines : List Line) (s after : ThreadsScriptState) (begins ready : Ready) (requests : List (ℕ × Request)) (count : ℕ) (first rest : List ℕ) →
    Keeps lines s → after ≡ record s { settings = [] } → SetUpAll s.timelines (unnumbered s.settings) begins first ready →
    AreNamed ready.buffers s.timelines (unnumbered s.requests) requests →
    IsRestOfRun ready after.timelines requests (unnumbered after.questions) count rest → IsTextOf lines begins count (first ++ rest)
text_of lines s after begins ready requests count first rest keeps same sets_up named served =
    let timelines : after.timelines ≡ timelines_of lines = ap (λ (a : ThreadsScriptState). a.timelines) same ∙ keeps.timelines in
    let questions : unnumbered after.questions ≡ questions_of lines = ap (λ (a : ThreadsScriptState). unnumbered a.questions) same ∙ keeps.questions in
    record {
      first = first;
      ready = ready;
      sets_up = subst (λ (ts : List (List ℕ)). SetUpAll ts (settings_of lines) begins first ready) keeps.timelines
          (subst (λ (xs : List SetupLine). SetUpAll s.timelines xs begins first ready) keeps.settings sets_up);
      requests = requests;
      named = subst (λ (ts : List (List ℕ)). AreNamed ready.buffers ts (requests_of lines) requests) keeps.timelines
          (subst (λ (xs : List (List Clause)). AreNamed ready.buffers s.timelines xs requests) keeps.requests named);
      rest = rest;
      served = subst (λ (ts : List (List ℕ)). IsRestOfRun ready ts requests (questions_of lines) count rest) timelines
          (subst (λ (xs : List Line). IsRestOfRun ready after.timelines requests xs count rest) questions served);
      text_is = refl;
    }

-- nothing is declared and nothing done
pub begins_as : (lines : List Line) (m : VmState) (buffers : Buffers) (raises : List Point) (area : BoundsState) (limits : LimitsState) → m ≡ new_vm area limits →
    area ≡ area_of lines → limits ≡ limits_of lines → buffers ≡ [] → raises ≡ [] → record { vm = m; buffers = buffers; raises = raises } ≡ begun_by lines
begins_as lines m buffers raises area limits new of_area of_limits none no_raises =
    ap (λ (x : VmState). let r : Ready = record { vm = x; buffers = buffers; raises = raises } in r)
    (new ∙ ap (λ (a : BoundsState). new_vm a limits) of_area ∙ ap (λ (c : LimitsState). new_vm (area_of lines) c) of_limits)
    ∙ ap (λ (x : Buffers). let r : Ready = record (begun_by lines) { buffers = x; raises = raises } in r) none
    ∙ ap (λ (x : List Point). let r : Ready = record (begun_by lines) { raises = x } in r) no_raises
