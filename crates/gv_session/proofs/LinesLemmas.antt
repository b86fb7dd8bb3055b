-- Lines of one event, and questions: what they do and write.
use Rattle.std.proofs.Common.{◌≡◌, ℕ, List, [], ◌∷◌, ◌++◌, true, Some, Result, Err, String, string_bytes, refl, sym, ap, ◌∙◌, subst, append-nil, ◌<◌, nat_lt, arith}
use Rattle.std.proofs.lemmas.Bool.Decides.{nat_tests}
use Rattle.std.specs.List.{flat_map, list_any}
use Rattle.std.specs.declared.alloc.Global.{Global}
use Rattle.gv_types.specs.declared.fault.Fault.TheVariants.{TooManyAccesses}
use Rattle.gv_vm.specs.Jobs.{JobsState, most_accesses, many_fault}
use Rattle.gv_vm.specs.World.{WorldState}
use Rattle.gv_vm.specs.declared.event.Event.{Event}
use Rattle.gv_vm.specs.declared.event.Reply.{Reply}
use Rattle.gv_vm.specs.State.{VmState}
use Rattle.gv_lines.specs.declared.line.Line.{Line}
use Rattle.gv_session.specs.declared.fault.LineFault.{LineFault}
use Rattle.gv_session.specs.declared.fault.LineFault.TheVariants.{Bad, OutOfMemory as NoMemory}
use Rattle.gv_session.specs.State.{SessionState, Buffers, begun}
use Rattle.gv_vm.specs.Plans.{once, IsCarriedOut, Steps, nothing}
use Rattle.gv_session.specs.Texts.{reply}
use Rattle.gv_session.specs.ReplyTexts.{reply_out_of_memory}
use Rattle.gv_session.specs.Line.{Written, plain, Does, Runs}
use Rattle.gv_session.specs.Question.{IsAnswer, with_vm}
use Rattle.gv_session.specs.LineProgress.{Wrote}
use Rattle.gv_vm.proofs.PlanLemmas.{goes_first, carried_out}

-- one event was asked, and no more is
pub once_done : (event : Event) (reply : Reply) (w v : WorldState) → Steps w event reply v → IsCarriedOut (once event) w (reply ∷ []) v
once_done event reply w v here = carried_out (once event) nothing w v (reply ∷ []) refl (goes_first (once event) nothing event reply w v refl here (λ later. refl))

-- and its reply was written
pub wrote_once : (event : Event) (say : Reply → List ℕ) (s t : SessionState) (reply : Reply) (old out : String Global) → Steps s.world event reply t.world →
    t ≡ record (begun s) { world = t.world } → string_bytes out ≡ string_bytes old ++ say reply → Wrote (Does (once event) (flat_map say)) s old out t
wrote_once event say s t reply old out here state bytes = record {
  written = record { text = flat_map say (reply ∷ []); out_of_memory = list_any reply_out_of_memory (reply ∷ []) };
  text = bytes ∙ ap (λ (text : List ℕ). string_bytes old ++ text) (sym (append-nil (say reply)));
  runs = record { replies = reply ∷ []; carried_out = once_done event reply s.world t.world here; written = refl; state = state };
}

-- what was written is what a line does
pub wrote_as : (R Q : SessionState → Written → SessionState → Type 0) (s t : SessionState) (old out : String Global) → ((w : Written) → R s w t → Q s w t) → Wrote R s old out t → Wrote Q s old out t
wrote_as R Q s t old out so wrote = record { written = wrote.written; text = wrote.text; runs = so wrote.written wrote.runs }

-- a line wrote this, and memory was refused to no request
pub wrote_plain : (R : SessionState → Written → SessionState → Type 0) (s t : SessionState) (text : List ℕ) (old out : String Global) → string_bytes out ≡ string_bytes old ++ text → R s (plain text) t →
    Wrote R s old out t
wrote_plain R s t text old out bytes runs = record { written = plain text; text = bytes; runs = runs }

-- a job with more accesses than any job may have
pub too_many : (r : JobsState) (count : ℕ) → most_accesses < count → many_fault r count ≡ Some TooManyAccesses
too_many r count many = let test : nat_lt most_accesses count ≡ true = grind (arith, nat_tests) in rw test refl

-- Questions of the address space.

pub with_same : (buffers : Buffers) (timelines : List (List ℕ)) (m : VmState) (s : SessionState) → buffers ≡ s.buffers → timelines ≡ s.timelines → m ≡ s.world.vm →
    with_vm buffers timelines m s ≡ s
with_same buffers timelines m s same_buffers same_timelines same_vm = rw (same_buffers, same_timelines, same_vm) refl

-- what is the answer on every such state is that on this one
pub answer_runs : (question : Line) (buffers : Buffers) (timelines : List (List ℕ)) (m : VmState) (text : List ℕ) (s t : SessionState) →
    with_vm buffers timelines m s ≡ s → t ≡ begun s → IsAnswer question buffers timelines m text → Runs question s (plain text) t
answer_runs question buffers timelines m text s t same is answer =
    subst (λ (x : SessionState). Runs question s (plain text) x) (sym is) (subst (λ (x : SessionState). Runs question x (plain text) (begun x)) same (answer s))

pub memory_not_bad : (T : Type 0) (r : Result T LineFault) → r ≡ Err NoMemory → r ≡ Err Bad → ⊥
memory_not_bad T r is bad = let same : ◌≡◌ {A = Result T LineFault} (Err NoMemory) (Err Bad) = sym is ∙ bad in cc
