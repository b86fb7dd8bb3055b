-- A job that is refused for the number of its accesses is one that the world refuses.
use Rattle.std.proofs.Common.{◌≡◌, ℕ, false, List, [], ◌++◌, length, Option, Some, Vec, refl, sym, ap, ◌∙◌, subst, append-nil}
use Rattle.std.specs.declared.alloc.Global.{Global}
use Rattle.std.specs.List.{flat_map}
use Rattle.gv_types.specs.declared.fault.Fault.{Fault}
use Rattle.gv_types.specs.declared.fault.Fault.TheVariants.{TooManyAccesses}
use Rattle.gv_space.specs.Refusal.{first_of}
use Rattle.gv_vm.specs.Alike.{StaysAlike}
use Rattle.gv_vm.specs.Jobs.{many_fault, accesses_fault}
use Rattle.gv_vm.specs.Step.{step}
use Rattle.gv_vm.specs.World.{WorldState}
use Rattle.gv_vm.specs.declared.event.Event.TheVariants.{JobBegin}
use Rattle.gv_vm.specs.declared.event.Reply.{Reply}
use Rattle.gv_vm.specs.declared.event.Reply.TheVariants.{Refused}
use Rattle.gv_vm.specs.declared.jobs.Access.{Access}
use Rattle.gv_vm.proofs.AlikeStepLemmas.{step_alike}
use Rattle.gv_text.specs.AlikePlans.{AreAmple}
use Rattle.gv_session.specs.Line.{Written, BeginsJob, HasTooMany}
use Rattle.gv_session.specs.Texts.{refused_reply}
use Rattle.gv_session.specs.ReplyTexts.{said}
use Rattle.gv_session.specs.State.{SessionState, names_alone, begun}
use Rattle.gv_text.proofs.AlikeEvents.{once_only, are_ample}
use Rattle.gv_text.proofs.AlikeReplies.{said_alike}
use Rattle.gv_text.proofs.AlikeStates.{AreAlikeStates, WriteAlike, moved_states, goes_on}

refused_job : (list : Vec Access Global) (w : WorldState) → many_fault w.vm.jobs (length list.items) ≡ Some TooManyAccesses → step w (JobBegin list) (Refused TooManyAccesses) w
refused_job list w many = (
  ap (λ (o : Option Fault). first_of o (accesses_fault w.vm.space.mappings w.vm.jobs.begun w.vm.space.buffers 0 list.items)) many,
  refl,
)

-- what is refused for the number of its accesses alone is no other than a job that the world refuses
pub too_many_alike : (accesses : List Access) (s s' t t' : SessionState) (w w' : Written) → AreAlikeStates s s' → BeginsJob accesses s w t → HasTooMany accesses s' w' t' → w.out_of_memory ≡ false → WriteAlike w w' t t'
too_many_alike accesses s s' t t' w w' alike here many lacks =
    let does = here.does in
    let run = does.carried_out.under_way in
    let one = once_only (JobBegin here.list) run.events does.replies s.world t.world run.asked run.ran does.carried_out.done in
    let ample = are_ample does.replies (ap (λ (x : Written). x.out_of_memory) (sym does.written) ∙ lacks) in
    let fault : many_fault s'.world.vm.jobs (length here.list.items) ≡ Some TooManyAccesses =
    subst (λ (l : List Access). many_fault s'.world.vm.jobs (length l) ≡ Some TooManyAccesses) (sym here.list_is) many.0 in
    let stays : StaysAlike one.0 (Refused TooManyAccesses) t.world s'.world =
    step_alike s.world s'.world alike.worlds (JobBegin here.list) (JobBegin here.list) one.0 (Refused TooManyAccesses) t.world s'.world refl
    (subst (λ (rs : List Reply). AreAmple rs) one.1 ample).0 tt one.2 (refused_job here.list s'.world fault) in
    let names : List (List ℕ) = names_alone s.buffers in
    record {
      text =
          ap (λ (x : Written). x.text) does.written ∙ ap (flat_map (said names s.timelines)) one.1
          ∙ ap (λ (text : List ℕ). text ++ []) (said_alike names s.timelines one.0 (Refused TooManyAccesses) stays.replies)
          ∙ append-nil (refused_reply TooManyAccesses) ∙ sym (ap (λ (x : Written). x.text) many.1.0);
      states = moved_states (record (begun s) { world = t.world }) (begun s') t t' does.state many.1.1 (goes_on s s' alike t.world s'.world stays.worlds);
    }
