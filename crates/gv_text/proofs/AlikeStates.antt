-- States of a script that are the same, bare of memory, and lines that keep them so.
use Rattle.std.proofs.Common.{◌≡◌, ℕ, false, List, refl, sym, ap, ◌∙◌, subst}
use Rattle.gv_types.specs.Bounds.{BoundsState}
use Rattle.gv_types.specs.Limits.{LimitsState}
use Rattle.gv_vm.specs.Alike.{AreAlikeWorlds}
use Rattle.gv_vm.specs.World.{WorldState}
use Rattle.gv_vm.specs.declared.event.Reply.{Reply}
use Rattle.gv_vm.proofs.AlikeEnabledLemmas.{AreAlikeWorlds-sym}
use Rattle.gv_vm.proofs.AlikeStepLemmas.{AreAlikeWorlds-itself}
use Rattle.gv_text.specs.AlikePlans.{AreAllAlike, AskAlike, StayAlike}
use Rattle.gv_vm.specs.Plans.{Plan}
use Rattle.gv_session.specs.Line.{Written, Does, Answers}
use Rattle.gv_session.specs.State.{SessionState, begun, start, empty_world}
use Rattle.gv_session.specs.declared.stage.Stage.{Stage}
use Rattle.gv_text.proofs.AlikeEvents.{are_ample}
use Rattle.gv_text.proofs.AlikePlans.{carried_alike}

pub record AreAlikeStates (s s' : SessionState) : Type 0 where
  pub stage : s.stage ≡ s'.stage
  pub buffers : s.buffers ≡ s'.buffers
  pub timelines : s.timelines ≡ s'.timelines
  pub worlds : AreAlikeWorlds s.world s'.world

pub AreAlikeStates-sym : (s s' : SessionState) → AreAlikeStates s s' → AreAlikeStates s' s
AreAlikeStates-sym s s' alike =
    record { stage = sym alike.stage; buffers = sym alike.buffers; timelines = sym alike.timelines; worlds = AreAlikeWorlds-sym s.world s'.world alike.worlds }

-- in the place of two states stand others that are the same
pub moved_states : (s s' t t' : SessionState) → t ≡ s → t' ≡ s' → AreAlikeStates s s' → AreAlikeStates t t'
moved_states s s' t t' is is' alike = subst (λ (x : SessionState). AreAlikeStates x t') (sym is) (subst (λ (x : SessionState). AreAlikeStates s x) (sym is') alike)

-- two lines wrote the same, and led to states that are the same
pub record WriteAlike (w w' : Written) (t t' : SessionState) : Type 0 where
  pub text : w.text ≡ w'.text
  pub states : AreAlikeStates t t'

-- before the first line
pub start_alike : AreAlikeStates start start
start_alike = record { stage = refl; buffers = refl; timelines = refl; worlds = AreAlikeWorlds-itself start.world }

new_alike : (area area' : BoundsState) (limits limits' : LimitsState) → area ≡ area' → limits ≡ limits' → AreAlikeWorlds (empty_world area limits) (empty_world area' limits')
new_alike area area' limits limits' areas caps =
    subst (λ (a : BoundsState). AreAlikeWorlds (empty_world area limits) (empty_world a limits')) areas
    (subst (λ (l : LimitsState). AreAlikeWorlds (empty_world area limits) (empty_world area l)) caps (AreAlikeWorlds-itself (empty_world area limits)))

module _ (s s' : SessionState) (alike : AreAlikeStates s s') where
  -- the world goes on, and no buffer is declared
  pub goes_on : (x x' : WorldState) → AreAlikeWorlds x x' → AreAlikeStates (record (begun s) { world = x }) (record (begun s') { world = x' })
  goes_on x x' worlds = record { stage = refl; buffers = alike.buffers; timelines = alike.timelines; worlds = worlds }

  -- settings: the world is new
  pub set_alike : (stage : Stage) (area area' : BoundsState) (limits limits' : LimitsState) → area ≡ area' → limits ≡ limits' →
      AreAlikeStates (record s { stage = stage; world = empty_world area limits }) (record s' { stage = stage; world = empty_world area' limits' })
  set_alike stage area area' limits limits' areas caps =
      record { stage = refl; buffers = alike.buffers; timelines = alike.timelines; worlds = new_alike area area' limits limits' areas caps }

  -- the worlds' bounds and limits
  pub area_same : s.world.vm.space.area ≡ s'.world.vm.space.area
  area_same = ap (λ space. space.area) alike.worlds.vm.space

  pub limits_same : s.world.vm.space.limits ≡ s'.world.vm.space.limits
  limits_same = ap (λ space. space.limits) alike.worlds.vm.space

  module _ (w w' : Written) (t t' : SessionState) where
    -- a question with the same answer
    pub answers_alike : (text text' : List ℕ) → text ≡ text' → Answers text s w t → Answers text' s' w' t' → WriteAlike w w' t t'
    answers_alike text text' same here here' = record {
      text = ap (λ (x : Written). x.text) here.0 ∙ same ∙ sym (ap (λ (x : Written). x.text) here'.0);
      states = moved_states (begun s) (begun s') t t' here.1 here'.1 (goes_on s.world s'.world alike.worlds);
    }

    -- plans that ask the same
    pub does_alike : (plan plan' : Plan) (say say' : List Reply → List ℕ) → AskAlike plan plan' → ((rs rs' : List Reply) → AreAllAlike rs rs' → say rs ≡ say' rs') →
        Does plan say s w t → Does plan' say' s' w' t' → w.out_of_memory ≡ false → w'.out_of_memory ≡ false → WriteAlike w w' t t'
    does_alike plan plan' say say' ask same does does' lacks lacks' =
        let stay : StayAlike does.replies does'.replies t.world t'.world =
        carried_alike plan plan' does.replies does'.replies s.world s'.world t.world t'.world alike.worlds ask does.carried_out does'.carried_out
        (are_ample does.replies (ap (λ (x : Written). x.out_of_memory) (sym does.written) ∙ lacks))
        (are_ample does'.replies (ap (λ (x : Written). x.out_of_memory) (sym does'.written) ∙ lacks')) in
        record {
          text = ap (λ (x : Written). x.text) does.written ∙ same does.replies does'.replies stay.replies_are ∙ sym (ap (λ (x : Written). x.text) does'.written);
          states = moved_states (record (begun s) { world = t.world }) (record (begun s') { world = t'.world }) t t' does.state does'.state (goes_on t.world t'.world stay.worlds);
        }
