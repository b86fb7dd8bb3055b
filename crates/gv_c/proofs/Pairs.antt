-- A pointer beside an allocator: how a struct of the two, or a tuple, is stored, taken apart and made. Assumes `Logic`.
--     shape, Pair         the struct of a pointer and an allocator
--     both, both_good     the machine value of two fields, and that it has its type
--     at_values           what is owned at machine values is owned at equal ones
--     one_value           a proof's step: what is owned at an allocator, or at a box, is one machine value
--     pair_out, pair_in   proof's steps: of a pointer and an allocator only the allocator owns something, and back
use Rattle.std.proofs.Common.{◌≡◌, List, [], ◌∷◌, ◌++◌, refl, ◌∙◌, sym, subst}
use mathlib.Core.Bool.{Bool, true, false, ◌&&◌}
use lib.Dec.{T}
use seplogic.Ra.Ura.{Ura}
use mir.Syntax.{ty_ptr}
use mir.Val.{Val, vstruct, vcons, vnil, of_list, has_ty, WT}
use base.Logic.{SProp, ent, id⊢}
use types.Logic.{Logic}
use types.Kit.{Item, Goal, Seq, Step, step, ‵, ◌$◌, move, drop, fsplit, fjoin, fpick, fpack, rewrite, feq_i, feq_l}
use denote.RattleType.{RattleType, Valss}
use denote.Builtin.{RawPtr}
use denote.Laws.{Is, shows}
use denote.RawPtr.{Ptr, ptr_val}
use denote.Steps.{nothing, peeks}
use denote.Param.{param, layout}
use denote.Param.Laws.{Laws, param_laws}
use denote.Struct.Struct.{Shape, Struct, within}
use Rattle.core.proofs.atomic.Steps.{Ptr-Good}
use Rattle.core.proofs.cell.Inside.{Good, one}

-- the machine value of two fields
abbrev pub both : Val → Val → Val
both v w = vstruct (vcons v (vcons w vnil))

all_true : (x y : Bool) → T x → T y → T (x && (y && true))
all_true true true s t = tt
all_true true false s t = absurd t
all_true false y s t = absurd s

-- what is owned at machine values is owned at equal ones
pub at_values : {M : Type 1} (𝓤 : Ura M) (P : List Val → SProp 𝓤) {vs ws : List Val} → vs ≡ ws → ent 𝓤 (P ws) (P vs)
at_values 𝓤 P {ws = ws} e = subst (λ us. ent 𝓤 (P ws) (P us)) (sym e) (id⊢ 𝓤 (P ws))

module _ (Z : RattleType) where
  abbrev pub shape : Shape
  shape = record { name = []; args = []; types = []; fields = RawPtr ∷ Z ∷ [] }

  abbrev pub Pair : RattleType
  Pair = Struct shape

  pub both_good : (p : Ptr) (h : Val) → Good (layout Z) h → T (has_ty ty_ptr (ptr_val p) && (has_ty (layout Z) h && true)) × WT (both (ptr_val p) h)
  both_good p h good = (all_true _ _ (Ptr-Good p).0 good.0, ((Ptr-Good p).1, (good.1, tt)))

module _ (Z : RattleType) (LZ : Laws Z) {M : Type 1} {𝓤 : Ura M} {𝓛 : Logic 𝓤} {K : Type 0} {Γ : List (Item 𝓤)} {G : Goal 𝓤 𝓛.H} where
  pub one_value : K → (a : Z.Denot) (vs : List Val) → ((h : Val) → vs ≡ h ∷ [] → Good (layout Z) h → Seq K 𝓛 (‵ (Z.own_val a (h ∷ [])) ∷ Γ) G) → Seq K 𝓛 (‵ (Z.own_val a vs) ∷ Γ) G
  one_value t a vs next =
      peeks t (param 0 Z) (Is (param 0 Z)) (shows 𝓛 (param 0 Z)) a vs (λ is.
      let w = one (layout Z) vs (((param_laws 0 Z LZ).lawful 𝓛).typed a vs is) in
      rewrite t 0 (λ (us : List Val). ‵ (Z.own_val a us)) w.1 refl $ next w.0 w.1 w.2)

  pub pair_out : K → (p : Ptr) (a : Z.Denot) (vs : List Val)
      → ((h : Val) → vs ≡ both (ptr_val p) h ∷ [] → Good (layout Z) h → Seq K 𝓛 (‵ (Z.own_val a (h ∷ [])) ∷ Γ) G)
      → Seq K 𝓛 (‵ ((Pair Z).own_val (p, (a, tt)) vs) ∷ Γ) G
  pair_out t p a vs next =
      fpick t (λ vss. fsplit t $ feq_l t (λ ev. fsplit t $ feq_l t (λ ep. fsplit t $ move t (1 ∷ []) $ drop t $
      one_value t a vss.1.0 (λ h eh good. next h (ev ∙ (λ i. vstruct (of_list (ep i ++ (eh i ++ []))) ∷ [])) good))))

  pub pair_in : K → (p : Ptr) (a : Z.Denot) (h : Val) → Step K 𝓛 (‵ ((Pair Z).own_val (p, (a, tt)) (both (ptr_val p) h ∷ [])) ∷ Γ) G (‵ (Z.own_val a (h ∷ [])) ∷ Γ) G
  pair_in t p a h = step (λ s. let v : Val = both (ptr_val p) h in
      nothing t $ move t (1 ∷ 0 ∷ []) $ fjoin t $ feq_i t (List Val) (ptr_val p ∷ []) (ptr_val p ∷ []) refl $ fjoin t $
      feq_i t (List Val) (v ∷ []) (v ∷ []) refl $ fjoin t $
      fpack t (Valss (RawPtr ∷ Z ∷ [])) (within (shape Z) (p, (a, tt)) (v ∷ [])) (ptr_val p ∷ [], (h ∷ [], tt)) $ s)
