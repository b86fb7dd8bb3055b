-- What a handle is made of, and the two cases of it. Assumes `Logic`.
--     R, Z, LZ     the rows of `Held` and of the allocator, and the allocator's laws.        RawBox     the row of a box of a world, taken apart
--     handle_cases   a proof's step: what a handle owns, at null and at a world
use Rattle.std.proofs.Common.{◌≡◌, ℕ, List, ◌∷◌, refl}
use seplogic.Ra.Ura.{Ura}
use mir.Raw.{raw as bare}
use base.Fml.{Fml}
use base.Logic.{ent, guard, guard_i, via, never, fst∗, snd∗}
use types.Logic.{Logic, sem}
use types.Kit.{Item, Goal, Seq, ‵, given, learn, use1, ◌$◌, feq_l}
use contract.Monad.{fact_use}
use denote.RattleType.{RattleType}
use denote.Memory.{lone}
use denote.RawPtr.{Ptr, block_ptr, null_ptr, in_a_block, Testable}
use denote.Param.Laws.{Laws}
use Rattle.core.specs.Ptr.{points_to}
use Rattle.std.proofs.GlobalToken.{dealloc_token-Testable}
use Rattle.std.specs.declared.alloc.Global.{Global}
use Rattle.std.specs.declared.option.Option.{Option}
use Rattle.std.specs.declared.option.Option.TheVariants.{None, Some}
use Rattle.std.specs.contracts.alloc.Global as heap
use Rattle.std.proofs.alloc.Global.TheLaws as heap_laws
use Rattle.std.specs.contracts.impls.GlobalAllocator.TheImpl.{ghosts}
use Rattle.std_alloc.specs.Box.Ownership.{box_owns}
use Rattle.gv_c.specs.HandleOwnership.{handle_owns}
use Rattle.gv_c.specs.contracts.held.Held as held
use Rattle.gv_c.specs.contracts.raw_box.RawBox as raw_box

abbrev pub R : RattleType
R = held.the_row

abbrev pub Z : RattleType
Z = heap.the_row

abbrev pub LZ : Laws Z
LZ = heap_laws.the_row_laws

abbrev pub RawBox : RattleType
RawBox = raw_box.the_row R Z ghosts

-- the world at p, and the right to free its block
abbrev pub boxed : Global → Ptr → R.Denot → Fml
boxed a p x = box_owns (ghosts.dealloc_token a) R p x

-- what may be freed may be held against null
testable : {M : Type 1} {𝓤 : Ura M} (𝓛 : Logic 𝓤) (a : Global) (p : Ptr) (x : R.Denot) → ent 𝓤 (sem 𝓛 (boxed a p x)) (guard 𝓤 (Testable p) (sem 𝓛 (boxed a p x)))
testable {𝓤 = 𝓤} 𝓛 a p x =
    let all = sem 𝓛 (boxed a p x) in let right = sem 𝓛 (ghosts.dealloc_token a (bare (lone R.mir)) p) in
    fact_use 𝓤 (Testable p) (via 𝓤 right (snd∗ 𝓤 (sem 𝓛 (points_to R p x)) right) (dealloc_token-Testable 𝓛 a (bare (lone R.mir)) p)) (guard_i 𝓤 (Testable p) all)

module _ {M : Type 1} {𝓤 : Ura M} {𝓛 : Logic 𝓤} {K : Type 0} {Γ : List (Item 𝓤)} {G : Goal 𝓤 𝓛.H} where
  -- a handle is null, or there is a world, at a pointer into a block
  pub handle_cases : K → (a : Global) (p : Ptr) (k : Option R.Denot)
      → (k ≡ None → p ≡ null_ptr → Seq K 𝓛 Γ G)
      → ((x : R.Denot) (b o : ℕ) → k ≡ Some x → p ≡ block_ptr b o → Testable (block_ptr b o) → Seq K 𝓛 (‵ (boxed a (block_ptr b o) x) ∷ Γ) G)
      → Seq K 𝓛 (‵ (handle_owns (ghosts.dealloc_token a) R p k) ∷ Γ) G
  handle_cases t a p None null there = feq_l t (λ e. null refl e)
  handle_cases t a p (Some x) null there =
      in_a_block t p (λ q. boxed a q x) (fst∗ 𝓤 (never 𝓤) (sem 𝓛 (ghosts.dealloc_token a (bare (lone R.mir)) null_ptr))) (λ b o e.
      use1 𝓛 (given (Testable (block_ptr b o)) (‵ (boxed a (block_ptr b o) x))) (testable 𝓛 a (block_ptr b o) x) $
      learn t (λ tests. there x b o refl e tests))
