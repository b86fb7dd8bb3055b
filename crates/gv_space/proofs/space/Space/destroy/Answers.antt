use Rattle.gv_space.proofs.FirstPageLists.{rows_kept}
use Rattle.std.proofs.Common.{arith, length, ◌≡◌, Result, Ok, Err, refl, sym, subst, List, OnOk, OnErr}
use Rattle.std.specs.Prelude.{IsOk, MatchOption}
use Rattle.gv_types.specs.declared.fault.Fault.{Fault}
use Rattle.gv_types.specs.declared.mapping.BufferId.{BufferId}
use Rattle.gv_buffers.specs.Buffers.{BuffersState, without, destroy_fault}
use Rattle.gv_types.specs.declared.mapping.Mapping.{Mapping}
use Rattle.gv_space.specs.State.{SpaceState, AreKept, IsSpace}
use Rattle.gv_space.specs.Inside.{space_of}
use Rattle.gv_space.proofs.FaultLemmas.{no_fault}
use Rattle.gv_space.proofs.LivesLemmas.{AreKept-destroyed}
use Rattle.gv_space.proofs.LiveNames.{LivedIn, lived-without}
use Rattle.gv_space.proofs.SpaceInvariant.{IsSpace-destroyed}
use Rattle.gv_space.proofs.space.Space.destroy.Goals as goal

after : {X : Type 0} (r : Result X Fault) (s : SpaceState) (new : BuffersState) (id : BufferId) → IsSpace s → MatchOption (destroy_fault s.buffers id) (IsOk r) (λ f. r ≡ Err f) →
    OnOk r (new ≡ without id s.buffers) → OnErr r (new ≡ s.buffers) → IsSpace (record s { buffers = new })
after (Ok x) s new id space fault ok same =
    subst (λ (t : BuffersState). IsSpace (record s { buffers = t })) (sym ok) (IsSpace-destroyed s id (no_fault (destroy_fault s.buffers id) (Ok x) x fault refl) space)
after (Err f) s new id space fault ok same = subst (λ (t : BuffersState). IsSpace (record s { buffers = t })) (sym same) space

lived : {X : Type 0} (r : Result X Fault) (old new : BuffersState) (id : BufferId) → OnOk r (new ≡ without id old) → OnErr r (new ≡ old) → LivedIn old new
lived (Ok x) old new id ok same = subst (LivedIn old) (sym ok) (lived-without old id)
lived (Err f) old new id ok same = subst (LivedIn old) (sym same) (λ other lives. lives)

pub invariant_of-self : goal.invariant_of-self
invariant_of-self c =
    let s : SpaceState = space_of c.self.inside in
    record {
      space = after c.destroy.result s c.destroy.new.self c.args.id c.self.invariant.space c.destroy.ensures.fault c.destroy.ensures.ok c.destroy.ensures.err;
      named = λ id lives. c.self.invariant.named id (lived c.destroy.result s.buffers c.destroy.new.self c.args.id c.destroy.ensures.ok c.destroy.ensures.err id lives);
      first_pages = c.self.invariant.first_pages;
      rows = rows_kept s.buffers c.destroy.new.self (length c.self.inside.first_pages) (length c.self.inside.first_pages)
          (lived c.destroy.result s.buffers c.destroy.new.self c.args.id c.destroy.ensures.ok c.destroy.ensures.err) (omega arith) c.self.invariant.rows;
    }

saves : {X : Type 0} (r : Result X Fault) (s : SpaceState) (new : BuffersState) (id : BufferId) → MatchOption (destroy_fault s.buffers id) (IsOk r) (λ f. r ≡ Err f) →
    OnOk r (new ≡ without id s.buffers) → OnErr r (new ≡ s.buffers) → (kept : List Mapping) → AreKept s kept → AreKept (record s { buffers = new }) kept
saves (Ok x) s new id fault ok same kept are_kept =
    subst (λ (t : BuffersState). AreKept (record s { buffers = t }) kept) (sym ok) (AreKept-destroyed s id kept (no_fault (destroy_fault s.buffers id) (Ok x) x fault refl) are_kept)
saves (Err f) s new id fault ok same kept are_kept = subst (λ (t : BuffersState). AreKept (record s { buffers = t }) kept) (sym same) are_kept

pub returns-clause-kept : goal.returns-clause-kept
returns-clause-kept c = λ kept are_kept.
    saves c.destroy.result (space_of c.self.inside) c.destroy.new.self c.args.id c.destroy.ensures.fault c.destroy.ensures.ok c.destroy.ensures.err kept
    (subst (λ (t : SpaceState). AreKept t kept) (sym c.self.view_is) are_kept)
