use Rattle.gv_space.proofs.FirstPageLists.{rows_kept}
use Rattle.std.proofs.Common.{arith, length, ◌≡◌, ℕ, Result, Ok, Err, sym, subst, List, OnOk, OnErr}
use Rattle.gv_types.specs.declared.fault.Fault.{Fault}
use Rattle.gv_types.specs.declared.mapping.BufferId.{BufferId}
use Rattle.gv_buffers.specs.declared.usage.Usage.{Usage}
use Rattle.gv_buffers.specs.Buffers.{BuffersState, changed, only, joined_by, IsTable}
use Rattle.gv_types.specs.declared.mapping.Mapping.{Mapping}
use Rattle.gv_space.specs.State.{SpaceState, AreKept, IsSpace}
use Rattle.gv_space.specs.Inside.{space_of}
use Rattle.gv_space.proofs.Jobs.{AreKept-joined, joined_of_users}
use Rattle.gv_space.proofs.LiveNames.{LivedIn, lived-each}
use Rattle.gv_space.proofs.SpaceInvariant.{IsSpace-joined}
use Rattle.gv_space.proofs.space.Space.join.Goals as goal

after : {X : Type 0} (r : Result X Fault) (s : SpaceState) (new : BuffersState) (id : BufferId) (job : ℕ) (usage : Usage) → IsSpace s → IsTable new →
    OnOk r (new ≡ changed id (joined_by job usage) s.buffers) → OnErr r (new ≡ s.buffers) → IsSpace (record s { buffers = new })
after (Ok x) s new id job usage space table ok same =
    subst (λ (t : BuffersState). IsSpace (record s { buffers = t })) (sym ok) (IsSpace-joined s id job usage (subst IsTable ok table) space)
after (Err f) s new id job usage space table ok same = subst (λ (t : BuffersState). IsSpace (record s { buffers = t })) (sym same) space

lived : {X : Type 0} (r : Result X Fault) (old new : BuffersState) (id : BufferId) (job : ℕ) (usage : Usage) →
    OnOk r (new ≡ changed id (joined_by job usage) old) → OnErr r (new ≡ old) → LivedIn old new
lived (Ok x) old new id job usage ok same =
    subst (LivedIn old) (sym ok) (lived-each (only id (joined_by job usage)) old (joined_of_users id job usage).keeping.id)
lived (Err f) old new id job usage ok same = subst (LivedIn old) (sym same) (λ other lives. lives)

pub invariant_of-self : goal.invariant_of-self
invariant_of-self c =
    let s : SpaceState = space_of c.self.inside in
    record {
      space = after c.join.result s c.join.new.self c.args.id c.args.job c.args.usage c.self.invariant.space c.join.ensures.table c.join.ensures.ok c.join.ensures.err;
      named = λ id lives. c.self.invariant.named id (lived c.join.result s.buffers c.join.new.self c.args.id c.args.job c.args.usage c.join.ensures.ok c.join.ensures.err id lives);
      first_pages = c.self.invariant.first_pages;
      rows = rows_kept s.buffers c.join.new.self (length c.self.inside.first_pages) (length c.self.inside.first_pages)
          (lived c.join.result s.buffers c.join.new.self c.args.id c.args.job c.args.usage c.join.ensures.ok c.join.ensures.err) (omega arith) c.self.invariant.rows;
    }

saves : {X : Type 0} (r : Result X Fault) (s : SpaceState) (new : BuffersState) (id : BufferId) (job : ℕ) (usage : Usage) →
    OnOk r (new ≡ changed id (joined_by job usage) s.buffers) → OnErr r (new ≡ s.buffers) → (kept : List Mapping) → AreKept s kept → AreKept (record s { buffers = new }) kept
saves (Ok x) s new id job usage ok same kept are_kept = subst (λ (t : BuffersState). AreKept (record s { buffers = t }) kept) (sym ok) (AreKept-joined s id job usage kept are_kept)
saves (Err f) s new id job usage ok same kept are_kept = subst (λ (t : BuffersState). AreKept (record s { buffers = t }) kept) (sym same) are_kept

pub returns-clause-kept : goal.returns-clause-kept
returns-clause-kept c = λ kept are_kept.
    saves c.join.result (space_of c.self.inside) c.join.new.self c.args.id c.args.job c.args.usage c.join.ensures.ok c.join.ensures.err kept
    (subst (λ (t : SpaceState). AreKept t kept) (sym c.self.view_is) are_kept)
