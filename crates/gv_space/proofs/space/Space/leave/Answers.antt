use Rattle.gv_space.proofs.FirstPageLists.{rows_kept}
use Rattle.std.proofs.Common.{arith, length, refl, sym, subst}
use Rattle.gv_buffers.specs.Buffers.{BuffersState, left_by, IsLive, IsTable}
use Rattle.gv_space.specs.State.{SpaceState, AreKept, IsSpace}
use Rattle.gv_space.specs.Inside.{space_of}
use Rattle.gv_space.proofs.Jobs.{AreKept-left}
use Rattle.gv_space.proofs.LiveNames.{lived-each}
use Rattle.gv_space.proofs.SpaceInvariant.{IsSpace-left}
use Rattle.gv_space.proofs.space.Space.leave.Goals as goal

pub invariant_of-self : goal.invariant_of-self
invariant_of-self c =
    let s : SpaceState = space_of c.self.inside in
    record {
      space = subst (λ (t : BuffersState). IsSpace (record s { buffers = t })) (sym c.leave.ensures.value)
          (IsSpace-left s c.args.job (subst IsTable c.leave.ensures.value c.leave.ensures.table) c.self.invariant.space);
      named = λ id lives. c.self.invariant.named id (lived-each (left_by c.args.job) s.buffers (λ b. refl) id (subst (λ (t : BuffersState). IsLive t id) c.leave.ensures.value lives));
      first_pages = c.self.invariant.first_pages;
      rows = rows_kept s.buffers c.leave.new.self (length c.self.inside.first_pages) (length c.self.inside.first_pages)
          (λ id lives. lived-each (left_by c.args.job) s.buffers (λ b. refl) id (subst (λ (t : BuffersState). IsLive t id) c.leave.ensures.value lives)) (omega arith) c.self.invariant.rows;
    }

pub returns-clause-kept : goal.returns-clause-kept
returns-clause-kept c = λ kept are_kept.
    let s : SpaceState = space_of c.self.inside in
    subst (λ (t : BuffersState). AreKept (record s { buffers = t }) kept) (sym c.leave.ensures.value)
    (AreKept-left s c.args.job kept (subst (λ (t : SpaceState). AreKept t kept) (sym c.self.view_is) are_kept))
