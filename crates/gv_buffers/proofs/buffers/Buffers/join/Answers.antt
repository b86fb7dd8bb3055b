use Rattle.std.proofs.Common.{◌≡◌, ◌≢◌, ℕ, None, Some, sym, ◌∙◌, ap, refl}
use Rattle.std.specs.Option.{option_map}
use Rattle.std.proofs.lemmas.Result.{err_from_is_err_and}
use Rattle.gv_buffers.specs.Users.{conflict}
use Rattle.gv_buffers.specs.Slots.{buffer_at, live_at}
use Rattle.gv_buffers.specs.Buffers.{join_fault_of, joined_by}
use Rattle.gv_buffers.proofs.TablesAndSlots.{is_table, found_buffer, missed_buffer}
use Rattle.gv_buffers.proofs.JoinAndLeave.{unchanged, no_conflict_in_slot, joined_table}
use Rattle.gv_buffers.proofs.buffers.Buffers.join.Goals as goal

pub returns-in_default-clause-fault : goal.returns-in_default-clause-fault
returns-in_default-clause-fault c =
    let missed : live_at c.self.inside.slots.entries c.args.id ≡ None = rw c.in_default.is at (sym c.get.ensures) in
    rw (ap (join_fault_of c.args.job c.args.usage) (missed_buffer c.self.inside c.args.self.now c.args.id c.self.view_is missed)) refl

pub conflict-requires : goal.conflict-requires
conflict-requires c =
    let found : live_at c.self.inside.slots.entries c.args.id ≡ Some c.in-Some.slot.now = rw c.in-Some.is at (sym c.get.ensures) in
    no_conflict_in_slot c.self.inside c.args.id c.in-Some.slot.now c.self.invariant found

pub returns-in-Some-conflict-clause-fault : goal.returns-in-Some-conflict-clause-fault
returns-in-Some-conflict-clause-fault c =
    let slot = c.in-Some.slot.now in
    let found : live_at c.self.inside.slots.entries c.args.id ≡ Some c.in-Some.slot.now = rw c.in-Some.is at (sym c.get.ensures) in
    let meets : conflict c.args.job c.args.usage slot.users.list.items ≡ Some c.in-Some-conflict.job =
    sym c.conflict.ensures ∙ c.in-Some-conflict.is in
    rw (ap (join_fault_of c.args.job c.args.usage) (found_buffer c.self.inside c.args.self.now c.args.id slot c.self.view_is found)) (rw meets refl)

pub invariant_of-self : goal.invariant_of-self
invariant_of-self c =
    (unchanged c.self.inside c.args.self.now c.reserve_user.new.self c.reserve_user.new.indices c.self.invariant c.self.view_is c.in_err-reserve_user.ensures.vacant c.in_err-reserve_user.ensures.length
    c.in_err-reserve_user.ensures.same c.in_err-reserve_user.ensures.keeps).sound

pub returns-in_err-reserve_user-clause-fault : goal.returns-in_err-reserve_user-clause-fault
returns-in_err-reserve_user-clause-fault c =
    let slot = c.in-Some.slot.now in
    let found : live_at c.self.inside.slots.entries c.args.id ≡ Some c.in-Some.slot.now = rw c.in-Some.is at (sym c.get.ensures) in
    let meets_none : conflict c.args.job c.args.usage slot.users.list.items ≡ None =
    sym c.conflict.ensures ∙ c.in_default-conflict.is in
    let p = err_from_is_err_and c.from_residual.result c.from_residual.ensures.1 in
    rw (ap (join_fault_of c.args.job c.args.usage) (found_buffer c.self.inside c.args.self.now c.args.id slot c.self.view_is found)) (rw (meets_none, p.1) p.2)

pub returns-in_err-reserve_user-clause-err : goal.returns-in_err-reserve_user-clause-err
returns-in_err-reserve_user-clause-err c =
    let p = err_from_is_err_and c.from_residual.result c.from_residual.ensures.1 in
    rw p.1 (unchanged c.self.inside c.args.self.now c.reserve_user.new.self c.reserve_user.new.indices c.self.invariant c.self.view_is c.in_err-reserve_user.ensures.vacant c.in_err-reserve_user.ensures.length
    c.in_err-reserve_user.ensures.same c.in_err-reserve_user.ensures.keeps).table

pub invariant_of-self-2 : goal.invariant_of-self-2
invariant_of-self-2 c =
    let slot = c.in-Some.slot.now in
    let found : live_at c.self.inside.slots.entries c.args.id ≡ Some c.in-Some.slot.now = rw c.in-Some.is at (sym c.get.ensures) in
    let meets_none : conflict c.args.job c.args.usage slot.users.list.items ≡ None =
    sym c.conflict.ensures ∙ c.in_default-conflict.is in
    let room = c.in_ok-reserve_user.ensures in
    (joined_table c.self.inside c.args.self.now c.join.new.self c.reserve_user.new.indices c.args.id slot c.args.job c.args.usage c.self.invariant c.self.view_is (c.join.ensures.vacant ∙ room.vacant) (c.join.ensures.length ∙ room.length) found meets_none
    (c.join.ensures.here ∙ ap (option_map (joined_by c.args.job c.args.usage)) (room.same c.args.id.index))
    (λ (index : ℕ) (apart : index ≢ c.args.id.index). ap (option_map (buffer_at index)) (c.join.ensures.others index apart) ∙ room.same index)
    room.keeps room.noted).sound

pub returns-clause-fault : goal.returns-clause-fault
returns-clause-fault c =
    let slot = c.in-Some.slot.now in
    let found : live_at c.self.inside.slots.entries c.args.id ≡ Some c.in-Some.slot.now = rw c.in-Some.is at (sym c.get.ensures) in
    let meets_none : conflict c.args.job c.args.usage slot.users.list.items ≡ None =
    sym c.conflict.ensures ∙ c.in_default-conflict.is in
    rw (ap (join_fault_of c.args.job c.args.usage) (found_buffer c.self.inside c.args.self.now c.args.id slot c.self.view_is found)) (rw meets_none tt)

pub returns-clause-ok : goal.returns-clause-ok
returns-clause-ok c =
    let slot = c.in-Some.slot.now in
    let found : live_at c.self.inside.slots.entries c.args.id ≡ Some c.in-Some.slot.now = rw c.in-Some.is at (sym c.get.ensures) in
    let meets_none : conflict c.args.job c.args.usage slot.users.list.items ≡ None =
    sym c.conflict.ensures ∙ c.in_default-conflict.is in
    let room = c.in_ok-reserve_user.ensures in
    (joined_table c.self.inside c.args.self.now c.join.new.self c.reserve_user.new.indices c.args.id slot c.args.job c.args.usage c.self.invariant c.self.view_is (c.join.ensures.vacant ∙ room.vacant) (c.join.ensures.length ∙ room.length) found meets_none
    (c.join.ensures.here ∙ ap (option_map (joined_by c.args.job c.args.usage)) (room.same c.args.id.index))
    (λ (index : ℕ) (apart : index ≢ c.args.id.index). ap (option_map (buffer_at index)) (c.join.ensures.others index apart) ∙ room.same index)
    room.keeps room.noted).table

pub returns-in_default-clause-table : goal.returns-in_default-clause-table
returns-in_default-clause-table c = is_table c.self.inside c.args.self.now c.self.invariant c.self.view_is

pub returns-in-Some-conflict-clause-table : goal.returns-in-Some-conflict-clause-table
returns-in-Some-conflict-clause-table c = is_table c.self.inside c.args.self.now c.self.invariant c.self.view_is

pub returns-in_err-reserve_user-clause-table : goal.returns-in_err-reserve_user-clause-table
returns-in_err-reserve_user-clause-table c =
    is_table _ _
    (unchanged c.self.inside c.args.self.now c.reserve_user.new.self c.reserve_user.new.indices c.self.invariant c.self.view_is c.in_err-reserve_user.ensures.vacant c.in_err-reserve_user.ensures.length
    c.in_err-reserve_user.ensures.same c.in_err-reserve_user.ensures.keeps).sound refl

pub returns-clause-table : goal.returns-clause-table
returns-clause-table c =
    let slot = c.in-Some.slot.now in
    let found : live_at c.self.inside.slots.entries c.args.id ≡ Some c.in-Some.slot.now = rw c.in-Some.is at (sym c.get.ensures) in
    let meets_none : conflict c.args.job c.args.usage slot.users.list.items ≡ None =
    sym c.conflict.ensures ∙ c.in_default-conflict.is in
    let room = c.in_ok-reserve_user.ensures in
    is_table _ _
    (joined_table c.self.inside c.args.self.now c.join.new.self c.reserve_user.new.indices c.args.id slot c.args.job c.args.usage c.self.invariant c.self.view_is (c.join.ensures.vacant ∙ room.vacant) (c.join.ensures.length ∙ room.length) found meets_none
    (c.join.ensures.here ∙ ap (option_map (joined_by c.args.job c.args.usage)) (room.same c.args.id.index))
    (λ (index : ℕ) (apart : index ≢ c.args.id.index). ap (option_map (buffer_at index)) (c.join.ensures.others index apart) ∙ room.same index)
    room.keeps room.noted).sound refl
