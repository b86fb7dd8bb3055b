-- For callers: what is asked of a space, and what becomes of it, is the same with any room.
use Rattle.std.proofs.Common.{◌≡◌, ℕ, ◌+◌, List, [], ◌∷◌, reverse, Option, refl, ap, ◌∙◌}
use Rattle.gv_types.specs.Operation.{range_of}
use Rattle.gv_types.specs.declared.fault.Fault.{Fault}
use Rattle.gv_types.specs.declared.mapping.Mapping.{Mapping}
use Rattle.gv_types.specs.declared.operation.Op.{Op}
use Rattle.gv_types.specs.declared.operation.PageOp.{PageOp}
use Rattle.gv_ranges.specs.Edit.{edited, edited_by_all, restored}
use Rattle.gv_space.specs.State.{SpaceState}
use Rattle.gv_space.specs.Refusal.{first_of, operation_fault, limit_fault}
use Rattle.gv_space.specs.Undo.{OpUndoState, reverted}
use Rattle.gv_journal.specs.Undoing.{reverted_by}
use Rattle.gv_journal.specs.Applying.{after_op, after_all, does}
use Rattle.gv_journal.specs.Verdict.{limits_fault, request_op_fault, refused_or, verdict_from}
use Rattle.gv_journal.specs.Withdrawing.{after_restore, after_withdrawal, withdrawal_limits}

-- a space with so much room
abbrev pub with_room : ℕ → SpaceState → SpaceState
with_room room s = record s { room = room }

pub after_all-room : (room : ℕ) (ops : List PageOp) (s : SpaceState) → after_all ops (with_room room s) ≡ with_room room (after_all ops s)
after_all-room room [] s = refl
after_all-room room (op ∷ older) s = ap (λ (t : SpaceState). after_op t op) (after_all-room room older s)

limits_fault-room : (room : ℕ) (s : SpaceState) (ops : List PageOp) → limits_fault (with_room room s) ops ≡ limits_fault s ops
limits_fault-room room s [] = refl
limits_fault-room room s (op ∷ ops) = ap (first_of (limit_fault s (range_of op) (edited s.mappings op))) (limits_fault-room room (after_op s op) ops)

request_op_fault-room : (room : ℕ) (s : SpaceState) (op : Op) → request_op_fault (with_room room s) op ≡ request_op_fault s op
request_op_fault-room room s op = ap (first_of (operation_fault s op)) (limits_fault-room room s (does s.mappings op))

-- the verdict on operations
pub verdict_from-room : (room : ℕ) (from : ℕ) (s : SpaceState) (ops : List Op) → verdict_from from (with_room room s) ops ≡ verdict_from from s ops
verdict_from-room room from s [] = refl
verdict_from-room room from s (op ∷ ops) =
    ap (λ (t : SpaceState). refused_or from (request_op_fault (with_room room s) op) (verdict_from (from + 1) t ops)) (after_all-room room (reverse (does s.mappings op)) s)
    ∙ ap (refused_or from (request_op_fault (with_room room s) op)) (verdict_from-room room (from + 1) (after_all (reverse (does s.mappings op)) s) ops)
    ∙ ap (λ (o : Option Fault). refused_or from o (verdict_from (from + 1) (after_all (reverse (does s.mappings op)) s) ops)) (request_op_fault-room room s op)

pub after_withdrawal-room : (room : ℕ) (before : List Mapping) (ops : List PageOp) (s : SpaceState) → after_withdrawal before ops (with_room room s) ≡ with_room room (after_withdrawal before ops s)
after_withdrawal-room room before [] s = refl
after_withdrawal-room room before (op ∷ older) s = after_withdrawal-room room before older (after_restore s op (edited_by_all older before))

pub withdrawal_limits-room : (room : ℕ) (before : List Mapping) (ops : List PageOp) (s : SpaceState) → withdrawal_limits before ops (with_room room s) ≡ withdrawal_limits before ops s
withdrawal_limits-room room before [] s = refl
withdrawal_limits-room room before (op ∷ older) s =
    ap (first_of (limit_fault s (range_of op) (restored s.mappings (range_of op) (edited_by_all older before))))
    (withdrawal_limits-room room before older (after_restore s op (edited_by_all older before)))

pub reverted_by-room : (room : ℕ) (s : SpaceState) (us : List OpUndoState) → reverted_by (with_room room s) us ≡ with_room room (reverted_by s us)
reverted_by-room room s [] = refl
reverted_by-room room s (u ∷ older) = reverted_by-room room (reverted s u) older
