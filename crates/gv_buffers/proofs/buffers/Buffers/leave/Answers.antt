use Rattle.std.proofs.Common.{ℕ, List, refl, sym, subst, inr, Contains}
use Rattle.gv_buffers.proofs.TablesAndSlots.{is_table}
use Rattle.gv_buffers.proofs.JoinAndLeave.{left_table}
use Rattle.gv_buffers.proofs.buffers.Buffers.leave.Goals as goal

pub returns-in-Some : goal.returns-in-Some
returns-in-Some c = record {
  value = (left_table c.self.inside c.args.self.now c.leave_all.new.self c.forget.new.indices c.args.job c.self.invariant c.self.view_is c.leave_all.ensures.vacant c.leave_all.ensures.length c.leave_all.ensures.others
      (λ index noted. c.leave_all.ensures.noted index (subst (λ (ps : List ℕ). Contains ps index) (sym c.deref.ensures.value) (c.in-Some.ensures.noted index noted)))
      c.in-Some.ensures.kept).table;
  table = is_table _ _ (left_table c.self.inside c.args.self.now c.leave_all.new.self c.forget.new.indices c.args.job c.self.invariant c.self.view_is c.leave_all.ensures.vacant c.leave_all.ensures.length c.leave_all.ensures.others
      (λ index noted. c.leave_all.ensures.noted index (subst (λ (ps : List ℕ). Contains ps index) (sym c.deref.ensures.value) (c.in-Some.ensures.noted index noted)))
      c.in-Some.ensures.kept).sound refl;
}

pub returns-in_default : goal.returns-in_default
returns-in_default c = record {
  value = (left_table c.self.inside c.args.self.now c.self.inside.slots c.forget.new.indices c.args.job c.self.invariant c.self.view_is refl refl (λ index. inr refl)
      (λ index noted. absurd (c.in_default.ensures.noted index noted)) c.in_default.ensures.kept).table;
  table = is_table _ _ (left_table c.self.inside c.args.self.now c.self.inside.slots c.forget.new.indices c.args.job c.self.invariant c.self.view_is refl refl (λ index. inr refl)
      (λ index noted. absurd (c.in_default.ensures.noted index noted)) c.in_default.ensures.kept).sound refl;
}

pub invariant_of-self : goal.invariant_of-self
invariant_of-self c =
    (left_table c.self.inside c.args.self.now c.leave_all.new.self c.forget.new.indices c.args.job c.self.invariant c.self.view_is c.leave_all.ensures.vacant c.leave_all.ensures.length c.leave_all.ensures.others
    (λ index noted. c.leave_all.ensures.noted index (subst (λ (ps : List ℕ). Contains ps index) (sym c.deref.ensures.value) (c.in-Some.ensures.noted index noted)))
    c.in-Some.ensures.kept).sound

pub invariant_of-self-in_default : goal.invariant_of-self-in_default
invariant_of-self-in_default c =
    (left_table c.self.inside c.args.self.now c.self.inside.slots c.forget.new.indices c.args.job c.self.invariant c.self.view_is refl refl (λ index. inr refl)
    (λ index noted. absurd (c.in_default.ensures.noted index noted)) c.in_default.ensures.kept).sound
