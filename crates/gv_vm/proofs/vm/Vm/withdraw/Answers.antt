use Rattle.std.proofs.Common.{◌≡◌, ◌∙◌, ap, subst, None}
use Rattle.std.specs.Prelude.{OnOk, IfErr}
use Rattle.gv_journal.specs.Withdrawing.{withdraw_fault, IsWithdrawRefused, IsWithdrawn}
use Rattle.gv_vm.specs.State.{VmState, roomless}
use Rattle.gv_vm.specs.VmInside.{parts_of}
use Rattle.gv_vm.proofs.Withdrawn.{IsVm-withdraw}
use Rattle.gv_vm.proofs.Roomless.{withdraw_allowed_if, withdraw_refused_if, withdrawn_if, withdrawal_room}
use Rattle.gv_vm.proofs.vm.Vm.withdraw.Goals as goal

pub invariant_of-self : goal.invariant_of-self
invariant_of-self c =
    IsVm-withdraw (parts_of c.self.inside) c.withdraw-withdrawn.new.space c.withdraw-withdrawn.new.self c.args.entry c.withdraw-withdrawn.result c.self.invariant c.withdraw-withdrawn.ensures.withdrawn
    c.withdraw-withdrawn.ensures.space_unchanged c.withdraw-withdrawn.ensures.unchanged c.withdraw-withdrawn.ensures.fits c.list-list.ensures.space

pub returns-clause-accepted : goal.returns-clause-accepted
returns-clause-accepted c =
    subst (λ (v : VmState). OnOk c.withdraw-withdrawn.result (withdraw_fault v.space v.journal c.args.entry ≡ None)) c.self.view_is
    (withdraw_allowed_if c.self.inside.space c.self.inside.journal c.args.entry c.withdraw-withdrawn.result c.withdraw-withdrawn.ensures.accepted)

pub returns-clause-refused : goal.returns-clause-refused
returns-clause-refused c =
    subst (λ (v : VmState). IfErr c.withdraw-withdrawn.result (IsWithdrawRefused v.space v.journal c.args.entry)) c.self.view_is
    (withdraw_refused_if c.self.inside.space c.self.inside.journal c.args.entry c.withdraw-withdrawn.result c.withdraw-withdrawn.ensures.refused)

pub returns-clause-withdrawn : goal.returns-clause-withdrawn
returns-clause-withdrawn c =
    subst (λ (v : VmState). OnOk c.withdraw-withdrawn.result (IsWithdrawn v.space (roomless c.withdraw-withdrawn.new.space) v.journal c.withdraw-withdrawn.new.self c.args.entry)) c.self.view_is
    (withdrawn_if c.self.inside.space c.withdraw-withdrawn.new.space c.self.inside.journal c.withdraw-withdrawn.new.self c.args.entry c.withdraw-withdrawn.result c.withdraw-withdrawn.ensures.withdrawn)

pub returns-clause-room : goal.returns-clause-room
returns-clause-room c =
    withdrawal_room c.self.inside.space c.withdraw-withdrawn.new.space c.self.inside.journal c.withdraw-withdrawn.new.self c.args.entry c.withdraw-withdrawn.result
    c.withdraw-withdrawn.ensures.withdrawn c.withdraw-withdrawn.ensures.space_unchanged
    ∙ ap (λ (v : VmState). v.space.room) c.self.view_is
