use Rattle.std.proofs.Common.{◌≡◌, ℕ, sym, ap, subst}
use Rattle.gv_buffers.specs.Buffers.{left_everywhere}
use Rattle.gv_space.specs.State.{SpaceState}
use Rattle.gv_vm.specs.Jobs.{JobsState, AreHeld}
use Rattle.gv_vm.proofs.BufferUsers.{AreHeld-begun, next_uses_nothing, given_up}
use Rattle.gv_vm.proofs.jobs.Jobs.begin.Goals as goal

pub returns-in-Ok-clause-held : goal.returns-in-Ok-clause-held
returns-in-Ok-clause-held c =
    AreHeld-begun c.lookups.ensures.changed c.args.space.now c.hold_and_add.new.space c.args.self.now c.hold_and_add.new.self c.args.accesses.now c.in-Ok.job c.requires c.in-Ok.ensures.none c.in-Ok.ensures.begun

pub returns-in-Err-clause-space : goal.returns-in-Err-clause-space
returns-in-Err-clause-space c =
    let begun : c.self.inside.begun ≡ c.args.self.now.begun = ap (λ (r : JobsState). r.begun) c.self.view_is in
    let left : left_everywhere c.self.inside.begun c.hold_and_add.new.space.buffers ≡ left_everywhere c.self.inside.begun c.args.space.now.buffers =
    subst (λ (job : ℕ). left_everywhere job c.hold_and_add.new.space.buffers ≡ left_everywhere job c.args.space.now.buffers) (sym begun) c.in-Err.ensures.left in
    let nothing : left_everywhere c.self.inside.begun c.args.space.now.buffers ≡ c.args.space.now.buffers =
    subst (λ (job : ℕ). left_everywhere job c.args.space.now.buffers ≡ c.args.space.now.buffers) (sym begun)
    (c.leaving.ensures.nothing c.args.space.now.buffers c.args.self.now.begun (next_uses_nothing c.args.space.now.buffers c.args.self.now c.requires c.many_fault.ensures.running)) in
    given_up c.args.space.now c.hold_and_add.new.space c.leave.new.self c.self.inside.begun c.in-Err.ensures.rest left c.leave.ensures.state nothing

pub returns-in-Err-clause-held : goal.returns-in-Err-clause-held
returns-in-Err-clause-held c =
    let space : c.leave.new.self ≡ c.args.space.now =
    let begun : c.self.inside.begun ≡ c.args.self.now.begun = ap (λ (r : JobsState). r.begun) c.self.view_is in
    let left : left_everywhere c.self.inside.begun c.hold_and_add.new.space.buffers ≡ left_everywhere c.self.inside.begun c.args.space.now.buffers =
    subst (λ (job : ℕ). left_everywhere job c.hold_and_add.new.space.buffers ≡ left_everywhere job c.args.space.now.buffers) (sym begun) c.in-Err.ensures.left in
    let nothing : left_everywhere c.self.inside.begun c.args.space.now.buffers ≡ c.args.space.now.buffers =
    subst (λ (job : ℕ). left_everywhere job c.args.space.now.buffers ≡ c.args.space.now.buffers) (sym begun)
    (c.leaving.ensures.nothing c.args.space.now.buffers c.args.self.now.begun (next_uses_nothing c.args.space.now.buffers c.args.self.now c.requires c.many_fault.ensures.running)) in
    given_up c.args.space.now c.hold_and_add.new.space c.leave.new.self c.self.inside.begun c.in-Err.ensures.rest left c.leave.ensures.state nothing in
    subst (λ (s : SpaceState). AreHeld s.buffers c.hold_and_add.new.self.running) (sym space)
    (subst (λ (r : JobsState). AreHeld c.args.space.now.buffers r.running) (sym c.in-Err.ensures.unchanged) c.requires)
