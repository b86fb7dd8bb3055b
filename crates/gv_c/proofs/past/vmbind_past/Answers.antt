use Rattle.std.proofs.Common.{◌≡◌, ◌∙◌, ap, subst}
use Rattle.gv_vm.specs.AddressPast.{past_of}
use Rattle.gv_vm.specs.State.{VmState}
use Rattle.gv_c.specs.Past.{ArePast}
use Rattle.gv_c.specs.declared.held.Held.{Held}
use Rattle.gv_c.proofs.past.vmbind_past.Goals as goal

pub returns-clause-past : goal.returns-clause-past
returns-clause-past c =
    let listing = c.write_past-listing in
    let same : c.vm.result.now ≡ c.in-Some.held.value.world.vm = c.vm.ensures ∙ ap (λ (h : Held). h.world.vm) c.deref.ensures in
    let said : ArePast (past_of c.in-Some.held.value.world.vm.journal c.args.address) c.args.from c.args.list.now listing.result.status listing.new.list listing.result.count listing.result.total =
    subst (λ (v : VmState). ArePast (past_of v.journal c.args.address) c.args.from c.args.list.now listing.result.status listing.new.list listing.result.count listing.result.total) same listing.ensures in
    rw c.in-Some.ensures.was said
