use Rattle.std.proofs.Common.{◌≡◌, refl, sym, ◌∙◌, ap, subst, ◌+◌, List, [], ◌∷◌, ◌++◌, get_or}
use Rattle.gv_buffers.specs.declared.usage.Usage.TheVariants.{Read}
use Rattle.gv_vm.specs.declared.jobs.Access.{Access}
use Rattle.gv_vm.specs.declared.places.Place.{Place}
use Rattle.gv_vm.specs.Holding.{HoldsSoFar}
use Rattle.gv_vm.proofs.Holdings.{HoldsSoFar-none, HoldsSoFar-more, AreRefused-here, no_fault}
use Rattle.gv_vm.proofs.holding.hold_all.Goals as goal

abbrev any : Access
any = record { addr = 0; usage = Read }

pub loop-number-init : goal.loop-number-init
loop-number-init c =
    subst (λ (xs : List Place). HoldsSoFar c.args.space.now c.args.space.now c.args.job 0 c.args.accesses.now xs) (sym c.new-places.ensures.items)
    (HoldsSoFar-none c.args.space.now c.args.job c.args.accesses.now)

pub loop-number-preserved : goal.loop-number-preserved
loop-number-preserved c =
    let a : Access = get_or c.args.accesses.now c.loop-number.number any in
    let more : HoldsSoFar c.args.space.now c.hold.new.space c.args.job (c.loop-number.number + 1) c.args.accesses.now (c.loop-number.places.items ++ c.in-Ok.place ∷ []) =
    HoldsSoFar-more c.args.space.now c.loop-number.space c.hold.new.space c.args.job c.loop-number.number c.args.accesses.now c.loop-number.places.items a any c.in-Ok.place
    c.loop-number.invariant c.loop-number-test.true refl (no_fault _ c.in-Ok.place c.in-Ok.ensures.fault) c.in-Ok.ensures.place c.in-Ok.ensures.ok c.in-Ok.ensures.left c.in-Ok.ensures.kept in
    let items : c.push_reserved.new.self.items ≡ c.loop-number.places.items ++ c.in-Ok.place ∷ [] =
    c.push_reserved.ensures.items ∙ ap (λ (xs : List Place). xs ++ c.in-Ok.place ∷ []) c.reserve.ensures.items in
    subst (λ (xs : List Place). HoldsSoFar c.args.space.now c.hold.new.space c.args.job (c.loop-number.number + 1) c.args.accesses.now xs) (sym items) more

pub returns-in-Err-clause-refused : goal.returns-in-Err-clause-refused
returns-in-Err-clause-refused c =
    AreRefused-here c.args.space.now c.loop-number.space c.args.job c.loop-number.number c.args.accesses.now c.loop-number.places.items
    (get_or c.args.accesses.now c.loop-number.number any) any c.in-Err.fault c.loop-number.invariant c.loop-number-test.true refl c.in-Err.ensures.fault
