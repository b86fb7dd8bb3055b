use Rattle.std.proofs.Common.{◌<◌, ◌≤◌, sym, ◌∙◌, arith}
use Rattle.gv_journal.specs.Items.{next}
use Rattle.gv_vm.proofs.AddressPasts.{past_all, one_listed, none_listed, one_to_list}
use Rattle.gv_vm.proofs.vm.Vm.past.Goals as goal

pub loop-number-preserved-in-Continue-1 : goal.loop-number-preserved-in-Continue-1
loop-number-preserved-in-Continue-1 c =
    let j = c.args.self.now.journal in
    let low : j.first < c.loop-number.number = omega arith in
    let high : c.loop-number.number ≤ next j = omega arith in
    record {
      held = omega (arith, low);
      within = omega (arith, high);
      items = c.in_ok-push.ensures.items ∙ one_listed j c.args.addr c.loop-number.number c.loop-number.list.items c.in-Some.item low high c.loop-number.invariant.items (sym c.in-Some.is ∙ c.effect_at.ensures);
    }

pub loop-number-preserved : goal.loop-number-preserved
loop-number-preserved c =
    let j = c.args.self.now.journal in
    let low : j.first < c.loop-number.number = omega arith in
    let high : c.loop-number.number ≤ next j = omega arith in
    record {
      held = omega (arith, low);
      within = omega (arith, high);
      items = none_listed j c.args.addr c.loop-number.number c.loop-number.list.items low high c.loop-number.invariant.items (sym c.in_default.is ∙ c.effect_at.ensures);
    }

pub returns-in_err-push-clause-some : goal.returns-in_err-push-clause-some
returns-in_err-push-clause-some c =
    let j = c.args.self.now.journal in
    let low : j.first < c.loop-number.number = omega arith in
    let high : c.loop-number.number ≤ next j = omega arith in
    λ _. one_to_list j c.args.addr c.loop-number.number c.in-Some.item low high (sym c.in-Some.is ∙ c.effect_at.ensures)

pub returns-clause-items : goal.returns-clause-items
returns-clause-items c =
    c.loop-number.invariant.items ∙ past_all c.args.self.now.journal c.args.addr c.loop-number.number (omega (arith, c.loop-number.invariant.held))
