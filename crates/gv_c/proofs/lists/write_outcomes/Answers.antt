use Rattle.std.proofs.Common.{◌≡◌, ℕ, ◌+◌, length, drop, get_or, refl, sym, ap, ◌∙◌, arith}
use Rattle.std.specs.Prelude.{min}
use Rattle.std.proofs.lemmas.List.{length-set, length-drop}
use Rattle.gv_vm.specs.declared.outcome.Outcome.TheVariants.{Accepted}
use Rattle.gv_c.specs.Lists.{numbered}
use Rattle.gv_c.proofs.Written.{over_nil, over_all, at_numbered, length-numbered, write_one}
use Rattle.gv_c.proofs.lists.write_outcomes.Goals as goal

pub loop-k-init : goal.loop-k-init
loop-k-init c = record { long = refl; is = sym (over_nil c.args.list.now) }

pub loop-k-preserved : goal.loop-k-preserved
loop-k-preserved c =
    let told = c.args.told.now in
    let all = numbered c.args.first told in
    let from = c.args.from in
    let k = c.loop-k.k in
    let long = length-numbered c.args.first told in
    let left = length-drop from all in
    record {
      long = length-set c.loop-k.list k c.of.result ∙ c.loop-k.invariant.long;
      is =
          write_one c.args.list.now c.loop-k.list all from k c.of.result c.loop-k.invariant.is
          (omega (arith, c.fitting-count.ensures, c.loop-k.invariant.long)) (omega (arith, c.fitting-count.ensures, long, left))
          (c.of.ensures
          ∙ sym (at_numbered c.args.first told (from + k) c.of.result (Accepted 0) (omega (arith, c.fitting-count.ensures))));
    }

pub returns : goal.returns
returns c =
    let told = c.args.told.now in
    let all = numbered c.args.first told in
    let long = length-numbered c.args.first told in
    let left = length-drop c.args.from all in
    let count : c.fitting-count.result ≡ min (length c.args.list.now) (length (drop c.args.from all)) =
    c.fitting-count.ensures ∙ ap (λ (n : ℕ). min (length c.args.list.now) n) (omega (arith, long, left)) in
    record {
      list = c.loop-k.invariant.is ∙ over_all c.args.list.now (drop c.args.from all) c.loop-k.k (let e : c.loop-k.k ≡ c.fitting-count.result = omega arith in e ∙ count);
      written = count;
      in_all = sym long;
    }
