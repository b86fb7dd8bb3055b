use Rattle.std.proofs.Common.{◌≡◌, ℕ, ◌+◌, length, map, get_or, refl, sym, ap, ◌∙◌, arith}
use Rattle.std.specs.Prelude.{min}
use Rattle.std.proofs.lemmas.List.{length-set, length-map}
use Rattle.gv_c.specs.Values.{c_step}
use Rattle.gv_c.proofs.Written.{over_nil, over_all, at_map, write_one}
use Rattle.gv_c.proofs.lists.write_steps.Goals as goal

pub loop-k-init : goal.loop-k-init
loop-k-init c = record { long = refl; is = sym (over_nil c.args.list.now) }

pub loop-k-preserved : goal.loop-k-preserved
loop-k-preserved c =
    let steps = c.args.steps.now in
    let k = c.loop-k.k in
    let long = length-map steps c_step in
    record {
      long = length-set c.loop-k.list k c.of.result ∙ c.loop-k.invariant.long;
      is =
          write_one c.args.list.now c.loop-k.list (map c_step steps) 0 k c.of.result c.loop-k.invariant.is
          (omega (arith, c.fitting-count.ensures, c.loop-k.invariant.long)) (omega (arith, c.fitting-count.ensures, long))
          (let e : k ≡ 0 + k = omega arith in
          c.of.ensures ∙ ap c_step c.index-steps-k.is ∙ sym (at_map c_step steps k c.of.result c.index-steps-k.result (omega (arith, c.fitting-count.ensures))) ∙ ap (λ (n : ℕ). get_or (map c_step steps) n c.of.result) e);
    }

pub returns : goal.returns
returns c =
    let all = map c_step c.args.steps.now in
    let long = length-map c.args.steps.now c_step in
    let count : c.fitting-count.result ≡ min (length c.args.list.now) (length all) =
    c.fitting-count.ensures ∙ ap (λ (n : ℕ). min (length c.args.list.now) n) (omega (arith, long)) in
    record {
      list = c.loop-k.invariant.is ∙ over_all c.args.list.now all c.loop-k.k (let e : c.loop-k.k ≡ c.fitting-count.result = omega arith in e ∙ count);
      written = count;
      in_all = sym long;
    }
