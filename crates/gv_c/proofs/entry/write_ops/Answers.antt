use Rattle.std.proofs.Common.{◌≡◌, ℕ, ◌+◌, length, map, get_or, refl, sym, ap, ◌∙◌, arith}
use Rattle.std.specs.Prelude.{min}
use Rattle.std.proofs.lemmas.List.{length-set, length-map}
use Rattle.gv_c.specs.Entries.{c_op}
use Rattle.gv_c.proofs.Written.{over_nil, over_all, at_map, write_one}
use Rattle.gv_c.proofs.entry.write_ops.Goals as goal

pub loop-k-init : goal.loop-k-init
loop-k-init c = record { long = refl; is = sym (over_nil c.args.list.now) }

pub loop-k-preserved : goal.loop-k-preserved
loop-k-preserved c =
    let ops = c.args.ops.now in
    let k = c.loop-k.k in
    let long = length-map ops c_op in
    record {
      long = length-set c.loop-k.list k c.operation_of.result ∙ c.loop-k.invariant.long;
      is =
          write_one c.args.list.now c.loop-k.list (map c_op ops) 0 k c.operation_of.result c.loop-k.invariant.is
          (omega (arith, c.fitting-count.ensures, c.loop-k.invariant.long)) (omega (arith, c.fitting-count.ensures, long))
          (let e : k ≡ 0 + k = omega arith in
          c.operation_of.ensures ∙ ap c_op c.index-ops-k.is ∙ sym (at_map c_op ops k c.operation_of.result c.index-ops-k.result (omega (arith, c.fitting-count.ensures))) ∙ ap (λ (n : ℕ). get_or (map c_op ops) n c.operation_of.result) e);
    }

pub returns : goal.returns
returns c =
    let all = map c_op c.args.ops.now in
    let long = length-map c.args.ops.now c_op in
    let count : c.fitting-count.result ≡ min (length c.args.list.now) (length all) =
    c.fitting-count.ensures ∙ ap (λ (n : ℕ). min (length c.args.list.now) n) (omega (arith, long)) in
    record {
      list = c.loop-k.invariant.is ∙ over_all c.args.list.now all c.loop-k.k (let e : c.loop-k.k ≡ c.fitting-count.result = omega arith in e ∙ count);
      written = count;
      in_all = sym long;
    }
