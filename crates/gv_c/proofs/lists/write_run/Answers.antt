use Rattle.std.proofs.Common.{◌≡◌, suc, ◌+◌, ◌<◌, ◌∷◌, List, length, map, take, drop, set, get_or, refl, sym, ap, ◌∙◌, arith}
use Rattle.std.proofs.lemmas.List.{length-set, length-map, drop_more}
use Rattle.gv_c.specs.Lists.{written_over}
use Rattle.gv_c.specs.Values.{c_mapping}
use Rattle.gv_c.proofs.Written.{over_nil, over_more, at_map}
use Rattle.gv_c.proofs.lists.write_run.Goals as goal

pub loop-mapping-init : goal.loop-mapping-init
loop-mapping-init c =
    let e : length c.into_iter-mapping-iterator.result ≡ length c.args.run = ap length c.into_iter-mapping-iterator.ensures.into_iter_gives in
    record {
      long = refl;
      at = omega (arith, e);
      left = c.into_iter-mapping-iterator.ensures.into_iter_gives;
      is = sym (over_nil c.args.list.now);
      can = _;
      finite = _;
    }

pub loop-mapping-preserved : goal.loop-mapping-preserved
loop-mapping-preserved c =
    let ms = c.args.run in
    let k = c.loop-mapping.k in
    let m = c.in-Some.mapping.now in
    let rest = c.next.new.self in
    let inv = c.loop-mapping.invariant in
    let all = map c_mapping ms in
    let longer : length c.loop-mapping.mapping-iterator ≡ suc (length rest) = ap length (c.in-Some.ensures.steps) in
    let below : k < length ms = omega (arith, longer, inv.at) in
    let apart : m ∷ rest ≡ get_or ms k m ∷ drop (k + 1) ms = sym (c.in-Some.ensures.steps) ∙ inv.left ∙ drop_more ms k m below in
    let here : m ≡ get_or ms k m = cc in
    let later : rest ≡ drop (k + 1) ms = cc in
    let many = length-map ms c_mapping in
    let value : c.of.result ≡ get_or all k c.of.result = c.of.ensures ∙ ap c_mapping (c.mapping.ensures.value ∙ here) ∙ sym (at_map c_mapping ms k c.of.result m below) in
    record {
      long = length-set c.loop-mapping.list k c.of.result ∙ inv.long;
      at = omega (arith, longer, inv.at);
      left = later;
      is =
          ap (λ (ts : List _). set ts k c.of.result) inv.is ∙ ap (λ (z : _). set (written_over c.args.list.now (take k all)) k z) value
          ∙ over_more c.args.list.now all k c.of.result (omega (arith, c.requires, below)) (omega (arith, many, below));
      can = _;
      finite = _;
    }
