use Rattle.std.proofs.Common.{◌≡◌, List, length, map, take, drop, sym, ap, ◌∙◌, arith}
use Rattle.std.specs.Prelude.{min}
use Rattle.std.proofs.lemmas.List.{length-map, length-drop, take-map, drop-map}
use Rattle.gv_types.specs.declared.mapping.Mapping.{Mapping}
use Rattle.gv_c.specs.Lists.{written_over}
use Rattle.gv_c.specs.Values.{c_mapping}
use Rattle.gv_c.proofs.Written.{over_nil, over_all}
use Rattle.gv_c.proofs.lists.write_mappings.Goals as goal

pub returns-then-count-eq0 : goal.returns-then-count-eq0
returns-then-count-eq0 c =
    let all = map c_mapping c.args.mappings.now.mappings in
    let many = length-map c.args.mappings.now.mappings c_mapping in
    let left = length-drop c.args.from all in
    let none : 0 ≡ min (length c.args.list.now) (length (drop c.args.from all)) =
    omega (arith, c.if-count-eq0.true, c.fitting-count.ensures, c.len.ensures.len, many, left) in
    record {
      list = sym (over_nil c.args.list.now) ∙ over_all c.args.list.now (drop c.args.from all) 0 none;
      written = none;
      in_all = sym many;
    }

pub returns : goal.returns
returns c =
    let ms = c.args.mappings.now.mappings in
    let all = map c_mapping ms in
    let from = c.args.from in
    let n = c.fitting-count.result in
    let many = length-map ms c_mapping in
    let left = length-drop from all in
    let count : n ≡ min (length c.args.list.now) (length (drop from all)) = omega (arith, c.fitting-count.ensures, c.len.ensures.len, many, left) in
    let taken : map c_mapping c.run.result ≡ take n (drop from all) =
    ap (λ (xs : List Mapping). map c_mapping xs) c.run.ensures ∙ sym (take-map c_mapping n (drop from ms))
    ∙ ap (λ (xs : List _). take n xs) (sym (drop-map c_mapping from ms)) in
    record {
      list = c.write_run.ensures ∙ ap (λ (xs : List _). written_over c.args.list.now xs) taken ∙ over_all c.args.list.now (drop from all) n count;
      written = count;
      in_all = sym many;
    }
