use Rattle.std.proofs.Common.{◌≡◌, ◌<◌, List, map, length, slice_index_or, arith, ap, sym, ◌∙◌}
use Rattle.std.proofs.lemmas.List.{length-map, get_or-map}
use Rattle.gv_types.specs.declared.mapping.Mapping.{Mapping}
use Rattle.gv_table.specs.BufferNames.{unnamed_mapping}
use Rattle.gv_table.proofs.unnamed_list.UnnamedList.get.Goals as goal

pub returns : goal.returns
returns c = λ d.
    let long = length-map c.self.inside.reader unnamed_mapping in
    let same : length (map unnamed_mapping c.self.inside.reader) ≡ length c.args.self.now = ap (λ (ms : List Mapping). length ms) c.self.view_is in
    let inside : c.args.index < length c.self.inside.reader = omega (arith, long, same, c.requires) in
    c.unnamed.ensures ∙ ap unnamed_mapping (c.get.ensures d) ∙ sym (get_or-map unnamed_mapping c.self.inside.reader c.args.index d d inside) ∙
    ap (λ (ms : List Mapping). slice_index_or ms c.args.index d) c.self.view_is
