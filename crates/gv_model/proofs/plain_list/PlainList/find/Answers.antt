use Rattle.gv_model.proofs.Plain.{found_is_mapping}
use Rattle.gv_model.proofs.plain_list.PlainList.find.Goals as goal

pub part-requires-clause-mapping : goal.part-requires-clause-mapping
part-requires-clause-mapping c =
    let last = (c.range.ensures.in_range tt).3 _ _ c.in_ok-mapping.ensures.steps in
    found_is_mapping c.self.inside.mappings _ _ c.self.invariant last.1
