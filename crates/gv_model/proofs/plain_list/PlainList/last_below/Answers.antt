use Rattle.gv_model.proofs.Plain.{found_is_mapping}
use Rattle.gv_model.proofs.plain_list.PlainList.last_below.Goals as goal

pub returns-clause-mapping : goal.returns-clause-mapping
returns-clause-mapping c =
    let last = (c.range.ensures.in_range tt).3 _ _ c.in_ok-first.ensures.steps in
    found_is_mapping c.self.inside.mappings _ _ c.self.invariant last.1
