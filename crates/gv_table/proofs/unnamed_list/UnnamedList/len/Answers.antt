use Rattle.std.proofs.Common.{List, subst}
use Rattle.gv_types.specs.declared.mapping.Mapping.{Mapping}
use Rattle.gv_ranges.specs.List.{IsLaidOut}
use Rattle.gv_table.proofs.Unnamed.{laid_out-unnamed}
use Rattle.gv_table.proofs.unnamed_list.UnnamedList.len.Goals as goal

pub returns-clause-laid_out : goal.returns-clause-laid_out
returns-clause-laid_out c = subst (λ (ms : List Mapping). IsLaidOut ms) c.self.view_is (laid_out-unnamed c.self.inside.reader 0 c.len.ensures.laid_out)
