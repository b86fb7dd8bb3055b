use Rattle.std.specs.Ordering.{nat_cmp}
use Rattle.std.proofs.lemmas.Map.Views.{All-values-insert_entry}
use Rattle.gv_types.specs.Mapping.{IsMapping}
use Rattle.gv_model.proofs.plain_list.PlainList.insert.Goals as goal

pub invariant_of-self-2 : goal.invariant_of-self-2
invariant_of-self-2 c =
    rw (c.in_ok-insert.ensures.entries)
    (All-values-insert_entry nat_cmp _ c.args.mapping IsMapping c.self.inside.mappings.entries c.self.invariant c.requires)
