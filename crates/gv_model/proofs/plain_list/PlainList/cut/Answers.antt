use Rattle.std.specs.Ordering.{nat_cmp}
use Rattle.std.specs.BTreeMap.{is_at}
use Rattle.std.proofs.lemmas.Map.Views.{All-map-remove_entry}
use Rattle.gv_types.specs.Mapping.{IsMapping}
use Rattle.gv_model.proofs.plain_list.PlainList.cut.Goals as goal

pub invariant_of-self : goal.invariant_of-self
invariant_of-self c =
    rw (c.remove.ensures.entries)
    (All-map-remove_entry (is_at (nat_cmp c.in-Some.first)) _ IsMapping c.self.inside.mappings.entries c.self.invariant)

pub invariant_of-self-in_default-clip : goal.invariant_of-self-in_default-clip
invariant_of-self-in_default-clip c =
    rw (c.remove.ensures.entries)
    (All-map-remove_entry (is_at (nat_cmp c.in-Some.first)) _ IsMapping c.self.inside.mappings.entries c.self.invariant)
