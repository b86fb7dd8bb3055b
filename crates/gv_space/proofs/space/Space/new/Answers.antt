use Rattle.std.proofs.Common.{rules}
use Rattle.gv_space.proofs.FirstPageLists.{places_none}
use Rattle.gv_space.proofs.space.Space.new.Goals as goal

pub invariant_of-result : goal.invariant_of-result
invariant_of-result c = record {
  space = search rules;
  named = search rules;
  first_pages = rw c.new-2.ensures.mappings (places_none c.new-3.result c.new-3.ensures);
  rows = search rules;
}
