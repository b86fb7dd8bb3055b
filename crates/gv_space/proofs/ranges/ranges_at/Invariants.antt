use Rattle.std.proofs.Common.{◌≡◌, Bool, map, filter, take}
use Rattle.gv_types.specs.declared.mapping.Mapping.{Mapping}
use Rattle.gv_space.proofs.ranges.ranges_at.Given as goal

abbrev pub invariant-loop-page : goal.invariant-loop-page
invariant-loop-page l = (test : Mapping → Bool) → l.first_pages ≡ map (λ m. m.range.first) (filter test l.list.mappings) →
    l.ranges.items ≡ map (λ m. m.range) (take l.page-index (filter test l.list.mappings))
