-- The pages of a buffer's mappings.
use Rattle.std.specs.List.{All}
use Rattle.std.specs.Prelude.{List, filter}
use Rattle.std.proofs.lemmas.List.Elements.{All-filter, All-map}
use Rattle.gv_types.specs.PageRange.{IsInSpace}
use Rattle.gv_types.specs.Mapping.{is_of, IsMapping}
use Rattle.gv_types.specs.declared.mapping.BufferId.{BufferId}
use Rattle.gv_types.specs.declared.mapping.Mapping.{Mapping}
use Rattle.gv_ranges.specs.List.{IsLaidOut}
use Rattle.gv_ranges.proofs.ReplacedLemmas.{all_mappings}
use Rattle.gv_space.specs.Counts.{ranges_of}

pub ranges_in_space : (id : BufferId) (ms : List Mapping) → IsLaidOut ms → All IsInSpace (ranges_of id ms)
ranges_in_space id ms laid =
    let mappings : All IsMapping (filter (λ m. is_of id m.backing) ms) = All-filter (λ m. is_of id m.backing) IsMapping ms (all_mappings ms 0 laid) in
    All-map IsInSpace (λ (m : Mapping). m.range) _ (λ k d within. (mappings k d within).0)
