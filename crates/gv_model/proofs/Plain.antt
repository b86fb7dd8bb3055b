-- `PlainList`: all values of its map are mappings.
use Rattle.std.proofs.Common.{◌≡◌, ℕ, Option, Some, subst}
use Rattle.std.specs.Prelude.{IfSome}
use Rattle.std.specs.List.{All}
use Rattle.std.specs.Ordering.{nat_cmp}
use Rattle.std.specs.BTreeMap.{BTreeMap, values, get, is_at}
use Rattle.std.proofs.lemmas.Map.Views.{IfSome-lookup_from_All}
use Rattle.gv_types.specs.Mapping.{IsMapping}
use Rattle.gv_types.specs.declared.mapping.Mapping.{Mapping}

-- so is what a look-up finds
pub found_is_mapping : (m : BTreeMap ℕ Mapping) (k : ℕ) (v : Mapping) → All IsMapping (values m) → get nat_cmp m k ≡ Some v → IsMapping v
found_is_mapping m k v all found =
    let P : Option Mapping → Type 0 = λ o. IfSome o IsMapping in
    subst P found (IfSome-lookup_from_All IsMapping (is_at (nat_cmp k)) m.entries all)
