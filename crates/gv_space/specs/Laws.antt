-- What holds of every address space.
use Rattle.std.specs.Prelude.{List, ◌++◌}
use Rattle.gv_types.specs.declared.mapping.Mapping.{Mapping}
use Rattle.gv_space.specs.State.{SpaceState, AreKept}

-- the mappings that undo values hold may be told in any order, so those of any undo value may come first
abbrev pub KeptInAnyOrder : Type 0
KeptInAnyOrder =
    (s : SpaceState) (newer taken older : List Mapping) → AreKept s (newer ++ (taken ++ older)) → AreKept s (taken ++ (newer ++ older))
