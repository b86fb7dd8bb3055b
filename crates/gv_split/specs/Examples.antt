-- Worked examples of steps.
use Rattle.std.specs.Prelude.{◌≡◌, true, false, Some, None, [], ◌∷◌}
use Rattle.gv_types.specs.Mapping.{buffer_id}
use Rattle.gv_types.specs.declared.mapping.Backing.TheVariants.{Zero}
use Rattle.gv_ranges.specs.Examples.{a, b, of, fixed, map_at, unmap_at}
use Rattle.gv_types.specs.PageRange.{span}
use Rattle.gv_types.specs.declared.operation.PageOp.TheVariants.{Map as MapOp, UnmapBuffer}
use Rattle.gv_split.specs.declared.step.Step.TheVariants.{Unmap, Remap, Map}
use Rattle.gv_split.specs.Steps.{steps}
use Rattle.gv_split.specs.CarriedOut.{carried_out, ArePresent}

-- a hole in a mapping leaves both rests, the second further on in the buffer
abbrev pub HoleKeepsBothRests : Type 0
HoleKeepsBothRests =
    steps (of 0 4 (b 0) ∷ []) (unmap_at 1 1) ≡ Remap (of 0 4 (b 0)) (Some (of 0 1 (b 0))) (Some (of 2 2 (b 2))) false ∷ []

-- a map over three mappings: the outer two keep a rest, and the middle one goes
abbrev pub MapUnmapsTheMiddle : Type 0
MapUnmapsTheMiddle =
    steps (of 0 2 (a 0) ∷ of 2 2 (a 2) ∷ of 4 2 (a 4) ∷ []) (map_at 1 4 (b 0))
    ≡ Remap (of 0 2 (a 0)) (Some (of 0 1 (a 0))) None false
    ∷ Unmap (of 2 2 (a 2)) false
    ∷ Remap (of 4 2 (a 4)) None (Some (of 5 1 (a 5))) false
    ∷ Map (of 1 4 (b 0)) ∷ []

-- the same mapping again is kept, and with other flags or another buffer it is not
abbrev pub SameMapIsKept : Type 0
SameMapIsKept =
    (steps (of 0 4 (b 0) ∷ []) (map_at 0 4 (b 0)) ≡ Unmap (of 0 4 (b 0)) true ∷ Map (of 0 4 (b 0)) ∷ [])
    × (steps (of 0 4 (b 0) ∷ []) (MapOp (span 0 4) (b 0) (record { read_only = true })) ≡ Unmap (of 0 4 (b 0)) false ∷ Map (fixed 0 4 (b 0)) ∷ [])
    × (steps (of 0 4 (b 0) ∷ []) (map_at 0 4 (a 0)) ≡ Unmap (of 0 4 (b 0)) false ∷ Map (of 0 4 (a 0)) ∷ [])

-- a remap whose pages continue is kept too, and one whose pages do not is not
abbrev pub PartOfMapIsKept : Type 0
PartOfMapIsKept =
    (steps (of 0 4 (b 0) ∷ []) (map_at 2 2 (b 2)) ≡ Remap (of 0 4 (b 0)) (Some (of 0 2 (b 0))) None true ∷ Map (of 2 2 (b 2)) ∷ [])
    × (steps (of 0 4 (b 0) ∷ []) (map_at 2 2 (b 0)) ≡ Remap (of 0 4 (b 0)) (Some (of 0 2 (b 0))) None false ∷ Map (of 2 2 (b 0)) ∷ [])

-- pages of zeros are never kept
abbrev pub ZerosAreNotKept : Type 0
ZerosAreNotKept = steps (of 0 4 Zero ∷ []) (map_at 0 4 Zero) ≡ Unmap (of 0 4 Zero) false ∷ Map (of 0 4 Zero) ∷ []

-- an unmap of a whole buffer takes out each of its mappings as it is, and leaves those of another buffer and of a buffer
-- that was made in its place
abbrev pub UnmapOfBuffer : Type 0
UnmapOfBuffer =
    (steps (of 0 2 (a 0) ∷ of 2 2 (b 0) ∷ fixed 4 1 (a 9) ∷ of 6 1 Zero ∷ []) (UnmapBuffer (buffer_id 0 0))
    ≡ Unmap (of 0 2 (a 0)) false ∷ Unmap (fixed 4 1 (a 9)) false ∷ [])
    × (steps (of 0 2 (a 0) ∷ []) (UnmapBuffer (buffer_id 0 1)) ≡ [])

-- carried out, a hole's one step puts both rests in the mapping's place, between its neighbours
abbrev pub HoleCarriedOut : Type 0
HoleCarriedOut =
    carried_out (Remap (of 2 4 (b 0)) (Some (of 2 1 (b 0))) (Some (of 4 2 (b 2))) false ∷ []) (of 0 2 (a 0) ∷ of 2 4 (b 0) ∷ of 6 1 (a 2) ∷ [])
    ≡ of 0 2 (a 0) ∷ of 2 1 (b 0) ∷ of 4 2 (b 2) ∷ of 6 1 (a 2) ∷ []

-- a map over three mappings, step by step, ends with its own mapping between the rests of the outer two
abbrev pub MapOverThreeCarriedOut : Type 0
MapOverThreeCarriedOut =
    (carried_out (Remap (of 0 2 (a 0)) (Some (of 0 1 (a 0))) None false ∷ []) (of 0 2 (a 0) ∷ of 2 2 (a 2) ∷ of 4 2 (a 4) ∷ [])
    ≡ of 0 1 (a 0) ∷ of 2 2 (a 2) ∷ of 4 2 (a 4) ∷ [])
    × (carried_out
    (Remap (of 0 2 (a 0)) (Some (of 0 1 (a 0))) None false
    ∷ Unmap (of 2 2 (a 2)) false
    ∷ Remap (of 4 2 (a 4)) None (Some (of 5 1 (a 5))) false
    ∷ Map (of 1 4 (b 0)) ∷ [])
    (of 0 2 (a 0) ∷ of 2 2 (a 2) ∷ of 4 2 (a 4) ∷ [])
    ≡ of 0 1 (a 0) ∷ of 1 4 (b 0) ∷ of 5 1 (a 5) ∷ [])

-- a map at the very pages of a mapping takes it out, kept or not, and puts its own in there
abbrev pub SameMapCarriedOut : Type 0
SameMapCarriedOut =
    carried_out (Unmap (of 2 2 (b 0)) true ∷ Map (of 2 2 (b 0)) ∷ []) (of 0 2 (a 0) ∷ of 2 2 (b 0) ∷ of 4 2 (a 2) ∷ [])
    ≡ of 0 2 (a 0) ∷ of 2 2 (b 0) ∷ of 4 2 (a 2) ∷ []

-- an unmap of a whole buffer leaves the others as they are
abbrev pub UnmapOfBufferCarriedOut : Type 0
UnmapOfBufferCarriedOut =
    carried_out (Unmap (of 0 2 (a 0)) false ∷ Unmap (fixed 4 1 (a 9)) false ∷ []) (of 0 2 (a 0) ∷ of 2 2 (b 0) ∷ fixed 4 1 (a 9) ∷ of 6 1 Zero ∷ [])
    ≡ of 2 2 (b 0) ∷ of 6 1 Zero ∷ []

-- an unmap of pages that hold nothing has no step, and a map there puts its own mapping in between
abbrev pub NothingToUnmap : Type 0
NothingToUnmap =
    (steps (of 0 2 (a 0) ∷ of 6 2 (a 2) ∷ []) (unmap_at 2 4) ≡ [])
    × (carried_out [] (of 0 2 (a 0) ∷ of 6 2 (a 2) ∷ []) ≡ of 0 2 (a 0) ∷ of 6 2 (a 2) ∷ [])
    × (carried_out (Map (of 2 4 (b 0)) ∷ []) (of 0 2 (a 0) ∷ of 6 2 (a 2) ∷ []) ≡ of 0 2 (a 0) ∷ of 2 4 (b 0) ∷ of 6 2 (a 2) ∷ [])

-- a map at the very pages of a mapping finds them free once that one went, and not before
abbrev pub MapFindsPagesFree : Type 0
MapFindsPagesFree =
    ArePresent (Unmap (of 2 2 (b 0)) true ∷ Map (of 2 2 (b 0)) ∷ []) (of 0 2 (a 0) ∷ of 2 2 (b 0) ∷ [])
    × (ArePresent (Map (of 2 2 (b 0)) ∷ []) (of 0 2 (a 0) ∷ of 2 2 (b 0) ∷ []) → ⊥)
