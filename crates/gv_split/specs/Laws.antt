-- What holds of the steps of every operation on every list in order.
use Rattle.std.specs.Prelude.{◌≡◌, List, map, filter, reverse}
use Rattle.gv_types.specs.Mapping.{is_of}
use Rattle.gv_types.specs.Operation.{IsChecked}
use Rattle.gv_types.specs.declared.mapping.BufferId.{BufferId}
use Rattle.gv_types.specs.declared.mapping.Mapping.{Mapping}
use Rattle.gv_types.specs.declared.operation.PageOp.{PageOp}
use Rattle.gv_types.specs.declared.operation.PageOp.TheVariants.{Unmap, UnmapBuffer}
use Rattle.gv_ranges.specs.List.{IsLaidOut}
use Rattle.gv_ranges.specs.Edit.{edited_by_all}
use Rattle.gv_split.specs.Steps.{steps}
use Rattle.gv_split.specs.CarriedOut.{carried_out, ArePresent, list_after}

-- the steps carried out make the list that the operation makes
abbrev pub StepsMakeTheList : Type 0
StepsMakeTheList = (ms : List Mapping) (op : PageOp) → IsLaidOut ms → IsChecked op → carried_out (steps ms op) ms ≡ list_after ms op

-- each step finds its mapping at its turn, or its pages free
abbrev pub StepsArePresent : Type 0
StepsArePresent = (ms : List Mapping) (op : PageOp) → IsLaidOut ms → IsChecked op → ArePresent (steps ms op) ms

-- the unmaps of the pages of each of a buffer's mappings, in the order of the list
abbrev pub unmaps_of : BufferId → List Mapping → List PageOp
unmaps_of buffer ms = map Unmap (map (λ m. m.range) (filter (λ m. is_of buffer m.backing) ms))

-- an unmap of a whole buffer makes what the unmaps of its mappings make one after another
abbrev pub UnmapOfBufferIsUnmaps : Type 0
UnmapOfBufferIsUnmaps = (ms : List Mapping) (buffer : BufferId) → IsLaidOut ms →
    edited_by_all (reverse (unmaps_of buffer ms)) ms ≡ list_after ms (UnmapBuffer buffer)
