-- The steps by which an operation changes a list of mappings.
use Rattle.std.specs.Prelude.{ℕ, ◌+◌, Bool, false, ◌&&◌, ◌==◌, if◌then◌else◌, List, ◌++◌, map, filter}
use Rattle.std.specs.Bool.{beq}
use Rattle.gv_types.specs.Page.{PAGES}
use Rattle.gv_types.specs.PageRange.{end_of, meets, lies_in}
use Rattle.gv_types.specs.Mapping.{clip, is_of, is_same_id}
use Rattle.gv_types.specs.Operation.{range_of, own_mapping}
use Rattle.gv_types.specs.declared.mapping.Backing.{Backing}
use Rattle.gv_types.specs.declared.mapping.Backing.TheVariants.{Buffer, Zero}
use Rattle.gv_types.specs.declared.mapping.Flags.{Flags}
use Rattle.gv_types.specs.declared.mapping.Mapping.{Mapping}
use Rattle.gv_types.specs.declared.operation.PageOp.{PageOp}
use Rattle.gv_types.specs.declared.operation.PageOp.TheVariants.{Map as MapOp, Unmap as UnmapOp, UnmapBuffer}
use Rattle.gv_split.specs.declared.step.Step.{Step}
use Rattle.gv_split.specs.declared.step.Step.TheVariants.{Unmap, Remap, Map}

abbrev pub same_flags : Flags → Flags → Bool
same_flags a b = beq a.read_only b.read_only

-- both stand before the same buffer, and their pages continue each other
abbrev pub continues : Backing → ℕ → Backing → ℕ → Bool
continues (Buffer id page) first (Buffer old_id old_page) old_first =
    is_same_id id old_id && (page + old_first == old_page + first)
continues (Buffer id page) first Zero old_first = false
continues Zero first b old_first = false

-- the operation maps the pages of the mapping's buffer again where they were, with equal flags
abbrev pub continues_mapping : PageOp → Mapping → Bool
continues_mapping (MapOp range backing flags) m =
    continues backing range.first m.backing m.range.first && same_flags flags m.flags
continues_mapping (UnmapOp range) m = false
continues_mapping (UnmapBuffer buffer) m = false

-- a mapping gives way to an operation where it has a page in its range, and to an unmap of a whole buffer where it is the
-- buffer's
abbrev pub gives_way : PageOp → Mapping → Bool
gives_way (MapOp range backing flags) m = meets m.range range
gives_way (UnmapOp range) m = meets m.range range
gives_way (UnmapBuffer buffer) m = is_of buffer m.backing

-- a mapping wholly inside the range goes, and of another the rests stay
abbrev pub step_in : PageOp → Mapping → Step
step_in op m =
    if lies_in m.range (range_of op) then Unmap m (continues_mapping op m)
    else Remap m (clip 0 (range_of op).first m) (clip (end_of (range_of op)) PAGES m) (continues_mapping op m)

-- the step for a mapping that gives way; under an unmap of a whole buffer it goes as it is
abbrev pub step_of : PageOp → Mapping → Step
step_of (MapOp range backing flags) m = step_in (MapOp range backing flags) m
step_of (UnmapOp range) m = step_in (UnmapOp range) m
step_of (UnmapBuffer buffer) m = Unmap m false

-- a step for each mapping that gives way, in ascending order, and one for the operation's own mapping
abbrev pub steps : List Mapping → PageOp → List Step
steps ms op = map (step_of op) (filter (gives_way op) ms) ++ map Map (own_mapping op)
