-- Steps as a driver carries them out, and the list that an operation of any kind leaves.
use Rattle.std.specs.Prelude.{◌≡◌, Bool, false, not, ◌==◌, nat_lt, if◌then◌else◌, List, [], ◌∷◌, ◌++◌, filter, flat_map}
use Rattle.std.specs.List.{All, Contains}
use Rattle.std.specs.Option.{option_to_list}
use Rattle.gv_types.specs.PageRange.{meets}
use Rattle.gv_types.specs.Mapping.{is_of}
use Rattle.gv_types.specs.declared.mapping.BufferId.{BufferId}
use Rattle.gv_types.specs.declared.mapping.Mapping.{Mapping}
use Rattle.gv_types.specs.declared.operation.PageOp.{PageOp}
use Rattle.gv_types.specs.declared.operation.PageOp.TheVariants.{Map as MapOp, Unmap as UnmapOp, UnmapBuffer}
use Rattle.gv_ranges.specs.Edit.{edited}
use Rattle.gv_split.specs.declared.step.Step.{Step}
use Rattle.gv_split.specs.declared.step.Step.TheVariants.{Unmap, Remap, Map}

-- the mapping that begins where this one does gives its place to these; no two of a list begin at one page
abbrev pub replaced_by : Mapping → List Mapping → List Mapping → List Mapping
replaced_by old new = flat_map (λ m. if m.range.first == old.range.first then new else m ∷ [])

abbrev pub begins_before : Mapping → Mapping → Bool
begins_before new m = nat_lt m.range.first new.range.first

-- a mapping put in at its index by address
abbrev pub put_in : Mapping → List Mapping → List Mapping
put_in new ms = filter (begins_before new) ms ++ new ∷ filter (λ m. not (begins_before new m)) ms

-- what a driver does for one step: an unmap takes its mapping out, a remap puts its rests in the mapping's place, and a
-- map puts its mapping in
abbrev pub carried_out_one : Step → List Mapping → List Mapping
carried_out_one (Unmap old keep) = replaced_by old []
carried_out_one (Remap old prev next keep) = replaced_by old (option_to_list prev ++ option_to_list next)
carried_out_one (Map new) = put_in new

-- the list after the steps, one after another from the first to the last
abbrev pub carried_out : List Step → List Mapping → List Mapping
carried_out [] ms = ms
carried_out (step ∷ later) ms = carried_out later (carried_out_one step ms)

-- the mapping that a step names stands in the list, and the pages of one that it puts in are free
abbrev pub CanBeCarriedOut : Step → List Mapping → Type 0
CanBeCarriedOut (Unmap old keep) ms = Contains ms old
CanBeCarriedOut (Remap old prev next keep) ms = Contains ms old
CanBeCarriedOut (Map new) ms = All (λ m. meets m.range new.range ≡ false) ms

-- so it is of each step at its turn
abbrev pub ArePresent : List Step → List Mapping → Type 0
ArePresent [] ms = Unit {0}
ArePresent (step ∷ later) ms = CanBeCarriedOut step ms × ArePresent later (carried_out_one step ms)

-- the list without a buffer's mappings
abbrev pub without_buffer : BufferId → List Mapping → List Mapping
without_buffer buffer = filter (λ m. not (is_of buffer m.backing))

-- the list after an operation of any kind
abbrev pub list_after : List Mapping → PageOp → List Mapping
list_after ms (MapOp range backing flags) = edited ms (MapOp range backing flags)
list_after ms (UnmapOp range) = edited ms (UnmapOp range)
list_after ms (UnmapBuffer buffer) = without_buffer buffer ms
