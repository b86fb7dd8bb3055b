pub mod Sums
pub mod KindLemmas
pub mod RangesMeet
pub mod PagesOf
pub mod Slots
mod PageChains
pub mod TablesInSlots
mod Unnamed
pub mod CoveringMappings
pub mod AlikeLists
pub mod ListPositions
pub mod Wants
pub mod Trees
mod Shapes
pub mod RowLoops
pub mod Named
pub mod NamedTrees
pub mod PageSlotDecoding
pub mod SlotWrittenBack
mod RunOfPages
pub mod TablesAsWanted
pub mod NextSlotPainted
pub mod OneSlotPainted
mod SameTables
pub mod UniformSlots
pub mod Needs
mod NeedsOfOnePart
pub mod GainedAtMostNeeded
pub mod EditLemmas
pub mod SameTreeLemmas
pub mod FewerTablesThanPages
pub mod TableCountUpdates
mod Patched
mod LeafRows
mod GainsUndoLosses
