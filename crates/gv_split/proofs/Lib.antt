pub mod CarriedOutLemmas
pub mod UnmapWholeBuffer
