pub mod DeviceFlags
pub mod OneLineMore
pub mod UndeclaredNames
pub mod LinesRead
pub mod FirstPart
pub mod LastPart
pub mod WholeRun
