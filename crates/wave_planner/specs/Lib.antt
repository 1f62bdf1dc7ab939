pub mod Planned
pub mod PlannedView
pub mod Engine
