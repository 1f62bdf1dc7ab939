pub mod Calls
pub mod Entering
pub mod Marking
