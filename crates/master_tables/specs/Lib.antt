pub mod Ends
pub mod Entries
pub mod Kept
pub mod Lines
pub mod Places
pub mod Slots
pub mod Starting
