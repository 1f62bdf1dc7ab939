pub mod Commands
pub mod Documents
pub mod Heads
pub mod Naming
pub mod Ready
pub mod Scripts
pub mod Settings
