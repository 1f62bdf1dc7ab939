pub mod Subs
pub mod Parts
pub mod Keeps
pub mod Gathers
pub mod Uses
