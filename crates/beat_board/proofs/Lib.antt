pub mod Keeps
pub mod Gathers
