pub mod Heads
pub mod Stepping
pub mod Waving
