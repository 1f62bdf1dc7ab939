pub mod Aheads
pub mod Held
pub mod Steps
pub mod Waves
