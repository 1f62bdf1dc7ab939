pub mod Sums
pub mod Each
pub mod Last
