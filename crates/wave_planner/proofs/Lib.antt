pub mod Costed
pub mod OverRacks
