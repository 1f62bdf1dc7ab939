pub mod Orders
pub mod Lanes
pub mod Rule
pub mod Steps
