pub mod Shipped
pub mod Orders
pub mod Starts
pub mod TightPath
pub mod DepthFirst
pub mod NextUnit
