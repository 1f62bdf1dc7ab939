pub mod Holding
pub mod Copying
pub mod Room
pub mod Walking
pub mod Orders
pub mod Computed
