pub mod Attempts
pub mod Backups
pub mod Clusters
pub mod Fitting
pub mod Inside
pub mod Near
pub mod Queues
pub mod Starts
