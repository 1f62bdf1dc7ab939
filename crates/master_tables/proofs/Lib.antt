pub mod Together
pub mod Showing
pub mod Counting
pub mod Burials
pub mod WaveLines
pub mod Starts
pub mod Startable
