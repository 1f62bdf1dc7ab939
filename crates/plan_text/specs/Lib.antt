pub mod Names
pub mod Tidy
pub mod Value
pub mod Reading
pub mod Report
