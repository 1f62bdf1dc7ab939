pub mod Build
pub mod Subcommands
pub mod Mrjob
