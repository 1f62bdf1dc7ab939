pub mod Streams
pub mod CommandRun
