-- lists, the table of workers, the tests of a call, and the texts of a result
pub mod Lists
pub mod Slots
pub mod Reasons
pub mod Facts
-- what the starts tell, and where an attempt runs
pub mod Numbers
pub mod Tidying
pub mod Places
pub mod Running
-- every event keeps a state tidy
pub mod Opening
pub mod Holding
pub mod Less
pub mod Ending
pub mod Starting
pub mod Sweeping
pub mod Ahead
pub mod Waves
pub mod BarRoom
-- histories, the problem of a state, and what callers are promised
pub mod Steps
pub mod Histories
pub mod Problems
pub mod Keeping
pub mod AllHeads
pub mod Promises
pub mod Headline
-- scripts, computed from the definitions alone
mod Scripts
mod Rows
mod IndexRows
mod BackupRows
mod WaveRows
mod DeathRows
mod LegalRows
