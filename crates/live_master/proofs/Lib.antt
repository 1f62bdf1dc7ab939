mod Heads
mod Served
mod Sessions
mod Transcript
mod NoCommands
mod PlanLines
