pub mod Flows
pub mod Flow
pub mod Laws
pub mod Leaving
