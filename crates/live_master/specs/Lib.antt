pub mod Refusals
pub mod Requests
pub mod Plans
pub mod Serving
pub mod Sessions
