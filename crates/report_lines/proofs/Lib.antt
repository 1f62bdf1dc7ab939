pub mod Bare
pub mod Following
pub mod Hearing
pub mod NumberedRows
pub mod Told
pub mod Rise
pub mod Written
