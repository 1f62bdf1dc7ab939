pub mod Counts
pub mod Entries
pub mod Inside
pub mod Lists
pub mod Rows
