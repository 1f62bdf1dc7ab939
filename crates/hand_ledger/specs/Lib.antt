pub mod Entries
pub mod Hands
pub mod Inside
pub mod Marks
pub mod Settling
