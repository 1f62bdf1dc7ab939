pub mod Mapped
pub mod Each
pub mod FirstWord
pub mod OneStatement
