pub mod Keywords
pub mod Places
pub mod Lines
pub mod Demands
