-- the network: its nodes and its arcs
pub mod Layout
pub mod Places
pub mod Direct
pub mod Build
-- for private clauses: where the live holders of a split stand
pub mod Marks
