-- what is claimed: the network, its nodes and its arcs
pub mod Layout
pub mod Places
pub mod Racks
pub mod Certified
-- for private clauses: how far the network is built
pub mod Build
