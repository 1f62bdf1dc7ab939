-- the reward as the cost of an arc
pub mod Reward
-- arcs in a list, sums at a node, and depths along a way
pub mod Arcs
pub mod Sums
pub mod Tables
pub mod Rows
pub mod Costs
pub mod Ways
-- each pending split sends one unit
pub mod Pending
pub mod Sources
-- what is read off certifies, and a flow is an assignment
pub mod Priced
pub mod Certified
-- an assignment is a flow
pub mod Waiting
pub mod Routes
pub mod Routed
-- what prices certify is read off a least-cost flow
pub mod Potentials
-- units are handed on
pub mod Units
pub mod Places
pub mod Handed
