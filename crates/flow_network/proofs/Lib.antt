-- what a push does: balances, potentials, the loop over a path
pub mod Balance
pub mod Paths
pub mod Cheapest
pub mod Pushing
-- capacities: room above a node, units handed on
pub mod Room
pub mod Limits
pub mod HandOn
-- the lists of leaving arcs: how add_arc keeps them, what they hold
pub mod Members
pub mod Listing
pub mod Listed
