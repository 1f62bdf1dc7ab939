-- where the live holders of a split stand
pub mod Marking
-- the network, arc by arc
pub mod Rows
-- it is a network of its wave
pub mod DirectWays
