-- what a start costs, by where its worker meets a holder, and that the network is one of its wave
pub mod Distances
pub mod Heights
pub mod RackWays
-- the network is built
pub mod Sizes
pub mod Rows
-- it lies in layers, and each wave has one
pub mod Layers
pub mod Exists
