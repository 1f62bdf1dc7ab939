-- what a network of a wave has to offer, and how it grows
pub mod Pending
pub mod Ways
pub mod Networks
pub mod Building
pub mod Tables
-- what is read off its flows
pub mod Prices
pub mod Pricing
pub mod Layers
pub mod HandOn
-- and that what prices certify is read off some
pub mod Duals
