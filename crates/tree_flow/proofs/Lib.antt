-- the ends of a split, and sums over the workers under a node
pub mod Costs
pub mod Ends
pub mod Filled
pub mod Under
-- the terms of a wave with prices of places
pub mod Fair
-- what is read off a state certifies
pub mod Certified
-- steps keep it
pub mod Raised
pub mod Moved
pub mod Given
-- units go on
pub mod Children
