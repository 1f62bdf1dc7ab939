-- members of lists, the order of the queue, costs
pub mod InOrder
pub mod Costs
-- the lists of each node's arcs, and the matched sources among them
pub mod Sorting
pub mod Following
pub mod Kept
-- the laws of lowering, and what they make of a search's distances
pub mod Lowering
pub mod ToSink
-- the search: its moves, its ends
pub mod Listing
pub mod Arriving
pub mod Sums
pub mod Cursors
pub mod Settled
pub mod Searching
pub mod Looking
pub mod SearchEnds
pub mod Finds
-- its paths to all nodes
pub mod AllPaths
