-- what is claimed: least paths, and what a search to a sink leaves
pub mod Paths
pub mod Lowering
pub mod ToSink
-- the arcs by which a search leaves the nodes
pub mod Lists
pub mod Matched
pub mod Sorted
-- for the search's own clauses
pub mod Order
pub mod Searching
pub mod Search
pub mod Finding
