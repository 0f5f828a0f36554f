-- The order of the blocks of a scan, and the walk over them.
pub mod Walks
pub mod OrderedWalks
pub mod ScanOrders
pub mod BlockSteps
