-- A limit of the blocks that the scans of a stream code, and how many they are.
pub mod LimitedWalks
pub mod LimitedMeanings
pub mod SpotCounts
