-- Scans that are read: their tables, their data, and what they decide.
pub mod CodedScales
pub mod CountedWork
pub mod LimitedHeaders
pub mod DecidedPlanes
pub mod DecidedScans
pub mod ReadableScans
pub mod ScanReads
pub mod SlotCodings
pub mod ScanCodings
pub mod BlocksBefore
pub mod PlacedCodings
pub mod ScanData
pub mod SequentialScans
