-- The segments of a stream, turn by turn, its header, and what may stand after a scan.
pub mod PassedRestarts
pub mod LeftBytes
pub mod Turns
pub mod WalkedScans
pub mod MarkedTurns
pub mod TurnLoops
pub mod TurnsToScan
pub mod Headers
pub mod HeaderThenRest
pub mod ScaledHeaders
pub mod ReplacedTables
pub mod SkippedApplications
