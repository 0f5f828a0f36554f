-- Rows of MCUs of a sequential scan, and the strips of planes that they give.
pub mod StoredRows
pub mod StripRows
pub mod RowBuffers
pub mod ByStrips
pub mod ReachedRows
pub mod StripSteps
pub mod StripScans
pub mod ReachedStrips
pub mod SpotsInFrame
pub mod RefusedRows
pub mod ThroughRows
pub mod JointDecided
pub mod KeptStrips
pub mod JointStrips
pub mod FirstPlanes
pub mod JointAdded
