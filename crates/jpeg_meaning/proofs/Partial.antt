-- Without a fault, what is shown of a stream is its picture.
pub mod ReachedIntervals
pub mod RowIntervals
pub mod ScanSamples
pub mod FittingFrames
pub mod CompletedPictures
pub mod Faultless
