-- Streams worked by hand are written: their tests compute.
pub mod TestedData
pub mod TestedStreams
pub mod WorkedStreams
