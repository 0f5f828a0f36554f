pub mod Areas
pub mod Orientation
pub mod Tiff
pub mod Turns
pub mod Worked
