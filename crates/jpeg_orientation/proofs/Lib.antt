pub mod Directories
pub mod Orientations
pub mod Parts
pub mod Rules
