pub mod Endings
pub mod Limits
pub mod Lines
pub mod Machine
pub mod MultiPicture
pub mod Worked
