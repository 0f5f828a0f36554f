pub mod Collected
pub mod CollectedView
pub mod Exif
pub mod Photoshop
pub mod Worked
pub mod Xmp
