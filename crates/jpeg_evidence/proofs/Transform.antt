-- How near the transform is to the exact one.
pub mod Integers
pub mod Sums
pub mod Errors
pub mod NearTransform
