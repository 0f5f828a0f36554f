mod Collecting
mod Directories
mod Extensions
pub mod OnLiterals
mod Resources
mod Rules
