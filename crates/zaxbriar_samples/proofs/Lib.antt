mod AdlerSteps
mod BoxSums
mod Boxings
mod CrcSteps
mod Greatest
pub mod LinesTogether
pub mod PartLines
pub mod PartPixels
pub mod PngSteps
pub mod Rules
pub mod TakenLines
mod Turned
