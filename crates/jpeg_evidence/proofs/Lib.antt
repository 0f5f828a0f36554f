pub mod Rules
pub mod HeaderRules
pub mod OnLiterals
pub mod Taken
pub mod Rows
pub mod Cut
pub mod Transform
pub mod Work
