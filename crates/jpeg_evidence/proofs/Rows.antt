-- The first rows of a picture stay where a scan goes on.
pub mod LocalLines
pub mod LumaLines
pub mod FirstRows
pub mod FirstBlockRows
pub mod UnreadRows
pub mod NeededLines
pub mod AlikeStates
pub mod AlikePictures
pub mod ScanRows
pub mod OnwardTurns
pub mod StreamRows
pub mod FinalRows
pub mod LosslessRows
