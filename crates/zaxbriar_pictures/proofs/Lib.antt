mod Allowances
mod AllowedRests
mod CheckedStreams
mod ChosenSizes
mod ChosenStreams
mod FileRows
mod FittingParts
mod GivenLines
mod PartPictures
mod PictureLines
mod ReadRows
mod Reasons
pub mod ScaledStreams
mod SizedRows
mod WriterErrors
mod WrittenThumbnails
mod WrittenRows
