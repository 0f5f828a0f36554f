-- The picture of the planes at the end of an image, and its lines.
pub mod DecodedLines
pub mod Ratios
pub mod DecodedImages
pub mod EndedPlanes
pub mod PicturesOfPlanes
pub mod JointEnds
pub mod LinesTogether
pub mod PartLines
pub mod WrittenLines
pub mod PictureSizes
pub mod OwnPlanes
pub mod LumaPictures
pub mod SparedColours
pub mod SparedPictures
pub mod SparedPlanes
pub mod SentComponents
