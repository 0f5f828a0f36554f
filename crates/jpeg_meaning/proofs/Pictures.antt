-- Pictures of coefficients and of samples.
pub mod LimitedPictures
pub mod UpsampledFactors
pub mod WholeImages
pub mod PicturedFrames
pub mod DecodedHeaders
pub mod PrintedImages
pub mod LosslessSizes
pub mod AcceptedSamples
pub mod PaddingUnseen
pub mod SamplesAlike
pub mod PlainScans
