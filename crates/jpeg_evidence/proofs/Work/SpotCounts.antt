-- How many blocks a scan has, by the sizes of its frame.
use Rattle.std.proofs.Common.{◌≡◌, List, [], ◌∷◌, length, refl}
use Rattle.jpeg_segments.specs.Frame.{Component, Frame}
use Rattle.jpeg_meaning.specs.Order.{spots_of}
use Rattle.jpeg_meaning.proofs.Order.SpotCounts.{alone-spots, several-spots}
use Rattle.jpeg_evidence.specs.Limits.{spots_counted}

pub spots_are_counted : (frame : Frame) (cs : List Component) → length (spots_of frame cs) ≡ spots_counted frame cs
unfolding spots_of spots_counted
spots_are_counted frame [] = refl
spots_are_counted frame (c ∷ []) = alone-spots frame c
spots_are_counted frame (c ∷ d ∷ more) = several-spots frame c d more
