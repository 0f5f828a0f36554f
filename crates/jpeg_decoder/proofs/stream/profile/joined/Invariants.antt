use Rattle.std.proofs.Common.{map}
use Rattle.jpeg_segments.specs.FrameView.{chunk_in}
use Rattle.jpeg_meaning.proofs.ProfileLemmas.{Joins}
use Rattle.jpeg_decoder.proofs.stream.profile.joined.Given as goal

abbrev pub invariant-loop-index : goal.invariant-loop-index
invariant-loop-index l = record { joins : Joins (map chunk_in l.chunks) l.index l.bytes.items }
