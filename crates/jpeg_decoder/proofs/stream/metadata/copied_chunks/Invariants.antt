use Rattle.std.proofs.Common.{◌≡◌, map, take}
use Rattle.jpeg_segments.specs.FrameView.{chunk_in}
use Rattle.jpeg_decoder.proofs.stream.metadata.copied_chunks.Given as goal

abbrev pub invariant-loop-chunk : goal.invariant-loop-chunk
invariant-loop-chunk l = map chunk_in l.copies.items ≡ map chunk_in (take l.chunk-index l.chunks)
