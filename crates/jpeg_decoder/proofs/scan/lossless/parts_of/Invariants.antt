use Rattle.std.proofs.Common.{◌≡◌, ◌++◌, drop, map}
use Rattle.jpeg_segments.specs.FrameView.{frame_in}
use Rattle.jpeg_lossless.specs.Codings.{part_in}
use Rattle.jpeg_decoder.specs.LosslessParts.{parts_at}
use Rattle.jpeg_decoder.proofs.scan.lossless.parts_of.Given as goal

abbrev pub invariant-loop-slot : goal.invariant-loop-slot
invariant-loop-slot l = map part_in l.parts.items
    ++ parts_at l.is_alone (frame_in l.frame).components (drop l.slot l.indices) (drop l.slot (map
    (λ t. t.now) l.tables))
    ≡ parts_at l.is_alone (frame_in l.frame).components l.indices (map (λ t. t.now) l.tables)
