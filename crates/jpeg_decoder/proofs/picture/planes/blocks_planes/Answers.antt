use Rattle.std.proofs.Common.{◌∙◌, Global, Vec, map, rules, ℕ}
use Rattle.std.proofs.lemmas.List.{length-map}
use Rattle.jpeg_segments.specs.FrameView.{frame_in}
use Rattle.jpeg_decoder.proofs.Pictures.OwnPlanes.{if-own}
use Rattle.jpeg_decoder.proofs.picture.planes.blocks_planes.Goals as goal

pub returns-clause-sizes : goal.returns-clause-sizes
returns-clause-sizes c =
    if-own {X = Vec (Vec ℕ Global) Global} (λ v. map (λ p. p.items) v.items) (frame_in c.args.frame.now) (map (λ p. p.items) c.in_ok-planes.planes.items)
    c.own_planes.result
    (c.requires.sound.frames _ c.requires.frame) c.requires.process
    (length-map c.in_ok-planes.planes.items (λ p. p.items) ∙ c.in_ok-planes.ensures.count) (search rules)
