use Rattle.std.proofs.Common.{rules, arith}
use Rattle.std.proofs.lemmas.Grind.{common_steps}
use Rattle.std.proofs.lemmas.List.{map-set}
use Rattle.jpeg_segments.specs.FrameView.{component_in, frame_in}
use Rattle.jpeg_meaning.proofs.Soundness.{decoded-precision}
use Rattle.jpeg_decoder.specs.Steps.{with_decoded}
use Rattle.jpeg_decoder.proofs.Partial.ShownParts.{precision-some, samples-put, samples-seen, samples-there}
use Rattle.jpeg_decoder.proofs.picture.partial.complete_samples.Goals as goal

pub returns-then-is_some : goal.returns-then-is_some
returns-then-is_some c base =
    samples-there (frame_in c.args.frame.now) (with_decoded base c.args.decoded.now) c.args.index
    (component_in c.args.component.now) (samples-seen c.args.decoded.now.samples c.args.index
    c.index-decoded-index.result _
    _ (omega (arith, c.requires.index)) c.index-decoded-index.is (search rules))

pub grey_samples-requires : goal.grey_samples-requires
grey_samples-requires c = record {
  some = omega (arith, precision-some (frame_in c.args.frame.now) c.requires.frame c.requires.process);
  most = decoded-precision (frame_in c.args.frame.now) c.requires.frame c.requires.process;
}

pub returns : goal.returns
returns c base =
    samples-put (frame_in c.args.frame.now) (with_decoded base c.args.decoded.now) _ c.args.index
    (component_in c.args.component.now) c.in_ok-samples.samples.items (samples-seen c.args.decoded.now.samples
    c.args.index
    c.index-decoded-index.result _ _ (omega (arith, c.requires.index)) c.index-decoded-index.is (search rules))
    c.in_ok-samples.ensures (grind (arith, common_steps, map-set))
