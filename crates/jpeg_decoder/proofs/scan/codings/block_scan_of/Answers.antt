use Rattle.std.proofs.Common.{true, false, ◌≡◌, ◌∙◌, rules, sym}
use Rattle.jpeg_bits.specs.declared.beyond.Beyond.TheVariants.{Nothing}
use Rattle.jpeg_segments.specs.FrameView.{frame_in}
use Rattle.jpeg_decoder.proofs.Scans.ReadableScans.{decoded-few, decoded-scales, legal-pass, some-after}
use Rattle.jpeg_decoder.proofs.scan.codings.block_scan_of.Goals.{else-eq, then-eq}
use Rattle.jpeg_decoder.proofs.scan.codings.block_scan_of.Goals as goal

true-false : true ≡ false → ⊥
true-false e = cc

pub codings_of-requires-clause-scales : goal.codings_of-requires-clause-scales
codings_of-requires-clause-scales c = decoded-scales (frame_in c.args.frame.now) c.requires.frame

pub codings_of-requires-clause-few : goal.codings_of-requires-clause-few
codings_of-requires-clause-few c = decoded-few (frame_in c.args.frame.now) c.requires.frame

pub pass_of-pass-requires : goal.pass_of-pass-requires
pass_of-pass-requires c =
    some-after (frame_in c.args.frame.now).process c.args.header.now c.requires.process c.requires.legal.coded

pub invariant_of-result : goal.invariant_of-result
invariant_of-result c = record {
  legal = legal-pass (frame_in c.args.frame.now).process c.args.header.now _ c.requires.process
      c.requires.legal.coded c.pass_of-pass.ensures;
  dc_alone = λ e. elim c.if-eq.branch [
    | then-eq w ↦ absurd (true-false (sym w.if-eq.true ∙ sym w.result-is ∙ e))
    | else-eq w ↦ w.wants_ac.ensures.dc_alone (sym w.result-is ∙ e)
  ];
  kept = λ n. elim c.if-eq.branch [
    | then-eq w ↦ w.result-is ∙ w.if-eq.true
    | else-eq w ↦ let other : c.args.beyond ≡ Nothing → ⊥ = search rules in absurd (other n)
  ];
}
