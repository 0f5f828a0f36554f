use Rattle.jpeg_lossless.specs.Prediction.{residue}
use Rattle.zaxbriar_strict.specs.ScanSamples.{difference_codes}
use Rattle.zaxbriar_strict.proofs.SampleDifferences.{differences-one}
use Rattle.zaxbriar_strict.proofs.lossless.Lines.read_sample.Goals as goal

pub returns-clause-read : goal.returns-clause-read
returns-clause-read c = λ placed.
    differences-one (difference_codes c.args.tables.now c.args.self.now.member) (residue c.in_ok-difference.difference)
    (c.in_ok-difference.ensures placed)
