use Rattle.std.proofs.Common.{arith, refl}
use Rattle.zaxbriar_samples.specs.Parts.{pixel_bytes}
use Rattle.zaxbriar_samples.proofs.PartLines.{is-there}
use Rattle.zaxbriar_pictures.proofs.PartPictures.{crop-room, crop-there, is-area}
use Rattle.zaxbriar_pictures.proofs.lines.part_of.Goals as goal

pub crop-requires-clause-lines : goal.crop-requires-clause-lines
crop-requires-clause-lines c =
    let h = is-there c.args.area c.args.stored.info c.requires.inside in
    omega (arith, h.bottom, c.requires.height)

pub crop-requires-clause-bytes : goal.crop-requires-clause-bytes
crop-requires-clause-bytes c =
    crop-room c.args.area c.args.stored c.args.lines _ _ _ c.requires.inside c.requires.bytes (cc) (cc) (cc)

pub returns : goal.returns
returns c =
    is-area c.args.area c.args.stored c.args.lines _ c.requires.bytes c.requires.height c.requires.inside refl
    (crop-there c.args.area (pixel_bytes c.args.stored.info c.args.stored.precision) c.args.lines c.in_ok-lines.lines
    _ _ _ _ c.in_ok-lines.ensures (cc) (cc) (cc) (cc))
