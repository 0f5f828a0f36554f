use Rattle.std.proofs.Common.{◌≡◌, false, rules, subst, sym}
use Rattle.std.specs.List.{concat}
use Rattle.std.specs.Prelude.{IsSomeAnd, OnOk}
use Rattle.std.specs.Io.KnownBytes.{Appends}
use Rattle.zaxbriar_samples.specs.Boxes.{is_smaller}
use Rattle.zaxbriar_samples.specs.DecodedPictures.{Decoded, decoded}
use Rattle.zaxbriar_samples.specs.Files.{file_as}
use Rattle.zaxbriar_samples.specs.Turns.{upright}
use Rattle.zaxbriar_pictures.proofs.WrittenThumbnails.{as-it-is}
use Rattle.zaxbriar_pictures.proofs.thumbnails.write_upright.Goals as goal

-- a picture that fits stays as it is
pub returns-then-not-is_smaller-clause-written : goal.returns-then-not-is_smaller-clause-written
returns-then-not-is_smaller-clause-written g c =
    let p : Decoded = decoded c.args.stored.info c.args.stored.precision (concat c.args.lines) in
    let fits : is_smaller c.args.size c.args.stored.info ≡ false = search rules in
    subst (λ (d : Decoded). OnOk c.write_file.result (IsSomeAnd (file_as c.args.format (upright c.args.stored.orientation d))
    (Appends (g.W.Write.contents c.args.writer.now) (g.W.Write.contents c.write_file.new.writer))))
    (sym (as-it-is c.args.size p fits)) c.write_file.ensures.written
