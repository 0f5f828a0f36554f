use Rattle.std.proofs.Common.{inr, refl}
use Rattle.std.proofs.lemmas.Result.{err_from_is_err_and}
use Rattle.std.specs.List.{concat}
use Rattle.zaxbriar_samples.specs.DecodedPictures.{decoded}
use Rattle.jpeg_meaning.specs.Pixels.{info_by}
use Rattle.zaxbriar_pictures.proofs.FittingParts.{said-there}
use Rattle.zaxbriar_pictures.proofs.WrittenRows.{lines-said}
use Rattle.zaxbriar_pictures.proofs.thumbnails.write_lines.Goals as goal

pub write_upright-requires-clause-height : goal.write_upright-requires-clause-height
write_upright-requires-clause-height g c =
    (lines-said c.args.decoder c.decode_wanted_lines.new.decoder c.args.stored c.in_ok-decoded.decoded.lines
    c.requires.said c.in_ok-decoded.ensures.stays c.in_ok-decoded.ensures.settings c.in_ok-decoded.ensures.lines
    c.in_ok-decoded.ensures.counted).height

pub write_upright-requires-clause-bytes : goal.write_upright-requires-clause-bytes
write_upright-requires-clause-bytes g c =
    (lines-said c.args.decoder c.decode_wanted_lines.new.decoder c.args.stored c.in_ok-decoded.decoded.lines
    c.requires.said c.in_ok-decoded.ensures.stays c.in_ok-decoded.ensures.settings c.in_ok-decoded.ensures.lines
    c.in_ok-decoded.ensures.counted).bytes

pub returns-clause-written : goal.returns-clause-written
returns-clause-written g c =
    let info = said-there (info_by c.args.decoder.settings) _ _ _ c.in_ok-decoded.ensures.stays c.requires.said.info_is in
    record {
      picture = decoded c.args.stored.info c.args.stored.precision (concat c.in_ok-decoded.decoded.lines);
      new = c.decode_wanted_lines.new.decoder;
      gives = record {
        rest = c.in_ok-decoded.ensures.gives;
        info_is = info;
        precision_is = said-there (λ f. f.precision) _ _ _ c.in_ok-decoded.ensures.stays c.requires.said.precision_is;
        told_is = refl;
        rows = c.in_ok-decoded.ensures.rows c.args.stored.info info;
      };
      written = c.in_ok-write_upright.ensures.written;
    }

pub returns-in_err-decoded-clause-refused : goal.returns-in_err-decoded-clause-refused
returns-in_err-decoded-clause-refused g c known =
    let p = err_from_is_err_and c.from_residual.result c.from_residual.ensures.1 in
    rw (p.1, p.2) (c.in_err-decoded.ensures.refused known)

pub returns-in_err-write_upright-clause-refused : goal.returns-in_err-write_upright-clause-refused
returns-in_err-write_upright-clause-refused g c known =
    let p = err_from_is_err_and c.from_residual-in_err-write_upright.result
    c.from_residual-in_err-write_upright.ensures.1 in
    rw (p.1, p.2) (inr c.in_err-write_upright.ensures.refused)
