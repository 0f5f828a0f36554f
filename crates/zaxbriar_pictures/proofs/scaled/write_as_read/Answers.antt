use Rattle.std.proofs.lemmas.Result.{err_from_is_err_and}
use Rattle.jpeg_decoder.specs.ByRows.{rows_rest}
use Rattle.zaxbriar_pictures.proofs.FileRows.{can-write, rows-written}
use Rattle.zaxbriar_pictures.proofs.PartPictures.{area-within}
use Rattle.zaxbriar_pictures.proofs.Reasons.{named-then}
use Rattle.zaxbriar_pictures.proofs.scaled.write_as_read.Goals as goal

pub write_rows-requires-clause-possible : goal.write_rows-requires-clause-possible
write_rows-requires-clause-possible g c =
    can-write c.args.format c.args.stored c.area_for.result c.requires.lines c.requires.pixels

pub write_rows-requires-clause-within : goal.write_rows-requires-clause-within
write_rows-requires-clause-within g c =
    area-within c.args.crop c.args.stored c.area_for.result c.area_for.ensures c.requires.fits

pub returns-clause-written : goal.returns-clause-written
returns-clause-written g c =
    let w = c.in_ok-write_rows.ensures.written in
    rows-written c.args.crop c.area_for.result c.args.format c.args.stored c.args.decoder w.0 w.1 _ _ c.of_whole.result
    c.requires.header c.requires.said c.requires.lines c.area_for.ensures c.of_whole.ensures w.2 w.3

pub returns-in_err-write_rows-clause-refused : goal.returns-in_err-write_rows-clause-refused
returns-in_err-write_rows-clause-refused g c known =
    let p = err_from_is_err_and c.from_residual.result c.from_residual.ensures.1 in
    rw (p.1, p.2) (named-then _ (rows_rest c.args.decoder.settings c.args.decoder.found c.args.decoder.source.bytes) _
    (c.in_err-write_rows.ensures.refused known))
