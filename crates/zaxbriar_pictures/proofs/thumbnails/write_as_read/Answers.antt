use Rattle.std.proofs.lemmas.Result.{err_from_is_err_and}
use Rattle.zaxbriar_pictures.proofs.Reasons.{named-then}
use Rattle.zaxbriar_pictures.proofs.SizedRows.{can-write-sized, sized-written}
use Rattle.jpeg_decoder.specs.ByRows.{rows_rest}
use Rattle.zaxbriar_pictures.proofs.thumbnails.write_as_read.Goals as goal

pub write_rows-requires-clause-possible : goal.write_rows-requires-clause-possible
write_rows-requires-clause-possible g c =
    rw c.form_for.ensures (can-write-sized c.args.format c.args.stored c.args.size c.requires.lines c.requires.pixels)

pub returns-clause-written : goal.returns-clause-written
returns-clause-written g c =
    let w = rw c.form_for.ensures at c.in_ok-write_rows.ensures.written in
    sized-written c.args.format c.args.stored c.args.size c.args.decoder w.0 w.1 _ _ c.of_whole.result c.requires.header
    c.requires.said c.requires.lines c.of_whole.ensures w.2 w.3

pub returns-in_err-write_rows-clause-refused : goal.returns-in_err-write_rows-clause-refused
returns-in_err-write_rows-clause-refused g c known =
    let p = err_from_is_err_and c.from_residual.result c.from_residual.ensures.1 in
    rw (p.1, p.2) (named-then _ (rows_rest c.args.decoder.settings c.args.decoder.found c.args.decoder.source.bytes) _
    (c.in_err-write_rows.ensures.refused known))
