use Rattle.jpeg_decoder.proofs.Callers.{bytes_are_known, known_bytes_are_told}
use Rattle.std.proofs.Common.{inr}
use Rattle.std.proofs.lemmas.Result.{err_from_is_err_and}
use Rattle.zaxbriar_pictures.proofs.thumbnails.write_thumbnail.Goals as goal

pub returns-clause-written : goal.returns-clause-written
returns-clause-written g c bytes tells =
    let known = bytes_are_known (g.R.Read.remaining c.args.reader) bytes tells in
    let same = known_bytes_are_told (g.R.Read.remaining c.args.reader) bytes tells in
    let written = rw (c.set_luma.ensures, c.in_ok-decoder.ensures.ok) at c.write_chosen.ensures.written in
    rw same at written known

pub returns-clause-limited : goal.returns-clause-limited
returns-clause-limited g c bytes tells =
    let known = bytes_are_known (g.R.Read.remaining c.args.reader) bytes tells in
    let same = known_bytes_are_told (g.R.Read.remaining c.args.reader) bytes tells in
    let limited = rw (c.set_luma.ensures, c.in_ok-decoder.ensures.ok) at c.write_chosen.ensures.limited in
    rw same at limited known

pub returns-in_err-decoder-clause-refused : goal.returns-in_err-decoder-clause-refused
returns-in_err-decoder-clause-refused g c bytes tells =
    let p = err_from_is_err_and c.from_residual.result c.from_residual.ensures.1 in
    rw (p.1, p.2, c.in_err-decoder.ensures.err) (inr tt)

pub returns-clause-refused : goal.returns-clause-refused
returns-clause-refused g c bytes tells =
    let known = bytes_are_known (g.R.Read.remaining c.args.reader) bytes tells in
    let same = known_bytes_are_told (g.R.Read.remaining c.args.reader) bytes tells in
    let refused = rw (c.set_luma.ensures, c.in_ok-decoder.ensures.ok) at c.write_chosen.ensures.refused in
    rw same at refused known
