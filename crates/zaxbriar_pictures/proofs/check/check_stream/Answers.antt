use Rattle.jpeg_decoder.proofs.Callers.{bytes_are_known, known_bytes_are_told}
use Rattle.std.proofs.Common.{inr}
use Rattle.std.proofs.lemmas.Result.{err_from_is_err_and}
use Rattle.zaxbriar_pictures.proofs.CheckedStreams.{whole-checked}
use Rattle.zaxbriar_pictures.proofs.check.check_stream.Goals as goal

pub returns-clause-told : goal.returns-clause-told
returns-clause-told g c bytes tells =
    let known = bytes_are_known (g.R.Read.remaining c.args.reader) bytes tells in
    let same = known_bytes_are_told (g.R.Read.remaining c.args.reader) bytes tells in
    let told = rw c.in_ok-decoder.ensures.ok at c.check_decoder.ensures.told in
    rw same at told known

pub returns-clause-whole : goal.returns-clause-whole
returns-clause-whole g c bytes tells =
    let known = bytes_are_known (g.R.Read.remaining c.args.reader) bytes tells in
    let same = known_bytes_are_told (g.R.Read.remaining c.args.reader) bytes tells in
    let told = rw c.in_ok-decoder.ensures.ok at c.check_decoder.ensures.told in
    whole-checked c.args.limits bytes c.check_decoder.result (rw same at told known)

pub returns-clause-limited : goal.returns-clause-limited
returns-clause-limited g c bytes tells =
    let known = bytes_are_known (g.R.Read.remaining c.args.reader) bytes tells in
    let same = known_bytes_are_told (g.R.Read.remaining c.args.reader) bytes tells in
    let limited = rw c.in_ok-decoder.ensures.ok at c.check_decoder.ensures.limited in
    rw same at limited known

pub returns-in_err-decoder-clause-refused : goal.returns-in_err-decoder-clause-refused
returns-in_err-decoder-clause-refused g c bytes tells =
    let p = err_from_is_err_and c.from_residual.result c.from_residual.ensures.1 in
    rw (p.1, p.2, c.in_err-decoder.ensures.err) (inr tt)

pub returns-clause-refused : goal.returns-clause-refused
returns-clause-refused g c bytes tells =
    let known = bytes_are_known (g.R.Read.remaining c.args.reader) bytes tells in
    let same = known_bytes_are_told (g.R.Read.remaining c.args.reader) bytes tells in
    let refused = rw c.in_ok-decoder.ensures.ok at c.check_decoder.ensures.refused in
    rw same at refused known
