use Rattle.std.proofs.Common.{rules}
use Rattle.jpeg_meaning.proofs.Pictures.PrintedImages.{prints-images}
use Rattle.jpeg_decoder.proofs.run.run.Goals as goal

pub returns-in_err-decoder-clause-images : goal.returns-in_err-decoder-clause-images
returns-in_err-decoder-clause-images g c = search (rules, prints-images)

pub returns-clause-images : goal.returns-clause-images
returns-clause-images g c = c.print.ensures.images _ c.in_ok-decoder.ensures.ok

pub returns-clause-ok : goal.returns-clause-ok
returns-clause-ok g c = c.print.ensures.ok _ c.in_ok-decoder.ensures.ok

pub returns-clause-none : goal.returns-clause-none
returns-clause-none g c = c.print.ensures.none _ c.in_ok-decoder.ensures.ok

pub returns-clause-beginning : goal.returns-clause-beginning
returns-clause-beginning g c = c.print.ensures.beginning _ c.in_ok-decoder.ensures.ok

pub returns-clause-refused : goal.returns-clause-refused
returns-clause-refused g c = c.print.ensures.refused _ c.in_ok-decoder.ensures.ok

pub returns-clause-named : goal.returns-clause-named
returns-clause-named g c = c.print.ensures.named _ c.in_ok-decoder.ensures.ok

pub returns-clause-own : goal.returns-clause-own
returns-clause-own g c = c.print.ensures.own (g.R.Read.remaining c.args.reader) c.in_ok-decoder.ensures.ok
