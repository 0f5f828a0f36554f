use Rattle.std.proofs.Common.{rules}
use Rattle.std.specs.List.{concat}
use Rattle.jpeg_decoder.specs.declared.decoder.PartialPicture.{PartialPicture}
use Rattle.jpeg_decoder.specs.declared.picture.partial.PartialLines.{PartialLines}
use Rattle.jpeg_decoder.proofs.Pictures.DecodedLines.{decoded-reading}
use Rattle.jpeg_decoder.proofs.Partial.ShownLines.{shows-lost}
use Rattle.jpeg_decoder.proofs.decoder.Decoder.decode_partial.Goals as goal

pub returns-in-Err-clause-shows : goal.returns-in-Err-clause-shows
returns-in-Err-clause-shows g c =
    shows-lost {X = PartialLines} {Y = PartialPicture} (λ p. concat p.lines) (λ p. p.fault) (λ p. p.pixels.items)
    (λ p. p.fault) _ _ _ c.in_ok-shown.shown _ c.in-Err.ensures (search rules) c.in_ok-shown.ensures.shows

pub returns-in-Err-clause-still : goal.returns-in-Err-clause-still
returns-in-Err-clause-still g c n =
    absurd (n (decoded-reading c.args.self.now.stage _ c.in_ok-shown.shown c.in_ok-shown.ensures.shows.stage))
