use Rattle.std.proofs.Common.{refl}
use Rattle.std.proofs.lemmas.Result.{IfOk-weaker}
use Rattle.jpeg_decoder.proofs.Pictures.PictureSizes.{lines-whole}
use Rattle.jpeg_decoder.proofs.picture.rest.read_shown.Goals as goal

pub returns-clause-size : goal.returns-clause-size
returns-clause-size g c =
    IfOk-weaker c.shown_picture.result _ _
    (λ l h. lines-whole c.args.settings c.read_found.new.state l _ c.in_ok-decoded.ensures.sound.frames h refl)
    c.shown_picture.ensures.lines
