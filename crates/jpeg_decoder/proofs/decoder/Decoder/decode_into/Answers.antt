use Rattle.std.proofs.Common.{rules, ◌≡◌, ◌++◌, ◌∙◌, Ok, Err, drop, length-take, refl, take}
use Rattle.std.proofs.lemmas.Result.{err_from_is_err_and}
use Rattle.std.specs.List.{concat}
use Rattle.jpeg_decoder.proofs.Pictures.DecodedLines.{begun-seen, decodes-as, decodes-begun, decodes-err}
use Rattle.jpeg_decoder.proofs.Pictures.DecodedLines.{decodes-unbegun, front-of}
use Rattle.jpeg_decoder.proofs.decoder.Decoder.decode_into.Given as given
use Rattle.jpeg_decoder.proofs.decoder.Decoder.decode_into.Goals as goal

-- ---- the header was refused

pub returns-in_err-begin-clause-decodes : goal.returns-in_err-begin-clause-decodes
returns-in_err-begin-clause-decodes g c room =
    let p = err_from_is_err_and c.from_residual.result c.from_residual.ensures.1 in
    rw (p.1, p.2) (decodes-unbegun _ _ _ _ (record {
      stage = c.in_err-begin.ensures.stage;
      ended = c.in_err-begin.ensures.ended;
      reads = c.in_err-begin.ensures.reads;
      tells = c.in_err-begin.ensures.told;
      turns = c.in_err-begin.ensures.turns;
      still = c.in_err-begin.ensures.still;
      exceeded = c.in_err-begin.ensures.exceeded;
      emptied = c.in_err-begin.ensures.emptied;
    }))

-- ---- the rest was refused

pub returns-in_err-lines-clause-decodes : goal.returns-in_err-lines-clause-decodes
returns-in_err-lines-clause-decodes g c room =
    let p = err_from_is_err_and c.from_residual-in_err-lines.result c.from_residual-in_err-lines.ensures.1 in
    let begun = c.in_ok-begin.ensures in
    rw (p.1, p.2) (decodes-begun _ c.args.self.now c.begin.new.self _ (Err _) begun.begun.0
    (begun-seen _ _ _ refl begun.reads begun.still begun.settings) begun.begun.1
    (decodes-err concat _ _ _ _ c.in_err-lines.ensures.decodes))

-- ---- the lines are written

front : (g : given.Over) (c : goal.Joined-lines-3 g)
    → take c.in_ok-size.size (c.write_all.new.picture ++ drop c.in_ok-size.size c.args.pixels.now)
    ≡ c.write_all.new.picture
front g c = search (rules, length-take, front-of)

pub returns-clause-decodes : goal.returns-clause-decodes
returns-clause-decodes g c room =
    let begun = c.in_ok-begin.ensures in
    decodes-begun _ c.args.self.now c.begin.new.self _ (Ok c.in_ok-size.size) begun.begun.0
    (begun-seen _ _ _ refl begun.reads begun.still begun.settings) begun.begun.1
    (decodes-as concat _ _ _ c.in_ok-lines.lines c.in_ok-size.size (front g c ∙ c.write_all.ensures)
    c.in_ok-lines.ensures.decodes)
