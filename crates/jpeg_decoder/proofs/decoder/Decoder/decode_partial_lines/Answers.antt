use Rattle.std.proofs.Common.{rules}
use Rattle.std.proofs.lemmas.Result.{err_from_is_err_and}
use Rattle.std.specs.List.{concat}
use Rattle.jpeg_decoder.specs.declared.picture.partial.PartialLines.{PartialLines}
use Rattle.jpeg_decoder.proofs.Partial.ShownBegun.{rows-at, shows-rest, shows-unbegun}
use Rattle.jpeg_decoder.proofs.Partial.ShownWalks.{rest-of-walk, rows-of-walk}
use Rattle.jpeg_decoder.proofs.Pictures.DecodedLines.{begun-seen, read-holds}
use Rattle.jpeg_decoder.proofs.Pictures.PictureSizes.{if-counted}
use Rattle.jpeg_decoder.proofs.decoder.Decoder.decode_partial_lines.Goals as goal

-- ---- the header was refused

pub returns-in_err-begin-clause-shows : goal.returns-in_err-begin-clause-shows
returns-in_err-begin-clause-shows g c =
    let p = err_from_is_err_and c.from_residual.result c.from_residual.ensures.1 in
    rw (p.1, p.2) (shows-unbegun {X = PartialLines} (λ p. concat p.lines) (λ p. p.fault) _ _ _ (record {
      stage = c.in_err-begin.ensures.stage;
      ended = c.in_err-begin.ensures.ended;
      reads = c.in_err-begin.ensures.reads;
      tells = c.in_err-begin.ensures.told;
      turns = c.in_err-begin.ensures.turns;
      still = c.in_err-begin.ensures.still;
      exceeded = c.in_err-begin.ensures.exceeded;
      emptied = c.in_err-begin.ensures.emptied;
    }))

-- ---- the rest was read

pub returns-clause-shows : goal.returns-clause-shows
returns-clause-shows g c =
    shows-rest {X = PartialLines} (λ p. concat p.lines) (λ p. p.fault) _ _ _ c.show_rest-result.result
    (begun-seen _ _ _ c.self.view_is c.in_ok-begin.ensures.reads c.in_ok-begin.ensures.still
    c.in_ok-begin.ensures.settings) (search rules)
    (rest-of-walk _ _ _ _ c.show_rest-result.result _ _ c.show_rest-result.ensures.shows)
    c.show_rest-result.ensures.emptied

pub returns-clause-rows : goal.returns-clause-rows
returns-clause-rows g c k =
    rows-at {X = PartialLines} (λ p. p.whole_rows) c.args.self.now.stage c.args.self.now _
    c.show_rest-result.new.source c.show_rest-result.result
    (begun-seen _ _ _ c.self.view_is c.in_ok-begin.ensures.reads c.in_ok-begin.ensures.still
    c.in_ok-begin.ensures.settings) k
    (rows-of-walk _ _ _ _ c.show_rest-result.result _ _ c.show_rest-result.ensures.shows)

pub returns-clause-counted : goal.returns-clause-counted
returns-clause-counted g c = search (rules, if-counted {X = PartialLines} c.self.inside.settings)

pub invariant_of-self : goal.invariant_of-self
invariant_of-self g c =
    read-holds c.show_rest-result.new.state c.show_rest-result.new.exceeded c.show_rest-result.result _
    c.progress_after-self-inside.result
    c.is_ok.ensures.value c.progress_after-self-inside.ensures c.show_rest-result.ensures.framed
    c.show_rest-result.ensures.frames
