use Rattle.std.proofs.Common.{ap, rules}
use Rattle.std.specs.List.{concat}
use Rattle.jpeg_meaning.specs.Stream.{all_brought, told_of}
use Rattle.jpeg_meaning.specs.States.{Decoding}
use Rattle.jpeg_decoder.specs.Walks.{ShowsWalk}
use Rattle.jpeg_decoder.specs.declared.picture.partial.PartialLines.{PartialLines}
use Rattle.jpeg_decoder.proofs.Partial.ShownBegun.{end-moves, shows-header}
use Rattle.jpeg_decoder.proofs.Partial.ShownWalks.{after-shows, rest-of-walk, rows-of-walk}
use Rattle.jpeg_decoder.proofs.Pictures.PictureSizes.{if-counted}
use Rattle.jpeg_decoder.proofs.decoder.Decoder+SliceReader.show_lines_after.Goals as goal
use Rattle.jpeg_decoder.proofs.decoder.Decoder+SliceReader.show_lines_after.Goals.{After-show_from-result}

-- what is shown after the checkpoint is what the rest of the stream shows
walked : (c : After-show_from-result) → (let d = c.args.self.now in ShowsWalk d.settings
    (all_brought d.settings.max_blocks d.found d.source.bytes) d.source c.show_from-result.result
    c.show_from-result.new.source (told_of c.show_from-result.new.state.said)
    c.show_from-result.new.walk.budget.exceeded)
walked c =
    let at = c.args.checkpoint.now in
    after-shows c.args.self.now c.self.inside.settings at.left at.step c.resume.new.state at.state c.resume.new.source
    c.args.rest.now c.show_from-result.result c.show_from-result.new.source
    (told_of c.show_from-result.new.state.said) c.show_from-result.new.walk.budget.exceeded
    (ap (λ (d : Decoding). d.settings) c.self.view_is) c.requires.walks c.in_default.ensures.found
    c.in_default.ensures.bytes c.in_default.ensures.known c.requires.short c.show_from-result.ensures.shows

pub returns-clause-shows : goal.returns-clause-shows
returns-clause-shows c =
    let d = c.args.self.now in
    let r = c.show_from-result.result in
    shows-header {X = PartialLines} (λ p. concat p.lines) (λ p. p.fault) d _ r c.requires.stage
    (end-moves r c.is_ok.result c.progress_after-self-inside.result c.is_ok.ensures.value
    c.progress_after-self-inside.ensures c.show_from-result.ensures.refused)
    (rest-of-walk d.settings d.found d.source c.show_from-result.new.source r _ _
    (walked (goal.at.returns-clause-shows c).After-show_from-result))
    c.show_from-result.ensures.emptied

pub returns-clause-rows : goal.returns-clause-rows
returns-clause-rows c =
    let d = c.args.self.now in
    rows-of-walk d.settings d.found d.source c.show_from-result.new.source c.show_from-result.result _ _
    (walked (goal.at.returns-clause-rows c).After-show_from-result)

pub returns-clause-counted : goal.returns-clause-counted
returns-clause-counted c = search (rules, if-counted {X = PartialLines} c.self.inside.settings)
