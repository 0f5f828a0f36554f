use Rattle.std.proofs.Common.{length, rules, suc}
use Rattle.jpeg_meaning.specs.Stream.{told_of}
use Rattle.jpeg_decoder.proofs.Pictures.SparedPictures.{exceeds-same, none-read, reads-same, tells-same, turns-same}
use Rattle.jpeg_decoder.proofs.picture.rest.read_rest.Goals as goal

pub returns-in-Ok-clause-reads : goal.returns-in-Ok-clause-reads
returns-in-Ok-clause-reads g c =
    reads-same c.in-Ok.spared c.args.settings c.args.state.now c.spare_colours.new.state c.in-Ok.ensures.spared
    c.requires.sound _ c.args.source.now c.read_shown.new.source c.read_shown.result c.read_shown.ensures.reads

pub returns-in-Ok-clause-told : goal.returns-in-Ok-clause-told
returns-in-Ok-clause-told g c =
    tells-same c.in-Ok.spared c.args.settings c.args.state.now c.spare_colours.new.state c.in-Ok.ensures.spared
    c.requires.sound c.args.source.now c.read_shown.new.source c.read_shown.result
    (told_of c.read_shown.new.state.said) c.args.settings.max_blocks (suc (length c.args.source.now.bytes))
    c.args.source.now.bytes c.read_shown.ensures.told

pub returns-in-Ok-clause-turns : goal.returns-in-Ok-clause-turns
returns-in-Ok-clause-turns g c = λ known.
    turns-same c.in-Ok.spared c.args.settings c.args.state.now c.spare_colours.new.state c.in-Ok.ensures.spared
    c.requires.sound (told_of c.read_shown.new.state.said) c.args.settings.max_blocks c.args.source.now.bytes
    (c.read_shown.ensures.turns known)

pub returns-in-Ok-clause-exceeded : goal.returns-in-Ok-clause-exceeded
returns-in-Ok-clause-exceeded g c =
    exceeds-same c.in-Ok.spared c.args.settings c.args.state.now c.spare_colours.new.state c.in-Ok.ensures.spared
    c.requires.sound c.args.source.now c.read_shown.new.source c.read_shown.result c.read_shown.new.exceeded
    c.args.settings.max_blocks c.args.source.now.bytes c.read_shown.ensures.exceeded

pub returns-in-Err-clause-turns : goal.returns-in-Err-clause-turns
returns-in-Err-clause-turns g c = λ known.
    none-read c.args.settings.max_blocks c.args.state.now c.spare_colours.new.state (told_of c.state.inside.said)
    c.args.source.now.bytes c.spare_colours.ensures.said (search rules)
