use Rattle.std.proofs.Common.{rules, subst, sym}
use Rattle.std.specs.Prelude.{option_map}
use Rattle.jpeg_meaning.specs.Found.{Found}
use Rattle.jpeg_decoder.specs.Bytes.{AreLinesOf, shape_of}
use Rattle.jpeg_decoder.specs.Seen.{found_of}
use Rattle.jpeg_decoder.proofs.ByRows.BegunRest.{shown-lines, shown-whole}
use Rattle.jpeg_decoder.proofs.by_rows.rest.take_lines.Goals as goal

pub returns-clause-whole : goal.returns-clause-whole
returns-clause-whole c =
    shown-whole c.args.settings c.args.state.now c.in_ok-lines.lines c.new-2.result c.requires.sound.frames
    (search rules) c.new-2.ensures.ok

pub returns-clause-untaken : goal.returns-clause-untaken
returns-clause-untaken c =
    let now = found_of c.state.inside.said c.state.inside.decoded in
    let are : AreLinesOf (option_map (shape_of c.args.settings) c.args.state.now.said.frame) c.in_ok-lines.lines =
    search rules in
    shown-lines (option_map (shape_of c.args.settings) now.said.frame) c.in_ok-lines.lines c.new-2.result
    (subst (λ (f : Found). AreLinesOf (option_map (shape_of c.args.settings) f.said.frame) c.in_ok-lines.lines)
    (sym c.state.view_is) are) c.in_ok-lines.ensures.few c.new-2.ensures.ok
