use Rattle.std.proofs.Common.{map, sym, arith}
use Rattle.jpeg_segments.specs.FrameView.{chunk_in}
use Rattle.jpeg_meaning.proofs.ProfileLemmas.{joins-more, joins-missing}
use Rattle.jpeg_decoder.proofs.stream.profile.joined.Goals as goal
use Rattle.std.proofs.lemmas.Grind.{common_steps}

pub returns-in-None : goal.returns-in-None
returns-in-None c =
    let few = joins-missing (map chunk_in c.args.chunks.now) c.args.count c.loop-index.index (omega arith)
    (sym c.in-None.ensures) in
    grind (arith, common_steps)

pub loop-index-preserved : goal.loop-index-preserved
loop-index-preserved c =
    let next = joins-more (map chunk_in c.args.chunks.now) c.loop-index.index c.loop-index.bytes.items c.in-Some.more.now
    (sym c.in-Some.ensures) c.loop-index.invariant.joins in
    grind (arith, common_steps)
