use Rattle.zaxbriar_samples.specs.DecodedPictures.{decoded_in}
use Rattle.zaxbriar_samples.proofs.TakenLines.{small-ends, small-pixels}
use Rattle.zaxbriar_samples.proofs.line_takers.SmallFile.write.Goals as goal

pub write_file-requires : goal.write_file-requires
write_file-requires g c =
    let can = c.requires.possible in
    small-pixels can.0 can.1 can.2 c.args.self (decoded_in c.into_picture.result) (decoded_in c.in_ok-picture.picture)
    can.3 can.4 can.5 c.into_picture.ensures c.in_ok-picture.ensures

pub returns-clause-written : goal.returns-clause-written
returns-clause-written g c form said lines before all h =
    small-ends c.write_file.result form said lines c.args.self (decoded_in c.into_picture.result)
    (decoded_in c.in_ok-picture.picture) before (g.W.Write.contents c.args.writer.now)
    (g.W.Write.contents c.write_file.new.writer) all h c.into_picture.ensures c.in_ok-picture.ensures
    c.write_file.ensures.file
