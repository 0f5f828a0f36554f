use Rattle.zaxbriar_pictures.proofs.PartPictures.{area-within}
use Rattle.zaxbriar_pictures.proofs.WrittenRows.{written-as-read}
use Rattle.zaxbriar_pictures.proofs.raw.write_as_read.Goals as goal

pub write_rows-requires-clause-header : goal.write_rows-requires-clause-header
write_rows-requires-clause-header g c = c.requires.header

pub write_rows-requires-clause-possible : goal.write_rows-requires-clause-possible
write_rows-requires-clause-possible g c = tt

pub write_rows-requires-clause-within : goal.write_rows-requires-clause-within
write_rows-requires-clause-within g c =
    area-within c.args.crop c.args.stored c.area_for.result c.area_for.ensures c.requires.inside

pub returns-clause-written : goal.returns-clause-written
returns-clause-written g c known =
    written-as-read c.args.crop c.area_for.result c.args.stored c.args.decoder _ _ c.write_rows.result
    c.requires.header known c.requires.plain c.area_for.ensures c.write_rows.ensures.written

pub returns-clause-refused : goal.returns-clause-refused
returns-clause-refused g c known = c.write_rows.ensures.refused known
