use Rattle.std.proofs.Common.{◌≡◌, rules, subst, sym, true}
use Rattle.std.specs.Prelude.{IfOk}
use Rattle.zaxbriar_pictures.specs.ByRows.{is_by_rows}
use Rattle.zaxbriar_pictures.specs.Steps.{WritesFile}
use Rattle.zaxbriar_pictures.specs.declared.extents.Extent.{Extent}
use Rattle.zaxbriar_pictures.proofs.FileRows.{rows-extent}
use Rattle.zaxbriar_pictures.proofs.scaled.write_stored.Goals as goal

pub write_as_read-requires-clause-lines : goal.write_as_read-requires-clause-lines
write_as_read-requires-clause-lines g c =
    let h : is_by_rows c.args.extent c.args.format c.args.stored.precision c.args.stored.orientation ≡ true =
    search rules in
    subst (λ (x : Extent). is_by_rows x c.args.format c.args.stored.precision c.args.stored.orientation ≡ true)
    (rows-extent c.args.extent c.args.format c.args.stored.precision c.args.stored.orientation h) h

pub returns-then-is_by_rows-clause-written : goal.returns-then-is_by_rows-clause-written
returns-then-is_by_rows-clause-written g c =
    let h : is_by_rows c.args.extent c.args.format c.args.stored.precision c.args.stored.orientation ≡ true =
    search rules in
    subst (λ (x : Extent). IfOk c.write_as_read.result (λ told. WritesFile x c.args.crop c.args.stored.orientation
    c.args.format c.args.decoder (g.W.Write.contents c.args.writer.now) (g.W.Write.contents c.write_as_read.new.writer)
    told)) (sym (rows-extent c.args.extent c.args.format c.args.stored.precision c.args.stored.orientation h))
    c.write_as_read.ensures.written
