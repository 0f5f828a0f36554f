use Rattle.std.specs.List.{concat}
use Rattle.zaxbriar_pictures.proofs.GivenLines.{partial-counts, partial-gives, partial-refuses}
use Rattle.zaxbriar_pictures.proofs.extents.decode_partial.Goals as goal

pub returns-in-Ok-clause-gives : goal.returns-in-Ok-clause-gives
returns-in-Ok-clause-gives g c =
    partial-gives (λ p. p.lines) (λ p. p.fault) c.args.decoder.now c.decode_partial_lines-decoded.new.self
    c.in-Ok.shown c.has_read_failed-has_failed.result c.refuse_of_reader.result c.requires.header
    c.in-Ok.ensures.shows c.has_read_failed-has_failed.ensures
    c.refuse_of_reader.ensures.same c.refuse_of_reader.ensures.of_bytes

pub returns-in-Ok-clause-rows : goal.returns-in-Ok-clause-rows
returns-in-Ok-clause-rows g c known =
    partial-counts (λ p. p.lines) (λ p. p.fault) (λ p. p.whole_rows) c.args.decoder.now
    c.decode_partial_lines-decoded.new.self c.in-Ok.shown c.has_read_failed-has_failed.result
    c.refuse_of_reader.result c.requires.header c.in-Ok.ensures.shows
    c.in-Ok.ensures.rows c.has_read_failed-has_failed.ensures c.refuse_of_reader.ensures.same
    c.refuse_of_reader.ensures.of_bytes known

pub returns-in-Err-clause-refused : goal.returns-in-Err-clause-refused
returns-in-Err-clause-refused g c known =
    partial-refuses (λ p. concat p.lines) (λ p. p.fault) c.args.decoder.now
    c.decode_partial_lines-decoded.new.self c.in-Err.error c.reason_after.result
    c.has_read_failed-has_failed.result c.requires.header c.in-Err.ensures.shows
    c.has_read_failed-has_failed.ensures c.reason_after.ensures.failed c.reason_after.ensures.same known
