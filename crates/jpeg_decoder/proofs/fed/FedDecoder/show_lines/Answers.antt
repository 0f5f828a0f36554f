use Rattle.std.proofs.Common.{◌∙◌, Option, Result, Err, option_map, subst, sym}
use Rattle.std.proofs.lemmas.Result.{err_from_is_err_and}
use Rattle.std.specs.List.{concat}
use Rattle.std.specs.Prelude.{IfOk}
use Rattle.jpeg_bits.specs.declared.error.Error.{Error}
use Rattle.jpeg_segments.specs.Frame.{Frame}
use Rattle.jpeg_meaning.specs.Stream.{told_of}
use Rattle.jpeg_decoder.specs.Bytes.{AreLinesOf, shape_of}
use Rattle.jpeg_decoder.specs.Fed.{FedState, ShowsFed, fed_by, shape_fed}
use Rattle.jpeg_decoder.specs.declared.picture.partial.PartialLines.{PartialLines}
use Rattle.jpeg_decoder.proofs.FedBytes.{fed-refused, fed-shown, fed-unread, frame-read}
use Rattle.jpeg_decoder.proofs.fed.FedDecoder.show_lines.Goals as goal

abbrev HasShown : FedState → Result PartialLines Error → Type 0
HasShown d r = ShowsFed {X = PartialLines} (λ p. concat p.lines) (λ p. p.fault) (λ p. p.whole_rows) d r

pub returns-in_err-read_on-clause-shows : goal.returns-in_err-read_on-clause-shows
returns-in_err-read_on-clause-shows c =
    let p = err_from_is_err_and c.from_residual.result c.from_residual.ensures.1 in
    rw (p.1, p.2) (fed-refused {X = PartialLines} (λ p. concat p.lines) (λ p. p.fault) (λ p. p.whole_rows)
    c.args.self.now _ c.in_err-read_on.ensures.err)

pub returns-in_err-decoder-clause-shows : goal.returns-in_err-decoder-clause-shows
returns-in_err-decoder-clause-shows c =
    let r = c.from_residual-in_err-decoder in
    let p = err_from_is_err_and r.result r.ensures.1 in
    rw (p.1, p.2) (fed-refused {X = PartialLines} (λ p. concat p.lines) (λ p. p.fault) (λ p. p.whole_rows)
    c.args.self.now _ c.in_err-decoder.ensures.err)

pub returns-in_err-read_header-clause-shows : goal.returns-in_err-read_header-clause-shows
returns-in_err-read_header-clause-shows c =
    let r = c.from_residual-in_err-read_header in
    let p = err_from_is_err_and r.result r.ensures.1 in
    rw (p.1, p.2) (subst (λ (d : FedState). HasShown d (Err c.in_err-read_header.field-0.0))
    (c.in_ok-decoder.ensures.fed ∙ c.read_on.ensures.same)
    (fed-unread {X = PartialLines} (λ p. concat p.lines) (λ p. p.fault) (λ p. p.whole_rows)
    (fed_by c.in_ok-decoder.decoder) _ c.in_err-read_header.ensures.err))

pub returns-clause-shows : goal.returns-clause-shows
returns-clause-shows c =
    let d = c.in_ok-decoder.decoder in
    let mid = c.read_header.new.decoder in
    let same = c.in_ok-read_header.ensures.settings in
    subst (λ (d : FedState). HasShown d c.show_rest.result) (c.in_ok-decoder.ensures.fed ∙ c.read_on.ensures.same)
    (fed-shown {X = PartialLines} (λ p. concat p.lines) (λ p. p.fault) (λ p. p.whole_rows) (fed_by d) mid.found
    mid.source.bytes (told_of c.show_rest.new.decoder.found.said) c.show_rest.result
    c.in_ok-read_header.ensures.reads (rw same at c.show_rest.ensures.shown) (rw same at c.show_rest.ensures.rows)
    (rw same at c.show_rest.ensures.size))

pub returns-clause-lines : goal.returns-clause-lines
returns-clause-lines c =
    let d = c.in_ok-decoder.decoder in
    let mid = c.read_header.new.decoder in
    let same = c.in_ok-read_header.ensures.settings in
    let r = c.show_rest.result in
    subst (λ (d : FedState). IfOk r (λ p. AreLinesOf (shape_fed d) p.lines))
    (c.in_ok-decoder.ensures.fed ∙ c.read_on.ensures.same)
    (subst (λ (f : Option Frame). IfOk r (λ p. AreLinesOf (option_map (shape_of d.settings) f) p.lines))
    (sym (frame-read d.source.bytes mid.source.bytes mid.found c.in_ok-read_header.ensures.reads))
    (rw same at c.show_rest.ensures.lines))
