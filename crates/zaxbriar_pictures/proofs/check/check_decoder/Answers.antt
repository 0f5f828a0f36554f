use Rattle.std.proofs.Common.{◌∙◌, false, refl, sym}
use Rattle.std.proofs.lemmas.Result.{err_from_is_err_and}
use Rattle.jpeg_meaning.specs.Stream.{header_at}
use Rattle.std.specs.List.{concat}
use Rattle.jpeg_segments.specs.declared.scale.Scale.TheVariants.{Full}
use Rattle.zaxbriar_samples.specs.Sizes.{stored_at}
use Rattle.zaxbriar_pictures.specs.declared.extents.Completeness.{Completeness}
use Rattle.zaxbriar_pictures.specs.declared.extents.Extent.TheVariants.{Partial}
use Rattle.zaxbriar_pictures.proofs.CheckedStreams.{tells-of-stream}
use Rattle.zaxbriar_pictures.proofs.Reasons.{info-by-same, named-same, reason-then, shown-is}
use Rattle.zaxbriar_pictures.proofs.check.check_decoder.Goals as goal

pub returns-clause-told : goal.returns-clause-told
returns-clause-told g c known =
    let asked = c.in_ok-choose.ensures.asked (stored_at Full) refl in
    let begun = rw asked at c.in_ok-choose.ensures.reads in
    let read = begun.reads known in
    let info = info-by-same _ c.choose.new.decoder.settings _ _ c.in_ok-shown.ensures.settings
    (sym c.info.ensures ∙ c.unwrap-info.ensures) in
    let told : Completeness = record {
      info = c.unwrap-info.result;
      whole_rows = c.in_ok-shown.shown.whole_rows;
      fault = c.in_ok-shown.shown.fault;
    } in
    tells-of-stream c.args.limits c.args.decoder.now.source.bytes read.1.0 c.choose.new.decoder
    c.decode_wanted_lines.new.decoder (concat c.in_ok-shown.shown.lines) told read.1.1 read.0 read.1.2
    begun.settings c.in_ok-shown.ensures.gives
    (c.in_ok-shown.ensures.rows c.unwrap-info.result info) info

pub returns-clause-limited : goal.returns-clause-limited
returns-clause-limited g c known =
    let limited = c.in_ok-choose.ensures.limited in
    limited known

-- ---- refusals

pub returns-in_err-choose-clause-refused : goal.returns-in_err-choose-clause-refused
returns-in_err-choose-clause-refused g c known =
    let p = err_from_is_err_and c.from_residual.result c.from_residual.ensures.1 in
    rw (p.1, p.2) (reason-then _ (header_at c.args.decoder.now.source.bytes) _ _ _ _
    (c.in_err-choose.ensures.refused known))

pub returns-in_err-shown-clause-refused : goal.returns-in_err-shown-clause-refused
returns-in_err-shown-clause-refused g c known =
    let asked = c.in_ok-choose.ensures.asked (stored_at Full) refl in
    let begun = rw asked at c.in_ok-choose.ensures.reads in
    let read = begun.reads known in
    let same = shown-is Partial false c.args.limits Full c.args.decoder.now.source.bytes read.1.0
    c.choose.new.decoder read.1.1 read.1.2 begun.settings in
    let p = err_from_is_err_and c.from_residual-in_err-shown.result c.from_residual-in_err-shown.ensures.1 in
    rw (p.1, p.2) (named-same _ _ _ same (c.in_err-shown.ensures.refused read.0))
