use Rattle.std.proofs.Common.{refl, rules}
use Rattle.std.proofs.lemmas.Result.{err_from_is_err_and}
use Rattle.jpeg_meaning.specs.Stream.{header_at}
use Rattle.zaxbriar_samples.specs.Sizes.{luma_for}
use Rattle.zaxbriar_pictures.specs.declared.extents.Completeness.{Completeness}
use Rattle.zaxbriar_pictures.specs.declared.scaled.Choice.{Choice}
use Rattle.zaxbriar_pictures.proofs.ChosenSizes.{IsRequested, request-by-rows, thumbnail-written}
use Rattle.zaxbriar_pictures.proofs.FittingParts.{said-at-scale}
use Rattle.zaxbriar_pictures.proofs.Reasons.{lacks-by-header, named-same, read-for-is, reason-then}
use Rattle.zaxbriar_pictures.proofs.thumbnails.write_chosen.Goals as goal

pub returns-clause-written : goal.returns-clause-written
returns-clause-written g c known =
    let bytes = c.args.decoder.source.bytes in
    let begun = c.in_ok-choice.ensures.reads in
    let read = begun.reads known in
    let choice : Choice = c.in_ok-choice.choice in
    let is : IsRequested c.args.request c.args.limits bytes read.1.0 choice c.choose.new.decoder c.stored_in-stored.result =
    record {
      known = read.0;
      means = read.1.1;
      found = read.1.2;
      within = begun.settings;
      chosen = read.1.3;
      said = c.stored_in-stored.ensures.said;
      turned = c.stored_in-stored.ensures.orientation;
    } in
    let told : Completeness = record {
      info = choice.full;
      whole_rows = c.file_rows.result;
      fault = c.in_ok-told.told.fault;
    } in
    thumbnail-written c.args.extent c.args.limits c.args.request c.args.format bytes _ _ read.1.0 choice
    c.choose.new.decoder c.stored_in-stored.result c.in_ok-told.told told is c.in_ok-told.ensures.written refl
    c.file_rows.ensures refl

pub returns-clause-limited : goal.returns-clause-limited
returns-clause-limited g c known = c.in_ok-choice.ensures.limited known

-- ---- refusals

pub returns-in_err-choice-clause-refused : goal.returns-in_err-choice-clause-refused
returns-in_err-choice-clause-refused g c known =
    let p = err_from_is_err_and c.from_residual.result c.from_residual.ensures.1 in
    rw (p.1, p.2) (reason-then _ (header_at c.args.decoder.source.bytes) _ _ _ _
    (c.in_err-choice.ensures.refused known))

pub returns-then-not-has_pixels-clause-refused : goal.returns-then-not-has_pixels-clause-refused
returns-then-not-has_pixels-clause-refused g c known =
    let bytes = c.args.decoder.source.bytes in
    let begun = c.in_ok-choice.ensures.reads in
    let read = begun.reads known in
    let choice : Choice = c.in_ok-choice.choice in
    let is : IsRequested c.args.request c.args.limits bytes read.1.0 choice c.choose.new.decoder c.stored_in-stored.result =
    record {
      known = read.0;
      means = read.1.1;
      found = read.1.2;
      within = begun.settings;
      chosen = read.1.3;
      said = c.stored_in-stored.ensures.said;
      turned = c.stored_in-stored.ensures.orientation;
    } in
    lacks-by-header c.args.format (luma_for c.args.request) choice.scale bytes c.choose.new.decoder.source.bytes read.1.0
    c.stored_in-stored.result.info read.1.1 (said-at-scale (luma_for c.args.request) c.args.limits choice.scale read.1.0
    c.choose.new.decoder c.stored_in-stored.result.info read.1.2 begun.settings is.said.info_is) (search rules)

pub returns-in_err-told-clause-refused : goal.returns-in_err-told-clause-refused
returns-in_err-told-clause-refused g c known =
    let bytes = c.args.decoder.source.bytes in
    let begun = c.in_ok-choice.ensures.reads in
    let read = begun.reads known in
    let choice : Choice = c.in_ok-choice.choice in
    let is : IsRequested c.args.request c.args.limits bytes read.1.0 choice c.choose.new.decoder c.stored_in-stored.result =
    record {
      known = read.0;
      means = read.1.1;
      found = read.1.2;
      within = begun.settings;
      chosen = read.1.3;
      said = c.stored_in-stored.ensures.said;
      turned = c.stored_in-stored.ensures.orientation;
    } in
    let rows = request-by-rows c.args.extent c.args.request c.args.format c.args.limits bytes read.1.0 choice
    c.choose.new.decoder c.stored_in-stored.result _ is refl in
    let same = read-for-is c.args.extent c.args.limits c.args.request choice c.args.format bytes read.1.0
    c.choose.new.decoder _ read.1.1 read.1.2 begun.settings read.1.3 rows in
    let p = err_from_is_err_and c.from_residual-in_err-told.result c.from_residual-in_err-told.ensures.1 in
    rw (p.1, p.2) (named-same _ _ _ same (c.in_err-told.ensures.refused read.0))
