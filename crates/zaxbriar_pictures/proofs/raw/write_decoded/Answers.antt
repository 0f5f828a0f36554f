use Rattle.std.proofs.Common.{◌∙◌, ap, false, subst, sym, true}
use Rattle.std.proofs.lemmas.Result.{err_from_is_err_and}
use Rattle.jpeg_meaning.specs.States.{Decoding, HasHeader}
use Rattle.jpeg_meaning.specs.Stream.{header_at}
use Rattle.zaxbriar_pictures.specs.ScaledPictures.{settings_for}
use Rattle.zaxbriar_pictures.proofs.Allowances.{above-reason, bytes-allowed}
use Rattle.zaxbriar_samples.specs.Parts.{has_part}
use Rattle.zaxbriar_pictures.proofs.FittingParts.{fits-raw-there, outside-reason}
use Rattle.zaxbriar_pictures.proofs.Reasons.{answered, info-by-same, named-then}
use Rattle.zaxbriar_pictures.proofs.WrittenRows.{IsLimited, known-limited, raw-bounded, raw-refused, raw-written}
use Rattle.zaxbriar_pictures.proofs.WrittenRows.{said-of-limited}
use Rattle.zaxbriar_samples.specs.Sizes.{orientation_by}
use Rattle.zaxbriar_pictures.proofs.raw.write_decoded.Goals as goal

pub returns-clause-written : goal.returns-clause-written
returns-clause-written g c known =
    let luma = c.args.decoder.settings.luma in
    let header = c.in_ok-read_info.ensures.reads c.requires.fresh in
    let stage = rw c.requires.fresh at c.in_ok-read_info.ensures.stage in
    let settings = c.in_ok-read_info.ensures.settings ∙ c.requires.plain in
    let first = header.1 known in
    let h : IsLimited luma c.args.limits c.args.decoder.source.bytes c.read_info.new.self c.limit_blocks.new.decoder =
    record {
      stage = stage;
      settings = settings;
      known = first.0;
      header = first.1;
      is = c.limit_blocks.ensures (subst HasHeader (sym stage) tt);
    } in
    let stored = c.stored_in-stored.result in
    raw-written luma c.args.turning c.args.crop c.args.limits c.args.decoder.source.bytes c.read_info.new.self
    c.limit_blocks.new.decoder stored _ _ h c.stored_in-stored.ensures.said.info_is
    c.stored_in-stored.ensures.said.precision_is
    (c.stored_in-stored.ensures.orientation ∙ c.orientation_in-orientation.ensures.said
    ∙ ap (orientation_by c.args.turning) c.exif_data.ensures)
    (c.in_ok-write_stored.ensures.written (known-limited luma c.args.limits c.args.decoder.source.bytes
    c.read_info.new.self c.limit_blocks.new.decoder h))

pub returns-clause-bounded : goal.returns-clause-bounded
returns-clause-bounded g c known =
    let luma = c.args.decoder.settings.luma in
    let header = c.in_ok-read_info.ensures.reads c.requires.fresh in
    let stage = rw c.requires.fresh at c.in_ok-read_info.ensures.stage in
    let settings = c.in_ok-read_info.ensures.settings ∙ c.requires.plain in
    let first = header.1 known in
    let h : IsLimited luma c.args.limits c.args.decoder.source.bytes c.read_info.new.self c.limit_blocks.new.decoder =
    record {
      stage = stage;
      settings = settings;
      known = first.0;
      header = first.1;
      is = c.limit_blocks.ensures (subst HasHeader (sym stage) tt);
    } in
    let stored = c.stored_in-stored.result in
    raw-bounded luma c.args.limits c.args.decoder.source.bytes c.read_info.new.self c.limit_blocks.new.decoder
    c.args.crop stored _ _ h
    (c.in_ok-write_stored.ensures.written (known-limited luma c.args.limits c.args.decoder.source.bytes
    c.read_info.new.self c.limit_blocks.new.decoder h))

pub returns-clause-limited : goal.returns-clause-limited
returns-clause-limited g c known =
    let luma = c.args.decoder.settings.luma in
    let header = c.in_ok-read_info.ensures.reads c.requires.fresh in
    let stage = rw c.requires.fresh at c.in_ok-read_info.ensures.stage in
    let settings = c.in_ok-read_info.ensures.settings ∙ c.requires.plain in
    let first = header.1 known in
    bytes-allowed luma c.args.turning c.args.limits c.args.decoder.source.bytes
    c.read_info.new.self.source.bytes c.read_info.new.self.found c.stored_in-stored.result.info
    c.orientation_in-orientation.result c.taken_raw-taken.result _ first.1
    (info-by-same _ (settings_for luma) _ _ settings c.stored_in-stored.ensures.said.info_is)
    (c.orientation_in-orientation.ensures.said ∙ ap (orientation_by c.args.turning) c.exif_data.ensures)
    ((rw (stage, settings) at c.taken_raw-taken.ensures) tt) c.in_ok-check.ensures

pub returns-clause-fits : goal.returns-clause-fits
returns-clause-fits g c known =
    let luma = c.args.decoder.settings.luma in
    let header = c.in_ok-read_info.ensures.reads c.requires.fresh in
    let settings = c.in_ok-read_info.ensures.settings ∙ c.requires.plain in
    let first = header.1 known in
    fits-raw-there luma c.args.turning c.args.crop c.args.decoder.source.bytes c.read_info.new.self.source.bytes
    c.read_info.new.self.found c.stored_in-stored.result.info c.stored_in-stored.result.orientation true first.1
    (info-by-same _ (settings_for luma) _ _ settings c.stored_in-stored.ensures.said.info_is)
    (c.stored_in-stored.ensures.orientation ∙ c.orientation_in-orientation.ensures.said
    ∙ ap (orientation_by c.args.turning) c.exif_data.ensures)
    c.in_ok-check_crop.ensures

-- ---- refusals

pub returns-in_err-read_info-clause-refused : goal.returns-in_err-read_info-clause-refused
returns-in_err-read_info-clause-refused g c known =
    let p = err_from_is_err_and c.from_residual.result c.from_residual.ensures.1 in
    let a = c.in_err-read_info.ensures.reads c.requires.fresh in
    rw (p.1, p.2) (named-then _ (header_at c.args.decoder.source.bytes) _
    (answered (header_at c.args.decoder.source.bytes) c.args.decoder.source c.read_info.new.self.source _
    a.1 a.2 known))

pub returns-in_err-check-clause-refused : goal.returns-in_err-check-clause-refused
returns-in_err-check-clause-refused g c known =
    let luma = c.args.decoder.settings.luma in
    let header = c.in_ok-read_info.ensures.reads c.requires.fresh in
    let stage = rw c.requires.fresh at c.in_ok-read_info.ensures.stage in
    let settings = c.in_ok-read_info.ensures.settings ∙ c.requires.plain in
    let first = header.1 known in
    let p = err_from_is_err_and c.from_residual-in_err-check.result c.from_residual-in_err-check.ensures.1 in
    rw (p.1, p.2) (above-reason c.args.limits c.stored_in-stored.result.info.width c.stored_in-stored.result.info.height
    c.taken_raw-taken.result _ _ _ _ _ c.in_err-check.ensures
    (λ above. bytes-allowed luma c.args.turning c.args.limits c.args.decoder.source.bytes
    c.read_info.new.self.source.bytes c.read_info.new.self.found c.stored_in-stored.result.info
    c.orientation_in-orientation.result c.taken_raw-taken.result _ first.1
    (info-by-same _ (settings_for luma) _ _ settings c.stored_in-stored.ensures.said.info_is)
    (c.orientation_in-orientation.ensures.said ∙ ap (orientation_by c.args.turning) c.exif_data.ensures)
    ((rw (stage, settings) at c.taken_raw-taken.ensures) tt) above))

pub returns-in_err-check_crop-clause-refused : goal.returns-in_err-check_crop-clause-refused
returns-in_err-check_crop-clause-refused g c known =
    let luma = c.args.decoder.settings.luma in
    let header = c.in_ok-read_info.ensures.reads c.requires.fresh in
    let settings = c.in_ok-read_info.ensures.settings ∙ c.requires.plain in
    let first = header.1 known in
    let p = err_from_is_err_and c.from_residual-in_err-check_crop.result
    c.from_residual-in_err-check_crop.ensures.1 in
    rw (p.1, p.2) (outside-reason (has_part c.args.crop c.stored_in-stored.result.orientation
    c.stored_in-stored.result.info)
    _ _ _ _ _ c.in_err-check_crop.ensures
    (λ outside. fits-raw-there luma c.args.turning c.args.crop c.args.decoder.source.bytes
    c.read_info.new.self.source.bytes c.read_info.new.self.found c.stored_in-stored.result.info
    c.stored_in-stored.result.orientation false first.1
    (info-by-same _ (settings_for luma) _ _ settings c.stored_in-stored.ensures.said.info_is)
    (c.stored_in-stored.ensures.orientation ∙ c.orientation_in-orientation.ensures.said
    ∙ ap (orientation_by c.args.turning) c.exif_data.ensures) outside))

pub returns-in_err-write_stored-clause-refused : goal.returns-in_err-write_stored-clause-refused
returns-in_err-write_stored-clause-refused g c known =
    let luma = c.args.decoder.settings.luma in
    let header = c.in_ok-read_info.ensures.reads c.requires.fresh in
    let stage = rw c.requires.fresh at c.in_ok-read_info.ensures.stage in
    let settings = c.in_ok-read_info.ensures.settings ∙ c.requires.plain in
    let first = header.1 known in
    let h : IsLimited luma c.args.limits c.args.decoder.source.bytes c.read_info.new.self c.limit_blocks.new.decoder =
    record {
      stage = stage;
      settings = settings;
      known = first.0;
      header = first.1;
      is = c.limit_blocks.ensures (subst HasHeader (sym stage) tt);
    } in
    let stored = c.stored_in-stored.result in
    let p = err_from_is_err_and c.from_residual-in_err-write_stored.result
    c.from_residual-in_err-write_stored.ensures.1 in
    rw (p.1, p.2) (raw-refused luma c.args.turning c.args.limits c.args.decoder.source.bytes c.read_info.new.self
    c.limit_blocks.new.decoder stored _ h
    (c.stored_in-stored.ensures.orientation ∙ c.orientation_in-orientation.ensures.said
    ∙ ap (orientation_by c.args.turning) c.exif_data.ensures)
    (c.in_err-write_stored.ensures.refused (known-limited luma c.args.limits c.args.decoder.source.bytes
    c.read_info.new.self c.limit_blocks.new.decoder h)))

-- ---- what is said of the picture

pub write_stored-requires-clause-header : goal.write_stored-requires-clause-header
write_stored-requires-clause-header g c =
    let stage = rw c.requires.fresh at c.in_ok-read_info.ensures.stage in
    ap (λ (x : Decoding). x.stage) (c.limit_blocks.ensures (subst HasHeader (sym stage) tt)) ∙ stage

pub write_stored-requires-clause-said : goal.write_stored-requires-clause-said
write_stored-requires-clause-said g c =
    let stage = rw c.requires.fresh at c.in_ok-read_info.ensures.stage in
    said-of-limited c.args.limits c.read_info.new.self c.limit_blocks.new.decoder _
    (c.limit_blocks.ensures (subst HasHeader (sym stage) tt)) c.stored_in-stored.ensures.said.info_is
    c.stored_in-stored.ensures.said.precision_is
