use Rattle.std.proofs.Common.{◌≡◌, ◌∙◌, Bool, ap, false, sym, true}
use Rattle.std.proofs.lemmas.Result.{err_from_is_err_and}
use Rattle.jpeg_meaning.specs.Stream.{header_at}
use Rattle.jpeg_meaning.specs.declared.progress.Progress.{Progress}
use Rattle.jpeg_meaning.specs.declared.progress.Progress.TheVariants.{Fresh, HeaderRead}
use Rattle.zaxbriar_samples.specs.Sizes.{luma_for, orientation_for}
use Rattle.zaxbriar_pictures.specs.ScaledPictures.{settings_for}
use Rattle.zaxbriar_pictures.proofs.Allowances.{above-reason, allowed-there}
use Rattle.zaxbriar_pictures.proofs.Reasons.{answered, info-by-same}
use Rattle.zaxbriar_pictures.proofs.scaled.choose.Goals as goal

header-not-fresh : ◌≡◌ {A = Progress} HeaderRead Fresh → ⊥
header-not-fresh e = cc

pub returns-clause-limited : goal.returns-clause-limited
returns-clause-limited g c known =
    let first = c.in_ok-read_info.ensures.reads c.requires.fresh in
    let header = (first.1 known).1 in
    let full = c.unwrap-full.result in
    let stage = rw c.requires.fresh at c.in_ok-read_info.ensures.stage in
    let settings = c.in_ok-read_info.ensures.settings ∙ c.requires.plain in
    let scaled = c.in_ok-set_scale.ensures.scaled (λ fresh. header-not-fresh (sym stage ∙ fresh)) in
    allowed-there c.args.request c.args.format c.args.limits c.args.decoder.now.source.bytes
    c.read_info.new.self.source.bytes c.read_info.new.self.found full c.orientation_in-orientation.result
    c.scale-scale.result c.size-size.result c.bytes_for.result _ header
    (info-by-same _ (settings_for (luma_for c.args.request)) _ _ settings
    (sym c.info.ensures ∙ c.unwrap-full.ensures))
    (c.orientation_in-orientation.ensures.said ∙ ap (orientation_for c.args.request) c.exif_data.ensures)
    c.scale-scale.ensures.chosen c.size-size.ensures (rw scaled at c.bytes_for.ensures) c.in_ok-check.ensures

-- ---- refusals

pub returns-in_err-read_info-clause-refused : goal.returns-in_err-read_info-clause-refused
returns-in_err-read_info-clause-refused g c known =
    let p = err_from_is_err_and c.from_residual.result c.from_residual.ensures.1 in
    let a = c.in_err-read_info.ensures.reads c.requires.fresh in
    rw (p.1, p.2) (answered (header_at c.args.decoder.now.source.bytes) c.args.decoder.now.source
    c.read_info.new.self.source _ a.1 a.2 known)

refused-not-read : ◌≡◌ {A = Bool} false true → ⊥
refused-not-read e = cc

-- a decoder whose header was read is scaled
pub returns-in_err-set_scale-clause-refused : goal.returns-in_err-set_scale-clause-refused
returns-in_err-set_scale-clause-refused g c known =
    let stage = rw c.requires.fresh at c.in_ok-read_info.ensures.stage in
    let none = rw stage at c.in_err-set_scale.ensures.stage in
    absurd (refused-not-read none.1)

pub returns-in_err-check-clause-refused : goal.returns-in_err-check-clause-refused
returns-in_err-check-clause-refused g c known =
    let first = c.in_ok-read_info.ensures.reads c.requires.fresh in
    let header = (first.1 known).1 in
    let full = c.unwrap-full.result in
    let stage = rw c.requires.fresh at c.in_ok-read_info.ensures.stage in
    let settings = c.in_ok-read_info.ensures.settings ∙ c.requires.plain in
    let scaled = c.in_ok-set_scale.ensures.scaled (λ fresh. header-not-fresh (sym stage ∙ fresh)) in
    let p = err_from_is_err_and c.from_residual-in_err-check.result c.from_residual-in_err-check.ensures.1 in
    rw (p.1, p.2) (above-reason c.args.limits full.width full.height c.bytes_for.result _ _ _ _ _
    c.in_err-check.ensures
    (λ above. allowed-there c.args.request c.args.format c.args.limits c.args.decoder.now.source.bytes
    c.read_info.new.self.source.bytes c.read_info.new.self.found full c.orientation_in-orientation.result
    c.scale-scale.result c.size-size.result c.bytes_for.result _ header
    (info-by-same _ (settings_for (luma_for c.args.request)) _ _ settings
    (sym c.info.ensures ∙ c.unwrap-full.ensures))
    (c.orientation_in-orientation.ensures.said ∙ ap (orientation_for c.args.request) c.exif_data.ensures)
    c.scale-scale.ensures.chosen c.size-size.ensures (rw scaled at c.bytes_for.ensures) above))
