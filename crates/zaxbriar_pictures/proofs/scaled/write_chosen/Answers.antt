use Rattle.std.proofs.Common.{false, refl, rules, true, ◌≡◌}
use Rattle.std.proofs.lemmas.Result.{err_from_is_err_and}
use Rattle.jpeg_meaning.specs.Stream.{header_at}
use Rattle.zaxbriar_samples.specs.Files.{has_pixels}
use Rattle.zaxbriar_samples.specs.Parts.{has_part}
use Rattle.zaxbriar_pictures.proofs.ChosenStreams.{chosen-file, chosen-fits, chosen-lacks, chosen-named, is-chosen}
use Rattle.zaxbriar_pictures.proofs.FittingParts.{outside-reason}
use Rattle.zaxbriar_pictures.proofs.Reasons.{reason-then}
use Rattle.zaxbriar_pictures.proofs.scaled.write_chosen.Goals as goal

pub returns-clause-written : goal.returns-clause-written
returns-clause-written g c known =
    let is = is-chosen c.args.at c.args.limits c.args.decoder c.choose.new.decoder c.in_ok-choice.choice
    c.stored_in-stored.result c.in_ok-choice.ensures.reads (c.in_ok-choice.ensures.asked c.args.at refl)
    c.stored_in-stored.ensures.said c.stored_in-stored.ensures.orientation known in
    chosen-file c.args.extent c.args.at c.args.limits c.args.format c.args.decoder.source.bytes c.choose.new.decoder
    c.stored_in-stored.result _ _ c.in_ok-told.told is c.in_ok-told.ensures.written

pub returns-clause-limited : goal.returns-clause-limited
returns-clause-limited g c known = c.in_ok-choice.ensures.limited known

pub returns-clause-fits : goal.returns-clause-fits
returns-clause-fits g c known =
    let is = is-chosen c.args.at c.args.limits c.args.decoder c.choose.new.decoder c.in_ok-choice.choice
    c.stored_in-stored.result c.in_ok-choice.ensures.reads (c.in_ok-choice.ensures.asked c.args.at refl)
    c.stored_in-stored.ensures.said c.stored_in-stored.ensures.orientation known in
    chosen-fits c.args.at c.args.limits c.args.decoder.source.bytes c.choose.new.decoder c.stored_in-stored.result true
    is c.in_ok-check_crop.ensures

-- ---- refusals

pub returns-in_err-choice-clause-refused : goal.returns-in_err-choice-clause-refused
returns-in_err-choice-clause-refused g c known =
    let p = err_from_is_err_and c.from_residual.result c.from_residual.ensures.1 in
    rw (p.1, p.2) (reason-then _ (header_at c.args.decoder.source.bytes) _ _ _ _
    (c.in_err-choice.ensures.refused known))

pub returns-in_err-check_crop-clause-refused : goal.returns-in_err-check_crop-clause-refused
returns-in_err-check_crop-clause-refused g c known =
    let stored = c.stored_in-stored.result in
    let is = is-chosen c.args.at c.args.limits c.args.decoder c.choose.new.decoder c.in_ok-choice.choice stored
    c.in_ok-choice.ensures.reads (c.in_ok-choice.ensures.asked c.args.at refl) c.stored_in-stored.ensures.said
    c.stored_in-stored.ensures.orientation known in
    let p = err_from_is_err_and c.from_residual-in_err-check_crop.result c.from_residual-in_err-check_crop.ensures.1 in
    rw (p.1, p.2) (outside-reason (has_part c.args.at.crop stored.orientation stored.info) _ _ _ _ _
    c.in_err-check_crop.ensures (λ outside. chosen-fits c.args.at c.args.limits c.args.decoder.source.bytes
    c.choose.new.decoder stored false is outside))

pub returns-then-not-has_pixels-clause-refused : goal.returns-then-not-has_pixels-clause-refused
returns-then-not-has_pixels-clause-refused g c known =
    let stored = c.stored_in-stored.result in
    let is = is-chosen c.args.at c.args.limits c.args.decoder c.choose.new.decoder c.in_ok-choice.choice stored
    c.in_ok-choice.ensures.reads (c.in_ok-choice.ensures.asked c.args.at refl) c.stored_in-stored.ensures.said
    c.stored_in-stored.ensures.orientation known in
    let none : has_pixels c.args.format stored.info.pixel_format ≡ false = search rules in
    chosen-lacks c.args.at c.args.limits c.args.format c.args.decoder.source.bytes c.choose.new.decoder stored is none

pub returns-in_err-told-clause-refused : goal.returns-in_err-told-clause-refused
returns-in_err-told-clause-refused g c known =
    let stored = c.stored_in-stored.result in
    let is = is-chosen c.args.at c.args.limits c.args.decoder c.choose.new.decoder c.in_ok-choice.choice stored
    c.in_ok-choice.ensures.reads (c.in_ok-choice.ensures.asked c.args.at refl) c.stored_in-stored.ensures.said
    c.stored_in-stored.ensures.orientation known in
    let p = err_from_is_err_and c.from_residual-in_err-told.result c.from_residual-in_err-told.ensures.1 in
    rw (p.1, p.2) (chosen-named c.args.extent c.args.at c.args.limits c.args.format c.args.decoder.source.bytes
    c.choose.new.decoder stored _ is (c.in_err-told.ensures.refused is.known))
