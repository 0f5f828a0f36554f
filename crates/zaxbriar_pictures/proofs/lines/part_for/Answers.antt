use Rattle.std.proofs.Common.{◌≡◌, ◌∙◌, ap, refl, subst}
use Rattle.std.specs.Prelude.{MatchResult}
use Rattle.jpeg_bits.specs.declared.error.Error.TheVariants.{OutOfMemory}
use Rattle.jpeg_orientation.specs.Areas.{stored_area}
use Rattle.jpeg_orientation.specs.declared.areas.Area.{Area}
use Rattle.jpeg_orientation.specs.declared.turns.Turn.{Turn}
use Rattle.zaxbriar_samples.specs.Turns.{turn_by}
use Rattle.zaxbriar_pictures.specs.PartLines.{IsAreaOf}
use Rattle.zaxbriar_pictures.proofs.PartPictures.{all-part}
use Rattle.zaxbriar_pictures.proofs.lines.part_for.Goals as goal

pub stored_area-requires : goal.stored_area-requires
stored_area-requires c = rw c.turn_of.ensures (rw c.in-Some.is at c.requires.inside)

pub part_of-requires-clause-inside : goal.part_of-requires-clause-inside
part_of-requires-clause-inside c = rw c.turn_of.ensures at c.stored_area.ensures.inside

pub returns-in-Some : goal.returns-in-Some
returns-in-Some c =
    let same : c.stored_area.result ≡ stored_area (turn_by c.args.stored.info c.args.stored.orientation) c.in-Some.area =
    c.stored_area.ensures.area ∙ ap (λ (t : Turn). stored_area t c.in-Some.area) c.turn_of.ensures in
    rw c.in-Some.is (subst (λ (a : Area). MatchResult c.part_of.result (IsAreaOf a c.args.stored c.args.lines)
    (λ e. e ≡ OutOfMemory)) same c.part_of.ensures)

pub returns-in-None : goal.returns-in-None
returns-in-None c =
    rw c.in-None.is (all-part c.args.stored c.args.lines _ refl refl c.requires.height c.requires.bytes)
