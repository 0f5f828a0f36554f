use Rattle.std.proofs.Common.{◌≡◌, ◌≤◌, ◌<◌, ◌+◌, ◌∙◌, Some, length, sym, arith, subst}
use Rattle.std.proofs.lemmas.List.{length-set}
use Rattle.std.proofs.lemmas.Bool.{ltb-true as is-less}
use Rattle.zaxbriar_strict.specs.Progress.{NotesBand}
use Rattle.zaxbriar_strict.proofs.NotedBands.{more-noted, none-noted, same-level}
use Rattle.zaxbriar_strict.proofs.scan.note_band.Goals as goal

pub loop-place-init : goal.loop-place-init
loop-place-init c = record {
  sized = λ i. length c.args.lowest.now;
  noted = subst (λ first. NotesBand c.args.band.0 first c.args.before c.args.low c.args.lowest.now c.args.lowest.now)
      (sym c.from-place.ensures) (none-noted c.args.band.0 c.args.low c.args.before c.args.lowest.now);
}

pub loop-place-preserved : goal.loop-place-preserved
loop-place-preserved c =
    let i = c.loop-place.invariant in
    let place = c.loop-place.place in
    let level = c.in-Some.level.now in
    let least = c.loop-place.auto.place in
    let first : c.args.band.0 ≤ place = omega (arith, least, c.from-place.ensures) in
    let within = is-less place (length c.loop-place.lowest) (sym c.in-Some.ensures.lookup.0) in
    let sized = i.sized in
    let lt : place < length c.args.lowest.now = omega (arith, within, sized) in
    let same = same-level level c.args.before c.ne.result c.ne.ensures c.if-ne.false in
    record {
      sized = length-set c.loop-place.lowest place (Some c.args.low) ∙ sized;
      noted = more-noted c.args.band.0 place c.args.low c.args.before level c.args.lowest.now c.loop-place.lowest first lt
          (sym c.in-Some.ensures.lookup.1 ∙ same) i.noted;
    }

pub returns : goal.returns
returns c = λ h.
    let over = c.loop-place-test.false in
    let most = c.loop-place.auto.place-end in
    let a = c.from-place.ensures in
    let b = c.from-place-end.ensures in
    let end : c.loop-place.place ≡ c.args.band.1 + 1 = omega (arith, over, most, a, b, h) in
    subst (λ n. NotesBand c.args.band.0 n c.args.before c.args.low c.args.lowest.now c.loop-place.lowest) end
    c.loop-place.invariant.noted
