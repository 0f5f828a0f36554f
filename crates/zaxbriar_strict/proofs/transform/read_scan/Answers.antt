use Rattle.std.proofs.Common.{◌≡◌, ◌≤◌, ◌+◌, ◌*◌, ◌++◌, ℕ, List, length, refl, sym, ap, ap₂, ◌∙◌, arith, subst}
use Rattle.std.proofs.Math.Nat.{add-mul}
use Rattle.jpeg_segments.specs.Frame.{Frame as WrittenFrame}
use Rattle.jpeg_meaning.specs.Order.{spots_of}
use Rattle.jpeg_meaning.specs.ScanSegments.{components_of, vias_from}
use Rattle.zaxbriar_strict.specs.Changes.{Kept, Place, kept_in}
use Rattle.zaxbriar_strict.specs.Contexts.{row_places, scan_places, unit_of}
use Rattle.zaxbriar_strict.specs.Heads.{is_progressive_process, members_of, written_frame}
use Rattle.zaxbriar_strict.specs.Runs.{IsAfter}
use Rattle.zaxbriar_strict.specs.ScanData.{AreAlike, IsAtSpot, ReadsData, units_high, units_wide}
use Rattle.zaxbriar_strict.proofs.FrameComponents.{units-near, units-some}
use Rattle.zaxbriar_strict.proofs.Places.{flat-more}
use Rattle.zaxbriar_strict.proofs.Runs.{IsRead, all-read, begun}
use Rattle.zaxbriar_strict.proofs.SameFrames.{kept-row-places, kept-then, kept-unit, same-kept, same-made}
use Rattle.zaxbriar_strict.proofs.SameFrames.{same-precision, same-written}
use Rattle.zaxbriar_strict.proofs.SentPasses.{sent-by}
use Rattle.zaxbriar_strict.proofs.SequentialHeaders.{same-members}
use Rattle.zaxbriar_strict.proofs.SpotPlaces.{places-at-spots}
use Rattle.zaxbriar_strict.proofs.UnitWays.{data-read, unit-not-empty, unit-same, unit_by, ways-are}
use Rattle.zaxbriar_strict.proofs.transform.read_scan.Goals as goal

pub loop-row-preserved : goal.loop-row-preserved
loop-row-preserved c = record {
  kept = kept-then c.loop-row.invariant.kept c.in_ok-read_row.ensures.kept;
  read = λ p vias unit every bytes from x wide high u a.
      let i = c.loop-row.invariant in
      let columns = c.units-columns.result.0 in
      let row = c.loop-row.row in
      let scan = c.args.scan.now in
      let size = scan.count in
      let ms = members_of scan in
      let cs = c.args.frame.now.components.items in
      let k = c.is_progressive.result in
      let to = kept_in c.read_row.new.frame.components.items in
      let before = scan_places size cs ms columns row in
      let same = u ∙ sym (kept-unit size ms vias i.kept) in
      let e : row * columns + columns ≡ (row + 1) * columns = omega (arith, add-mul row 1 columns) in
      let low = c.loop-row-test.true in
      let near : row ≤ 300000 = omega (arith, low, high) in
      let placed : before ++ row_places size c.loop-row.frame.components.items ms row columns
      ≡ scan_places size cs ms columns (row + 1) =
      ap (λ (l : List Place). before ++ l) (kept-row-places size ms row columns i.kept)
      ∙ sym (flat-more (λ (row : ℕ). row_places size cs ms row columns) row) in
      subst (λ (l : List Place). IsAfter k p unit every bytes ((row + 1) * columns) l from to
      c.read_row.new.intervals c.read_row.new.past) placed
      (subst (λ (n : ℕ). IsAfter k p unit every bytes n
      (before ++ row_places size c.loop-row.frame.components.items ms row columns) from to c.read_row.new.intervals
      c.read_row.new.past) e
      (c.in_ok-read_row.ensures.read p vias unit every bytes (row * columns) before from x wide near same
      (i.read p vias unit every bytes from x wide high u a)));
}

pub returns-clause-read : goal.returns-clause-read
returns-clause-read c = λ p made sends eight has.
    let t = c.args.tables.now in
    let f = c.args.frame.now in
    let s = c.args.scan.now in
    let ms = members_of s in
    let cs = f.components.items in
    let frame = written_frame f in
    let bytes = c.args.start.rest.now in
    let rest = c.in_ok-rest.rest.rest.now in
    let new = c.check_tables.new.frame in
    let kept = c.in-Ok.ensures.kept.same in
    let k = c.is_progressive.result in
    let is : k ≡ is_progressive_process f.process =
    c.is_progressive.ensures ∙ ap is_progressive_process kept.process in
    let by = sent-by f s p c.band_of-band.result sends c.band_of-band.ensures.whole c.band_of-band.ensures.sent in
    let installed = c.in-Ok.ensures.tables p made by.first by.last has in
    let codings = installed.codings in
    let vias = vias_from 0 codings in
    let unit = unit_by codings in
    let u : unit ≡ unit_of s.count cs ms vias =
    unit-same p t f ms codings made installed.are
    ∙ ap (λ (n : ℕ). unit_of n cs ms vias) (sym has.counted) in
    let count = has.counted in
    let one = has.some in
    let n = c.new-intervals.ensures in
    let units = c.units-columns.ensures.as_blocks refl (same-made kept made) (same-members f new s kept has) in
    let w = same-written kept in
    let columns = c.units-columns.result.0 in
    let wide = units.0 ∙ ap (λ (g : WrittenFrame). units_wide g ms) w in
    let high = units.1 ∙ ap (λ (g : WrittenFrame). units_high g ms) w in
    let near = units-near f ms made has.within in
    let before = kept_in new.components.items in
    let after = kept_in c.loop-row.frame.components.items in
    let a = c.loop-row.invariant.read p vias unit t.interval bytes before
    (record {
      sequential = λ e. by.sequential (sym is ∙ e);
      passed = λ e. by.passed (sym is ∙ e);
      banded = λ e. by.banded (sym is ∙ e);
      eight = c.is_deep.ensures (same-precision kept ∙ eight);
      ways = ways-are p t frame 0 ms codings has.tables installed.are;
    }) (omega (arith, wide, near)) (omega (arith, high, near)) u
    (begun k p unit t.interval bytes before c.new-intervals.result _
    (unit-not-empty p t f ms codings made installed.are (omega (arith, count, one))) n.bits n.every n.left
    n.next refl) in
    let end = c.loop-row-test.false in
    let most = c.loop-row.auto.row-end in
    let rows : c.loop-row.row ≡ c.units-columns.result.1 = omega (arith, end, most) in
    let all : c.loop-row.row * columns ≡ units_high frame ms * units_wide frame ms =
    ap₂ (λ (x y : ℕ). x * y) (rows ∙ high) wide in
    let some : 1 ≤ c.loop-row.row * columns = omega (arith, all, units-some f ms made has.within) in
    let places = scan_places s.count cs ms columns c.loop-row.row in
    let at : AreAlike (IsAtSpot codings) (spots_of frame (components_of codings)) places =
    subst (λ (n : ℕ). AreAlike (IsAtSpot codings) (spots_of frame (components_of codings))
    (scan_places n cs ms columns c.loop-row.row)) (sym has.counted)
    (subst (λ (n : ℕ). AreAlike (IsAtSpot codings) (spots_of frame (components_of codings))
    (scan_places (length ms) cs ms n c.loop-row.row)) (sym wide)
    (subst (λ (n : ℕ). AreAlike (IsAtSpot codings) (spots_of frame (components_of codings))
    (scan_places (length ms) cs ms (units_wide frame ms) n)) (sym (rows ∙ high))
    (places-at-spots p t f ms codings made (omega (arith, count, one)) installed.are))) in
    let read = all-read rest a some (c.in_ok-end.ensures k) c.in_ok-rest.ensures in
    subst (λ (b : Kept). ReadsData (is_progressive_process f.process) p t frame ms b after bytes rest)
    (same-kept cs new.components.items c.in-Ok.ensures.rows)
    (data-read (is_progressive_process f.process) p t frame ms installed places before after bytes rest at
    (subst (λ b. IsRead b p unit t.interval (units_high frame ms * units_wide frame ms) places before after
    bytes rest) is
    (subst (λ (m : ℕ). IsRead k p unit t.interval m places before after bytes rest) all read)))
