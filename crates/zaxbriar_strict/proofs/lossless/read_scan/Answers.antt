use Rattle.std.proofs.Common.{◌≡◌, ◌≢◌, ◌≤◌, ◌∙◌, ℕ, List, map, refl, sym, subst, arith}
use Rattle.jpeg_lossless.specs.Differences.{row_tables}
use Rattle.zaxbriar_strict.specs.Heads.{members_of}
use Rattle.zaxbriar_strict.specs.Loaded.{data_of}
use Rattle.zaxbriar_strict.specs.ScanSamples.{ArePlaced, ReadsDifferences, Share, share_of, unit_tables}
use Rattle.zaxbriar_strict.proofs.RowIntervals.{HasRows, all-read, begun, one-more}
use Rattle.zaxbriar_strict.proofs.SampledFrames.{samples-read, samples-some, shares-placed}
use Rattle.zaxbriar_strict.proofs.lossless.read_scan.Goals as goal

pub loop-row-init : goal.loop-row-init
loop-row-init c = record { kept = refl; read = λ placed every bytes a. a }

pub loop-row-preserved : goal.loop-row-preserved
loop-row-preserved c = record {
  kept = c.in_ok-read_row.ensures.kept ∙ c.loop-row.invariant.kept;
  read = λ placed every bytes a.
      let i = c.loop-row.invariant in
      let r = c.in_ok-read_row.ensures in
      let t = c.args.tables.now in
      let columns = c.units-columns.result.0 in
      let d = subst (λ (l : List Share). ArePlaced l → ReadsDifferences (row_tables columns (unit_tables t l))
      (data_of c.go_on.new.intervals.bits) (data_of c.read_row.new.intervals.bits)) i.kept r.read in
      one-more c.go_on.new.intervals c.read_row.new.intervals
      (c.in_ok-is_first.ensures _ columns every bytes c.loop-row.row (i.read placed every bytes a)) r.every r.left r.next
      (d placed);
}

pub returns : goal.returns
returns c = λ made lossless has.
    let t = c.args.tables.now in
    let f = c.args.frame.now in
    let s = c.args.scan.now in
    let ms = members_of s in
    let cs = f.components.items in
    let bytes = c.args.start.rest.now in
    let rest = c.in_ok-rest.rest.rest.now in
    let wide = c.units-columns.result.0 in
    let high = c.units-columns.result.1 in
    let units = c.units-columns.ensures.as_samples refl made has in
    let checked = c.in_default.ensures in
    let installed = checked.installed has.tables in
    let sizes = samples-some f ms made has.within in
    let some : 1 ≤ wide = subst (λ (n : ℕ). 1 ≤ n) (sym units.0) sizes.0 in
    let some_high : 1 ≤ high = subst (λ (n : ℕ). 1 ≤ n) (sym units.1) sizes.1 in
    let ne : wide ≢ 0 = λ z. omega (arith, some, z) in
    let whole = checked.rows ne in
    let shares = c.in_ok-all.ensures in
    let placed = subst (λ (l : List Share). ArePlaced l) (sym shares) (shares-placed s.count cs ms has.tables) in
    let n = c.new-intervals.ensures in
    let a = c.loop-row.invariant.read placed t.interval bytes
    (begun _ wide t.interval bytes c.new-intervals.result some whole n.bits n.every n.left n.next) in
    let end = c.loop-row-test.false in
    let most = c.loop-row.auto.row-end in
    let rows : c.loop-row.row ≡ high = omega (arith, end, most) in
    let more : 1 ≤ c.loop-row.row = omega (arith, rows, some_high) in
    samples-read t f s wide high bytes rest made has installed units.0 units.1 whole
    (subst (λ (l : List Share). HasRows (row_tables wide (unit_tables t l)) wide t.interval high bytes rest) shares
    (subst (λ (k : ℕ). HasRows (row_tables wide (unit_tables t (map share_of c.in_ok-all.all.items)))
    wide t.interval k bytes rest) rows
    (all-read rest a more c.in_ok-rest.ensures)))
