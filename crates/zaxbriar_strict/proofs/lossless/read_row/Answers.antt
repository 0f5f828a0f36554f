use Rattle.std.proofs.Common.{◌≡◌, ◌-◌, ◌∙◌, ℕ, List, map, refl, ap, subst, arith}
use Rattle.jpeg_lossless.specs.Differences.{row_tables}
use Rattle.zaxbriar_strict.specs.Data.{Data}
use Rattle.zaxbriar_strict.specs.Loaded.{data_of}
use Rattle.zaxbriar_strict.specs.ScanSamples.{ArePlaced, ReadsDifferences, Share, share_of, unit_tables}
use Rattle.zaxbriar_strict.specs.declared.intervals.Intervals.{Intervals}
use Rattle.zaxbriar_strict.proofs.SampleDifferences.{no-units, units-more}
use Rattle.zaxbriar_strict.proofs.lossless.read_row.Goals as goal

pub loop-column-init : goal.loop-column-init
loop-column-init c = record {
  kept = refl;
  every = refl;
  left = omega arith;
  next = refl;
  read = λ placed.
      no-units (unit_tables c.args.tables.now (map share_of c.args.all.now.items)) (data_of c.args.intervals.now.bits);
}

pub loop-column-preserved : goal.loop-column-preserved
loop-column-preserved c =
    let i = c.loop-column.invariant in
    let e = c.count.ensures in
    let t = c.args.tables.now in
    let shares = map share_of c.args.all.now.items in
    let left : c.count.new.self.left ≡ c.loop-column.intervals.left - 1 = ap (λ (i : Intervals). i.left) e in
    let was = i.left in
    record {
      kept = c.in-Ok.ensures.kept ∙ i.kept;
      every = ap (λ (i : Intervals). i.every) e ∙ i.every;
      left = omega (arith, left, was);
      next = ap (λ (i : Intervals). i.next) e ∙ i.next;
      read = λ placed.
          let r = subst (λ (l : List Share). ArePlaced l → ReadsDifferences (unit_tables t l)
          (data_of c.count.new.self.bits) (data_of c.read_unit.new.bits)) i.kept c.in-Ok.ensures.read in
          let n = subst (λ (d : Data). ReadsDifferences (unit_tables t shares) d (data_of c.read_unit.new.bits))
          (ap (λ (i : Intervals). data_of i.bits) e) (r placed) in
          units-more c.loop-column.column (unit_tables t shares) (i.read placed) n;
    }

pub returns : goal.returns
returns c =
    let i = c.loop-column.invariant in
    let over = c.loop-column-test.false in
    let most = c.loop-column.auto.column-end in
    let all : c.loop-column.column ≡ c.args.columns = omega (arith, over, most) in
    record {
      kept = c.end_row.ensures ∙ i.kept;
      every = i.every;
      left = i.left ∙ ap (λ (n : ℕ). c.args.intervals.now.left - n) all;
      next = i.next;
      read = λ placed.
          subst (λ (n : ℕ). ReadsDifferences (row_tables n (unit_tables c.args.tables.now
          (map share_of c.args.all.now.items))) (data_of c.args.intervals.now.bits) (data_of c.loop-column.intervals.bits))
          all (i.read placed);
    }
