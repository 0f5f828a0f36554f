use Rattle.std.proofs.Common.{◌≡◌, ◌-◌, Bool, ◌∙◌, ap, ap₂, sym, map, length, ℕ, List}
use Rattle.std.proofs.Common.{Vec, Global, take, drop, ◌++◌, true, false, arith, rules}
use Rattle.std.proofs.lemmas.List.{length-map}
use Rattle.std.proofs.lemmas.Result.{err_from_is_err_and}
use Rattle.jpeg_lossless.specs.Differences.{differences, mcu_tables, row_tables}
use Rattle.jpeg_lossless.specs.Rows.{planes_after_rows, with_mcu_row}
use Rattle.jpeg_lossless.specs.Codings.{part_in, way_by}
use Rattle.jpeg_lossless.specs.Scans.{samples_an_mcu}
use Rattle.jpeg_bits.specs.Codes.{Table}
use Rattle.jpeg_bits.specs.Entropy.{upcoming}
use Rattle.jpeg_bits.proofs.Loops.{Names-through}
use Rattle.jpeg_bits.specs.declared.scan.Predictor.{Predictor}
use Rattle.jpeg_lossless.proofs.Leaves.{Leaves-step, Leaves-refused}
use Rattle.jpeg_lossless.proofs.PlaneLoops.{named, planes_more, planes_refused, reached_more, reached_none}
use Rattle.jpeg_lossless.proofs.PlaneLoops.{reached_refused}
use Rattle.jpeg_lossless.proofs.Sizes.{grown-as, written-back}
use Rattle.jpeg_lossless.proofs.scan.LosslessScan.read_rows.Goals as goal

pub returns-in_err-read_row-clause-reads : goal.returns-in_err-read_row-clause-reads
returns-in_err-read_row-clause-reads g c =
    let listed : map (λ t. t.now) c.as_slice-tables.result.now
    ≡ mcu_tables (map part_in c.args.coding.now.parts.now) = search rules in
    let e = err_from_is_err_and c.from_residual.result c.from_residual.ensures.1 in
    let tables = map (λ t. t.now) c.as_slice-tables.result.now in
    let v = way_by c.args.coding.now.scan (map part_in c.args.coding.now.parts.now) in
    let planes = map (λ v. v.items) c.loop-left.self.planes.items in
    rw (e.1, e.2) (Leaves-refused (planes_after_rows v true c.args.count
    (map (λ v. v.items) c.args.self.now.planes.items))
    (planes_after_rows v c.loop-left.is_first c.loop-left.left planes)
    (differences (row_tables c.from-wide.result tables))
    c.args.decoder.now c.loop-left.decoder c.read_row.new.decoder c.args.source.now c.loop-left.source
    c.read_row.new.source
    (λ (u : Unit {0}). c.read_row.new.row.items) (λ (u : Unit {0}). planes) _
    (λ t f h. planes_refused v c.loop-left.is_first c.loop-left.left planes t f c.loop-left-test.true
    (ap₂ (λ (n : ℕ) (l : List Table). differences (row_tables n l) t) (sym c.from-wide.ensures)
    (sym listed) ∙ h))
    c.loop-left.invariant.reads c.in_err-read_row.ensures.reads)

pub returns-in_err-read_row-clause-reached : goal.returns-in_err-read_row-clause-reached
returns-in_err-read_row-clause-reached g c = λ known stays there.
    let listed : map (λ t. t.now) c.as_slice-tables.result.now
    ≡ mcu_tables (map part_in c.args.coding.now.parts.now) = search rules in
    let e = err_from_is_err_and c.from_residual.result c.from_residual.ensures.1 in
    let tables = map (λ t. t.now) c.as_slice-tables.result.now in
    let v = way_by c.args.coding.now.scan (map part_in c.args.coding.now.parts.now) in
    let planes = map (λ v. v.items) c.loop-left.self.planes.items in
    let t = upcoming c.loop-left.decoder c.loop-left.source.bytes in
    let told = c.in_err-read_row.ensures.reads.1 (c.loop-left.invariant.reads.1 known).0 stays in
    let fault = named {Y = Unit {0}} _ _ (λ h. there (rw (e.1, e.2) h)) told in
    sym (ap (λ r. r.0) (c.loop-left.invariant.reached known
    ∙ reached_refused v c.loop-left.is_first c.loop-left.left planes t fault.0 c.loop-left-test.true
    (ap₂ (λ (n : ℕ) (l : List Table). differences (row_tables n l) t) (sym c.from-wide.ensures) (sym listed)
    ∙ fault.1)))

pub returns-in_err-read_row-clause-told : goal.returns-in_err-read_row-clause-told
returns-in_err-read_row-clause-told g c = λ known stays.
    let listed : map (λ t. t.now) c.as_slice-tables.result.now
    ≡ mcu_tables (map part_in c.args.coding.now.parts.now) = search rules in
    let e = err_from_is_err_and c.from_residual.result c.from_residual.ensures.1 in
    let v = way_by c.args.coding.now.scan (map part_in c.args.coding.now.parts.now) in
    let planes = map (λ v. v.items) c.loop-left.self.planes.items in
    let t = upcoming c.loop-left.decoder c.loop-left.source.bytes in
    let told = c.in_err-read_row.ensures.reads.1 (c.loop-left.invariant.reads.1 known).0 stays in
    rw (e.1, e.2) (Names-through _ _ _ (λ f h. ap (λ r. r.1) (c.loop-left.invariant.reached known
    ∙ reached_refused v c.loop-left.is_first c.loop-left.left planes t f c.loop-left-test.true
    (ap₂ (λ (n : ℕ) (l : List Table). differences (row_tables n l) t) (sym c.from-wide.ensures) (sym listed)
    ∙ h))) told)

pub returns-clause-reached : goal.returns-clause-reached
returns-clause-reached g c = λ known stays there.
    let v = way_by c.args.coding.now.scan (map part_in c.args.coding.now.parts.now) in
    let planes = map (λ v. v.items) c.loop-left.self.planes.items in
    let t = upcoming c.loop-left.decoder c.loop-left.source.bytes in
    sym (ap (λ r. r.0) (c.loop-left.invariant.reached known
    ∙ reached_none v c.loop-left.is_first c.loop-left.left planes t (omega (arith, c.loop-left-test.false))))

pub returns-clause-told : goal.returns-clause-told
returns-clause-told g c = λ known stays.
    let v = way_by c.args.coding.now.scan (map part_in c.args.coding.now.parts.now) in
    let planes = map (λ v. v.items) c.loop-left.self.planes.items in
    let t = upcoming c.loop-left.decoder c.loop-left.source.bytes in
    ap (λ r. r.1) (c.loop-left.invariant.reached known
    ∙ reached_none v c.loop-left.is_first c.loop-left.left planes t (omega (arith, c.loop-left-test.false)))

pub loop-left-preserved : goal.loop-left-preserved
loop-left-preserved g c =
    let listed : map (λ t. t.now) c.as_slice-tables.result.now ≡ mcu_tables (map part_in c.args.coding.now.parts.now) =
    ap (map (λ t. t.now)) c.as_slice-tables.ensures.value ∙ c.args.coding.now.listed in
    let tables = map (λ t. t.now) c.as_slice-tables.result.now in
    let coding = c.args.coding.now.scan in
    let parts = map part_in c.args.coding.now.parts.now in
    let v = way_by coding parts in
    let first = c.loop-left.is_first in
    let planes = map (λ v. v.items) c.loop-left.self.planes.items in
    let was = c.loop-left.self.planes in
    let back : c.as_mut_slice-planes.result.now ≡ was.items = c.as_mut_slice-planes.ensures.value in
    let old-long : length was.items ≡ was.len = sym was.ok.0 in
    let new-long : length c.add_row.new.planes ≡ was.len = c.add_row.ensures.count ∙ ap length back ∙ old-long in
    let buffered = written-back was.len c.add_row.new.planes was.items new-long old-long in
    let next = map (λ v. v.items) (take was.len
    (c.add_row.new.planes ++ drop (length c.add_row.new.planes) was.items)) in
    let same : next ≡ map (λ v. v.items) c.add_row.new.planes = ap (map (λ v. v.items)) buffered in
    let row = c.read_row.new.row.items in
    let grid = λ (l : List (Vec ℕ Global)). map (λ v. v.items) l in
    let size : length c.as_slice-tables.result.now ≡ samples_an_mcu v =
    sym (length-map c.as_slice-tables.result.now (λ t. t.now)) ∙ ap (λ (l : List Table). length l) listed in
    let made : Predictor → ℕ → Bool → ℕ → ℕ → List ℕ → List (Vec ℕ Global) → List (List ℕ) =
    λ p s f n k r l. with_mcu_row p s f n k r 0 parts (grid l) in
    let grown : next ≡ with_mcu_row v.selection v.start first v.wide (samples_an_mcu v) row 0 parts
    planes
    = search rules in
    record {
      count = ap length buffered ∙ c.add_row.ensures.count ∙ ap length back ∙
          c.loop-left.invariant.count;
      left = omega (arith, c.loop-left.invariant.left);
      long = search (rules, grown-as);
      reads = Leaves-step (planes_after_rows v true c.args.count (map (λ v. v.items) c.args.self.now.planes.items))
          (planes_after_rows v first c.loop-left.left planes) (planes_after_rows v false (c.loop-left.left - 1) next)
          (differences (row_tables c.from-wide.result tables))
          c.args.decoder.now c.loop-left.decoder c.read_row.new.decoder c.args.source.now c.loop-left.source
          c.read_row.new.source
          (λ (u : Unit {0}). row) tt
          (λ t u h. planes_more v first c.loop-left.left planes next row t u c.loop-left-test.true grown
          (ap₂ (λ (n : ℕ) (l : List Table). differences (row_tables n l) t) (sym c.from-wide.ensures)
          (sym listed) ∙ h))
          c.loop-left.invariant.reads c.in_ok-read_row.ensures.reads;
      reached = λ known.
          let t = upcoming c.loop-left.decoder c.loop-left.source.bytes in
          c.loop-left.invariant.reached known
          ∙ reached_more v first c.loop-left.left planes next row t _ c.loop-left-test.true grown
          (ap₂ (λ (n : ℕ) (l : List Table). differences (row_tables n l) t) (sym c.from-wide.ensures) (sym listed)
          ∙ (c.in_ok-read_row.ensures.reads.1 (c.loop-left.invariant.reads.1 known).0).1);
    }
