use Rattle.std.proofs.Common.{◌≤◌, ◌<◌, ◌∙◌, List, length, map, refl, sym, subst, arith}
use Rattle.std.proofs.lemmas.List.{length-map, take_all}
use Rattle.jpeg_bits.specs.Codes.{Table}
use Rattle.zaxbriar_strict.specs.Loaded.{data_of}
use Rattle.zaxbriar_strict.specs.ScanSamples.{ReadsDifferences, Share, share_of, unit_tables}
use Rattle.zaxbriar_strict.proofs.SampleDifferences.{differences-then}
use Rattle.zaxbriar_strict.proofs.Shares.{kept-shares, no-unit, placed-at, share-at, unit-more}
use Rattle.zaxbriar_strict.proofs.lossless.read_unit.Goals as goal

pub loop-slot-init : goal.loop-slot-init
loop-slot-init c = record {
  kept = refl;
  read = λ placed. no-unit c.args.tables.now (map share_of c.args.all.now.items) (data_of c.args.bits.now);
}

pub returns-in_err-read_part-clause-kept : goal.returns-in_err-read_part-clause-kept
returns-in_err-read_part-clause-kept c =
    kept-shares c.loop-slot.all.items c.loop-slot.slot c.in-Some.lines.now c.read_part.new.self c.in-Some.ensures.value
    c.in_err-read_part.ensures.kept ∙ c.loop-slot.invariant.kept

pub loop-slot-preserved : goal.loop-slot-preserved
loop-slot-preserved c =
    let i = c.loop-slot.invariant in
    let t = c.args.tables.now in
    let xs = c.loop-slot.all.items in
    let slot = c.loop-slot.slot in
    let lines = c.in-Some.lines.now in
    let shares = map share_of c.args.all.now.items in
    record {
      kept = kept-shares xs slot lines c.read_part.new.self c.in-Some.ensures.value c.in_ok-read_part.ensures.kept ∙ i.kept;
      read = λ placed.
          let lt : slot < length shares =
          subst (λ (l : List Share). slot < length l) i.kept
          (let h = c.in-Some.ensures.item.3.0 in let e = length-map xs share_of in omega (arith, h, e)) in
          let at = share-at xs shares slot lines i.kept c.in-Some.ensures.item.3.0 c.in-Some.ensures.value in
          subst (λ (l : List Table). ReadsDifferences l (data_of c.args.bits.now) (data_of c.read_part.new.bits))
          (sym (unit-more t shares slot (share_of lines) lt at))
          (differences-then (i.read placed) (c.in_ok-read_part.ensures.read (placed-at shares slot (share_of lines) lt at
          placed)));
    }

pub returns-clause-read : goal.returns-clause-read
returns-clause-read c = λ placed.
    let xs = c.args.all.now.items in
    let shares = map share_of xs in
    let over = c.loop-slot-test.false in
    let e = length-map xs share_of in
    let all : length shares ≤ c.loop-slot.slot = omega (arith, over, e) in
    subst (λ (l : List Share). ReadsDifferences (unit_tables c.args.tables.now l) (data_of c.args.bits.now)
    (data_of c.loop-slot.bits)) (take_all c.loop-slot.slot shares all) (c.loop-slot.invariant.read placed)
