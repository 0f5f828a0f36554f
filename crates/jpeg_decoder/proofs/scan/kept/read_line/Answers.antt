use Rattle.std.proofs.Common.{◌≤◌, ◌<◌, ◌+◌, ◌-◌, ◌∷◌, ℕ, ℤ, List, length, ap, refl, ◌∙◌, arith}
use Rattle.std.proofs.lemmas.Result.{err_from_is_err_and}
use Rattle.jpeg_bits.specs.Readers.{Reads}
use Rattle.jpeg_meaning.specs.InTurn.{Counted, blocks_from}
use Rattle.jpeg_meaning.specs.Scans.{Arrays}
use Rattle.jpeg_decoder.specs.Scanning.{blocks_in, counted, reached, scan_vias}
use Rattle.jpeg_decoder.specs.Walk.{line_spots}
use Rattle.jpeg_decoder.proofs.Kept.LinesOfBlocks.{line-begins, line-ends, line-goes, line-stops, line-unbegins}
use Rattle.jpeg_decoder.proofs.scan.kept.read_line.Goals as goal

pub returns-then-not-begin-clause-blocks : goal.returns-then-not-begin-clause-blocks
returns-then-not-begin-clause-blocks g c others =
    let a = c.args in
    let p = a.scan.now.pass in
    let vias = scan_vias a.scan.now in
    let n = a.scan.now.restart_interval in
    let is = c.from-n.ensures ∙ c.restart_interval.ensures in
    let l = c.loop-at in
    let held : Arrays = blocks_in l.array ∷ others in
    let some : 0 < a.first + a.wide - l.at = omega (arith, c.loop-at-test.true) in
    rw c.take_refusal.ensures (line-unbegins p vias n l.at (a.first + a.wide - l.at)
    (blocks_from p vias n (line_spots a.first a.wide) (counted a.interval.now (blocks_in a.array.now ∷ others)))
    a.interval.now.decoder l.interval.decoder c.begin.new.interval.decoder a.source.now l.source c.begin.new.source
    (counted l.interval held) (l.invariant.blocks others) (λ (u : Unit {0}). counted l.interval held)
    (λ (u : Unit {0}). counted c.begin.new.interval held) _ some (rw is at (c.if-not-begin.ensures.begun held)))

pub returns-in_err-read_part-clause-blocks : goal.returns-in_err-read_part-clause-blocks
returns-in_err-read_part-clause-blocks g c others =
    let e = err_from_is_err_and c.from_residual.result c.from_residual.ensures.1 in
    let a = c.args in
    let p = a.scan.now.pass in
    let vias = scan_vias a.scan.now in
    let n = a.scan.now.restart_interval in
    let is = c.from-n.ensures ∙ c.restart_interval.ensures in
    let l = c.loop-at in
    let room : ℕ = a.first + a.wide - l.at in
    let i = c.begin.new.interval in
    let new = c.read_part.new in
    let k = c.part_size.result in
    let held : Arrays = blocks_in l.array ∷ others in
    let some : 0 < room = omega (arith, c.loop-at-test.true) in
    let fits : l.at + k ≤ a.first + a.wide = omega (arith, c.part_size.ensures.within, c.loop-at-test.true) in
    let whole : Reads Counted = blocks_from p vias n (line_spots a.first a.wide)
    (counted a.interval.now (blocks_in a.array.now ∷ others)) in
    let begun = line-begins p vias n l.at room whole a.interval.now.decoder l.interval.decoder i.decoder a.source.now
    l.source c.begin.new.source (counted l.interval held) (l.invariant.blocks others) (counted i held) some
    (λ h. c.if-not-begin.ensures.some refl (omega (arith, h, is)))
    (rw is at (c.if-not-begin.ensures.begun held)) in
    rw (e.1, e.2) (line-stops p vias n l.at room whole a.interval.now.decoder i.decoder new.interval.decoder a.source.now
    c.begin.new.source new.source (counted i held) begun (λ (u : Unit {0}). counted i held)
    (λ (u : Unit {0}). reached new.interval (blocks_in new.array ∷ others)) _ k (a.first + a.wide) fits refl
    (λ h. c.part_size.ensures.left (omega (arith, h, is))) (c.in_err-read_part.ensures.blocks others))

pub loop-at-preserved : goal.loop-at-preserved
loop-at-preserved g c =
    let a = c.args in
    let p = a.scan.now.pass in
    let vias = scan_vias a.scan.now in
    let n = a.scan.now.restart_interval in
    let is = c.from-n.ensures ∙ c.restart_interval.ensures in
    let l = c.loop-at in
    let room : ℕ = a.first + a.wide - l.at in
    let i = c.begin.new.interval in
    let new = c.read_part.new in
    let k = c.part_size.result in
    let some : 0 < room = omega (arith, c.loop-at-test.true) in
    let fits : l.at + k ≤ a.first + a.wide = omega (arith, c.part_size.ensures.within, c.loop-at-test.true) in
    record {
      from = omega (arith, l.invariant.from);
      most = fits;
      four = ap (λ (x : List ℤ). length x) c.in_ok-read_part.ensures.predictors
          ∙ c.if-not-begin.ensures.four refl l.invariant.four;
      size = c.in_ok-read_part.ensures.size ∙ l.invariant.size;
      blocks = λ others.
          let held : Arrays = blocks_in l.array ∷ others in
          let whole : Reads Counted = blocks_from p vias n (line_spots a.first a.wide)
          (counted a.interval.now (blocks_in a.array.now ∷ others)) in
          let begun = line-begins p vias n l.at room whole a.interval.now.decoder l.interval.decoder i.decoder
          a.source.now l.source c.begin.new.source (counted l.interval held) (l.invariant.blocks others)
          (counted i held) some (λ h. c.if-not-begin.ensures.some refl (omega (arith, h, is)))
          (rw is at (c.if-not-begin.ensures.begun held)) in
          line-goes p vias n l.at room whole a.interval.now.decoder i.decoder new.interval.decoder a.source.now
          c.begin.new.source new.source (counted i held) begun k (a.first + a.wide) c.saturating_sub-interval.result
          new.interval.number new.interval.beyond (reached new.interval (blocks_in new.array ∷ others)) fits refl
          (λ h. c.part_size.ensures.left (omega (arith, h, is)))
          (c.saturating_sub-interval.ensures ∙ ap (λ (m : ℕ). m - (l.at + k - l.at)) c.in_ok-read_part.ensures.left)
          c.in_ok-read_part.ensures.number c.in_ok-read_part.ensures.beyond (c.in_ok-read_part.ensures.blocks others);
    }

pub returns-clause-blocks : goal.returns-clause-blocks
returns-clause-blocks g c others =
    let a = c.args in
    let p = a.scan.now.pass in
    let vias = scan_vias a.scan.now in
    let n = a.scan.now.restart_interval in
    let l = c.loop-at in
    line-ends p vias n l.at (a.first + a.wide - l.at)
    (blocks_from p vias n (line_spots a.first a.wide) (counted a.interval.now (blocks_in a.array.now ∷ others)))
    a.interval.now.decoder l.interval.decoder l.interval.decoder a.source.now l.source l.source
    (counted l.interval (blocks_in l.array ∷ others)) (l.invariant.blocks others)
    (omega (arith, c.loop-at-test.false)) refl refl
