use Rattle.std.proofs.Common.{◌≡◌, ◌∙◌, ◌+◌, ◌-◌, ◌*◌, ◌<◌, ◌≤◌, ℕ, List, [], ap, arith, le_refl}
use Rattle.std.proofs.Common.{length, refl, slice_index_or, subst, sym}
use Rattle.std.proofs.lemmas.Nat.{row_fits}
use borrow.Rule.Slice.PartMut.{put_mid}
use Rattle.jpeg_decoder.proofs.Pictures.LinesTogether.{line-long}
use Rattle.zaxbriar_calls.specs.Layouts.{layout_line}
use Rattle.zaxbriar_calls.specs.Upright.{AreLines}
use Rattle.zaxbriar_calls.proofs.Laid.{line-length}
use Rattle.zaxbriar_calls.proofs.TurnedLines.{line-in-band, line-more}
use Rattle.zaxbriar_calls.proofs.lines.read_band.Goals as goal

pub loop-index-init : goal.loop-index-init
loop-index-init c = record {
  lines = λ index low. absurd (let none : ⊥ = omega (arith, low) in none);
  picture = refl;
  row = refl;
}

pub slice_bounds-put_line-end : goal.slice_bounds-put_line-end
slice_bounds-put_line-end c =
    let lines = c.args.lines in
    let low : c.loop-index.index < c.args.count = omega arith in
    line-in-band c.loop-index.index c.args.count
    (lines.turn.width * lines.pixel_bytes) c.line_bytes-bytes.result
    (length c.loop-index.band) c.line_bytes-bytes.ensures low
    (omega (arith, c.requires.band, c.loop-index.auto.band))

pub put_line-requires-clause-stored : goal.put_line-requires-clause-stored
put_line-requires-clause-stored c =
    let lines = c.args.lines in
    let y : ℕ = c.args.first + c.loop-index.index in
    let low : y < length c.args.picture.now = omega arith in
    ap (λ (l : List (List ℕ)). length (slice_index_or l y [])) c.loop-index.invariant.picture
    ∙ line-long (lines.turn.width * lines.stored) y c.args.picture.now []
    c.requires.stored.stored low

pub loop-index-preserved : goal.loop-index-preserved
loop-index-preserved c =
    let lines = c.args.lines in
    let picture : List (List ℕ) = c.args.picture.now in
    let index : ℕ = c.loop-index.index in
    let y : ℕ = c.args.first + index in
    let low : y < length picture = omega arith in
    let bytes : ℕ = lines.turn.width * lines.pixel_bytes in
    let inside : index < c.args.count = omega arith in
    let fits : index * bytes + bytes ≤ c.args.count * bytes =
    row_fits index bytes c.args.count bytes inside (le_refl bytes) in
    let room : index * bytes + bytes ≤ length c.loop-index.band =
    omega (arith, fits, c.requires.band, c.loop-index.auto.band) in
    let is : c.put_line.new.line ≡ layout_line lines.conversion lines.stored lines.turn.width
    (slice_index_or picture y []) = c.put_line.ensures.line
    ∙ ap (λ (l : List (List ℕ)). layout_line lines.conversion lines.stored lines.turn.width
    (slice_index_or l y []))
    c.loop-index.invariant.picture in
    let long : length c.put_line.new.line ≡ bytes = ap (λ (l : List ℕ). length l) is
    ∙ line-length lines.conversion lines.stored lines.turn.width (slice_index_or picture y [])
    (line-long (lines.turn.width * lines.stored) y picture [] c.requires.stored.stored low)
    ∙ ap (λ n. lines.turn.width * n) (sym c.requires.stored.pixel) in
    let k : index * bytes + bytes - index * bytes ≡ bytes = omega arith in
    record {
      lines = subst (λ n. AreLines lines picture c.args.first (index + 1)
          (put_mid (index * n) (index * n + n - index * n) c.loop-index.band c.put_line.new.line))
          (sym c.line_bytes-bytes.ensures)
          (line-more lines picture c.args.first index
          (index * bytes + bytes - index * bytes) c.loop-index.band
          c.put_line.new.line c.loop-index.invariant.lines room k long is);
      picture = c.put_line.ensures.same ∙ c.loop-index.invariant.picture;
      row = c.put_line.auto.row ∙ c.loop-index.invariant.row;
    }
