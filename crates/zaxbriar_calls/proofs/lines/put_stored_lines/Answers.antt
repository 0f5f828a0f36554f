use Rattle.std.proofs.Common.{◌≡◌, ◌∙◌, ◌+◌, ◌*◌, ◌-◌, ◌<◌, ◌≤◌, ℕ, List, [], ap, arith, drop, length, refl, sym, take}
use Rattle.std.proofs.Math.Nat.{mul-le-mul_right}
use Rattle.std.specs.List.{concat}
use Rattle.std.specs.Prelude.{slice_index_or}
use borrow.Rule.Slice.PartMut.{put_mid}
use Rattle.jpeg_decoder.proofs.Pictures.LinesTogether.{line-long, together-length}
use Rattle.zaxbriar_calls.specs.Layouts.{layout_line}
use Rattle.zaxbriar_calls.proofs.Laid.{all-laid, laid_so_far, line-laid, line-length, line-of-all, none-laid}
use Rattle.zaxbriar_calls.proofs.lines.put_stored_lines.Goals as goal

pub loop-y-init : goal.loop-y-init
loop-y-init c =
    let lines = c.args.lines in
    record {
      lines = none-laid (layout_line lines.conversion lines.stored lines.turn.width)
          (lines.turn.width * lines.stored) lines.stride lines.bottom_up lines.height
          (concat c.args.picture.now) c.args.pixels.now;
      picture = refl;
      row = refl;
    }

pub put_line-requires-clause-y : goal.put_line-requires-clause-y
put_line-requires-clause-y c = grind arith

pub put_line-requires-clause-stored : goal.put_line-requires-clause-stored
put_line-requires-clause-stored c =
    let lines = c.args.lines in
    let low : c.loop-y.y < length c.args.picture.now = grind arith in
    ap (λ (l : List (List ℕ)). length (slice_index_or l c.loop-y.y [])) c.loop-y.invariant.picture
    ∙ line-long (lines.turn.width * lines.stored) c.loop-y.y c.args.picture.now []
    c.requires.stored.stored low

pub put_line-requires-clause-row : goal.put_line-requires-clause-row
put_line-requires-clause-row c = λ kept. c.loop-y.invariant.row ∙ c.requires.stored.row kept

pub loop-y-preserved : goal.loop-y-preserved
loop-y-preserved c =
    let lines = c.args.lines in
    let picture : List (List ℕ) = c.args.picture.now in
    let bytes : ℕ = lines.turn.width * lines.stored in
    let samples : List ℕ = concat picture in
    let y : ℕ = c.loop-y.y in
    let low : y < length picture = grind arith in
    let all : length samples ≡ length picture * bytes =
    together-length bytes picture c.requires.stored.stored in
    let next : y + 1 ≤ length picture = omega (arith, low) in
    let few : (y + 1) * bytes ≤ length picture * bytes = mul-le-mul_right bytes next in
    let few' : (y + 1) * bytes ≤ length samples = omega (arith, few, all) in
    let one : take bytes (drop (y * bytes) samples) ≡ slice_index_or picture y [] =
    line-of-all bytes y picture c.requires.stored.stored low in
    let is : c.put_line.new.line ≡ layout_line lines.conversion lines.stored lines.turn.width
    (take bytes (drop (y * bytes) samples)) = c.put_line.ensures.line
    ∙ ap (λ (l : List (List ℕ)). layout_line lines.conversion lines.stored lines.turn.width
    (slice_index_or l y [])) c.loop-y.invariant.picture
    ∙ ap (λ (l : List ℕ). layout_line lines.conversion lines.stored lines.turn.width l) (sym one) in
    let place : ℕ = c.place_of-place.result in
    let room : place * lines.stride + lines.row_bytes ≤ length c.args.pixels.now =
    c.requires.room.room place c.place_of-place.ensures.inside in
    let k : place * lines.stride + lines.row_bytes - place * lines.stride ≡ lines.row_bytes = omega arith in
    record {
      lines = ap (λ (l : List ℕ). put_mid (place * lines.stride)
          (place * lines.stride + lines.row_bytes - place * lines.stride) l c.put_line.new.line)
          c.loop-y.invariant.lines
          ∙ line-laid (layout_line lines.conversion lines.stored lines.turn.width) bytes
          lines.row_bytes lines.stride lines.bottom_up lines.height y place
          (place * lines.stride + lines.row_bytes - place * lines.stride) samples
          c.args.pixels.now c.put_line.new.line
          (λ p whole. line-length lines.conversion lines.stored lines.turn.width p whole
          ∙ sym (c.requires.room.line ∙ (λ i. c.requires.width i * c.requires.stored.pixel i)))
          few' c.requires.room.wide room k c.place_of-place.ensures.down
          c.place_of-place.ensures.up is;
      picture = c.put_line.ensures.same ∙ c.loop-y.invariant.picture;
      row = c.put_line.auto.row ∙ c.loop-y.invariant.row;
    }

pub returns : goal.returns
returns c =
    let lines = c.args.lines in
    let last : c.loop-y.y ≡ lines.height = grind arith in
    c.loop-y.invariant.lines
    ∙ (λ i. laid_so_far (layout_line lines.conversion lines.stored (sym c.requires.width i))
    (sym c.requires.width i * lines.stored) lines.stride lines.bottom_up lines.height (last i)
    (concat c.args.picture.now) c.args.pixels.now)
    ∙ all-laid (layout_line lines.conversion lines.stored lines.width) (lines.width * lines.stored)
    lines.stride lines.bottom_up lines.height (concat c.args.picture.now) c.args.pixels.now
