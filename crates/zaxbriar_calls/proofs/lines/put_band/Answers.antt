use Rattle.std.proofs.Common.{◌≡◌, ◌∙◌, ◌+◌, ◌-◌, ◌*◌, ◌<◌, ◌≤◌, ℕ, arith, length}
use Rattle.std.proofs.Common.{subst}
use Rattle.zaxbriar_calls.specs.Upright.{Writes}
use Rattle.zaxbriar_calls.proofs.TurnedLines.{column-more, line-in-band, writes-none}
use Rattle.zaxbriar_calls.proofs.TurnedRuns.{part-of-line, row-more}
use Rattle.zaxbriar_calls.proofs.lines.put_band.Goals as goal

pub loop-x-init : goal.loop-x-init
loop-x-init c = λ meant are. writes-none c.args.lines meant
    (λ column line. (column < 0) × (c.args.first ≤ line) × (line < c.args.first + c.args.count))
    c.args.pixels.now
    (λ column line these. let none : ⊥ = omega (arith, these.0) in none)

pub loop-x-preserved : goal.loop-x-preserved
loop-x-preserved c = λ meant are. column-more c.args.lines meant c.loop-x.x c.args.first
    c.args.count
    c.args.pixels.now c.loop-x.pixels c.put_column.new.pixels (c.loop-x.invariant meant are)
    (c.put_column.ensures meant are)

pub loop-index-init : goal.loop-index-init
loop-index-init c = λ meant are. writes-none c.args.lines meant
    (λ column line. (column < c.args.lines.turn.width) × (c.args.first ≤ line)
    × (line < c.args.first + 0))
    c.args.pixels.now
    (λ column line these. let none : ⊥ = omega (arith, these.1, these.2) in none)

pub slice_bounds-put_upright_line-end : goal.slice_bounds-put_upright_line-end
slice_bounds-put_upright_line-end c =
    let lines = c.args.lines in
    let low : c.loop-index.index < c.args.count = omega arith in
    line-in-band c.loop-index.index c.args.count
    (lines.turn.width * lines.pixel_bytes) c.line_bytes-bytes.result
    (length c.args.band.now) c.line_bytes-bytes.ensures low c.requires.band

pub loop-index-preserved : goal.loop-index-preserved
loop-index-preserved c =
    let lines = c.args.lines in
    let index : ℕ = c.loop-index.index in
    let bytes : ℕ = c.line_bytes-bytes.result in
    let low : index < c.args.count = omega arith in
    let k : index * bytes + bytes - index * bytes ≡ lines.turn.width * lines.pixel_bytes =
    omega (arith, c.line_bytes-bytes.ensures) in
    λ meant are. row-more lines meant c.args.first index c.args.pixels.now c.loop-index.pixels
    c.put_upright_line.new.pixels (c.loop-index.invariant meant are)
    (c.put_upright_line.ensures meant (λ x byte hx hb. are x index byte hx low hb
    ∙ part-of-line index lines.turn.width lines.pixel_bytes x byte bytes
    (index * bytes + bytes - index * bytes) c.args.band.now c.line_bytes-bytes.ensures k hx hb))

pub returns-after-loop-x : goal.returns-after-loop-x
returns-after-loop-x c =
    let all : c.loop-x.x ≡ c.args.lines.turn.width = omega arith in
    λ meant are. subst (λ n. Writes c.args.lines meant
    (λ column line. (column < n) × (c.args.first ≤ line) × (line < c.args.first + c.args.count))
    c.args.pixels.now
    c.loop-x.pixels) all (c.loop-x.invariant meant are)

pub returns-after-loop-index : goal.returns-after-loop-index
returns-after-loop-index c =
    let all : c.loop-index.index ≡ c.args.count = omega arith in
    λ meant are. subst (λ n. Writes c.args.lines meant
    (λ column line. (column < c.args.lines.turn.width) × (c.args.first ≤ line)
    × (line < c.args.first + n))
    c.args.pixels.now
    c.loop-index.pixels) all (c.loop-index.invariant meant are)
