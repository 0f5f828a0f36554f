use Rattle.std.proofs.Common.{◌≡◌, ◌∙◌, ◌+◌, ◌-◌, ◌*◌, ◌≤◌, ℕ, List, ap, arith, drop, length}
use Rattle.std.proofs.Common.{subst, sym, take}
use Rattle.zaxbriar_calls.specs.Upright.{IsRun, pixel_start}
use Rattle.jpeg_orientation.specs.Turns.{flips_y, mirrored}
use Rattle.zaxbriar_calls.proofs.TurnedLines.{pixel-in-band}
use Rattle.zaxbriar_calls.proofs.TurnedRuns.{column-fits, column-written, rest-of, rest-room}
use Rattle.zaxbriar_calls.proofs.lines.put_column.Goals as goal
use Rattle.zaxbriar_calls.proofs.lines.put_column.Goals.{After-line_bytes}

start : (c : After-line_bytes) → c.pixel_start-start.result ≡ pixel_start c.args.lines c.args.x
    (c.args.first + mirrored (flips_y c.args.lines.turn.orientation) c.args.count 0)
start c = c.pixel_start-start.ensures
    ∙ ap (λ n. pixel_start c.args.lines c.args.x (c.args.first + n)) c.pixel_at.ensures.is
    ∙ ap (λ b. pixel_start c.args.lines c.args.x (c.args.first + mirrored b c.args.count 0))
    c.flips_y-is_flipped.ensures

fits : (c : After-line_bytes) → c.pixel_start-start.result
    + c.args.count * c.from-pixel_bytes.result ≤ length c.args.pixels.now
fits c = subst (λ n. n ≤ length c.args.pixels.now)
    (λ i. sym (start c) i + c.args.count * sym c.from-pixel_bytes.ensures i)
    (column-fits c.args.lines (length c.args.pixels.now) c.args.x c.args.first c.args.count
    c.requires.room c.requires.side c.requires.x c.requires.some c.requires.count)

pub overflow_add-start : goal.overflow_add-start
overflow_add-start c =
    let f = fits (goal.at.overflow_add-start c).After-line_bytes in omega (arith, f)

pub slice_bounds-put_run-end-2 : goal.slice_bounds-put_run-end-2
slice_bounds-put_run-end-2 c =
    let f = fits (goal.at.slice_bounds-put_run-end-2 c).After-line_bytes in omega (arith, f)

pub put_run-requires-clause-source : goal.put_run-requires-clause-source
put_run-requires-clause-source c = λ place low. rest-room c.args.band.now
    (c.args.x * c.from-pixel_bytes.result) (place * c.line_bytes.result)
    c.from-pixel_bytes.result
    (pixel-in-band place c.args.count c.args.x c.args.lines.turn.width c.args.lines.pixel_bytes
    c.line_bytes.result c.from-pixel_bytes.result (length c.args.band.now)
    c.line_bytes.ensures c.from-pixel_bytes.ensures low c.requires.x c.requires.band)

pub returns : goal.returns
returns c =
    let start' = start (goal.at.returns c).After-line_bytes in
    let fits' = fits (goal.at.returns c).After-line_bytes in
    let bytes : ℕ = c.from-pixel_bytes.result in
    let from : ℕ = c.pixel_start-start.result in
    let k : from + c.args.count * bytes - from ≡ c.args.count * bytes = omega arith in
    let long : length c.put_run.new.run ≡ c.args.count * bytes =
    omega (arith, fits', c.put_run.auto.run) in
    let is : IsRun (drop (c.args.x * bytes) c.args.band.now) c.line_bytes.result c.args.count
    (flips_y c.args.lines.turn.orientation) bytes c.put_run.new.run =
    subst (λ (l : List ℕ). IsRun l c.line_bytes.result c.args.count
    (flips_y c.args.lines.turn.orientation) bytes c.put_run.new.run)
    (rest-of (c.args.x * bytes) c.args.band.now)
    (subst (λ b. IsRun (take (length c.args.band.now - c.args.x * bytes)
    (drop (c.args.x * bytes) c.args.band.now)) c.line_bytes.result c.args.count b bytes
    c.put_run.new.run)
    c.flips_y-is_flipped.ensures c.put_run.ensures) in
    λ meant are. column-written c.args.lines meant c.args.x c.args.first c.args.count from
    (from + c.args.count * bytes - from) bytes c.line_bytes.result c.args.band.now
    c.args.pixels.now c.put_run.new.run c.requires.side c.requires.x c.requires.count
    c.from-pixel_bytes.ensures c.line_bytes.ensures start' k long fits' is are
