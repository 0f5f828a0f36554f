use Rattle.std.proofs.Common.{◌≡◌, ◌∙◌, ◌+◌, ◌-◌, ◌*◌, ◌≤◌, ℕ, ap, arith, length, subst}
use Rattle.std.proofs.Common.{sym}
use Rattle.zaxbriar_calls.specs.Upright.{IsRun, pixel_start}
use Rattle.jpeg_orientation.specs.Turns.{flips_x, mirrored}
use Rattle.zaxbriar_calls.proofs.TurnedRuns.{line-fits, line-written, run-fits}
use Rattle.zaxbriar_calls.proofs.lines.put_upright_line.Goals as goal
use Rattle.zaxbriar_calls.proofs.lines.put_upright_line.Goals.{After-pixel_start-start}

start : (c : After-pixel_start-start) → c.pixel_start-start.result ≡ pixel_start c.args.lines
    (mirrored (flips_x c.args.lines.turn.orientation) c.from-width.result 0) c.args.y
start c = c.pixel_start-start.ensures
    ∙ ap (λ n. pixel_start c.args.lines n c.args.y) c.pixel_at.ensures.is
    ∙ ap (λ b. pixel_start c.args.lines (mirrored b c.from-width.result 0) c.args.y)
    c.flips_x-is_flipped.ensures

fits : (c : After-pixel_start-start) → c.pixel_start-start.result
    + c.from-width.result * c.from-pixel_bytes.result ≤ length c.args.pixels.now
fits c = line-fits c.args.lines (length c.args.pixels.now) c.args.y c.from-width.result
    c.from-pixel_bytes.result c.pixel_start-start.result c.requires.room c.requires.side
    c.from-width.ensures c.from-pixel_bytes.ensures (omega arith) c.requires.y (start c)

whole : (c : After-pixel_start-start) → length c.args.line.now
    ≡ c.from-width.result * c.from-pixel_bytes.result
whole c = c.requires.line
    ∙ (λ i. sym c.from-width.ensures i * sym c.from-pixel_bytes.ensures i)

pub overflow_add-start : goal.overflow_add-start
overflow_add-start c =
    let f = fits (goal.at.overflow_add-start c).After-pixel_start-start in
    let w = whole (goal.at.overflow_add-start c).After-pixel_start-start in omega (arith, f, w)

pub slice_bounds-put_run-end : goal.slice_bounds-put_run-end
slice_bounds-put_run-end c =
    let f = fits (goal.at.slice_bounds-put_run-end c).After-pixel_start-start in
    let w = whole (goal.at.slice_bounds-put_run-end c).After-pixel_start-start in
    omega (arith, f, w)

pub put_run-requires-clause-source : goal.put_run-requires-clause-source
put_run-requires-clause-source c =
    let w = whole (goal.at.put_run-requires-clause-source c).After-pixel_start-start in
    λ place low. run-fits c.from-width.result c.from-pixel_bytes.result place
    (length c.args.line.now) low w

pub returns : goal.returns
returns c =
    let start' = start (goal.at.returns c).After-pixel_start-start in
    let fits' = fits (goal.at.returns c).After-pixel_start-start in
    let whole' = whole (goal.at.returns c).After-pixel_start-start in
    let width : ℕ = c.from-width.result in
    let bytes : ℕ = c.from-pixel_bytes.result in
    let from : ℕ = c.pixel_start-start.result in
    let k : from + length c.args.line.now - from ≡ width * bytes = omega (arith, whole') in
    let long : length c.put_run.new.run ≡ width * bytes =
    omega (arith, fits', whole', c.put_run.auto.run) in
    let is : IsRun c.args.line.now bytes width (flips_x c.args.lines.turn.orientation) bytes
    c.put_run.new.run =
    subst (λ b. IsRun c.args.line.now bytes width b bytes c.put_run.new.run)
    c.flips_x-is_flipped.ensures c.put_run.ensures in
    λ meant are. line-written c.args.lines meant c.args.y width from
    (from + length c.args.line.now - from) bytes bytes c.args.line.now c.args.pixels.now
    c.put_run.new.run c.requires.side c.from-width.ensures c.from-pixel_bytes.ensures
    c.from-pixel_bytes.ensures start' k long fits' is are
