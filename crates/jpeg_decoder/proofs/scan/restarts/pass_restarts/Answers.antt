use Rattle.std.proofs.Common.{rules, ◌≡◌, ◌∙◌, ◌<◌, ◌^◌, Option, true, ap, arith, length}
use Rattle.std.proofs.lemmas.Result.{err_from_is_err_and}
use Rattle.jpeg_bits.specs.declared.marker.Marker.{Marker}
use Rattle.jpeg_decoder.specs.Steps.{is_restart_marker, after_all}
use Rattle.jpeg_meaning.proofs.Refusals.{never-met, short-first}
use Rattle.jpeg_decoder.proofs.Segments.PassedRestarts.{after-done, after-refused, after-next, marker-takes}
use Rattle.jpeg_decoder.proofs.scan.restarts.pass_restarts.Goals as goal
use Rattle.jpeg_decoder.proofs.scan.restarts.pass_restarts.Goals.{else-loop-test}
use Rattle.jpeg_decoder.proofs.scan.restarts.pass_restarts.Goals.{then-loop-test+else-not-is_restart+in_ok-read_marker+else-counter-lt18446744073709551615}
use Rattle.std.proofs.lemmas.Grind.{common_steps}

pub returns-then-not-is_restart : goal.returns-then-not-is_restart
returns-then-not-is_restart g c = grind (arith, common_steps, after-done)

pub returns-in_err-read_marker : goal.returns-in_err-read_marker
returns-in_err-read_marker g c = grind (arith, common_steps, err_from_is_err_and, after-refused)

pub loop-preserved : goal.loop-preserved
loop-preserved g c =
    let e : is_restart_marker c.loop.met ≡ true = search rules in
    let m = c.in_ok-read_marker.field-0 in
    record {
      reads = grind (arith, common_steps, after-next);
      took = λ k.
          let here = c.loop.invariant.reads.1 k in
          let there = c.in_ok-read_marker.ensures.answers.1 here.0 in
          let less = marker-takes c.loop.source.bytes (m, c.read_marker.new.source.bytes) there.1 in
          omega (arith, c.loop.invariant.took k, less);
      short = λ _. short-first c.loop.counter c.loop.source c.args.source.now c.loop.invariant.short
          c.loop.invariant.first c.in_ok-read_marker.ensures.short;
      first = λ e. absurd (omega arith);
    }

pub returns : goal.returns
returns g c =
    never-met {X = Option Marker} (λ m. m) (after_all c.args.met) c.args.source.now c.loop-test.source
    c.format_error.result c.format_error.ensures
    (elim c.loop-test.branch as (λ _. c.loop-test.source.failed ≡ c.args.source.now.failed) [
      | else-loop-test w ↦ ap (λ s. s.failed) w.source-is ∙ c.loop.invariant.reads.0
      | then-loop-test+else-not-is_restart+in_ok-read_marker+else-counter-lt18446744073709551615 w ↦ ap (λ s. s.failed)
          w.source-is ∙ w.in_ok-read_marker.ensures.answers.0 ∙ c.loop.invariant.reads.0
    ])
    (λ k.
    let some : 0 < c.loop.counter = elim c.loop-test.branch [
      | else-loop-test w ↦ omega arith
      | then-loop-test+else-not-is_restart+in_ok-read_marker+else-counter-lt18446744073709551615 w ↦ omega arith
    ] in
    let few : length c.args.source.now.bytes < 2 ^ 64 = c.loop.invariant.short some k in
    let here = c.loop.invariant.reads.1 k in
    elim c.loop-test.branch [
      | else-loop-test w ↦ omega (arith, c.loop.invariant.took k)
      | then-loop-test+else-not-is_restart+in_ok-read_marker+else-counter-lt18446744073709551615 w ↦
          let there = w.in_ok-read_marker.ensures.answers.1 here.0 in
          let less = marker-takes c.loop.source.bytes _ there.1 in
          omega (arith, c.loop.invariant.took k, less)
    ])
