use Rattle.std.proofs.Common.{◌≡◌, ◌<◌, ◌+◌, ◌-◌, ◌∙◌, ap, arith, length, map, subst, sym, List, ℕ}
use Rattle.jpeg_meaning.specs.McuRows.{zero_rows}
use Rattle.jpeg_meaning.specs.Scans.{Arrays}
use Rattle.jpeg_meaning.specs.ScanSegments.{components_of}
use Rattle.jpeg_decoder.specs.GrowingView.{growing_in}
use Rattle.jpeg_decoder.specs.Scanning.{arrays_in}
use Rattle.jpeg_decoder.specs.Steps.{coding_in}
use Rattle.jpeg_decoder.specs.Strips.{with_strips, zeros_of}
use Rattle.jpeg_decoder.specs.Through.{zero_strips}
use Rattle.jpeg_decoder.proofs.Kept.BlockArrays.{Held}
use Rattle.jpeg_decoder.proofs.Strips.RefusedRows.{zeros-all, zeros-done, zeros-next}
use Rattle.jpeg_decoder.proofs.Strips.StripRows.{some-before}
use Rattle.jpeg_decoder.proofs.Strips.StripSteps.{zeros-are}
use Rattle.jpeg_decoder.proofs.scan.rows.append_rest.Goals as goal

pub loop-init : goal.loop-init
loop-init c =
    let cs = map coding_in c.args.codings.now in
    let planes = growing_in c.args.planes.now in
    let rows = arrays_in c.args.rows.now.items in
    let there : arrays_in c.deref.result.now ≡ rows =
    ap (λ (v : List Held). arrays_in v) c.deref.ensures.value ∙ c.in_ok-fill_all.ensures.arrays in
    let made : growing_in c.append_strips.new.planes ≡ with_strips cs rows planes =
    c.in_ok-append_strips.ensures.strips ∙ ap (λ (a : Arrays). with_strips cs a planes) there in
    record {
      growing = c.in_ok-append_strips.ensures.growing;
      kind = c.in_ok-append_strips.ensures.kind;
      some = λ h. some-before cs rows planes (subst (λ (l : List (List ℕ)). 0 < length l) made h);
      strips = zeros-all c.args.left cs (growing_in c.append_strips.new.planes)
          ∙ ap (zero_strips c.args.left cs) made;
    }

pub loop-preserved : goal.loop-preserved
loop-preserved c =
    let cs = map coding_in c.args.codings.now in
    let l = c.loop in
    let planes = growing_in l.planes in
    let zeros = zero_rows 1 (components_of cs) in
    let there : arrays_in c.deref-in-loop.result.now ≡ zeros =
    ap (λ (v : List Held). arrays_in v) c.deref-in-loop.ensures.value ∙ c.in_ok-fill_all-2.ensures.arrays
    ∙ c.clear_rows.ensures.zeros
    ∙ ap zeros_of (c.in_ok-fill_all.ensures.sizes ∙ c.requires.sizes) ∙ zeros-are cs in
    let made : growing_in c.append_strips-in-loop.new.planes ≡ with_strips cs zeros planes =
    c.in_ok-append_strips-2.ensures.strips ∙ ap (λ (a : Arrays). with_strips cs a planes) there in
    record {
      growing = c.in_ok-append_strips-2.ensures.growing;
      kind = c.in_ok-append_strips-2.ensures.kind ∙ l.invariant.kind;
      some = λ h. l.invariant.some
          (some-before cs zeros planes (subst (λ (l : List (List ℕ)). 0 < length l) made h));
      strips = ap (zero_strips (c.args.left - (l.counter + 1)) cs) made
          ∙ sym (zeros-next c.args.left l.counter cs planes c.loop-test.true) ∙ l.invariant.strips;
    }

pub returns-clause-strips : goal.returns-clause-strips
returns-clause-strips c =
    let cs = map coding_in c.args.codings.now in
    let l = c.loop in
    sym (zeros-done c.args.left l.counter cs (growing_in l.planes) (omega (arith, c.loop-test.false)))
    ∙ l.invariant.strips
