use Rattle.std.proofs.Common.{◌≡◌, ◌<◌, ◌+◌, ◌∷◌, ◌∙◌, ap, sym, arith, drop, length, length-set}
use Rattle.std.proofs.Common.{map, rules, List, ℕ, slice_index_or, Vec, Global}
use Rattle.std.specs.Vec.{with_items}
use Rattle.std.proofs.lemmas.List.{get_or_default, length-map, map-set}
use Rattle.std.proofs.Math.ListN as lists
use Rattle.std.specs.List.{AllByRecursion}
use Rattle.jpeg_lossless.specs.Pictures.{AreWide, Layer, lines_across}
use Rattle.jpeg_lossless.specs.Samplings.{HasLine, layer_in, layers_in}
use Rattle.jpeg_lossless.specs.declared.stretching.Sampling.{Sampling}
use Rattle.jpeg_lossless.proofs.FilledLines.{wide-at, wide-set}
use Rattle.jpeg_lossless.proofs.ImageLoops.{layers_step}
use Rattle.jpeg_lossless.proofs.RowLoops.{mapped-at, mapped-within}
use Rattle.jpeg_lossless.proofs.Sizes.{put_back}
use Rattle.jpeg_lossless.proofs.StretchedLines.{layer-at, line_reaches, lines_more, lines_step, own_samples}
use Rattle.jpeg_lossless.proofs.stretching.stretch_all.Goals.{After-as_mut_slice-line, After-deref}
use Rattle.jpeg_lossless.proofs.stretching.stretch_all.Goals as goal

-- the sampling of a component
abbrev sampling-at : List Sampling → ℕ → Sampling
sampling-at samplings i = slice_index_or samplings i (record { horizontal = 0; vertical = 0; width = 0 })

is-there : (samplings : List Sampling) (i : ℕ) → i < length samplings
    → slice_index_or samplings i (sampling-at samplings i) ≡ sampling-at samplings i
is-there samplings i h = get_or_default samplings i (sampling-at samplings i) _ h

own-at : (picture : Sampling) (row i : ℕ) (samplings : List Sampling) (planes : List (Vec ℕ Global))
    (p : Vec ℕ Global) → AllByRecursion (HasLine picture row) (layers_in samplings (map (λ v. v.items) planes))
    → length samplings ≡ length planes → i < length planes → p ≡ slice_index_or planes i p
    → HasLine picture row (layer_in (sampling-at samplings i) p.items)
own-at picture row i samplings planes p own count h e =
    let inside : i < length samplings = omega (arith, count, h) in
    layer-at (HasLine picture row) samplings (map (λ v. v.items) planes) i (sampling-at samplings i) p.items own
    inside (mapped-within (λ v. v.items) planes i h) (is-there samplings i inside)
    (mapped-at (λ v. v.items) planes i p e)

own-in : (c : After-deref)
    → HasLine c.args.picture c.args.row (layer_in (sampling-at c.args.samplings.now c.loop-i.i) c.index-planes-i.result.items)
own-in c = own-at c.args.picture c.args.row c.loop-i.i c.args.samplings.now c.args.planes.now
    c.index-planes-i.result c.requires.own c.requires.samplings c.loop-i-test.true c.index-planes-i.is

pub line_of-own-requires-clause-long : goal.line_of-own-requires-clause-long
line_of-own-requires-clause-long c = rw c.deref.ensures.value (own-in c).inside

-- the line is as wide as the picture
wide-line : (n i : ℕ) (lines : List (Vec ℕ Global)) (r : Vec ℕ Global) (slice : List ℕ)
    → AreWide n (map (λ v. v.items) lines) → i < length lines
    → slice ≡ (slice_index_or lines i r).items → length slice ≡ n
wide-line n i lines r slice wide h is =
    ap (λ (l : List ℕ). length l) (is ∙ sym (lists.get_or-map (λ v. v.items) lines i r))
    ∙ wide-at n i (map (λ v. v.items) lines) r.items wide (mapped-within (λ v. v.items) lines i h)

wide-in : (c : After-as_mut_slice-line) → length c.as_mut_slice-line.result.now ≡ c.args.picture.width
wide-in c = wide-line c.args.picture.width c.loop-i.i c.loop-i.lines c.index-lines-i.result
    c.as_mut_slice-line.result.now c.loop-i.invariant.wide
    (omega (arith, c.loop-i.invariant.count, c.loop-i-test.true)) c.as_mut_slice-line.ensures.value

pub stretch-requires : goal.stretch-requires
stretch-requires c =
    let a = c.args in
    let own = own-in (goal.at.stretch-requires c).After-deref in
    record {
      some = own.some;
      most = own.most;
      reaches = line_reaches a.picture a.row _ c.line_of-own.result.now (length c.as_mut_slice-line.result.now) own
          (rw c.deref.ensures.value at c.line_of-own.ensures) (wide-in c);
    }

pub loop-i-preserved : goal.loop-i-preserved
loop-i-preserved c =
    let a = c.args in
    let i = c.loop-i.i in
    let grids = map (λ v. v.items) a.planes.now in
    let p = c.index-planes-i.result in
    let s = sampling-at a.samplings.now i in
    let old = map (λ v. v.items) c.loop-i.lines in
    let new = c.stretch.new.line in
    let was = slice_index_or c.loop-i.lines i c.index-lines-i.result in
    let put = with_items was new in
    let written = put_back was new
    (c.stretch.auto.line ∙ ap (λ (l : List ℕ). length l) c.as_mut_slice-line.ensures.value) in
    let at = goal.at.loop-i-preserved c in
    let own = own-in at.After-deref in
    let wide = wide-in at.After-as_mut_slice-line in
    let inside : i < length a.samplings.now = omega (arith, c.requires.samplings, c.loop-i-test.true) in
    let within : i < length grids = mapped-within (λ v. v.items) a.planes.now i c.loop-i-test.true in
    let room : i < length old
    = omega (arith, length-map c.loop-i.lines (λ v. v.items), c.loop-i.invariant.count, c.loop-i-test.true) in
    let across : List Layer → List (List ℕ)
    = λ l. lines_across a.picture.horizontal a.picture.vertical a.picture.width l a.row in
    let rest = layers_in (drop (i + 1) a.samplings.now) (drop (i + 1) grids) in
    let step = layers_step i a.samplings.now grids s p.items inside within (is-there a.samplings.now i inside)
    (mapped-at (λ v. v.items) a.planes.now i p c.index-planes-i.is) in
    let made = own_samples a.picture a.row (layer_in s p.items) c.line_of-own.result.now new
    (length c.as_mut_slice-line.result.now) own (rw c.deref.ensures.value at c.line_of-own.ensures) wide
    c.stretch.ensures in
    let next : across (layer_in s p.items ∷ rest) ≡ put.items ∷ across rest =
    lines_more a.picture.horizontal a.picture.vertical a.picture.width a.row (layer_in s p.items) rest
    ∙ ap (λ (l : List ℕ). l ∷ across rest) (sym (written ∙ made)) in
    search (rules, length-set, map-set, wide-set, lines_step)
