use Rattle.std.proofs.Common.{◌≡◌, ◌+◌, ◌*◌, ◌<◌, ◌≤◌, [], length, map, get_or, ap, sym, ◌∙◌, arith, rules}
use Rattle.std.proofs.Math.Nat.{mul-le-mul_right}
use Rattle.std.proofs.Math.ListN as lists
use Rattle.std.proofs.lemmas.List.{get_or-map, length-map}
use Rattle.jpeg_pixels.specs.declared.sources.ComponentSource.{ComponentSource}
use Rattle.jpeg_pixels.specs.declared.upsample_rows.UpsampleRule.TheVariants.{H1V1}
use Rattle.jpeg_pixels.specs.Pictures.{lines_of}
use Rattle.jpeg_pixels.specs.PicturesView.{source_in}
use Rattle.jpeg_pixels.proofs.ComponentLines.{cover-of, line-of, lines-more, lines_of-length}
use Rattle.jpeg_pixels.proofs.picture_lines.upsample_lines.Goals as goal

-- what stands after all components
abbrev none : ComponentSource
none = record { rule = H1V1; width = 0; height = 0; row_stride = 0 }

pub upsample_line-requires-clause-cover : goal.upsample_line-requires-clause-cover
upsample_line-requires-clause-cover c =
    let index = c.loop-index.index in
    let components = c.args.components.now in
    let planes = c.args.line.now.planes.now in
    let inside : index < length planes = omega arith in
    let counts : length (map (λ v. v.items) planes) ≡ length (map source_in components) = search (rules, length-map) in
    cover-of (map source_in components) (map (λ v. v.items) planes) c.args.line.now.width (c.args.line.now.row + 1) index (source_in none)
    (source_in (get_or components index none)) c.deref.result.now
    counts c.requires.cover (omega (arith, length-map components source_in)) (lists.get_or-map source_in components
    index none)
    (get_or-map (λ v. v.items) planes index c.index-planes-index.result [] inside
    ∙ ap (λ v. v.items) (sym c.index-planes-index.is) ∙ sym c.deref.ensures.value)

pub loop-index-preserved : goal.loop-index-preserved
loop-index-preserved c =
    let index = c.loop-index.index in
    let components = c.args.components.now in
    let planes = c.args.line.now.planes.now in
    let width = c.args.line.now.width in
    let row = c.args.line.now.row in
    let inside : index < length planes = omega arith in
    let sources = map source_in components in
    let counts : length (map (λ v. v.items) planes) ≡ length sources = search (rules, length-map) in
    let all = lines_of sources (map (λ v. v.items) planes) width row in
    let below : index < length sources = omega (arith, length-map components source_in) in
    let room : index * width ≤ length c.loop-index.lines =
    omega (arith, mul-le-mul_right width c.loop-index-test.true) in
    let line : get_or all index [] ≡ _ = line-of sources (map (λ v. v.items) planes) width row index (source_in none)
    (source_in (get_or components index none)) c.deref.result.now
    counts below (lists.get_or-map source_in components index none)
    (get_or-map (λ v. v.items) planes index c.index-planes-index.result [] inside
    ∙ ap (λ v. v.items) (sym c.index-planes-index.is) ∙ sym c.deref.ensures.value) in
    lines-more all index width _ c.loop-index.lines c.upsample_line.new.line (omega (
      arith,
      lines_of-length sources (map (λ v. v.items) planes) width row counts,
    )) room
    (omega (arith, c.upsample_line.auto.line)) (c.upsample_line.ensures ∙ sym line) c.loop-index.invariant
