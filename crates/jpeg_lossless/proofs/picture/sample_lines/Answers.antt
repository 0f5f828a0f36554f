use Rattle.std.proofs.Common.{◌≡◌, ◌∙◌, ap, arith, length, map, rules, sym, refl, List}
use Rattle.std.proofs.lemmas.List.{length-map}
use Rattle.jpeg_segments.specs.FrameView.{component_in, frame_in}
use Rattle.jpeg_lossless.specs.Samplings.{sampling_in}
use Rattle.jpeg_lossless.specs.LinesView.{AreKept}
use Rattle.jpeg_lossless.specs.declared.picture.SampleLines.TheInside.{Inside}
use Rattle.jpeg_lossless.specs.declared.stretching.Sampling.{Sampling}
use Rattle.jpeg_lossless.proofs.ImageLoops.{most_seen, planes-count}
use Rattle.jpeg_lossless.proofs.KeptLines.{IsPictureOf, has-lines, layers-same, lines_sizes, lines_together}
use Rattle.jpeg_lossless.proofs.picture.sample_lines.Goals.{In_ok-stretched, else-is_plain, then-is_plain}
use Rattle.jpeg_lossless.proofs.picture.sample_lines.Goals as goal

abbrev picture : In_ok-stretched → Sampling
picture c = record {
  horizontal = c.greatest_of-horizontal.result.0;
  vertical = c.greatest_of-horizontal.result.1;
  width = c.args.frame.now.image_size.width;
}

abbrev inside : In_ok-stretched → Inside
inside c = record {
  precision = c.args.frame.now.precision;
  picture = picture c;
  height = c.args.frame.now.image_size.height;
  samplings = c.in_ok-samplings.samplings;
  planes = c.args.planes;
  is_plain = c.are_plain-is_plain.result;
  stretched = c.in_ok-stretched.stretched;
}

of : (c : In_ok-stretched) → IsPictureOf (frame_in c.args.frame.now) (picture c)
of c =
    let cs = c.args.frame.now.components.items in
    let g = c.greatest_of-horizontal in
    record {
      horizontal = most_seen (λ f. f.horizontal) g.result.0 c.deref.result.now cs g.ensures.horizontal
          c.deref.ensures.value;
      vertical = most_seen (λ f. f.vertical) g.result.1 c.deref.result.now cs g.ensures.vertical
          c.deref.ensures.value;
      width = refl;
    }

are : (c : In_ok-stretched) → c.in_ok-samplings.samplings.items ≡ map sampling_in c.args.frame.now.components.items
are c = rw c.deref-2.ensures.value at c.in_ok-samplings.ensures

-- as many planes as components
count : (c : In_ok-stretched) → length (map (λ v. v.items) c.args.planes.items)
    ≡ length (map component_in c.args.frame.now.components.items)
count c = planes-count _ _ c.requires.whole

kept : (c : In_ok-stretched) → AreKept (inside c)
kept c =
    let cs = c.args.frame.now.components.items in
    let planes = map (λ v. v.items) c.args.planes.items in
    let frame = frame_in c.args.frame.now in
    let g = c.greatest_of-horizontal in
    let are = are c in
    let of = of c in
    record {
      across = g.ensures.some_horizontal;
      down = g.ensures.some_vertical;
      count = ap (λ (l : List Sampling). length l) are ∙ length-map cs sampling_in ∙ sym (length-map cs component_in)
          ∙ sym (count c) ∙ length-map c.args.planes.items (λ v. v.items);
      own = λ y h. rw (are, layers-same) (has-lines frame (picture c) y (map component_in cs) planes of h
          (omega (arith, of.horizontal)) c.requires.whole c.requires.sampling c.requires.reaches);
      plain = λ e. rw c.deref-3.ensures.value at (c.are_plain-is_plain.ensures e);
      stretched = λ f. elim c.if-is_plain.branch [ then-is_plain w ↦ search rules | else-is_plain w ↦ search rules ];
      wide = rw c.from.ensures at c.in_ok-stretched.ensures.wide;
    }

pub invariant_of-result : goal.invariant_of-result
invariant_of-result c = kept c

pub returns-clause-picture : goal.returns-clause-picture
returns-clause-picture c =
    lines_together c.args.frame.now (picture c) c.in_ok-samplings.samplings.items
    (map (λ v. v.items) c.args.planes.items) (of c) (are c) (count c)

pub returns-clause-lines : goal.returns-clause-lines
returns-clause-lines c = lines_sizes (inside c) (kept c)
