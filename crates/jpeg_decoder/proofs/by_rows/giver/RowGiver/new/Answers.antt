use Rattle.std.proofs.Common.{◌≡◌, ◌*◌, ◌≤◌, ◌∙◌, ap, arith, length, map, refl, rules, sym}
use Rattle.std.proofs.lemmas.List.{length-map}
use Rattle.jpeg_segments.specs.FrameView.{frame_in}
use Rattle.jpeg_decoder.specs.Steps.{coding_in}
use Rattle.jpeg_decoder.proofs.ByRows.Windows.{line-small, none-ready}
use Rattle.jpeg_decoder.proofs.Pictures.PicturesOfPlanes.{decoded-few}
use Rattle.jpeg_decoder.proofs.by_rows.giver.RowGiver.new.Goals.{In_ok-no_planes}
use Rattle.jpeg_decoder.proofs.by_rows.giver.RowGiver.new.Goals as goal

-- the scan has as many components as the frame
count : (c : In_ok-no_planes) → length c.args.codings.now ≡ length (frame_in c.args.frame.now).components
count c =
    sym (length-map (map coding_in c.args.codings.now) (λ k. k.component) ∙ length-map c.args.codings.now coding_in)
    ∙ ap length c.requires.components

pub overflow_mul-codings : goal.overflow_mul-codings
overflow_mul-codings c =
    let few : length c.args.codings.now ≤ 4 =
    omega (
      arith,
      count (goal.at.overflow_mul-codings c).In_ok-no_planes,
      decoded-few (frame_in c.args.frame.now)
          c.requires.frame,
    ) in
    let wide : c.from-width.result ≤ 65535 = omega arith in
    let fit = line-small (length c.args.codings.now) c.from-width.result few wide in
    record { fits = omega arith }

pub returns-clause-ready : goal.returns-clause-ready
returns-clause-ready c =
    let same = count (goal.at.returns-clause-ready c).In_ok-no_planes in
    let long : length c.in_ok-vec.field-0.items ≡ length c.args.codings.now * c.from-width.result = search rules in
    record {
      sizes = search rules;
      tables = search rules;
      planes = none-ready (frame_in c.args.frame.now).components (length c.args.codings.now) _ same (search rules);
      line = long ∙ ap (λ n. n * c.from-width.result) same
          ∙ ap (λ n. length (frame_in c.args.frame.now).components * n) c.from-width.ensures;
      converts = refl;
      taken = refl;
      count = 0;
      lines = search rules;
    }
