use Rattle.std.proofs.Common.{◌≡◌, ◌∙◌, ◌<◌, ℕ, List, [], ap, length, refl, rules, subst, sym}
use Rattle.std.proofs.lemmas.List.{with_items_is}
use Rattle.std.specs.List.{concat}
use Rattle.std.specs.Prelude.{slice_index_or}
use Rattle.std.specs.Vec.{with_items}
use Rattle.jpeg_decoder.proofs.Pictures.LinesTogether.{line-long}
use Rattle.zaxbriar_samples.specs.Boxing.{HasTaken, IsLine}
use Rattle.zaxbriar_samples.proofs.LinesTogether.{line-is}
use Rattle.zaxbriar_calls.proofs.boxed.boxed_of.Goals as goal

pub loop-row-init : goal.loop-row-init
loop-row-init c =
    let size : length c.in_ok-line.line.items ≡ c.line_bytes.result = search rules in
    record {
      same = refl;
      long = rw size c.line_bytes.ensures;
      taken = c.in_ok-boxing.ensures (concat c.args.picture);
    }

pub write_line-requires-clause-row : goal.write_line-requires-clause-row
write_line-requires-clause-row c =
    let low : c.loop-row.row < length c.args.picture = search rules in
    rw c.loop-row.invariant.same low

pub write_line-requires-clause-room : goal.write_line-requires-clause-room
write_line-requires-clause-room c =
    let low : c.loop-row.row < length c.args.picture = search rules in
    let long : length (slice_index_or c.args.picture c.loop-row.row []) ≡ length c.loop-row.line.items =
    line-long (length c.loop-row.line.items) c.loop-row.row c.args.picture [] c.loop-row.invariant.long low in
    rw (c.loop-row.invariant.same, long) (search rules)

pub loop-row-preserved : goal.loop-row-preserved
loop-row-preserved c =
    let kept = c.loop-row.invariant in
    let lines : List (List ℕ) = c.args.picture in
    let line : List ℕ = c.write_line.new.line in
    let row : ℕ = c.loop-row.row in
    let low : row < length lines = search rules in
    let is : line ≡ slice_index_or lines row [] = c.write_line.ensures.line
    ∙ ap (λ (l : List (List ℕ)). slice_index_or l row []) kept.same in
    let long : length line ≡ length c.loop-row.line.items = ap (λ (l : List ℕ). length l) is
    ∙ line-long (length c.loop-row.line.items) row lines [] kept.long low in
    let items : (with_items c.loop-row.line line).items ≡ line =
    with_items_is c.loop-row.line line (long ∙ sym c.loop-row.line.ok.0) in
    let taken : IsLine c.args.info c.args.precision (concat lines) row c.as_slice.result.now =
    subst (λ (l : List ℕ). IsLine c.args.info c.args.precision (concat lines) row l)
    (sym (c.as_slice.ensures.value ∙ items ∙ is))
    (line-is c.args.info c.args.precision row lines c.requires.bytes low) in
    record {
      same = c.write_line.ensures.same ∙ kept.same;
      long = rw (items, long) kept.long;
      taken = c.in_ok-take_line.ensures.taken (concat lines) c.args.info c.args.precision c.args.size row
          (rw (sym c.requires.height) low) taken kept.taken;
    }

pub returns : goal.returns
returns c =
    let all : c.loop-row.row ≡ c.args.info.height = search rules in
    c.into_picture.ensures (concat c.args.picture) c.args.info c.args.precision c.args.size
    (subst (λ (n : ℕ). HasTaken (concat c.args.picture) c.args.info c.args.precision c.args.size n
    c.loop-row.boxing) all c.loop-row.invariant.taken)
