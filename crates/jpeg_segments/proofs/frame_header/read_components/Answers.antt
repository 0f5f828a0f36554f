use Rattle.std.proofs.lemmas.Grind.{common_steps}
use Rattle.std.proofs.Common.{◌≡◌, ◌++◌, ◌∷◌, [], List, Vec, Global, map, arith, rules}
use Rattle.std.proofs.lemmas.List.{map-append}
use Rattle.std.proofs.lemmas.List.Elements.{All-push}
use Rattle.std.proofs.lemmas.Result.{err_from_is_err_and}
use Rattle.jpeg_bits.proofs.Loops.{bind_at, bind_err}
use Rattle.jpeg_segments.specs.declared.frame.Factors.{Factors as Read}
use Rattle.jpeg_segments.specs.Frame.{Factors, IsInRange, components_from}
use Rattle.jpeg_segments.specs.FrameView.{factors_of}
use Rattle.jpeg_segments.proofs.FrameLemmas.{components_from-more}
use Rattle.jpeg_segments.proofs.frame_header.read_components.Goals as goal

abbrev all_of : Vec Read Global → List Factors
all_of v = map factors_of v.items

pub loop-left-preserved : goal.loop-left-preserved
loop-left-preserved g c =
    let lossless = c.args.lossless in
    let left = c.loop-left.left in
    let front = all_of c.loop-left.components in
    let one = c.in_ok-factors.factors in
    let shown : c.deref.result.now ≡ c.loop-left.components.items = c.deref.ensures.value in
    let e : all_of c.push.new.self ≡ front ++ factors_of one ∷ [] = search (rules, map-append) in
    record {
      rest = search (rules, components_from-more, bind_at);
      factors = rw e (All-push IsInRange front (factors_of one) c.loop-left.invariant.factors (record {
        horizontal_some = c.in_ok-factors.ensures.horizontal.0;
        horizontal_most = c.in_ok-factors.ensures.horizontal.1;
        vertical_some = c.in_ok-factors.ensures.vertical.0;
        vertical_most = c.in_ok-factors.ensures.vertical.1;
      }));
    }

pub returns-in_err-factors-clause-answers : goal.returns-in_err-factors-clause-answers
returns-in_err-factors-clause-answers g c = search (rules, err_from_is_err_and, components_from-more, bind_err)

pub returns-clause-answers : goal.returns-clause-answers
unfolding components_from
returns-clause-answers g c = grind (arith, common_steps)
