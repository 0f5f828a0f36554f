use Rattle.std.proofs.lemmas.Grind.{common_steps}
use Rattle.std.proofs.Common.{◌≡◌, ◌+◌, ◌++◌, ◌∷◌, [], List, map, take, slice_set, ap, ◌∙◌, arith}
use Rattle.std.proofs.Common.{rules}
use Rattle.std.proofs.lemmas.List.{map-append, take_all, take_more_set}
use Rattle.std.proofs.lemmas.List.Elements.{All-push}
use Rattle.std.proofs.lemmas.Result.{err_from_is_err_and}
use Rattle.jpeg_bits.proofs.Loops.{bind_at, bind_err}
use Rattle.jpeg_segments.specs.ScanHeader.{IsSelectorOf, Selector, selectors_from}
use Rattle.jpeg_segments.specs.FrameView.{frame_in, selector_of}
use Rattle.jpeg_segments.specs.Parts.{HasBlocks}
use Rattle.jpeg_segments.proofs.ScanLemmas.{rises-all, rises-more, selectors_from-more}
use Rattle.jpeg_segments.proofs.scan_header.read_selectors.Goals as goal

pub loop-i-preserved : goal.loop-i-preserved
loop-i-preserved g c =
    let frame = frame_in c.args.frame.now in
    let i = c.loop-i.i in
    let items = c.loop-i.selectors in
    let one = c.in_ok-selector.selector in
    let front : List Selector = map selector_of (take i items) in
    let placed : take (i + 1) (slice_set items i one) ≡ take i items ++ one ∷ [] =
    take_more_set items i one (search rules) in
    let e : map selector_of (take (i + 1) (slice_set items i one)) ≡ front ++ selector_of one ∷ [] =
    ap (map selector_of) placed ∙ map-append selector_of (take i items) (one ∷ []) in
    record {
      rest = search (rules, selectors_from-more, bind_at);
      length = search rules;
      rising = rw (e, map-append (λ (s : Selector). s.component) front (selector_of one ∷ []))
          (rises-more (map (λ (s : Selector). s.component) front) c.loop-i.least one.component
          c.loop-i.invariant.rising c.in_ok-selector.ensures.least);
      indices = rw e (All-push (IsSelectorOf frame) front (selector_of one) c.loop-i.invariant.indices
          c.in_ok-selector.ensures.index);
      blocks = rw placed (All-push (HasBlocks frame) (take i items) one c.loop-i.invariant.blocks
          c.in_ok-selector.ensures.blocks);
    }

pub returns-in_err-selector-clause-answers : goal.returns-in_err-selector-clause-answers
returns-in_err-selector-clause-answers g c = search (rules, err_from_is_err_and, selectors_from-more, bind_err)

pub returns-clause-answers : goal.returns-clause-answers
unfolding selectors_from
returns-clause-answers g c = grind (arith, common_steps, frame_in)

pub returns-clause-rising : goal.returns-clause-rising
returns-clause-rising g c =
    let items = c.loop-i.selectors in
    let all : take c.loop-i.i items ≡ items = take_all c.loop-i.i items (search rules) in
    rw all at (rises-all (map (λ (s : Selector). s.component) (map selector_of (take c.loop-i.i items)))
    c.loop-i.least c.loop-i.invariant.rising)
