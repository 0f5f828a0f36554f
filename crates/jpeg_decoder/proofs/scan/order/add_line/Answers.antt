use Rattle.std.proofs.Common.{◌∙◌, ◌++◌, [], ◌∷◌, List, ap, map, arith, rules, ◌+◌, ◌-◌}
use Rattle.std.specs.List.{range_with_len}
use Rattle.jpeg_segments.specs.FrameView.{component_in}
use Rattle.jpeg_decoder.specs.declared.scan.spots.Member.{Member}
use Rattle.jpeg_decoder.specs.Walk.{member_of}
use Rattle.jpeg_decoder.proofs.Orders.OrderedWalks.{more_members}
use Rattle.jpeg_decoder.proofs.scan.order.add_line.Goals as goal

pub loop-h-preserved : goal.loop-h-preserved
loop-h-preserved c =
    let f = member_of c.args.slot (component_in c.args.component.now) c.args.v in
    let n = c.args.component.now.horizontal_sampling_factor in
    let h = c.loop-h.h in
    let xs = c.loop-h.members.items in
    record {
      most = omega (arith, c.loop-h-test.true);
      items = ap (λ (l : List Member). l ++ map f (range_with_len (h + 1) (n - (h + 1))))
          (c.in_ok-push.ensures.items ∙ ap (λ (m : Member). xs ++ m ∷ []) c.member.ensures)
          ∙ more_members f xs h n c.loop-h-test.true ∙ c.loop-h.invariant.items;
      few = search rules;
    }
