use Rattle.std.proofs.Common.{◌∙◌, ◌++◌, List, ap, arith, ◌+◌, ◌-◌}
use Rattle.std.specs.List.{range_with_len, flat_map}
use Rattle.jpeg_segments.specs.FrameView.{component_in}
use Rattle.jpeg_decoder.specs.declared.scan.spots.Member.{Member}
use Rattle.jpeg_decoder.specs.Walk.{line_members}
use Rattle.jpeg_decoder.proofs.Orders.OrderedWalks.{more_lines}
use Rattle.jpeg_decoder.proofs.scan.order.add_part.Goals as goal

pub loop-v-preserved : goal.loop-v-preserved
loop-v-preserved c =
    let g = line_members c.args.slot (component_in c.args.component.now) in
    let n = c.args.component.now.vertical_sampling_factor in
    let v = c.loop-v.v in
    record {
      most = omega (arith, c.loop-v-test.true);
      items = ap (λ (l : List Member). l ++ flat_map g (range_with_len (v + 1) (n - (v + 1)))) c.in_ok-add_line.ensures.items
          ∙ more_lines g c.loop-v.members.items v n c.loop-v-test.true ∙ c.loop-v.invariant.items;
      few = omega (arith, c.in_ok-add_line.ensures.few, c.loop-v.invariant.few);
    }
