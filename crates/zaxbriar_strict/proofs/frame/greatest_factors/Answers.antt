use Rattle.std.proofs.Common.{◌≡◌, get_or, sym, ap, arith}
use Rattle.jpeg_segments.proofs.FrameLemmas.{greatest-next}
use Rattle.zaxbriar_strict.specs.Heads.{factors_of}
use Rattle.zaxbriar_strict.specs.declared.frame.Component.{Component}
use Rattle.zaxbriar_strict.proofs.frame.greatest_factors.Goals as goal

pub loop-component-preserved : goal.loop-component-preserved
loop-component-preserved c =
    let xs = c.args.components.now in
    let i = c.loop-component.component-index in
    let one = c.component-item.result in
    let h = greatest-next factors_of (λ f. f.horizontal) xs i one c.loop-component-test.true in
    let v = greatest-next factors_of (λ f. f.vertical) xs i one c.loop-component-test.true in
    let across : (get_or xs i one).across ≡ one.across = ap (λ (k : Component). k.across) (sym c.component-item.is) in
    let down : (get_or xs i one).down ≡ one.down = ap (λ (k : Component). k.down) (sym c.component-item.is) in
    record {
      across = omega (arith, h, across, c.max-across.ensures, c.from.ensures, c.loop-component.invariant.across);
      down = omega (
        arith,
        v,
        down,
        c.max-down.ensures,
        c.from-in-loop-component.ensures,
        c.loop-component.invariant.down,
      );
    }
