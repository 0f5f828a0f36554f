use Rattle.std.proofs.Common.{◌≡◌, ◌^◌, ◌%◌, ◌-◌, ap, sym, ◌∙◌, arith, ℕ}
use Rattle.jpeg_bits.specs.Written.{low_bits}
use Rattle.zaxbriar_strict.proofs.Taken.{filling, takes-rest, takes-then}
use Rattle.zaxbriar_strict.proofs.bits.Bits.end.Goals as goal

pub returns : goal.returns
returns c =
    let s = c.load.new.self in
    let ones : s.window % 2 ^ s.left ≡ 2 ^ s.left - 1 =
    sym c.lowest.ensures.value ∙ sym c.from.ensures ∙ c.if-from-power_of_two.false
    ∙ ap (λ (n : ℕ). n - 1) c.power_of_two.ensures.value in
    record {
      own = low_bits s.left s.window;
      taken = takes-then c.load.ensures (takes-rest (low_bits s.left s.window) s.rest.rest.now);
      holds = filling s.left s.window (omega (arith, c.if-self-ge8.false)) ones;
    }
