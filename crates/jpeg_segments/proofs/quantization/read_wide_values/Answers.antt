use Rattle.std.proofs.Common.{◌≡◌, ◌<◌, length, take, arith, ◌∙◌, List, ℕ, length-set, refl, ap, Err}
use Rattle.jpeg_bits.specs.declared.error.Error.TheVariants.{OutOfMemory}
use Rattle.std.proofs.lemmas.Result.{err_from_is_err_and}
use Rattle.std.proofs.lemmas.List.{take_more_set, take_all}
use Rattle.jpeg_bits.specs.Reading.{next_u16}
use Rattle.jpeg_bits.proofs.Loops.{HasRead-more, HasRead-err, HasRead-room, HasRead-all, HasRead-none}
use Rattle.jpeg_segments.proofs.quantization.read_wide_values.Goals as goal

pub loop-i-init : goal.loop-i-init
loop-i-init g c = record { len = refl; read = HasRead-none 64 next_u16 c.args.source.now }

pub loop-i-preserved : goal.loop-i-preserved
loop-i-preserved g c =
    let lt : c.loop-i.i < length c.loop-i.values = omega (arith, c.loop-i.invariant.len) in
    record {
      len = length-set _ _ _ ∙ c.loop-i.invariant.len;
      read = rw take_more_set (HasRead-more (λ (v : ℕ). v) 64 _ next_u16 _ _ _ _ _ c.loop-i-test.true
          c.loop-i.invariant.read c.in_ok-values.ensures.answers);
    }

pub returns-in_err-values : goal.returns-in_err-values
returns-in_err-values g c =
    let p = err_from_is_err_and c.from_residual.result c.from_residual.ensures.1 in
    let lt = c.loop-i-test.true in
    let read = c.loop-i.invariant.read in
    let front = take c.loop-i.i c.loop-i.values in
    let part = c.in_err-values.ensures in
    rw (p.1, p.2) record {
      answers = HasRead-err (λ (v : List ℕ). v) (λ (v : ℕ). v) 64 _ next_u16 c.args.source.now
          c.loop-i.source c.read_u16_be.new.source front _ lt read part.answers;
      room = λ k e. HasRead-room 64 _ next_u16 c.args.source.now c.loop-i.source front lt read
          (λ known. part.room known (let same : c.in_err-values.field-0.0 ≡ OutOfMemory = cc in ap Err same)) k;
    }

pub returns : goal.returns
returns g c =
    let e : take c.loop-i.i c.loop-i.values ≡ c.loop-i.values = take_all _ _ (omega (arith, c.loop-i.invariant.len)) in
    record {
      answers = HasRead-all (λ (v : List ℕ). v) 64 c.loop-i.i next_u16 _ _ c.loop-i.values
          c.loop-i-test.false (rw e at c.loop-i.invariant.read);
      room = λ k e. absurd (let n : ⊥ = cc in n);
    }
