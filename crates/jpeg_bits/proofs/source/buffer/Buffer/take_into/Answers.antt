use Rattle.std.proofs.Common.{◌≡◌, List, ℕ, length, take, ◌++◌, ◌∷◌, [], slice_set, refl, arith, ◌∙◌}
use Rattle.jpeg_bits.proofs.source.buffer.Buffer.take_into.Goals as goal

one-put : (b : ℕ) (buffer rest : List ℕ) → length buffer ≡ 1 → b ∷ rest ≡ take 1 (slice_set buffer 0 b) ++ rest
one-put b [] rest one = absurd (omega (arith, one))
one-put b (x ∷ buffer) rest one = refl

pub returns-in-Some-clause-taken : goal.returns-in-Some-clause-taken
returns-in-Some-clause-taken c =
    c.in-Some.ensures.some ∙ one-put c.in-Some.byte c.args.buffer.now c.take.new.self c.if-buffer-ne1.false
