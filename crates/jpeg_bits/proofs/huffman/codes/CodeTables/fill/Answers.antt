use Rattle.std.proofs.Common.{◌≡◌, ◌∙◌, sym, ap, arith, take, length, rules, ◌++◌, ℕ, List}
use Rattle.std.proofs.lemmas.Grind.{common_steps}
use Rattle.jpeg_bits.specs.ShortCodes.{short_code}
use Rattle.jpeg_bits.specs.Written.{low_bits}
use Rattle.jpeg_bits.proofs.huffman.codes.CodeTables.fill.Goals as goal

front : (xs ys rest : List ℕ) → xs ≡ ys → take (length ys) (xs ++ rest) ≡ ys
front xs ys rest e = grind (arith, common_steps)

pub invariant_of-self : goal.invariant_of-self
invariant_of-self c = (
  c.told-counts,
  c.requires.count,
  c.fill_rows.ensures,
  λ b lt. c.fill_short.ensures.codes b lt ∙ ap (λ (l : List ℕ). short_code c.args.counts.now l (low_bits 8 b))
      (sym (front _ _ _ c.copy_from_slice.ensures.after)),
  c.fill_short.ensures.length,
  search rules,
  c.requires.most,
)
