use Rattle.jpeg_bits.proofs.huffman.codes.wide_values.Goals as goal
use Rattle.std.proofs.Common.{ℤ, ◌≤◌, ◌≡◌, ◌∙◌, ◌*◌, ◌%◌, ◌++◌, ℕ, List, Bool, sym, ap, subst}
use Rattle.std.proofs.Common.{arith, replicate, false, None, length, ◌<◌}
use Rattle.jpeg_bits.specs.Codes.{Table, code_in, code_lengths}
use Rattle.jpeg_bits.specs.Written.{low_bits}
use Rattle.jpeg_bits.specs.ShortCodes.{ArePassed, IsRun, named, packed, rest_of_value, short_value_by}
use Rattle.jpeg_bits.specs.ShortCodes.{short_value_of, symbol_in}
use Rattle.jpeg_bits.specs.declared.huffman.codes.HuffmanTableClass.TheVariants.{AC}
use Rattle.jpeg_bits.proofs.CodeLemmas.{still-passed}
use Rattle.jpeg_bits.proofs.ShortLemmas.{set_next, length_set, eleven_padded, within_byte, small_packed, value-run}
use Rattle.jpeg_bits.proofs.WideTokens.{set-holds}

pub code_of-code-requires-clause-passed : goal.code_of-code-requires-clause-passed
code_of-code-requires-clause-passed c =
    let b = c.loop-index.index in
    let whole : b * 32 % 65536 ≡ b * 32 = omega (arith, c.loop-index-test.true) in
    subst (λ (n : ℕ). ArePassed c.args.codes.now.rows.now c.loop-index.row n) (sym whole)
    c.loop-index.invariant.passed

pub loop-at-preserved : goal.loop-at-preserved
loop-at-preserved c =
    let first = c.loop-index.index in
    let b = c.loop-at.at in
    let t = c.args.codes.now in
    let i = c.loop-at.invariant in
    let table : Table = record { class = AC; counts = t.counts.now; symbols = t.values.now } in
    let whole : first * 32 % 65536 ≡ first * 32 = omega (arith, c.loop-index-test.true) in
    let padded : low_bits 16 (first * 32 % 65536) ≡ low_bits 11 first ++ replicate 5 false
    = ap (low_bits 16) whole ∙ eleven_padded first in
    let code : c.code_of-code.result ≡ symbol_in table (low_bits 11 first ++ replicate 5 false)
    = c.code_of-code.ensures.code
    ∙ ap (λ (l : List Bool). named t.values.now (code_in (code_lengths t.counts.now) l)) padded in
    let run : IsRun (rest_of_value 11 (symbol_in table (low_bits 11 first ++ replicate 5 false))) first
    c.end_of_run-end.result = subst (λ (k : ℕ). IsRun k first c.end_of_run-end.result)
    (c.rest_of_value.ensures.rest ∙ ap (rest_of_value 11) code) c.end_of_run-end.ensures.run in
    let same = value-run 11 table first b (omega arith) c.requires.counted c.end_of_run-end.result
    (omega (arith, c.loop-at.auto.at)) (omega (arith, c.loop-at-test.true)) run in
    let entry : c.packed-token.result ≡ packed (short_value_of 11 table (low_bits 11 b))
    = c.packed-token.ensures ∙ ap packed (c.short_value.ensures.value
    ∙ ap (short_value_by 11 AC (low_bits 11 first)) code ∙ same) in
    let within : b < length c.loop-at.tokens.items
    = omega (arith, i.whole, c.loop-at-test.true, c.end_of_run-end.ensures.most) in
    record {
      whole = length_set c.loop-at.tokens.items b c.packed-token.result 2048 i.whole;
      filled = set_next c.loop-at.tokens.items b c.packed-token.result (packed None)
          (λ (k : ℕ). packed (short_value_of 11 table (low_bits 11 k))) within i.filled entry;
      small = set-holds (λ (k : ℕ) (v : ℤ × ℕ × ℕ). (v.1 ≤ 15) × (v.2 ≤ 11)) c.loop-at.tokens.items b
          c.packed-token.result (packed None) within i.small (subst
          (λ (v : ℤ × ℕ × ℕ). (v.1 ≤ 15) × (v.2 ≤ 11)) (sym c.packed-token.ensures)
          (small_packed c.short_value.result c.short_value.ensures.run c.short_value.ensures.within));
    }

pub loop-index-preserved : goal.loop-index-preserved
loop-index-preserved c =
    let t = c.args.codes.now in
    let first = c.loop-index.index in
    let whole : first * 32 % 65536 ≡ first * 32 = omega (arith, c.loop-index-test.true) in
    let i = c.loop-at.invariant in
    record {
      whole = i.whole;
      filled = λ b lt. i.filled b (omega (arith, lt, c.loop-at-test.false));
      small = λ b lt. i.small b (omega (arith, lt, c.loop-at-test.false));
      within = c.code_of-code.ensures.within;
      passed = still-passed t.rows.now c.code_of-code.new.row (first * 32) (c.end_of_run-end.result * 32)
          (omega (arith, c.end_of_run-end.ensures.more))
          (subst (λ (n : ℕ). ArePassed t.rows.now c.code_of-code.new.row n) whole c.code_of-code.ensures.passed);
      few = c.end_of_run-end.ensures.most;
    }

pub packed-token-requires : goal.packed-token-requires
packed-token-requires c = within_byte c.short_value.result c.short_value.ensures.within

pub returns-clause-values : goal.returns-clause-values
returns-clause-values c =
    let i = c.loop-index.invariant in
    λ b lt. i.filled b (omega (arith, lt, i.whole, c.loop-index-test.false))

pub returns-clause-small : goal.returns-clause-small
returns-clause-small c =
    let i = c.loop-index.invariant in
    λ b lt. i.small b (omega (arith, lt, i.whole, c.loop-index-test.false))
