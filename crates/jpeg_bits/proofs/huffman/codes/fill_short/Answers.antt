use Rattle.jpeg_bits.proofs.huffman.codes.fill_short.Goals as goal
use Rattle.std.proofs.Common.{◌≡◌, ◌∙◌, ◌*◌, ◌%◌, ◌++◌, ◌≤◌, length, List, Bool, ap, arith, replicate, false, inl, inr, rules}
use Rattle.std.proofs.lemmas.Bool.{cases_lt}
use Rattle.std.proofs.lemmas.Grind.{common_steps}
use Rattle.jpeg_bits.specs.Codes.{code_in, code_lengths}
use Rattle.jpeg_bits.specs.Written.{low_bits}
use Rattle.jpeg_bits.specs.ShortCodes.{named, short_only, unpacked_code}
use Rattle.jpeg_bits.proofs.CodeLemmas.{still-passed}
use Rattle.jpeg_bits.proofs.ShortLemmas.{byte_padded, none-after, run_before, run_inside, run-entry, short-of-named}
use Rattle.jpeg_bits.proofs.ShortLemmas.{unpacked_none}

pub loop-byte-init : goal.loop-byte-init
loop-byte-init c = record {
  whole = c.told-short;
  filled = search rules;
  within = search rules;
  passed = search rules;
  few = search rules;
}

pub loop-byte-preserved : goal.loop-byte-preserved
loop-byte-preserved c =
    let byte = c.loop-byte.byte in
    let end = c.end_of_run-end.result in
    let xs = c.loop-byte.short in
    let t = c.args.codes.now in
    let lens = code_lengths t.counts.now in
    let i = c.loop-byte.invariant in
    let v = c.packed_code.result in
    let whole : byte * 256 % 65536 ≡ byte * 256 = omega (arith, c.loop-byte-test.true) in
    let padded : low_bits 16 (byte * 256 % 65536) ≡ low_bits 8 byte ++ replicate 8 false = ap (low_bits 16) whole
    ∙ byte_padded byte in
    let entry = c.short_only-code.ensures.code ∙ ap short_only (c.code_of.ensures.code
    ∙ ap (λ (l : List Bool). named t.values.now (code_in lens l)) padded)
    ∙ short-of-named t.values.now (code_in lens (low_bits 8 byte ++ replicate 8 false)) in
    let run = rw c.rest_of_code.ensures.rest at c.end_of_run-end.ensures.run in
    let most = c.end_of_run-end.ensures.byte c.loop-byte-test.true c.rest_of_code.ensures.most in
    let le : byte ≤ end = omega (arith, c.end_of_run-end.ensures.more) in
    let few : end ≤ length xs = omega (arith, most, i.whole) in
    record {
      whole = grind (arith, common_steps);
      filled = λ b lt. elim (cases_lt b byte) [
        | inl before ↦ ap unpacked_code (run_before xs _ byte end v le few (grind (arith, common_steps)) b before)
            ∙ i.filled b before
        | inr after ↦ ap unpacked_code (run_inside xs _ byte end v le few (grind (arith, common_steps)) b after lt)
            ∙ c.packed_code.ensures
            ∙ run-entry t.counts.now t.values.now byte end b c.short_only-code.result c.requires.counted after lt
            c.short_only-code.ensures.few run entry
      ];
      within = search rules;
      passed = still-passed t.rows.now c.code_of.new.row (byte * 256 % 65536) (end * 256) (omega (arith, le))
          c.code_of.ensures.passed;
      few = most;
    }

pub returns-clause-codes : goal.returns-clause-codes
returns-clause-codes c b lt =
    let l = c.loop-byte in
    let t = c.args.codes.now in
    let few : 256 ≤ length l.short = omega (arith, l.invariant.whole) in
    elim (cases_lt b l.byte) [
      | inl before ↦ ap unpacked_code (run_before l.short _ l.byte 256 0 l.invariant.few few
          (grind (arith, common_steps)) b before) ∙ l.invariant.filled b before
      | inr after ↦ unpacked_none _ (run_inside l.short _ l.byte 256 0 l.invariant.few few
          (grind (arith, common_steps)) b after lt) ∙ elim c.loop-byte-test.branch [
            | goal.then-loop-byte-test+else-row-lt8 w ↦ none-after t.counts.now t.values.now t.rows.now l.byte b l.row
                c.requires.counted c.requires.rows after lt w.if-row-lt8.false l.invariant.passed
            | goal.else-loop-byte-test w ↦ absurd (omega (arith, after, lt, w.loop-byte-test.false))
          ]
    ]
