use Rattle.std.proofs.Common.{◌≡◌, ℕ, List, Ok, arith, length, length-take, replicate, subst, take}
use Rattle.std.proofs.lemmas.List.{length-replicate}
use Rattle.std.specs.Prelude.{sum}
use Rattle.jpeg_bits.specs.Reading.{Answers, next_byte, times}
use Rattle.jpeg_segments.proofs.HuffmanLemmas.{table-found}
use Rattle.jpeg_segments.proofs.huffman_tables.read_table.Goals as goal

pub returns-clause-answers : goal.returns-clause-answers
returns-clause-answers g c =
    let old = c.args.source.now in
    let mid = c.read_exact.new.source in
    let symbols = c.read_exact.new.buffer in
    let zeros : List ℕ = replicate 256 0 in
    let n : length (take c.from.result zeros) ≡ sum c.args.counts.now
    = omega (
      arith,
      length-take c.from.result zeros,
      length-replicate {A = ℕ} 256 0,
      c.from.ensures,
      c.requires.count,
      c.requires.most,
    ) in
    let answers = subst (λ (k : ℕ). Answers (λ (v : List ℕ). v) (times k next_byte) old (Ok symbols) mid) n
    c.in_ok-read_exact.ensures.answers in
    table-found c.args.class c.args.counts.now old mid symbols c.unfilled.result answers c.unfilled.ensures.table
    c.unfilled.ensures.codes c.unfilled.ensures.refused
