use Rattle.std.proofs.Common.{◌≡◌, ◌+◌, ◌*◌, ◌^◌, ◌<◌, ◌≤◌, take, get_or, length, arith, ℕ, sum}
use Rattle.std.proofs.lemmas.List.Sums.{sum_by_more}
use Rattle.std.proofs.lemmas.Nat.{pow_below}
use Rattle.std.proofs.lemmas.Bool.{false≢true}
use Rattle.jpeg_bits.specs.Codes.{code_lengths}
use Rattle.jpeg_bits.proofs.CodeLemmas.{AllFit-more, AllFit-not, AllFit-all, Tried-more}
use Rattle.jpeg_bits.proofs.BufferedBits.{pow_more}
use Rattle.jpeg_bits.proofs.huffman.codes.has_codes.Goals as goal
use Rattle.jpeg_bits.proofs.huffman.codes.has_codes.Goals.{else-count-gt0-via-then-count-gt0+else-first-count}
use Rattle.jpeg_bits.proofs.huffman.codes.has_codes.Goals.{else-count-gt0-via-else-count-gt0}

pub overflow_mul-first : goal.overflow_mul-first
overflow_mul-first c = let p = pow_below c.loop-i.i 16 c.loop-i-test.true in
    omega (arith, p, c.loop-i.invariant.room, c.loop-i.invariant.within)

pub returns-then-first-count : goal.returns-then-first-count
returns-then-first-count c =
    let i = c.loop-i.invariant in
    grind (arith, pow_more, AllFit-not, false≢true)

pub loop-i-preserved : goal.loop-i-preserved
loop-i-preserved c =
    let i = c.loop-i.invariant in
    let l = c.loop-i.i in
    let counts = c.args.counts.now in
    let lens = code_lengths counts in
    let first = c.loop-i.first in
    let lt : l < length counts = omega (arith, c.told-counts, c.loop-i-test.true) in
    let p = pow_more l in
    let room : 2 * c.loop-i.room ≡ 2 ^ (l + 1) = omega (arith, p, i.room) in
    let more : sum (take (l + 1) counts) ≡ sum (take l counts) + get_or counts l 0 =
    sum_by_more (λ (x : ℕ). x) counts l 0 lt in
    let fits : 0 < c.from-count.result → 2 * first + c.from-count.result ≤ 2 * c.loop-i.room =
    grind (arith, else-count-gt0-via-then-count-gt0+else-first-count, else-count-gt0-via-else-count-gt0) in
    let within : 2 * first + c.from-count.result ≤ 2 * c.loop-i.room =
    grind (arith, else-count-gt0-via-then-count-gt0+else-first-count, else-count-gt0-via-else-count-gt0) in
    let tried = Tried-more lens counts l (sum (take l counts)) first lt i.tried in
    let fit = AllFit-more lens counts l (sum (take l counts)) first lt i.tried (grind arith) i.fit in
    grind arith

pub returns : goal.returns
returns c =
    let i = c.loop-i.invariant in grind (arith, AllFit-all)
