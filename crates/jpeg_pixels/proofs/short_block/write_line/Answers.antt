use Rattle.std.proofs.Common.{ℕ, ◌+◌, ◌∙◌, ◌≡◌, ap, arith, length, get_or, rules}
use Rattle.std.proofs.lemmas.Simd.{get_or-put_chunk_at, get_or-put_chunk_above}
use lib.Lanes.{put_chunk}
use Rattle.jpeg_pixels.proofs.short_block.write_line.Goals as goal

pub returns-clause-inside : goal.returns-clause-inside
returns-clause-inside c x h =
    let long : length c.args.line ≡ 8 = search rules in
    let at : x ≡ 0 + x = omega arith in
    ap (λ (i : ℕ). get_or (put_chunk 0 c.args.output.now c.args.line) i 0) at
    ∙ get_or-put_chunk_at 0 c.args.output.now c.args.line x 0 (omega (arith, h, long)) (omega (arith, long, c.requires))

pub returns-clause-others : goal.returns-clause-others
returns-clause-others c i h =
    let long : length c.args.line ≡ 8 = search rules in
    get_or-put_chunk_above 0 c.args.output.now c.args.line i 0 (omega (arith, h, long))
