use Rattle.std.proofs.Common.{◌≡◌, ◌*◌, ◌∙◌, ap, ap₂, rules, ℕ}
use Rattle.std.specs.Int.{div_ceil}
use Rattle.jpeg_segments.specs.declared.frame.CodingProcess.TheVariants.{Lossless}
use Rattle.jpeg_segments.specs.FrameView.{frame_in}
use Rattle.jpeg_meaning.specs.Work.{components_at, samples_coded}
use Rattle.jpeg_decoder.specs.Steps.{IsDct}
use Rattle.jpeg_decoder.proofs.Pictures.PicturesOfPlanes.{decoded-factors}
use Rattle.jpeg_decoder.proofs.Scans.CountedWork.{block-work, lossless-work, rounded-up, samples-counted}
use Rattle.jpeg_decoder.proofs.Scans.ReadableScans.{decoded-scales}
use Rattle.jpeg_decoder.proofs.scan.work.blocks_coded.Goals as goal

pub mcus_of-wide-requires-clause-sampling : goal.mcus_of-wide-requires-clause-sampling
mcus_of-wide-requires-clause-sampling c = decoded-factors (frame_in c.args.frame.now) c.requires.frame

pub returns-then-eq : goal.returns-then-eq
returns-then-eq c =
    let frame = frame_in c.args.frame.now in
    let indices = c.args.indices.now in
    let high = c.from.ensures ∙ c.mcus_of-wide.ensures.high in
    let wide = c.from-then-eq.ensures ∙ c.mcus_of-wide.ensures.wide in
    let blocks = c.mcu_blocks-blocks.ensures.blocks in
    let all = ap₂ (λ (n k : ℕ). n * k) (ap₂ (λ (n k : ℕ). n * k) high wide) blocks
    ∙ samples-counted frame indices c.requires.some c.requires.within in
    let lossless : frame.process ≡ Lossless = search rules in
    c.div_ceil.ensures ∙ ap (λ (n : ℕ). div_ceil n 8) all
    ∙ rounded-up (samples_coded frame (components_at frame indices))
    ∙ lossless-work frame.process frame (components_at frame indices) lossless

pub block_mcus-wide-requires-clause-scale : goal.block_mcus-wide-requires-clause-scale
block_mcus-wide-requires-clause-scale c = decoded-scales (frame_in c.args.frame.now) c.requires.frame

pub returns : goal.returns
returns c =
    let frame = frame_in c.args.frame.now in
    let indices = c.args.indices.now in
    let blocks = c.mcu_blocks-blocks.ensures.blocks in
    let is_dct : IsDct frame.process = search rules in
    ap₂ (λ (n k : ℕ). n * k) (ap₂ (λ (n k : ℕ). n * k) c.from-2.ensures c.from-3.ensures) blocks
    ∙ c.block_mcus-wide.ensures
    ∙ block-work frame.process frame (components_at frame indices) is_dct
