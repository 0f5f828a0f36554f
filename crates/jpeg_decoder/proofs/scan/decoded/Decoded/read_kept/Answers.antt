use Rattle.std.proofs.Common.{◌≡◌, ◌∙◌, ap, length, refl, sym, arith}
use Rattle.std.specs.declared.alloc.Global.{Global}
use Rattle.std.specs.declared.vec.Vec.{Vec}
use Rattle.std.specs.Prelude.{option_map}
use Rattle.jpeg_segments.specs.FrameView.{frame_in}
use Rattle.jpeg_meaning.specs.InTurn.{AreArrays}
use Rattle.jpeg_decoder.specs.Scanning.{arrays_in, scan_components}
use Rattle.jpeg_decoder.specs.Steps.{blocks_at, blocks_before, with_decoded}
use Rattle.jpeg_decoder.specs.Steps.{IsBefore}
use Rattle.jpeg_decoder.specs.Walk.{spot_of}
use Rattle.jpeg_meaning.specs.ScanSegments.{put_arrays, arrays_before}
use Rattle.jpeg_meaning.specs.Found.{Found, nothing_found}
use Rattle.jpeg_decoder.proofs.Kept.BlockArrays.{Held}
use Rattle.jpeg_decoder.proofs.Partial.KeptReads.{kept-counts, kept-lost, ReadsBlocks}
use Rattle.jpeg_decoder.proofs.Partial.ReachedData.{put-all, taken-sized}
use Rattle.jpeg_decoder.proofs.Scans.ScanData.{of-frame, arrays-by-sizes, coded-within-kept}
use Rattle.jpeg_decoder.proofs.Scans.ScanData.{arrays-whole, before-as, rising-codings}
use Rattle.jpeg_decoder.proofs.Segments.WalkedScans.{after-walk}
use Rattle.jpeg_decoder.proofs.scan.decoded.Decoded.read_kept.Given as given
use Rattle.jpeg_decoder.proofs.scan.decoded.Decoded.read_kept.Goals.{After-put_blocks, After-read_blocks-met}
use Rattle.jpeg_decoder.proofs.scan.decoded.Decoded.read_kept.Goals.{In_ok-arrays}
use Rattle.jpeg_decoder.proofs.scan.decoded.Decoded.read_kept.Goals as goal
use Rattle.std.proofs.lemmas.Grind.{common_steps}

pub take_blocks-requires-clause-within : goal.take_blocks-requires-clause-within
take_blocks-requires-clause-within g c =
    coded-within-kept (frame_in c.args.frame.now) c.components-codings.result.now c.keep.new.self.kept.items _ refl
    (grind (arith, common_steps)) (grind (arith, common_steps))

pub take_blocks-requires-clause-apart : goal.take_blocks-requires-clause-apart
take_blocks-requires-clause-apart g c = grind (arith, common_steps, rising-codings)

taken : (g : given.Over) (c : In_ok-arrays g) → let cs = c.args.scan.now.codings in
    (arrays_in c.in_ok-arrays.arrays.items ≡ blocks_at cs
    (blocks_before c.args.scanned c.args.self.now (frame_in c.args.frame.now)))
    × AreArrays (scan_components c.args.scan.now) (arrays_in c.in_ok-arrays.arrays.items)
taken g c =
    taken-sized (frame_in c.args.frame.now) c.args.scan.now.codings c.components-codings.result.now
    c.keep.new.self.kept.items c.in_ok-arrays.arrays.items _ c.components-codings.ensures.codings
    c.in_ok-keep.ensures.kept
    c.in_ok-arrays.ensures.taken c.requires.ready.of_frame c.requires.kept

taken-by : (g : given.Over) (c : In_ok-arrays g) (base : Found) → IsBefore c.args.scanned c.args.scan.now base
    → arrays_in c.in_ok-arrays.arrays.items ≡ blocks_at c.args.scan.now.codings
    (arrays_before (with_decoded base c.args.self.now) (frame_in c.args.frame.now))
taken-by g c base b =
    (taken g c).0
    ∙ sym (ap (blocks_at c.args.scan.now.codings)
    (before-as base c.args.self.now (frame_in c.args.frame.now) _ b.scanned))

pub read_blocks-met-requires-clause-arrays : goal.read_blocks-met-requires-clause-arrays
read_blocks-met-requires-clause-arrays g c = (taken g (goal.at.read_blocks-met-requires-clause-arrays g c).In_ok-arrays).1

-- what was read of the blocks
reads : (g : given.Over) (c : After-read_blocks-met g) → let r = c.read_blocks-met in
    ReadsBlocks c.args.scan.now (frame_in c.args.frame.now) (arrays_in c.in_ok-arrays.arrays.items)
    (arrays_in r.new.arrays.items) (option_map spot_of r.new.unread) c.args.source.now r.result r.new.source
reads g c = let e = c.read_blocks-met.ensures in
    record { whole = e.scan; arrays = e.arrays; unread = e.unread; answers = e.answers }

pub returns-then-is_lost-clause-data : goal.returns-then-is_lost-clause-data
returns-then-is_lost-clause-data g c base b =
    let at = goal.at.returns-then-is_lost-clause-data g c in
    let r = c.read_blocks-met in
    kept-lost base c.args.self.now (frame_in c.args.frame.now) c.args.scan.now (arrays_in c.in_ok-arrays.arrays.items)
    (arrays_in r.new.arrays.items) (option_map spot_of r.new.unread) c.args.source.now r.new.source r.result b.restart
    (taken-by g at.In_ok-arrays base b) (reads g at.After-read_blocks-met) _ (c.if-is_lost.ensures.lost refl)
    (λ e. c.if-is_lost.ensures.memory refl (c.beyond.ensures.beyond ∙ e))

pub add_arrays-requires : goal.add_arrays-requires
add_arrays-requires g c =
    record {
      blocks = arrays-by-sizes (scan_components c.args.scan.now) c.in_ok-arrays.arrays.items
          c.read_blocks-met.new.arrays.items (taken g (goal.at.add_arrays-requires g c).In_ok-arrays).1
          c.read_blocks-met.ensures.sizes;
    }

pub put_blocks-requires-clause-indices : goal.put_blocks-requires-clause-indices
put_blocks-requires-clause-indices g c =
    let kept = ap (λ (v : Vec Held Global). length v.items) c.in_ok-add_arrays.ensures.kept in
    coded-within-kept (frame_in c.args.frame.now) c.components-codings.result.now c.keep.new.self.kept.items _
    (kept ∙ c.in_ok-arrays.ensures.length) (grind (arith, common_steps)) (grind (arith, common_steps))

held : (g : given.Over) (c : After-put_blocks g) → let cs = c.args.scan.now.codings in
    (arrays_in c.put_blocks.new.kept.items ≡ put_arrays cs (arrays_in c.read_blocks-met.new.arrays.items)
    (blocks_before c.args.scanned c.args.self.now (frame_in c.args.frame.now)))
    × AreArrays (frame_in c.args.frame.now).components (arrays_in c.put_blocks.new.kept.items)
held g c =
    put-all (frame_in c.args.frame.now) c.args.scan.now.codings c.components-codings.result.now
    c.keep.new.self.kept.items c.add_arrays.new.self.kept.items c.in_ok-arrays.arrays.items
    c.read_blocks-met.new.arrays.items c.put_blocks.new.kept.items _ c.components-codings.ensures.codings
    c.in_ok-keep.ensures.kept c.in_ok-arrays.ensures.taken
    (ap (λ (v : Vec Held Global). arrays_in v.items) c.in_ok-add_arrays.ensures.kept ∙ c.in_ok-arrays.ensures.left)
    c.read_blocks-met.ensures.sizes c.put_blocks.ensures c.requires.ready.of_frame c.requires.ready.rising c.requires.kept

held-by : (g : given.Over) (c : After-put_blocks g) (base : Found) → IsBefore c.args.scanned c.args.scan.now base
    → arrays_in c.put_blocks.new.kept.items ≡ put_arrays c.args.scan.now.codings
    (arrays_in c.read_blocks-met.new.arrays.items)
    (arrays_before (with_decoded base c.args.self.now) (frame_in c.args.frame.now))
held-by g c base b =
    let cs = c.args.scan.now.codings in
    (held g c).0
    ∙ sym (ap (put_arrays cs (arrays_in c.read_blocks-met.new.arrays.items))
    (before-as base c.args.self.now (frame_in c.args.frame.now) _ b.scanned))

pub returns-clause-data : goal.returns-clause-data
returns-clause-data g c base b =
    let at = goal.at.returns-clause-data g c in
    let r = c.read_blocks-met in
    kept-counts base c.args.self.now (frame_in c.args.frame.now) c.args.scan.now (arrays_in c.in_ok-arrays.arrays.items)
    (arrays_in r.new.arrays.items) (option_map spot_of r.new.unread) c.args.source.now r.new.source r.result b.restart
    (taken-by g at.In_ok-arrays base b) (reads g at.After-read_blocks-met)
    (record c.keep.new.self { kept = c.take_blocks.new.kept }) c.add_arrays.new.self c.put_blocks.new.kept
    c.rows_above_unread-self.result c.requires.process c.in_ok-add_arrays.ensures.planes c.in_ok-keep.ensures.finished
    (ap (λ p. p) c.in_ok-keep.ensures.planes) c.in_ok-keep.ensures.samples (held-by g at.After-put_blocks base b)
    c.rows_above_unread-self.ensures

pub returns-clause-kept : goal.returns-clause-kept
returns-clause-kept g c =
    after-walk c.args.scan.now.beyond c.read_blocks-met.result (held g (goal.at.returns-clause-kept g c).After-put_blocks).1

pub returns-clause-planes : goal.returns-clause-planes
returns-clause-planes g c h =
    let base = nothing_found in
    let one = with_decoded base (record c.keep.new.self { kept = c.take_blocks.new.kept }) in
    let codings = c.args.scan.now.codings in
    after-walk c.args.scan.now.beyond c.read_blocks-met.result
    (rw (ap (λ (x : Found). x.planes) (c.in_ok-add_arrays.ensures.planes base))
    (arrays-whole (frame_in c.args.frame.now) c.args.scan.now.pass codings
    (arrays_in c.read_blocks-met.new.arrays.items) one (of-frame _ codings c.requires.ready.of_frame)
    (grind (arith, common_steps))))
