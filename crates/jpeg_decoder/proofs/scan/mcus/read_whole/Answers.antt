use Rattle.std.proofs.Common.{◌∙◌, ◌≡◌, ap, pos, refl, set, true, rules, ◌∷◌, get_or, length, arith}
use Rattle.std.specs.List.{AllByRecursion}
use Rattle.jpeg_bits.specs.BlockView.{predictor_at, to_block}
use Rattle.jpeg_bits.specs.Entropy.{upcoming}
use Rattle.jpeg_bits.specs.Passes.{block_from, whole_pass}
use Rattle.jpeg_meaning.specs.InTurn.{begun_from, blocks_from}
use Rattle.jpeg_decoder.specs.Scanning.{IsSpotOf, arrays_in, counted, kept_blocks, sizes_of, scan_vias}
use Rattle.jpeg_decoder.specs.Through.{counted_reached}
use Rattle.jpeg_bits.specs.Skips.{kept, kept_from}
use Rattle.jpeg_decoder.proofs.Kept.KeptScans.{turn-kept-refused}
use Rattle.jpeg_decoder.proofs.Orders.BlockSteps.{next_unbegun}
use Rattle.jpeg_decoder.proofs.Kept.KeptBlocks.{begin-refused, block-read, block-refused, sizes-set, spot, stored-there}
use Rattle.jpeg_decoder.proofs.Kept.KeptBlocks.{turn-kept, turn-refused}
use Rattle.jpeg_decoder.proofs.Kept.BlockArrays.{sizes-long, with_block}
use Rattle.jpeg_decoder.proofs.Kept.ReachedSpots.{beside-is, left-next, left-refused, next-unread, others-same}
use Rattle.jpeg_decoder.proofs.Partial.ReachedBlocks.{turn-read}
use Rattle.jpeg_decoder.proofs.scan.mcus.read_whole.Goals as goal
use Rattle.std.proofs.lemmas.Grind.{common_steps}

pub returns-then-not-begin_by-clause-blocks : goal.returns-then-not-begin_by-clause-blocks
returns-then-not-begin_by-clause-blocks g c =
    let a = c.args in
    let keeps = a.scan.now.keeps_ac in
    let vias = scan_vias a.scan.now in
    let l = c.loop-spot in
    let here = record l.interval { decoder = l.decoder; carried = l.carried; left = l.left } in
    let new = c.begin_by.new in
    let vs = arrays_in c.reach.new.arrays.items in
    rw c.refused_at.ensures.refusal (begin-refused keeps whole_pass vias a.n
    (spot c.in-Some.spot.slot c.in-Some.spot.index) l.spots c.next.new.self here (arrays_in l.arrays.items) vs
    a.interval.now.decoder a.source.now l.source
    (kept_blocks keeps (blocks_from a.scan.now.pass vias a.n a.spots.now
    (counted a.interval.now (arrays_in a.arrays.now.items)))) c.in-Some.ensures c.in_ok-reach.ensures.arrays
    l.invariant.blocks (counted (record new.interval { carried = new.carried; left = new.left }) vs) _ new.decoder
    new.source (c.if-not-begin_by.ensures.begun vs))

pub returns-then-not-begin_by-clause-reached : goal.returns-then-not-begin_by-clause-reached
returns-then-not-begin_by-clause-reached g c keep =
    let p = whole_pass in
    let vias = scan_vias c.args.scan.now in
    let n = c.args.n in
    let l = c.loop-spot in
    let whole = counted_reached c.args.scan.now.pass vias n c.args.spots.now
    (counted c.args.interval.now (arrays_in c.args.arrays.now.items))
    (upcoming c.args.interval.now.decoder c.args.source.now.bytes) in
    let here = record l.interval { decoder = l.decoder; carried = l.carried; left = l.left } in
    let s = spot c.in-Some.spot.slot c.in-Some.spot.index in
    let vs = c.reach.new.arrays.items in
    let now = counted here (arrays_in vs) in
    let t = upcoming l.decoder l.source.bytes in
    rw c.refused_at.ensures.refusal (left-refused p vias n s l.spots c.next.new.self
    (counted here (arrays_in l.arrays.items)) now t whole c.in-Some.ensures
    (ap (counted here) c.in_ok-reach.ensures.arrays) c.args.source.now l.source c.begin_by.new.source _
    (begun_from n now t) (l.invariant.goes keep) (λ k. (l.invariant.blocks.1 k).0)
    (c.if-not-begin_by.ensures.begun (arrays_in vs)).1 (λ k f h. next_unbegun p vias n s now t f h) _
    (λ f e. beside-is whole now c.in-Some.spot f (arrays_in vs) c.refused_at.new.self.unread e
    c.refused_at.ensures.unread refl))

pub returns-then-not-take_inlined_block-clause-sizes : goal.returns-then-not-take_inlined_block-clause-sizes
returns-then-not-take_inlined_block-clause-sizes g c = grind (arith, common_steps, sizes-set)

pub returns-then-not-take_inlined_block-clause-blocks : goal.returns-then-not-take_inlined_block-clause-blocks
returns-then-not-take_inlined_block-clause-blocks g c =
    let a = c.args in
    let keeps = a.scan.now.keeps_ac in
    let vias = scan_vias a.scan.now in
    let l = c.loop-spot in
    let here = record l.interval { decoder = l.decoder; carried = l.carried; left = l.left } in
    let new = c.begin_by.new in
    let i = record new.interval { decoder = new.decoder; carried = new.carried; left = new.left } in
    let slot = c.in-Some.spot.slot in
    let index = c.in-Some.spot.index in
    let s = spot slot index in
    let vs = c.reach.new.arrays.items in
    let first = get_or i.carried.predictors slot (pos 0) in
    let coding = c.coding-coding in
    let dc = coding.result.dc_table.now in
    let ac = coding.result.ac_table.now in
    let of : AllByRecursion (IsSpotOf (length a.scan.now.codings) (sizes_of vs)) (s ∷ c.next.new.self)
    = search rules in
    let block = c.take_inlined_block.new in
    rw c.refused_at-then-not-take_inlined_block.ensures.refusal (block-refused keeps whole_pass vias a.n s l.spots
    c.next.new.self here (arrays_in l.arrays.items) (arrays_in vs) a.interval.now.decoder a.source.now l.source
    (kept_blocks keeps (blocks_from a.scan.now.pass vias a.n a.spots.now
    (counted a.interval.now (arrays_in a.arrays.now.items)))) c.in-Some.ensures c.in_ok-reach.ensures.arrays
    l.invariant.blocks (counted i (arrays_in vs)) _ block.decoder _ block.source (λ (u : Unit {0}). (
      kept keeps (to_block block.block),
      predictor_at slot block.carried,
      block.carried.run,
    ))
    (kept_from keeps (block_from whole_pass dc ac first i.carried.run (to_block c.index_mut-in-Some.result.now))) _
    (c.if-not-begin_by.ensures.begun (arrays_in vs))
    (λ t f h. turn-refused whole_pass vias _ slot index dc ac vs c.index_mut.result.now c.index_mut-in-Some.result.now
    i.carried.predictors i.carried.run first of.0 coding.ensures.tables c.index_mut.ensures.value
    (stored-there vs slot index c.index_mut.result.now c.index_mut.ensures.value c.in_ok-reach.ensures.stored)
    c.index_mut-in-Some.ensures.value refl t f (turn-kept-refused keeps _ f h))
    (rw (coding.ensures.slot, coding.ensures.keeps) at c.if-not-take_inlined_block.ensures.block))

pub returns-then-not-take_inlined_block-clause-reached : goal.returns-then-not-take_inlined_block-clause-reached
returns-then-not-take_inlined_block-clause-reached g c keep =
    let p = whole_pass in
    let vias = scan_vias c.args.scan.now in
    let n = c.args.n in
    let l = c.loop-spot in
    let whole = counted_reached c.args.scan.now.pass vias n c.args.spots.now
    (counted c.args.interval.now (arrays_in c.args.arrays.now.items))
    (upcoming c.args.interval.now.decoder c.args.source.now.bytes) in
    let here = record l.interval { decoder = l.decoder; carried = l.carried; left = l.left } in
    let new = c.begin_by.new in
    let i = record new.interval { decoder = new.decoder; carried = new.carried; left = new.left } in
    let slot = c.in-Some.spot.slot in
    let index = c.in-Some.spot.index in
    let s = spot slot index in
    let vs = c.reach.new.arrays.items in
    let v = c.index_mut.result.now in
    let x = c.index_mut-in-Some.result.now in
    let now = counted here (arrays_in vs) in
    let first = get_or i.carried.predictors slot (pos 0) in
    let coding = c.coding-coding in
    let dc = coding.result.dc_table.now in
    let ac = coding.result.ac_table.now in
    let of : AllByRecursion (IsSpotOf (length c.args.scan.now.codings) (sizes_of vs)) (s ∷ c.next.new.self)
    = search rules in
    let q = c.if-not-begin_by.ensures.begun (arrays_in vs) in
    let keeps = c.args.scan.now.keeps_ac in
    let read = rw (coding.ensures.slot, coding.ensures.keeps) at c.if-not-take_inlined_block.ensures.block in
    let there = stored-there vs slot index v c.index_mut.ensures.value c.in_ok-reach.ensures.stored in
    rw c.refused_at-then-not-take_inlined_block.ensures.refusal (left-refused p vias n s l.spots c.next.new.self
    (counted here (arrays_in l.arrays.items)) now (upcoming l.decoder l.source.bytes) whole c.in-Some.ensures
    (ap (counted here) c.in_ok-reach.ensures.arrays) c.args.source.now new.source c.take_inlined_block.new.source _
    (kept_from keeps (block_from p dc ac first i.carried.run (to_block x)) (upcoming new.decoder new.source.bytes))
    (l.invariant.goes keep) (λ k. (q.1 (l.invariant.blocks.1 k).0).0) read.1
    (λ k f h. next-unread p vias n s now (counted i (arrays_in vs)) _ _ f (q.1 (l.invariant.blocks.1 k).0).1
    (turn-refused p vias _ slot index dc ac vs v x i.carried.predictors i.carried.run first of.0 coding.ensures.tables
    c.index_mut.ensures.value there c.index_mut-in-Some.ensures.value refl _ f (turn-kept-refused keeps _ f h))) _
    (λ f e. beside-is whole now c.in-Some.spot f
    (arrays_in (set vs slot (with_block v index c.take_inlined_block.new.block)))
    c.refused_at-then-not-take_inlined_block.new.self.unread e
    c.refused_at-then-not-take_inlined_block.ensures.unread
    (others-same vs slot index v c.take_inlined_block.new.block
    (omega (arith, of.0.kept.has_slot, sizes-long vs)) c.index_mut.ensures.value there)))

pub loop-spot-preserved : goal.loop-spot-preserved
loop-spot-preserved g c =
    let a = c.args in
    let keeps = a.scan.now.keeps_ac in
    let p = whole_pass in
    let vias = scan_vias a.scan.now in
    let l = c.loop-spot in
    let here = record l.interval { decoder = l.decoder; carried = l.carried; left = l.left } in
    let new = c.begin_by.new in
    let i = record new.interval { decoder = new.decoder; carried = new.carried; left = new.left } in
    let slot = c.in-Some.spot.slot in
    let index = c.in-Some.spot.index in
    let s = spot slot index in
    let vs = c.reach.new.arrays.items in
    let now = counted here (arrays_in vs) in
    let first = get_or i.carried.predictors slot (pos 0) in
    let coding = c.coding-coding in
    let of : AllByRecursion (IsSpotOf (length a.scan.now.codings) (sizes_of vs)) (s ∷ c.next.new.self)
    = search rules in
    let q = c.if-not-begin_by.ensures.begun (arrays_in vs) in
    let block = c.take_inlined_block.new in
    let r = rw (coding.ensures.slot, coding.ensures.keeps) at c.if-not-take_inlined_block.ensures.block in
    let sizes = sizes-set vs slot index c.index_mut.result.now block.block c.index_mut.ensures.value in
    let turn = λ (known : new.source.known ≡ true). turn-kept p vias _ slot index _ _ vs c.index_mut.result.now
    c.index_mut-in-Some.result.now i.carried.predictors i.carried.run first of.0 coding.ensures.tables
    c.index_mut.ensures.value
    (stored-there vs slot index c.index_mut.result.now c.index_mut.ensures.value c.in_ok-reach.ensures.stored)
    c.index_mut-in-Some.ensures.value refl keeps block.block (predictor_at slot block.carried) block.carried.run _ _
    (r.1 known).1 in
    record {
      sizes = sizes ∙ c.in_ok-reach.ensures.sizes ∙ l.invariant.sizes;
      spots = search rules;
      blocks = rw (c.if-not-take_inlined_block.ensures.others, coding.ensures.slot, c.saturating_sub-left.ensures)
          (block-read keeps p vias a.n s l.spots c.next.new.self here (arrays_in l.arrays.items) (arrays_in vs)
          a.interval.now.decoder a.source.now l.source
          (kept_blocks keeps (blocks_from a.scan.now.pass vias a.n a.spots.now
          (counted a.interval.now (arrays_in a.arrays.now.items)))) c.in-Some.ensures c.in_ok-reach.ensures.arrays
          l.invariant.blocks (counted i (arrays_in vs)) _ _ _ _ _ q (λ none. refl) r.0 (λ k. (r.1 k).0) turn);
      goes = rw (c.if-not-take_inlined_block.ensures.others, coding.ensures.slot, c.saturating_sub-left.ensures)
          (λ keep k.
          let at = q.1 (l.invariant.blocks.1 k).0 in
          left-next p vias a.n s l.spots c.next.new.self (counted here (arrays_in l.arrays.items)) now
          (upcoming l.decoder l.source.bytes) _ c.in-Some.ensures
          (ap (counted here) c.in_ok-reach.ensures.arrays) (counted i (arrays_in vs)) _ _ _
          (l.invariant.goes keep k) at.1 (turn-read keeps _ _ _ keep (turn at.0)));
      beyond = c.if-not-begin_by.ensures.beyond ∙ l.invariant.beyond;
      unread = c.if-not-begin_by.ensures.unread ∙ l.invariant.unread;
    }
