use Rattle.std.proofs.Common.{◌∙◌, ◌≡◌, ap, pos, refl, sym, subst, true, rules, ℤ, List, ◌∷◌, Some, get_or}
use Rattle.std.proofs.Common.{length}
use Rattle.std.specs.List.{AllByRecursion}
use Rattle.jpeg_bits.specs.BlockView.{predictor_at, to_block}
use Rattle.jpeg_bits.specs.Entropy.{upcoming}
use Rattle.jpeg_bits.specs.Passes.{block_from, Pass}
use Rattle.jpeg_meaning.specs.InTurn.{begun_from, blocks_from}
use Rattle.jpeg_decoder.specs.Scanning.{IsSpotOf, arrays_in, counted, kept_blocks, sizes_of, scan_vias}
use Rattle.jpeg_decoder.specs.Through.{counted_reached}
use Rattle.jpeg_bits.specs.Skips.{kept, kept_from}
use Rattle.jpeg_decoder.proofs.Kept.KeptScans.{turn-kept-refused}
use Rattle.jpeg_decoder.proofs.Orders.BlockSteps.{next_unbegun}
use Rattle.jpeg_decoder.proofs.Kept.KeptBlocks.{begin-refused, block-read, block-refused, sizes-set, spot, stored-there}
use Rattle.jpeg_decoder.proofs.Kept.KeptBlocks.{turn-kept, turn-refused}
use Rattle.jpeg_decoder.proofs.Kept.ReachedSpots.{before-is, left-next, left-refused, next-unread}
use Rattle.jpeg_decoder.proofs.Partial.ReachedBlocks.{put-back, turn-read}
use Rattle.jpeg_decoder.proofs.scan.blocks.read_spots.Goals as goal
use Rattle.jpeg_decoder.proofs.scan.blocks.read_spots.Goals.{in-Some-before, in_default-before}

pub returns-then-not-begin-clause-blocks : goal.returns-then-not-begin-clause-blocks
returns-then-not-begin-clause-blocks g c =
    let a = c.args in
    let keeps = a.scan.now.keeps_ac in
    let p = a.scan.now.pass in
    let vias = scan_vias a.scan.now in
    let l = c.loop-spot in
    let vs = arrays_in c.reach.new.arrays.items in
    rw c.refused_at.ensures.refusal (begin-refused keeps p vias a.n (spot c.in-Some.spot.slot c.in-Some.spot.index)
    l.spots c.next.new.self l.interval (arrays_in l.arrays.items) vs a.interval.now.decoder a.source.now l.source
    (kept_blocks keeps (blocks_from p vias a.n a.spots.now (counted a.interval.now (arrays_in a.arrays.now.items))))
    c.in-Some.ensures c.in_ok-reach.ensures.arrays l.invariant.blocks (counted c.begin.new.interval vs) _
    c.begin.new.interval.decoder c.begin.new.source (c.if-not-begin.ensures.begun vs))

pub returns-then-not-begin-clause-reached : goal.returns-then-not-begin-clause-reached
returns-then-not-begin-clause-reached g c keep nothing =
    let p = c.args.scan.now.pass in
    let vias = scan_vias c.args.scan.now in
    let n = c.args.n in
    let l = c.loop-spot in
    let whole = counted_reached p vias n c.args.spots.now
    (counted c.args.interval.now (arrays_in c.args.arrays.now.items))
    (upcoming c.args.interval.now.decoder c.args.source.now.bytes) in
    let s = spot c.in-Some.spot.slot c.in-Some.spot.index in
    let vs = c.reach.new.arrays.items in
    let now = counted l.interval (arrays_in vs) in
    let t = upcoming l.interval.decoder l.source.bytes in
    rw c.refused_at.ensures.refusal (left-refused p vias n s l.spots c.next.new.self
    (counted l.interval (arrays_in l.arrays.items)) now t whole c.in-Some.ensures
    (ap (counted l.interval) c.in_ok-reach.ensures.arrays) c.args.source.now l.source c.begin.new.source _
    (begun_from n now t) (l.invariant.goes keep) (λ k. (l.invariant.blocks.1 k).0)
    (c.if-not-begin.ensures.begun (arrays_in vs)).1 (λ k f h. next_unbegun p vias n s now t f h) _
    (λ f e. before-is whole now c.in-Some.spot f (arrays_in vs) c.refused_at.new.self.unread e
    c.refused_at.ensures.unread refl))

pub returns-then-not-take_block-clause-sizes : goal.returns-then-not-take_block-clause-sizes
returns-then-not-take_block-clause-sizes g c =
    let vs = c.reach.new.arrays.items in
    let same = λ (x : List ℤ). sizes-set vs c.in-Some.spot.slot c.in-Some.spot.index c.index_mut.result.now x
    c.index_mut.ensures.value ∙ c.in_ok-reach.ensures.sizes ∙ c.loop-spot.invariant.sizes in
    elim c.match-before.branch as (λ _. sizes_of c.match-before.arrays.items ≡ sizes_of c.args.arrays.now.items) [
      | in-Some-before w ↦ ap (λ a. sizes_of a.items) w.arrays-is ∙ same w.in-Some-before.before
      | in_default-before w ↦ ap (λ a. sizes_of a.items) w.arrays-is ∙ same c.take_block.new.block
    ]

pub returns-then-not-take_block-clause-blocks : goal.returns-then-not-take_block-clause-blocks
returns-then-not-take_block-clause-blocks g c =
    let a = c.args in
    let keeps = a.scan.now.keeps_ac in
    let p = a.scan.now.pass in
    let vias = scan_vias a.scan.now in
    let l = c.loop-spot in
    let i = c.begin.new.interval in
    let slot = c.in-Some.spot.slot in
    let index = c.in-Some.spot.index in
    let s = spot slot index in
    let vs = c.reach.new.arrays.items in
    let first = get_or i.carried.predictors slot (pos 0) in
    let coding = c.coding-coding in
    let dc = coding.result.dc_table.now in
    let ac = coding.result.ac_table.now in
    let of : AllByRecursion (IsSpotOf (length a.scan.now.codings) (sizes_of vs)) (s ∷ c.next.new.self)
    = search rules in
    rw c.refused_at-then-not-take_block.ensures.refusal (block-refused keeps p vias a.n s l.spots c.next.new.self
    l.interval (arrays_in l.arrays.items) (arrays_in vs) a.interval.now.decoder a.source.now l.source
    (kept_blocks keeps (blocks_from p vias a.n a.spots.now (counted a.interval.now (arrays_in a.arrays.now.items))))
    c.in-Some.ensures c.in_ok-reach.ensures.arrays l.invariant.blocks (counted i (arrays_in vs)) _
    c.take_block.new.decoder _ c.take_block.new.source (λ (u : Unit {0}). (
      kept keeps (to_block c.take_block.new.block),
      predictor_at slot c.take_block.new.carried,
      c.take_block.new.carried.run,
    ))
    (kept_from keeps (block_from p dc ac first i.carried.run (to_block c.index_mut-block.result.now))) _
    (c.if-not-begin.ensures.begun (arrays_in vs))
    (λ t f h. turn-refused p vias _ slot index dc ac vs c.index_mut.result.now c.index_mut-block.result.now
    i.carried.predictors i.carried.run first of.0 coding.ensures.tables c.index_mut.ensures.value
    (stored-there vs slot index c.index_mut.result.now c.index_mut.ensures.value c.in_ok-reach.ensures.stored)
    c.index_mut-block.ensures.value refl t f (turn-kept-refused keeps _ f h))
    (rw (coding.ensures.pass, coding.ensures.slot, coding.ensures.keeps) at c.if-not-take_block.ensures.block))

pub returns-then-not-take_block-clause-reached : goal.returns-then-not-take_block-clause-reached
returns-then-not-take_block-clause-reached g c keep nothing =
    let p = c.args.scan.now.pass in
    let vias = scan_vias c.args.scan.now in
    let n = c.args.n in
    let l = c.loop-spot in
    let whole = counted_reached p vias n c.args.spots.now
    (counted c.args.interval.now (arrays_in c.args.arrays.now.items))
    (upcoming c.args.interval.now.decoder c.args.source.now.bytes) in
    let i = c.begin.new.interval in
    let slot = c.in-Some.spot.slot in
    let index = c.in-Some.spot.index in
    let s = spot slot index in
    let vs = c.reach.new.arrays.items in
    let v = c.index_mut.result.now in
    let x = c.index_mut-block.result.now in
    let now = counted l.interval (arrays_in vs) in
    let first = get_or i.carried.predictors slot (pos 0) in
    let coding = c.coding-coding in
    let dc = coding.result.dc_table.now in
    let ac = coding.result.ac_table.now in
    let of : AllByRecursion (IsSpotOf (length c.args.scan.now.codings) (sizes_of vs)) (s ∷ c.next.new.self)
    = search rules in
    let q = c.if-not-begin.ensures.begun (arrays_in vs) in
    let keeps = c.args.scan.now.keeps_ac in
    let read = rw (coding.ensures.pass, coding.ensures.slot, coding.ensures.keeps)
    at c.if-not-take_block.ensures.block in
    let copied : c.copy_of-before.result ≡ Some x
    = c.copy_of-before.ensures (c.if-not-begin.ensures.beyond ∙ l.invariant.beyond ∙ nothing) in
    let same : arrays_in c.match-before.arrays.items ≡ arrays_in vs =
    elim c.match-before.branch as (λ _. arrays_in c.match-before.arrays.items ≡ arrays_in vs) [
      | in-Some-before w ↦
          let is : w.in-Some-before.before ≡ x = cc in
          ap (λ a. arrays_in a.items) w.arrays-is
          ∙ put-back vs slot index v w.in-Some-before.before c.index_mut.ensures.value
          (subst (λ (y : List ℤ). y ≡ get_or v.blocks.items index y) (sym is) c.index_mut-block.ensures.value)
      | in_default-before w ↦ cc
    ] in
    rw c.refused_at-then-not-take_block.ensures.refusal (left-refused p vias n s l.spots c.next.new.self
    (counted l.interval (arrays_in l.arrays.items)) now (upcoming l.interval.decoder l.source.bytes) whole
    c.in-Some.ensures (ap (counted l.interval) c.in_ok-reach.ensures.arrays) c.args.source.now c.begin.new.source
    c.take_block.new.source _ (kept_from keeps (block_from p dc ac first i.carried.run (to_block x))
    (upcoming i.decoder c.begin.new.source.bytes))
    (l.invariant.goes keep) (λ k. (q.1 (l.invariant.blocks.1 k).0).0) read.1
    (λ k f h. next-unread p vias n s now (counted i (arrays_in vs)) _ _ f (q.1 (l.invariant.blocks.1 k).0).1
    (turn-refused p vias _ slot index dc ac vs v x i.carried.predictors i.carried.run first of.0 coding.ensures.tables
    c.index_mut.ensures.value (stored-there vs slot index v c.index_mut.ensures.value c.in_ok-reach.ensures.stored)
    c.index_mut-block.ensures.value refl _ f (turn-kept-refused keeps _ f h))) _
    (λ f e. before-is whole now c.in-Some.spot f (arrays_in c.match-before.arrays.items)
    c.refused_at-then-not-take_block.new.self.unread e c.refused_at-then-not-take_block.ensures.unread same))

pub loop-spot-preserved : goal.loop-spot-preserved
loop-spot-preserved g c =
    let a = c.args in
    let keeps = a.scan.now.keeps_ac in
    let p = a.scan.now.pass in
    let vias = scan_vias a.scan.now in
    let l = c.loop-spot in
    let i = c.begin.new.interval in
    let slot = c.in-Some.spot.slot in
    let index = c.in-Some.spot.index in
    let s = spot slot index in
    let vs = c.reach.new.arrays.items in
    let now = counted l.interval (arrays_in vs) in
    let first = get_or i.carried.predictors slot (pos 0) in
    let coding = c.coding-coding in
    let of : AllByRecursion (IsSpotOf (length a.scan.now.codings) (sizes_of vs)) (s ∷ c.next.new.self)
    = search rules in
    let q = c.if-not-begin.ensures.begun (arrays_in vs) in
    let r = rw (coding.ensures.pass, coding.ensures.slot, coding.ensures.keeps) at c.if-not-take_block.ensures.block in
    let sizes = sizes-set vs slot index c.index_mut.result.now c.take_block.new.block c.index_mut.ensures.value in
    let turn = λ (known : c.begin.new.source.known ≡ true). turn-kept p vias _ slot index _ _ vs c.index_mut.result.now
    c.index_mut-block.result.now i.carried.predictors i.carried.run first of.0 coding.ensures.tables
    c.index_mut.ensures.value
    (stored-there vs slot index c.index_mut.result.now c.index_mut.ensures.value c.in_ok-reach.ensures.stored)
    c.index_mut-block.ensures.value refl keeps c.take_block.new.block (predictor_at slot c.take_block.new.carried)
    c.take_block.new.carried.run _ _ (r.1 known).1 in
    record {
      sizes = sizes ∙ c.in_ok-reach.ensures.sizes ∙ l.invariant.sizes;
      spots = search rules;
      blocks = rw (c.if-not-take_block.ensures.others, coding.ensures.slot, c.saturating_sub-interval.ensures)
          (block-read keeps p vias a.n s l.spots c.next.new.self l.interval (arrays_in l.arrays.items) (arrays_in vs)
          a.interval.now.decoder a.source.now l.source
          (kept_blocks keeps (blocks_from p vias a.n a.spots.now
          (counted a.interval.now (arrays_in a.arrays.now.items)))) c.in-Some.ensures c.in_ok-reach.ensures.arrays
          l.invariant.blocks (counted i (arrays_in vs)) _ _ _ _ _ q (λ none. ap (λ (p : Pass). p.is_first)
          (sym coding.ensures.pass) ∙ coding.result.first (coding.ensures.keeps ∙ none)) r.0 (λ k. (r.1 k).0) turn);
      goes = rw (c.if-not-take_block.ensures.others, coding.ensures.slot, c.saturating_sub-interval.ensures) (λ keep k.
          let at = q.1 (l.invariant.blocks.1 k).0 in
          left-next p vias a.n s l.spots c.next.new.self (counted l.interval (arrays_in l.arrays.items)) now
          (upcoming l.interval.decoder l.source.bytes) _ c.in-Some.ensures
          (ap (counted l.interval) c.in_ok-reach.ensures.arrays) (counted i (arrays_in vs)) _ _ _
          (l.invariant.goes keep k) at.1 (turn-read keeps _ _ _ keep (turn at.0)));
      beyond = c.if-not-begin.ensures.beyond ∙ l.invariant.beyond;
      unread = c.if-not-begin.ensures.unread ∙ l.invariant.unread;
    }
