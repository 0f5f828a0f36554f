use Rattle.std.proofs.Common.{◌≡◌, ◌∙◌, ◌*◌, ap, arith, Err, Ok, Option, Result, rules}
use Rattle.std.proofs.lemmas.Grind.{common_steps}
use Rattle.std.proofs.lemmas.Result.{err_from_is_err_and}
use Rattle.jpeg_bits.specs.Entropy.{Takes, fresh_before}
use Rattle.jpeg_bits.specs.declared.beyond.Beyond.{Beyond}
use Rattle.jpeg_bits.specs.declared.beyond.Beyond.TheVariants.{Nothing, Zeros}
use Rattle.jpeg_bits.specs.declared.error.Error.{Error}
use Rattle.jpeg_bits.specs.declared.marker.Marker.{Marker}
use Rattle.jpeg_segments.specs.FrameView.{frame_in}
use Rattle.jpeg_meaning.specs.InTurn.{blocks_from, counted_before}
use Rattle.jpeg_meaning.specs.Order.{mcu_size, spots_of}
use Rattle.jpeg_decoder.specs.Scanning.{arrays_in, counted, kept_blocks, kept_counted, scan_components}
use Rattle.jpeg_decoder.specs.Scanning.{scan_vias}
use Rattle.jpeg_decoder.specs.declared.scan.blocks.Interval.{Interval}
use Rattle.jpeg_decoder.proofs.Kept.KeptSpots.{kept-spots}
use Rattle.jpeg_decoder.proofs.Kept.LinesOfBlocks.{one-long, one-scan, one-there}
use Rattle.jpeg_decoder.proofs.Partial.MarkedBlocks.{answers-ended, answers-refused, arrays-ended, arrays-refused}
use Rattle.jpeg_decoder.proofs.Partial.MarkedBlocks.{takes-kept, unread-ended, unread-refused, zeros-ended, zeros-refused}
use Rattle.jpeg_decoder.proofs.Scans.PlacedCodings.{seen-long}
use Rattle.jpeg_decoder.proofs.scan.kept.read_blocks.Given as given
use Rattle.jpeg_decoder.proofs.scan.kept.read_blocks.Goals.{After-read_spots-read}
use Rattle.jpeg_decoder.proofs.scan.kept.read_blocks.Goals as goal

pub index_mut-requires : goal.index_mut-requires
index_mut-requires g c =
    let alone = seen-long _ _ c.components-codings.ensures.codings ∙ search rules in
    let some = one-there c.args.scan.now.codings c.args.arrays.now.items alone c.requires.arrays in
    omega (arith, some)

pub read_bands-requires-clause-within : goal.read_bands-requires-clause-within
read_bands-requires-clause-within g c =
    let alone = seen-long _ _ c.components-codings.ensures.codings ∙ search rules in
    let long = one-long c.args.scan.now.codings c.args.arrays.now.items _ c.index_mut.result.now alone c.requires.arrays
    c.component.ensures.component c.index_mut.ensures.value in
    rw c.grid_of-grid.ensures (omega (arith, long))

pub returns-then-codings-eq1-clause-scan : goal.returns-then-codings-eq1-clause-scan
returns-then-codings-eq1-clause-scan g c zeros =
    let a = c.args in
    one-scan (frame_in a.frame.now) a.scan.now.codings a.arrays.now.items _ c.index_mut.result.now
    c.read_bands.new.array a.scan.now.pass (scan_vias a.scan.now) a.scan.now.restart_interval a.source.now
    c.read_bands.new.source _ (seen-long _ _ c.components-codings.ensures.codings ∙ search rules) c.requires.fits
    c.requires.arrays c.component.ensures.component c.index_mut.ensures.value
    (λ others. rw c.grid_of-grid.ensures at (c.read_bands.ensures.scan others))

pub read_spots-read-requires : goal.read_spots-read-requires
read_spots-read-requires g c = grind (arith, common_steps, kept-spots)

-- the blocks that were read, in the order of the frame, all of which are kept
read : (g : given.Over) (c : After-read_spots-read g) (b : Beyond) (r : Result (Unit {0}) Error)
    → c.args.scan.now.beyond ≡ b → let s = c.args.scan.now in
    let n = s.restart_interval * mcu_size (scan_components s) in
    let first = c.first_interval-interval.result in
    let new = c.read_spots-read.new in
    let before = arrays_in c.args.arrays.now.items in
    Takes (λ (u : Unit {0}). kept_counted s.keeps_ac (counted new.interval (arrays_in new.arrays.items)))
    (kept_blocks s.keeps_ac (blocks_from s.pass (scan_vias s) c.in_ok-order.order.interval c.spots-spots.result
    (counted first before))) first.decoder c.args.source.now r new.interval.decoder new.source
    → Takes (λ (u : Unit {0}). counted new.interval (arrays_in new.arrays.items))
    (blocks_from s.pass (scan_vias s) n (spots_of (frame_in c.args.frame.now) (scan_components s))
    (counted_before b n before)) (fresh_before b) c.args.source.now r new.interval.decoder new.source
read g c b r is h =
    let s = c.args.scan.now in
    let n = s.restart_interval * mcu_size (scan_components s) in
    let new = c.read_spots-read.new in
    let order = c.in_ok-order.ensures in
    takes-kept s.keeps_ac (λ (u : Unit {0}). counted new.interval (arrays_in new.arrays.items))
    (blocks_from s.pass (scan_vias s) n (spots_of (frame_in c.args.frame.now) (scan_components s))
    (counted_before b n (arrays_in c.args.arrays.now.items))) (fresh_before b)
    new.interval.decoder c.args.source.now new.source r c.requires.keeps
    (rw (
      c.first_interval-interval.ensures,
      order.interval,
      c.spots-spots.ensures ∙ order.all,
      c.beyond-2.ensures.beyond ∙ is,
    ) at h)

pub returns-in_err-read-clause-scan : goal.returns-in_err-read-clause-scan
returns-in_err-read-clause-scan g c zeros =
    let e = err_from_is_err_and c.from_residual-in_err-read.result c.from_residual-in_err-read.ensures.1 in
    let a = c.args in
    let s = a.scan.now in
    let new = c.read_spots-read.new in
    let at = goal.at.returns-in_err-read-clause-scan g c in
    rw (e.1, e.2) (zeros-refused (frame_in a.frame.now) (scan_components s) s.pass (scan_vias s)
    (s.restart_interval * mcu_size (scan_components s)) (arrays_in a.arrays.now.items) c.requires.fits c.requires.arrays
    (λ (m : Option Marker). (arrays_in new.arrays.items, m))
    (λ (u : Unit {0}). counted new.interval (arrays_in new.arrays.items)) new.interval.decoder a.source.now new.source
    c.in_err-read.field-0.0 (read g at.After-read_spots-read Zeros (Err c.in_err-read.field-0.0) zeros c.in_err-read.ensures.blocks))

pub returns-in_err-read-clause-arrays : goal.returns-in_err-read-clause-arrays
returns-in_err-read-clause-arrays g c n =
    let e = err_from_is_err_and c.from_residual-in_err-read.result c.from_residual-in_err-read.ensures.1 in
    let a = c.args in
    let s = a.scan.now in
    let order = c.in_ok-order.ensures in
    let stops = c.beyond-2.ensures.beyond ∙ n in
    let first = c.first_interval-interval.ensures in
    rw (e.1, e.2) (arrays-refused s.pass (scan_vias s) (s.restart_interval * mcu_size (scan_components s))
    (spots_of (frame_in a.frame.now) (scan_components s)) (arrays_in a.arrays.now.items) (Unit {0}) (Option Marker)
    (arrays_in c.read_spots-read.new.arrays.items) c.read_spots-read.new.interval.unread a.source.now
    c.read_spots-read.new.source _
    (rw (first, order.interval, c.spots-spots.ensures ∙ order.all, stops) at
    (c.in_err-read.ensures.reached c.requires.keeps (ap (λ (i : Interval). i.beyond) first ∙ stops))))

pub returns-in_err-read-clause-unread : goal.returns-in_err-read-clause-unread
returns-in_err-read-clause-unread g c n =
    let e = err_from_is_err_and c.from_residual-in_err-read.result c.from_residual-in_err-read.ensures.1 in
    let a = c.args in
    let s = a.scan.now in
    let order = c.in_ok-order.ensures in
    let stops = c.beyond-2.ensures.beyond ∙ n in
    let first = c.first_interval-interval.ensures in
    rw (e.1, e.2) (unread-refused s.pass (scan_vias s) (s.restart_interval * mcu_size (scan_components s))
    (spots_of (frame_in a.frame.now) (scan_components s)) (arrays_in a.arrays.now.items) (Unit {0}) (Option Marker)
    (arrays_in c.read_spots-read.new.arrays.items) c.read_spots-read.new.interval.unread a.source.now
    c.read_spots-read.new.source _
    (rw (first, order.interval, c.spots-spots.ensures ∙ order.all, stops) at
    (c.in_err-read.ensures.reached c.requires.keeps (ap (λ (i : Interval). i.beyond) first ∙ stops))))

pub returns-in_err-read-clause-answers : goal.returns-in_err-read-clause-answers
returns-in_err-read-clause-answers g c n =
    let e = err_from_is_err_and c.from_residual-in_err-read.result c.from_residual-in_err-read.ensures.1 in
    let a = c.args in
    let s = a.scan.now in
    let new = c.read_spots-read.new in
    let at = goal.at.returns-in_err-read-clause-answers g c in
    rw (e.1, e.2) (answers-refused s.pass (scan_vias s) (s.restart_interval * mcu_size (scan_components s))
    (spots_of (frame_in a.frame.now) (scan_components s)) (arrays_in a.arrays.now.items) (λ (m : Option Marker). m)
    (λ (u : Unit {0}). counted new.interval (arrays_in new.arrays.items)) new.interval.decoder a.source.now new.source
    c.in_err-read.field-0.0 (read g at.After-read_spots-read Nothing (Err c.in_err-read.field-0.0) n c.in_err-read.ensures.blocks))

pub returns-clause-scan : goal.returns-clause-scan
returns-clause-scan g c zeros =
    let a = c.args in
    let s = a.scan.now in
    let new = c.read_spots-read.new in
    let at = goal.at.returns-clause-scan g c in
    zeros-ended (frame_in a.frame.now) (scan_components s) s.pass (scan_vias s)
    (s.restart_interval * mcu_size (scan_components s)) (arrays_in a.arrays.now.items) c.requires.fits c.requires.arrays
    (counted new.interval (arrays_in new.arrays.items)) new.interval.decoder a.source.now new.source
    c.take_marker.new.source c.take_marker.result (read g at.After-read_spots-read Zeros (Ok tt) zeros c.in_ok-read.ensures.blocks)
    c.take_marker.ensures.answers

pub returns-clause-arrays : goal.returns-clause-arrays
returns-clause-arrays g c n =
    let a = c.args in
    let s = a.scan.now in
    let new = c.read_spots-read.new in
    let at = goal.at.returns-clause-arrays g c in
    arrays-ended s.pass (scan_vias s) (s.restart_interval * mcu_size (scan_components s))
    (spots_of (frame_in a.frame.now) (scan_components s)) (arrays_in a.arrays.now.items)
    (counted new.interval (arrays_in new.arrays.items)) new.interval.decoder a.source.now new.source
    c.take_marker.new.source c.take_marker.result (read g at.After-read_spots-read Nothing (Ok tt) n c.in_ok-read.ensures.blocks)

pub returns-clause-unread : goal.returns-clause-unread
returns-clause-unread g c n =
    let a = c.args in
    let s = a.scan.now in
    let new = c.read_spots-read.new in
    let at = goal.at.returns-clause-unread g c in
    unread-ended s.pass (scan_vias s) (s.restart_interval * mcu_size (scan_components s))
    (spots_of (frame_in a.frame.now) (scan_components s)) (arrays_in a.arrays.now.items)
    (counted new.interval (arrays_in new.arrays.items)) new.interval.decoder a.source.now new.source
    c.take_marker.new.source c.take_marker.result (read g at.After-read_spots-read Nothing (Ok tt) n c.in_ok-read.ensures.blocks)
    new.interval.unread
    (c.in_ok-read.ensures.unread ∙ ap (λ (i : Interval). i.unread) c.first_interval-interval.ensures)

pub returns-clause-answers : goal.returns-clause-answers
returns-clause-answers g c n =
    let a = c.args in
    let s = a.scan.now in
    let new = c.read_spots-read.new in
    let at = goal.at.returns-clause-answers g c in
    answers-ended s.pass (scan_vias s) (s.restart_interval * mcu_size (scan_components s))
    (spots_of (frame_in a.frame.now) (scan_components s)) (arrays_in a.arrays.now.items)
    (counted new.interval (arrays_in new.arrays.items)) new.interval.decoder a.source.now new.source
    c.take_marker.new.source c.take_marker.result (read g at.After-read_spots-read Nothing (Ok tt) n c.in_ok-read.ensures.blocks)
    c.take_marker.ensures.answers
