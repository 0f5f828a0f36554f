use Rattle.std.proofs.lemmas.Result.{err_from_is_err_and}
use Rattle.std.proofs.Common.{◌≡◌, ◌∙◌, [], ap, length, take, sym, subst, ℕ, List, Option, Err, Ok}
use Rattle.std.specs.List.{AllByRecursion}
use Rattle.std.specs.Prelude.{option_map}
use Rattle.jpeg_bits.specs.Entropy.{fresh_before}
use Rattle.jpeg_bits.specs.declared.beyond.Beyond.{Beyond}
use Rattle.jpeg_bits.specs.declared.beyond.Beyond.TheVariants.{Nothing, Zeros}
use Rattle.jpeg_bits.specs.declared.marker.Marker.{Marker}
use Rattle.jpeg_segments.specs.FrameView.{frame_in}
use Rattle.jpeg_meaning.specs.Brought.{Through}
use Rattle.jpeg_meaning.specs.InTurn.{AreApart, counted_before}
use Rattle.jpeg_meaning.specs.McuRows.{rows_of}
use Rattle.jpeg_decoder.specs.GrowingView.{growing_in}
use Rattle.jpeg_decoder.specs.Scanning.{IsSpotOf, counted, scan_components, scan_vias, sizes_of}
use Rattle.jpeg_decoder.specs.Strips.{planes_by_rows, planes_in_order, row_sizes}
use Rattle.jpeg_decoder.specs.Walk.{spot_of, walks_of_rows}
use Rattle.jpeg_decoder.specs.declared.scan.blocks.Interval.{Interval}
use Rattle.jpeg_decoder.proofs.Kept.KeptSpots.{rows-spots}
use Rattle.jpeg_decoder.proofs.Orders.ScanOrders.{rows-walked}
use Rattle.jpeg_decoder.proofs.Partial.Refused.{if-refused-as, told-any, unless}
use Rattle.jpeg_decoder.proofs.Scans.ScanReads.{answers-as}
use Rattle.jpeg_decoder.proofs.Segments.WalkedScans.{after-walk, of-err, of-ok}
use Rattle.jpeg_decoder.proofs.Strips.ReachedRows.{rows-apart}
use Rattle.jpeg_decoder.proofs.Strips.StripScans.{by-order, rows-refused, scan-ended}
use Rattle.jpeg_decoder.proofs.Strips.StripSteps.{lengths-all, sizes_after}
use Rattle.jpeg_decoder.proofs.Strips.ThroughRows.{after-err, after-ok, from-zeros, none-unread, of-zeros, rows-ended}
use Rattle.jpeg_decoder.proofs.Strips.ThroughRows.{rows-lost, rows-there, through-is}
use Rattle.jpeg_decoder.proofs.scan.rows.read_planes.Given.{Over}
use Rattle.jpeg_decoder.proofs.scan.rows.read_planes.Goals.{After-first_interval-interval}
use Rattle.jpeg_decoder.proofs.scan.rows.read_planes.Goals as goal

pub read_rows-read-requires-clause-spots : goal.read_rows-read-requires-clause-spots
read_rows-read-requires-clause-spots g c =
    let cs = c.args.scan.now.codings in
    let frame = frame_in c.args.frame.now in
    let sized : sizes_of c.in_ok-rows.rows.items ≡ row_sizes cs
    = c.in_ok-rows.ensures ∙ ap row_sizes c.components.ensures.codings in
    subst (AllByRecursion (AllByRecursion (IsSpotOf (length cs) (row_sizes cs))))
    (sym (rows-walked frame (scan_components c.args.scan.now) c.args.scan.now.restart_interval _ c.in_ok-order.ensures))
    (subst (λ (s : List ℕ). AllByRecursion (AllByRecursion (IsSpotOf (length cs) s))
    (rows_of frame (scan_components c.args.scan.now))) sized
    (rows-spots frame cs c.in_ok-rows.rows.items c.requires.fits sized))

pub read_rows-read-requires-clause-apart : goal.read_rows-read-requires-clause-apart
read_rows-read-requires-clause-apart g c =
    let s = c.args.scan.now in
    let frame = frame_in c.args.frame.now in
    subst (AllByRecursion AreApart)
    (sym (rows-walked frame (scan_components s) s.restart_interval _ c.in_ok-order.ensures))
    (rows-apart frame (scan_components s) c.requires.fits)

-- ---- how the scan begins, by what follows the markers that end its data

begins : (g : Over) (c : After-first_interval-interval g) (beyond : Beyond) → c.args.scan.now.beyond ≡ beyond
    → counted c.first_interval-interval.result [] ≡ counted_before beyond c.in_ok-order.order.interval []
begins g c beyond is =
    ap (λ (i : Interval). counted i []) c.first_interval-interval.ensures
    ∙ ap (λ (b : Beyond). counted_before b c.in_ok-order.order.interval []) (c.beyond.ensures.beyond ∙ is)

empty : (g : Over) (c : After-first_interval-interval g) (beyond : Beyond) → c.args.scan.now.beyond ≡ beyond
    → c.first_interval-interval.result.decoder ≡ fresh_before beyond
empty g c beyond is =
    ap (λ (i : Interval). i.decoder) c.first_interval-interval.ensures ∙ ap fresh_before (c.beyond.ensures.beyond ∙ is)

-- ---- the rows were refused

pub returns-in_err-read-clause-sizes : goal.returns-in_err-read-clause-sizes
returns-in_err-read-clause-sizes g c k none =
    let cs = c.args.scan.now.codings in
    let p = err_from_is_err_and c.from_residual-in_err-read.result c.from_residual-in_err-read.ensures.1 in
    rw (p.1, p.2) (after-err (Unit {0}) (Option Marker) c.args.scan.now.beyond c.in_err-read.field-0.0
    (λ h. h ∙ ap (λ (rows : ℕ). sizes_after rows k cs) c.in_ok-order.ensures.rows
    ∙ ap (take k) (lengths-all _ cs c.requires.fits)) (c.in_err-read.ensures.sizes k none))

pub returns-in_err-read-clause-planes : goal.returns-in_err-read-clause-planes
returns-in_err-read-clause-planes g c is =
    let s = c.args.scan.now in
    let order = c.in_ok-order.order in
    let vias = scan_vias s in
    let i = c.first_interval-interval.result in
    let at = (goal.at.returns-in_err-read-clause-planes g c).After-first_interval-interval in
    let start = growing_in c.args.planes.now in
    let planes = growing_in c.read_rows-read.new.planes in
    let new = c.read_rows-read.new in
    let e = c.in_err-read.field-0.0 in
    let p = err_from_is_err_and c.from_residual-in_err-read.result c.from_residual-in_err-read.ensures.1 in
    rw (p.1, p.2) (answers-as (λ (m : Option Marker). (planes, m))
    (planes_in_order s.pass vias order.interval s.codings (walks_of_rows order) start)
    (planes_by_rows s.pass vias s.restart_interval (frame_in c.args.frame.now) s.codings start)
    c.args.source.now new.source (Err e)
    (by-order (frame_in c.args.frame.now) s.codings s.pass vias s.restart_interval order
    start c.args.source.now.bytes c.in_ok-order.ensures)
    (rows-refused s.codings s.pass vias order.interval (walks_of_rows order) start c.args.source.now
    (λ (u : Unit {0}). planes) (λ (m : Option Marker). (planes, m)) new.interval.decoder new.source e
    (from-zeros s.pass vias order.interval s.codings (walks_of_rows order) start (counted i []) i.decoder
    new.interval.decoder (λ (u : Unit {0}). planes) c.args.source.now new.source (Err e) (begins g at Zeros is)
    (empty g at Zeros is) (of-zeros {X = Unit {0}} s.beyond (Err e) is c.in_err-read.ensures.planes))))

pub returns-in_err-read-clause-reached : goal.returns-in_err-read-clause-reached
returns-in_err-read-clause-reached g c is =
    let s = c.args.scan.now in
    let i = c.first_interval-interval.result in
    let at = (goal.at.returns-in_err-read-clause-reached g c).After-first_interval-interval in
    let p = err_from_is_err_and c.from_residual-in_err-read.result c.from_residual-in_err-read.ensures.1 in
    rw (p.1, p.2) (λ k l. if-refused-as c.in_err-read.field-0.0
    (λ q. q.0 ∙ sym (ap (λ (r : Through (List (List ℕ)) (Option Marker × List ℕ)). r.reached)
    (through-is (frame_in c.args.frame.now) s.codings s.pass (scan_vias s) s.restart_interval c.in_ok-order.order
    (growing_in c.args.planes.now) (counted i []) i.decoder c.in_ok-order.ensures (begins g at Nothing is)
    (empty g at Nothing is) c.args.source.now.bytes))) (c.in_err-read.ensures.reached is k l))

pub returns-in_err-read-clause-unread : goal.returns-in_err-read-clause-unread
returns-in_err-read-clause-unread g c is =
    let s = c.args.scan.now in
    let i = c.first_interval-interval.result in
    let at = (goal.at.returns-in_err-read-clause-unread g c).After-first_interval-interval in
    let p = err_from_is_err_and c.from_residual-in_err-read.result c.from_residual-in_err-read.ensures.1 in
    rw (p.1, p.2) (λ k l. if-refused-as c.in_err-read.field-0.0
    (λ q. q.1 ∙ sym (ap (λ (r : Through (List (List ℕ)) (Option Marker × List ℕ)). r.unread)
    (through-is (frame_in c.args.frame.now) s.codings s.pass (scan_vias s) s.restart_interval c.in_ok-order.order
    (growing_in c.args.planes.now) (counted i []) i.decoder c.in_ok-order.ensures (begins g at Nothing is)
    (empty g at Nothing is) c.args.source.now.bytes))) (c.in_err-read.ensures.reached is k l))

pub returns-in_err-read-clause-answers : goal.returns-in_err-read-clause-answers
returns-in_err-read-clause-answers g c is =
    let s = c.args.scan.now in
    let i = c.first_interval-interval.result in
    let new = c.read_rows-read.new in
    let e = c.in_err-read.field-0.0 in
    let at = (goal.at.returns-in_err-read-clause-answers g c).After-first_interval-interval in
    let p = err_from_is_err_and c.from_residual-in_err-read.result c.from_residual-in_err-read.ensures.1 in
    rw (p.1, p.2) (if-refused-as e
    (rows-lost (frame_in c.args.frame.now) s.codings s.pass (scan_vias s) s.restart_interval c.in_ok-order.order
    (growing_in c.args.planes.now) (counted i []) i.decoder c.in_ok-order.ensures (begins g at Nothing is)
    (empty g at Nothing is) (λ (u : Unit {0}). growing_in new.planes) c.args.source.now new.source
    new.interval.decoder e)
    (of-err (Unit {0}) _ s.beyond e c.in_err-read.ensures.planes))

-- ---- all rows were read

pub returns-clause-sizes : goal.returns-clause-sizes
returns-clause-sizes g c k none =
    let cs = c.args.scan.now.codings in
    let b = c.args.scan.now.beyond in
    after-walk b c.take_marker.result (after-ok b tt (c.in_ok-read.ensures.sizes k none)
    ∙ ap (λ (rows : ℕ). sizes_after rows k cs) c.in_ok-order.ensures.rows
    ∙ ap (take k) (lengths-all _ cs c.requires.fits))

pub returns-clause-planes : goal.returns-clause-planes
returns-clause-planes g c is =
    let s = c.args.scan.now in
    let order = c.in_ok-order.order in
    let vias = scan_vias s in
    let i = c.first_interval-interval.result in
    let at = (goal.at.returns-clause-planes g c).After-first_interval-interval in
    let start = growing_in c.args.planes.now in
    let new = c.read_rows-read.new in
    let planes = growing_in new.planes in
    let r = c.take_marker.result in
    answers-as (λ (m : Option Marker). (planes, m))
    (planes_in_order s.pass vias order.interval s.codings (walks_of_rows order) start)
    (planes_by_rows s.pass vias s.restart_interval (frame_in c.args.frame.now) s.codings start)
    c.args.source.now c.take_marker.new.source r
    (by-order (frame_in c.args.frame.now) s.codings s.pass vias s.restart_interval order
    start c.args.source.now.bytes c.in_ok-order.ensures)
    (scan-ended s.codings s.pass vias order.interval (walks_of_rows order) start c.args.source.now
    (λ (u : Unit {0}). planes) new.interval.decoder new.source c.take_marker.new.source tt r
    (from-zeros s.pass vias order.interval s.codings (walks_of_rows order) start (counted i []) i.decoder
    new.interval.decoder (λ (u : Unit {0}). planes) c.args.source.now new.source (Ok tt) (begins g at Zeros is)
    (empty g at Zeros is) (of-zeros s.beyond (Ok tt) is c.in_ok-read.ensures.planes)) c.take_marker.ensures.answers)

pub returns-clause-reached : goal.returns-clause-reached
returns-clause-reached g c is =
    let s = c.args.scan.now in
    let i = c.first_interval-interval.result in
    let new = c.read_rows-read.new in
    let at = (goal.at.returns-clause-reached g c).After-first_interval-interval in
    told-any c.args.source.now c.take_marker.new.source c.take_marker.result
    (rows-there (frame_in c.args.frame.now) s.codings s.pass (scan_vias s) s.restart_interval c.in_ok-order.order
    (growing_in c.args.planes.now) (counted i []) i.decoder c.in_ok-order.ensures (begins g at Nothing is)
    (empty g at Nothing is) (λ (u : Unit {0}). growing_in new.planes) c.args.source.now new.source
    new.interval.decoder tt
    (of-ok s.beyond tt c.in_ok-read.ensures.planes))

pub returns-clause-unread : goal.returns-clause-unread
returns-clause-unread g c is =
    let s = c.args.scan.now in
    let i = c.first_interval-interval.result in
    let new = c.read_rows-read.new in
    let at = (goal.at.returns-clause-unread g c).After-first_interval-interval in
    told-any c.args.source.now c.take_marker.new.source c.take_marker.result
    (λ k. ap (option_map spot_of) c.in_ok-read.ensures.unread
    ∙ none-unread (frame_in c.args.frame.now) s.codings s.pass (scan_vias s) s.restart_interval c.in_ok-order.order
    (growing_in c.args.planes.now) (counted i []) i.decoder c.in_ok-order.ensures (begins g at Nothing is)
    (empty g at Nothing is) (λ (u : Unit {0}). growing_in new.planes) c.args.source.now new.source
    new.interval.decoder tt
    (of-ok s.beyond tt c.in_ok-read.ensures.planes) k)

pub returns-clause-answers : goal.returns-clause-answers
returns-clause-answers g c is =
    let s = c.args.scan.now in
    let i = c.first_interval-interval.result in
    let new = c.read_rows-read.new in
    let at = (goal.at.returns-clause-answers g c).After-first_interval-interval in
    unless c.take_marker.result
    (rows-ended (frame_in c.args.frame.now) s.codings s.pass (scan_vias s) s.restart_interval c.in_ok-order.order
    (growing_in c.args.planes.now) (counted i []) i.decoder c.in_ok-order.ensures (begins g at Nothing is)
    (empty g at Nothing is) (λ (u : Unit {0}). growing_in new.planes) c.args.source.now new.source
    new.interval.decoder tt
    c.take_marker.result c.take_marker.new.source (of-ok s.beyond tt c.in_ok-read.ensures.planes)
    c.take_marker.ensures.answers)
