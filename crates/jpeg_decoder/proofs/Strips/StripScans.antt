-- A sequential scan after its rows of MCUs: what was read, and the refusals.
use Rattle.std.proofs.Common.{rules, ◌≡◌, ℕ, ◌≤◌, List, [], ◌∷◌, length, Option, Result, Ok}
use Rattle.std.proofs.Common.{Err, arith, refl}
use Rattle.std.specs.List.{AllByRecursion}
use Rattle.jpeg_bits.specs.Stream.{Stream}
use Rattle.jpeg_bits.specs.Reading as reading
use Rattle.jpeg_bits.specs.Reading.{Outcome, Fault, Answers}
use Rattle.jpeg_bits.specs.Entropy.{Text, Ahead, Takes, upcoming, fresh, marker_from}
use Rattle.jpeg_bits.specs.declared.error.Error.{Error}
use Rattle.jpeg_bits.specs.declared.marker.Marker.{Marker}
use Rattle.jpeg_bits.specs.Passes.{Pass, Via}
use Rattle.jpeg_segments.specs.Frame.{Frame}
use Rattle.jpeg_meaning.specs.InTurn.{Fits, counted_at_start}
use Rattle.jpeg_meaning.specs.ScanSegments.{Coding, components_of}
use Rattle.jpeg_meaning.specs.Order.{Spot}
use Rattle.jpeg_decoder.specs.Strips.{no_samples, strips_from, planes_at, planes_by_rows, planes_in_order}
use Rattle.jpeg_decoder.proofs.Strips.ByStrips.{planes-by-rows}
use Rattle.jpeg_decoder.specs.declared.scan.order.ScanOrder.{ScanOrder}
use Rattle.jpeg_decoder.specs.Walk.{IsOrderOf, walks_of_rows}
use Rattle.jpeg_decoder.proofs.Orders.ScanOrders.{rows-walked}
use Rattle.std.proofs.lemmas.Grind.{common_steps}

abbrev pub Planes : Type 0
Planes = List (List ℕ)

abbrev pub marked : Planes → Outcome (Option Marker) → Outcome (Planes × Option Marker)
marked planes o = reading.◌>>=◌ o (λ (m : Option Marker × List ℕ). Ok ((planes, m.0), m.1))

unfoldable pub ended : Result (Planes × Text) Fault → Outcome (Planes × Option Marker)
ended o = reading.◌>>=◌ o (λ (r : Planes × Text). marked r.0 (marker_from r.1))

-- A scan of these components in this order, after the planes in `start`.
module _ (codings : List Coding) (p : Pass) (vias : List Via) (n : ℕ) (rows : List (List Spot)) (start : Planes)
    (old : Stream) where
  abbrev in_order : List ℕ → Outcome (Planes × Option Marker)
  in_order = planes_in_order p vias n codings rows start

  abbrev whole : Text → Result (Planes × Text) Fault
  whole = strips_from p vias n codings rows start (counted_at_start n [])

  whole-is : (bytes : List ℕ) → in_order bytes ≡ ended (whole (upcoming fresh bytes))
  unfolding ended
  whole-is bytes = refl

  -- a refusal in the rows
  pub rows-refused : {X Y : Type 0} (v : X → Planes) (view : Y → Planes
      × Option Marker) (b : Ahead) (new : Stream) (e : Error)
      → Takes v whole fresh old (Err e) b new → Answers view in_order old (Err e) new
  unfolding ended
  rows-refused v view b new e q = search (rules, whole-is)

  -- the marker after them
  pub scan-ended : {X : Type 0} (v : X → Planes) (b : Ahead) (cur new : Stream) (u : X) (r : Result (Option Marker) Error)
      → Takes v whole fresh old (Ok u) b cur → Answers (λ (m : Option Marker). m) (λ bytes. marker_from
      (upcoming b bytes)) cur r new → Answers (λ (m : Option Marker). (v u, m)) in_order old r new
  unfolding ended
  scan-ended v b cur new u (Err e) q m = search (rules, whole-is)
  scan-ended v b cur new u (Ok met) q m = search (rules, whole-is)

-- The order of a scan is that of the rows of its frame.
pub by-order : (frame : Frame) (codings : List Coding) (p : Pass) (vias : List Via) (n : ℕ) (o : ScanOrder)
    (start : Planes) (bytes : List ℕ) → IsOrderOf frame (components_of codings) n o
    → planes_by_rows p vias n frame codings start bytes
    ≡ planes_in_order p vias o.interval codings (walks_of_rows o) start bytes
unfolding planes_by_rows
by-order frame codings p vias n o start bytes is =
    rw (is.interval, rows-walked frame (components_of codings) n o is) refl

pub scan-by-rows : (frame : Frame) (codings : List Coding) (p : Pass) (n : ℕ) (vias : List Via) (bytes : List ℕ)
    → 1 ≤ length codings → AllByRecursion (Fits frame) (components_of codings)
    → planes_at p n vias frame codings bytes ≡ planes_by_rows p vias n frame codings (no_samples codings) bytes
scan-by-rows frame [] p n vias bytes h fits = absurd (omega arith)
scan-by-rows frame (c ∷ codings) p n vias bytes h fits = grind (arith, common_steps, planes-by-rows)
