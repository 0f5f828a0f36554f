-- The planes of a sequential scan up to its first fault, by what was read of its rows of MCUs.
use Rattle.std.proofs.Common.{◌≡◌, ◌∙◌, ℕ, true, List, [], None, Option, Result, Ok, Err, ap, refl, subst, sym}
use Rattle.jpeg_bits.specs.Reading.{Answers, Fault, ◌>>=◌}
use Rattle.jpeg_bits.specs.Entropy.{Ahead, Takes, Text, fresh, fresh_before, marker_from, upcoming}
use Rattle.jpeg_bits.specs.Passes.{Pass, Via}
use Rattle.jpeg_bits.specs.Stream.{Stream}
use Rattle.jpeg_bits.specs.declared.beyond.Beyond.{Beyond}
use Rattle.jpeg_bits.specs.declared.beyond.Beyond.TheVariants.{Nothing, Zeros}
use Rattle.jpeg_bits.specs.declared.error.Error.{Error}
use Rattle.jpeg_bits.specs.declared.marker.Marker.{Marker}
use Rattle.jpeg_bits.proofs.Loops.{Continues-answers, Names-through}
use Rattle.jpeg_segments.specs.Frame.{Frame}
use Rattle.jpeg_meaning.specs.Brought.{Through}
use Rattle.jpeg_meaning.specs.InTurn.{Counted, counted_at_start, counted_before}
use Rattle.jpeg_meaning.specs.Order.{Spot}
use Rattle.jpeg_meaning.specs.ScanSegments.{Coding, components_of}
use Rattle.jpeg_decoder.specs.Strips.{strips_from}
use Rattle.jpeg_decoder.specs.Through.{planes_through, strips_reached}
use Rattle.jpeg_decoder.specs.Walk.{IsOrderOf, walks_of_rows}
use Rattle.jpeg_decoder.specs.Walks.{AfterWalk, OfWalk}
use Rattle.jpeg_decoder.specs.declared.scan.order.ScanOrder.{ScanOrder}
use Rattle.jpeg_decoder.proofs.Orders.ScanOrders.{rows-walked}
use Rattle.jpeg_decoder.proofs.Partial.Refused.{if-refused-as}
use Rattle.jpeg_decoder.proofs.Strips.ReachedStrips.{strips-fault, strips-outcome}

abbrev Planes : Type 0
Planes = List (List ℕ)

abbrev ended : Through Planes Text → Through Planes (Option Marker × List ℕ)
ended r = record { reached = r.reached; unread = r.unread; rest = r.rest >>= marker_from }

-- A scan in this order from this state on, after the planes in `start`.
module _ (frame : Frame) (codings : List Coding) (p : Pass) (vias : List Via) (n : ℕ) (o : ScanOrder) (start : Planes)
    (first : Counted) (a : Ahead) (is : IsOrderOf frame (components_of codings) n o)
    (begins : first ≡ counted_before Nothing o.interval []) (empty : a ≡ fresh_before Nothing) where
  abbrev whole : List ℕ → Through Planes (Option Marker × List ℕ)
  whole = planes_through p vias n frame codings start

  abbrev rows : List ℕ → Through Planes Text
  rows bytes = strips_reached p vias o.interval codings 0 (walks_of_rows o) start first (upcoming a bytes)

  abbrev read : Text → Result (Planes × Text) Fault
  read = strips_from p vias o.interval codings (walks_of_rows o) start first

  pub through-is : (bytes : List ℕ) → whole bytes ≡ ended (rows bytes)
  unfolding planes_through
  through-is bytes = rw (begins, empty, is.interval, rows-walked frame (components_of codings) n o is) refl

  module _ {X : Type 0} (v : X → Planes) (old cur : Stream) (b : Ahead) where
    all-read : (u : X) → Takes v read a old (Ok u) b cur → old.known ≡ true
        → whole old.bytes ≡ ended (record { reached = v u; unread = None; rest = Ok (upcoming b cur.bytes) })
    all-read u q k =
        through-is old.bytes
        ∙ ap ended (strips-outcome p vias o.interval codings (walks_of_rows o) 0 start (v u) first
        (upcoming a old.bytes) (upcoming b cur.bytes) (q.1 k).1)

    -- All rows were read: their samples are there,
    pub rows-there : (u : X) → Takes v read a old (Ok u) b cur → old.known ≡ true → v u ≡ (whole old.bytes).reached
    rows-there u q k =
        sym (ap (λ (r : Through Planes (Option Marker × List ℕ)). r.reached) (all-read u q k))

    -- no block is unread,
    pub none-unread : (u : X) → Takes v read a old (Ok u) b cur → old.known ≡ true
        → None ≡ (whole old.bytes).unread
    none-unread u q k =
        sym (ap (λ (r : Through Planes (Option Marker × List ℕ)). r.unread) (all-read u q k))

    -- and the marker is what stands after them.
    pub rows-ended : (u : X) (r : Result (Option Marker) Error) (new : Stream) → Takes v read a old (Ok u) b cur
        → Answers (λ (m : Option Marker). m) (λ bytes. marker_from (upcoming b bytes)) cur r new
        → Answers (λ (m : Option Marker). m) (λ bytes. (whole bytes).rest) old r new
    rows-ended u r new q m =
        Continues-answers (λ (m : Option Marker). m) (λ bytes. (whole bytes).rest)
        (λ bytes. marker_from (upcoming b bytes)) old cur new r (
          q.0,
          λ k. (
            (q.1 k).0,
            ap (λ (r : Through Planes (Option Marker × List ℕ)). r.rest) (all-read u q k),
          ),
        ) m

    -- A block was refused, or a restart marker.
    pub rows-lost : (e : Error) → Takes v read a old (Err e) b cur
        → Answers (λ (m : Option Marker). m) (λ bytes. (whole bytes).rest) old (Err e) cur
    rows-lost e q = (
      q.0,
      λ k l. Names-through e (read (upcoming a old.bytes)) (whole old.bytes).rest
          (λ f h. ap (λ (r : Through Planes (Option Marker × List ℕ)). r.rest) (through-is old.bytes)
          ∙ ap (λ (r : Result Text Fault). r >>= marker_from)
          (strips-fault p vias o.interval codings (walks_of_rows o) 0 start first (upcoming a old.bytes) f h))
          (q.1 k l),
      q.2,
    )

-- ---- where zeros follow the markers that end the data, or what follows them isn't known

pub from-zeros : {X : Type 0} (p : Pass) (vias : List Via) (n : ℕ) (codings : List Coding) (rows : List (List Spot))
    (start : Planes) (first : Counted) (a b : Ahead) (v : X → Planes) (old cur : Stream) (r : Result X Error)
    → first ≡ counted_at_start n [] → a ≡ fresh
    → Takes v (strips_from p vias n codings rows start first) a old r b cur
    → Takes v (strips_from p vias n codings rows start (counted_at_start n [])) fresh old r b cur
from-zeros p vias n codings rows start first a b v old cur r begins empty q =
    subst (λ (c : Ahead). Takes v (strips_from p vias n codings rows start (counted_at_start n [])) c old r b cur) empty
    (subst (λ (c : Counted). Takes v (strips_from p vias n codings rows start c) a old r b cur) begins q)

pub of-zeros : {X P : Type 0} (b : Beyond) (r : Result X Error) → b ≡ Zeros → OfWalk b r P → P
of-zeros {P = P} b r is h = subst (λ (b : Beyond). OfWalk b r P) is h

pub after-ok : {X P : Type 0} (b : Beyond) (x : X) → AfterWalk {X = X} b (Ok x) P → P
after-ok Zeros x p = p
after-ok Nothing x p = p

pub after-err : (X Y : Type 0) {P Q : Type 0} (b : Beyond) (e : Error) → (P → Q) → AfterWalk {X = X} b (Err e) P
    → AfterWalk {X = Y} b (Err e) Q
after-err X Y Zeros e f p = tt
after-err X Y Nothing e f p = if-refused-as e f p
