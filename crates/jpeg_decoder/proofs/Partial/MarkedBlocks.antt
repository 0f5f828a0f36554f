-- A scan that is read block by block, and the marker after its data: what a call that reads it answers, and what it
-- leaves where nothing follows the markers.
use Rattle.std.proofs.Common.{◌≡◌, ◌∙◌, true, false, Bool, ℕ, List, None, Ok, Err, Option, Result, ap, refl, sym}
use Rattle.std.proofs.lemmas.Bool.{false≢true}
use Rattle.std.specs.List.{AllByRecursion}
use Rattle.std.specs.Prelude.{option_map}
use Rattle.jpeg_bits.specs.Entropy.{Ahead, Takes, Text, fresh, fresh_before, marker_from, upcoming}
use Rattle.jpeg_bits.specs.Passes.{Pass, Via}
use Rattle.jpeg_bits.specs.Reading.{Answers, Fault, Outcome, ◌>>=◌}
use Rattle.jpeg_bits.specs.Readers.{Reads, read_on}
use Rattle.jpeg_bits.specs.Stream.{Stream}
use Rattle.jpeg_bits.specs.declared.beyond.Beyond.TheVariants.{Nothing}
use Rattle.jpeg_bits.specs.declared.error.Error.{Error}
use Rattle.jpeg_bits.specs.declared.marker.Marker.{Marker}
use Rattle.jpeg_bits.proofs.Loops.{Continues-answers, Names-through}
use Rattle.jpeg_segments.specs.Frame.{Component, Frame}
use Rattle.jpeg_meaning.proofs.Order.CountedScans.{frame-scans}
use Rattle.jpeg_meaning.specs.Brought.{BlocksTo, Through}
use Rattle.jpeg_meaning.specs.InTurn.{Counted, blocks_from, counted_at_start, counted_before, scan_from, AreArrays, Fits}
use Rattle.jpeg_meaning.specs.Order.{Spot, spots_of}
use Rattle.jpeg_meaning.specs.Scans.{Arrays, arrays_at}
use Rattle.jpeg_meaning.specs.States.{OnTold, OnToldRefusal}
use Rattle.jpeg_decoder.specs.Scanning.{kept_after, kept_blocks, kept_counted}
use Rattle.jpeg_decoder.specs.Through.{blocks_reached, counted_reached, IsReached}
use Rattle.jpeg_decoder.specs.Walk.{spot_of}
use Rattle.jpeg_decoder.specs.declared.scan.spots.Spot as taken
use Rattle.jpeg_decoder.proofs.Kept.LinesOfBlocks.{scan-ended, scan-stopped}
use Rattle.jpeg_decoder.proofs.Partial.CountedReads.{counted-fault, counted-whole}
use Rattle.jpeg_decoder.proofs.Partial.Refused.{if-refused-as, told-any}
use Rattle.jpeg_decoder.proofs.Scans.ScanReads.{answers-as}

-- ---- all that is read is kept

kept-same : (o : Result (Counted × Text) Fault) → read_on (kept_after true) o ≡ o
kept-same (Ok r) = refl
kept-same (Err f) = refl

-- a call that reads blocks of which all is kept
pub takes-kept : {X : Type 0} (keeps : Bool) (view : X → Counted) (read : Reads Counted) (a b : Ahead)
    (old new : Stream) (r : Result X Error) → keeps ≡ true
    → Takes (λ x. kept_counted keeps (view x)) (kept_blocks keeps read) a old r b new → Takes view read a old r b new
takes-kept false view read a b old new r e q = absurd (false≢true e)
takes-kept true view read a b old new (Ok x) e q =
    (q.0, λ k. ((q.1 k).0, sym (kept-same (read (upcoming a old.bytes))) ∙ (q.1 k).1))
takes-kept true view read a b old new (Err f) e q =
    (q.0, λ k l. rw (← (kept-same (read (upcoming a old.bytes)))) (q.1 k l), q.2)

-- ---- a scan of a frame, with zeros after its data

module _ (frame : Frame) (cs : List Component) (p : Pass) (vias : List Via) (n : ℕ) (arrays : Arrays)
    (fits : AllByRecursion (Fits frame) cs) (sized : AreArrays cs arrays) where
  -- its blocks in turn
  abbrev in_turn : Reads Counted
  in_turn t = blocks_from p vias n (spots_of frame cs) (counted_at_start n arrays) t

  abbrev all_at : List ℕ → Outcome (Arrays × Option Marker)
  all_at bytes = arrays_at p n vias (spots_of frame cs) arrays bytes

  -- a block is refused
  pub zeros-refused : {X Y : Type 0} (v : X → Arrays × Option Marker) (view : Y → Counted) (d : Ahead) (old new : Stream)
      (e : Error) → Takes view in_turn fresh old (Err e) d new → Answers v all_at old (Err e) new
  zeros-refused v view d old new e q =
      answers-as v (scan_from p vias n (spots_of frame cs) arrays) all_at old new (Err e)
      (frame-scans frame cs p vias n arrays old.bytes fits sized)
      (scan-stopped v view p vias n (spots_of frame cs) arrays d old new e q)

  -- all blocks are read, and the marker after them
  pub zeros-ended : (next : Counted) (d : Ahead) (old mid new : Stream) (r : Result (Option Marker) Error)
      → Takes (λ (u : Unit {0}). next) in_turn fresh old (Ok tt) d mid
      → Answers (λ (m : Option Marker). m) (λ bytes. marker_from (upcoming d bytes)) mid r new
      → Answers (λ (m : Option Marker). (next.reached.arrays, m)) all_at old r new
  zeros-ended next d old mid new r q h =
      answers-as (λ (m : Option Marker). (next.reached.arrays, m)) (scan_from p vias n (spots_of frame cs) arrays) all_at
      old new r (frame-scans frame cs p vias n arrays old.bytes fits sized)
      (scan-ended p vias n (spots_of frame cs) arrays next d old mid new r q h)

-- ---- a scan up to its first fault

-- its blocks in intervals of n, after which nothing follows the markers
module _ (p : Pass) (vias : List Via) (n : ℕ) (spots : List Spot) (arrays : Arrays) where
  abbrev reached_of : List ℕ → BlocksTo (Option Marker)
  reached_of bytes = blocks_reached p vias n spots arrays bytes

  abbrev text_of : List ℕ → Text
  text_of bytes = upcoming (fresh_before Nothing) bytes

  abbrev start : Counted
  start = counted_before Nothing n arrays

  abbrev read : Reads Counted
  read t = blocks_from p vias n spots start t

  -- what is reached, by what is reached of its blocks
  abbrev marked : Through Counted Text → BlocksTo (Option Marker)
  marked r = record { reached = r.reached.reached.arrays; unread = r.unread; rest = r.rest >>= marker_from }

  reached-is : (bytes : List ℕ) → reached_of bytes ≡ marked (counted_reached p vias n spots start (text_of bytes))
  unfolding blocks_reached
  reached-is bytes = refl

  reached-whole : (bytes : List ℕ) (next : Counted) (t : Text) → read (text_of bytes) ≡ Ok (next, t)
      → reached_of bytes ≡ record { reached = next.reached.arrays; unread = None; rest = marker_from t }
  reached-whole bytes next t e =
      reached-is bytes ∙ ap marked (counted-whole p vias n spots start (text_of bytes) next t e)

  rest-refused : (bytes : List ℕ) (f : Fault) → read (text_of bytes) ≡ Err f → (reached_of bytes).rest ≡ Err f
  rest-refused bytes f e =
      ap (λ (r : BlocksTo (Option Marker)). r.rest) (reached-is bytes)
      ∙ ap (λ (o : Result Text Fault). o >>= marker_from) (counted-fault p vias n spots start (text_of bytes) f e)

  -- a block is refused
  pub answers-refused : {X Y : Type 0} (v : X → Option Marker) (view : Y → Counted) (d : Ahead) (old new : Stream)
      (e : Error) → Takes view read (fresh_before Nothing) old (Err e) d new
      → Answers v (λ bytes. (reached_of bytes).rest) old (Err e) new
  answers-refused v view d old new e q = (
    q.0,
    λ k l. Names-through e (read (text_of old.bytes)) (reached_of old.bytes).rest (rest-refused old.bytes) (q.1 k l),
    q.2,
  )

  pub arrays-refused : (X Y : Type 0) (held : Arrays) (unread : Option taken.Spot) (old new : Stream) (e : Error)
      → OnToldRefusal {X = X} old new (Err e)
      (IsReached (counted_reached p vias n spots start (text_of old.bytes)) held unread)
      → OnTold {X = Y} old new (Err e) (held ≡ (reached_of old.bytes).reached)
  arrays-refused X Y held unread old new e h = λ k l.
      if-refused-as e (λ is. is.0 ∙ sym (ap (λ (r : BlocksTo (Option Marker)). r.reached) (reached-is old.bytes))) (h k l)

  pub unread-refused : (X Y : Type 0) (held : Arrays) (unread : Option taken.Spot) (old new : Stream) (e : Error)
      → OnToldRefusal {X = X} old new (Err e)
      (IsReached (counted_reached p vias n spots start (text_of old.bytes)) held unread)
      → OnTold {X = Y} old new (Err e) (option_map spot_of unread ≡ (reached_of old.bytes).unread)
  unread-refused X Y held unread old new e h = λ k l.
      if-refused-as e (λ is. is.1 ∙ sym (ap (λ (r : BlocksTo (Option Marker)). r.unread) (reached-is old.bytes))) (h k l)

  -- all blocks are read, and the marker after them
  module _ (next : Counted) (d : Ahead) (old mid new : Stream) (r : Result (Option Marker) Error)
      (all : Takes (λ (u : Unit {0}). next) read (fresh_before Nothing) old (Ok tt) d mid) where
    whole : old.known ≡ true → reached_of old.bytes
        ≡ record { reached = next.reached.arrays; unread = None; rest = marker_from (upcoming d mid.bytes) }
    whole k = reached-whole old.bytes next (upcoming d mid.bytes) (all.1 k).1

    pub answers-ended : Answers (λ (m : Option Marker). m) (λ bytes. marker_from (upcoming d bytes)) mid r new
        → Answers (λ (m : Option Marker). m) (λ bytes. (reached_of bytes).rest) old r new
    answers-ended h =
        Continues-answers (λ (m : Option Marker). m) (λ bytes. (reached_of bytes).rest)
        (λ bytes. marker_from (upcoming d bytes)) old mid new r
        (all.0, λ k. ((all.1 k).0, ap (λ (r : BlocksTo (Option Marker)). r.rest) (whole k))) h

    pub arrays-ended : OnTold old new r (next.reached.arrays ≡ (reached_of old.bytes).reached)
    arrays-ended = told-any old new r (λ k. sym (ap (λ (r : BlocksTo (Option Marker)). r.reached) (whole k)))

    pub unread-ended : (unread : Option taken.Spot) → unread ≡ None
        → OnTold old new r (option_map spot_of unread ≡ (reached_of old.bytes).unread)
    unread-ended unread none =
        told-any old new r (λ k. ap (option_map spot_of) none
        ∙ sym (ap (λ (r : BlocksTo (Option Marker)). r.unread) (whole k)))
