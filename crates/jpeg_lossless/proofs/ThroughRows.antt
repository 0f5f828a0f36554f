-- The intervals of a scan as far as their rows can be read, where nothing follows the markers that end them: what one
-- interval gives, and steps of the loop over all.
use Rattle.std.proofs.Common.{◌≡◌, ◌∙◌, ◌-◌, ◌<◌, ◌≤◌, ℕ, zero, suc, true, false, List, Result, Ok, Err, refl, sym, ap}
use Rattle.std.proofs.Common.{arith}
use Rattle.std.proofs.lemmas.Bool.{le-leb, lt-leb}
use Rattle.std.proofs.lemmas.Grind.{common_steps}
use Rattle.std.specs.Prelude.{Option}
use Rattle.jpeg_bits.specs.Entropy.{Ahead, Takes, Text, fresh_before, marker_from, upcoming}
use Rattle.jpeg_bits.specs.Intervals.{is_restart}
use Rattle.jpeg_bits.specs.Reading.{Answers, Fault, Malformed, NamesFormat, Outcome, ◌>>=◌}
use Rattle.jpeg_bits.specs.Stream.{Stream}
use Rattle.jpeg_bits.specs.declared.beyond.Beyond.{Beyond}
use Rattle.jpeg_bits.specs.declared.beyond.Beyond.TheVariants.{Nothing}
use Rattle.jpeg_bits.specs.declared.error.Error.{Error}
use Rattle.jpeg_bits.specs.declared.error.Error.TheVariants as errors
use Rattle.jpeg_bits.specs.declared.marker.Marker.{Marker}
use Rattle.jpeg_bits.proofs.Loops.{Continues-answers, Continues-err, Names-through}
use Rattle.jpeg_lossless.specs.PlanesRead.{PlanesTo, after_restart, interval_through, intervals_through}
use Rattle.jpeg_lossless.specs.Rows.{planes_after_rows, with_mcu_rows}
use Rattle.jpeg_lossless.specs.RowsReached.{rows_reached}
use Rattle.jpeg_lossless.specs.Scans.{Way, scan_tables}
use Rattle.jpeg_lossless.proofs.PlaneLoops.{named}

abbrev Planes : Type 0
Planes = List (List ℕ)

-- ---- errors

-- an error isn't out of memory, whatever a call would have given
pub other-error : {X Y : Type 0} (e : Error) → (◌≡◌ {A = Result X Error} (Err e) (Err errors.OutOfMemory) → ⊥)
    → ◌≡◌ {A = Result Y Error} (Err e) (Err errors.OutOfMemory) → ⊥
other-error errors.OutOfMemory h is = h refl
other-error (errors.Format text) h is = cc
other-error (errors.Unsupported feature) h is = cc
other-error (errors.Io x) h is = cc
other-error (errors.Internal text) h is = cc

-- What a call left of planes is this, unless memory ran out.
abbrev pub LeavesPlanes : {X : Type 0} → Stream → Result X Error → Stream → Planes → Planes → Type 0
LeavesPlanes old r new now expected =
    old.known ≡ true → new.known ≡ true → (r ≡ Err errors.OutOfMemory → ⊥) → now ≡ expected

-- ---- an interval

module _ (w : Way) (n : ℕ) (planes : Planes) (beyond : Beyond) (a : Ahead) (begins : a ≡ fresh_before beyond)
    (nothing : beyond ≡ Nothing) where
  stops : a ≡ fresh_before Nothing
  stops = begins ∙ ap (λ (b : Beyond). fresh_before b) nothing

  -- the planes that its rows leave
  pub planes-through : (bytes : List ℕ) (now : Planes)
      → now ≡ with_mcu_rows w true (rows_reached (scan_tables w n) (upcoming a bytes)).0 planes
      → now ≡ (interval_through w n planes bytes).0
  unfolding interval_through
  planes-through bytes now is =
      is ∙ ap (λ (x : Ahead). with_mcu_rows w true (rows_reached (scan_tables w n) (upcoming x bytes)).0 planes) stops

  -- the marker after rows that were read
  abbrev marker_after : Result (Planes × Text) Fault → Outcome (Option Marker)
  marker_after o = o >>= λ r. marker_from r.1

  end-through : (bytes : List ℕ) (o : Result (Planes × Text) Fault)
      → planes_after_rows w true n planes (upcoming a bytes) ≡ o
      → (interval_through w n planes bytes).1 ≡ marker_after o
  unfolding interval_through
  end-through bytes o is =
      ap (λ (x : Ahead). marker_after (planes_after_rows w true n planes (upcoming x bytes))) (sym stops)
      ∙ ap marker_after is

  -- A refusal of its rows is one of the interval.
  pub refused-through : {X : Type 0} (view : X → Planes) (b : Ahead) (old new : Stream) (e : Error)
      → Takes view (planes_after_rows w true n planes) a old (Err e) b new
      → Answers {X = Option Marker} (λ m. m) (λ bytes. (interval_through w n planes bytes).1) old (Err e) new
  refused-through view b old new e read = (
    read.0,
    λ k l. Names-through e (planes_after_rows w true n planes (upcoming a old.bytes)) _
        (λ f h. end-through old.bytes (Err f) h) (read.1 k l),
    read.2,
  )

  -- The marker after its rows is that of the interval.
  pub marker-through : {X : Type 0} (x : X) (view : X → Planes) (b : Ahead) (old mid new : Stream)
      (r : Result (Option Marker) Error) → Takes view (planes_after_rows w true n planes) a old (Ok x) b mid
      → Answers (λ m. m) (λ bytes. marker_from (upcoming b bytes)) mid r new
      → Answers (λ m. m) (λ bytes. (interval_through w n planes bytes).1) old r new
  marker-through x view b old mid new r read met =
      Continues-answers (λ m. m) (λ bytes. (interval_through w n planes bytes).1)
      (λ bytes. marker_from (upcoming b bytes)) old mid new r
      (read.0, λ k. ((read.1 k).0, end-through old.bytes (Ok (view x, upcoming b mid.bytes)) (read.1 k).1)) met

-- ---- the loop over the intervals

-- what follows an interval that left these planes, and after which this stands
abbrev pub next_through : ℕ → Way → ℕ → ℕ → ℕ → Planes → Result (List ℕ) Fault → PlanesTo
next_through turns w per k left planes o = elim o as (λ _. PlanesTo) [
  | Ok rest ↦ intervals_through turns w per (suc k) (left - per) planes rest
  | Err fault ↦ (planes, Err fault)
]

pub through-more : (turns : ℕ) (w : Way) (per k left : ℕ) (planes : Planes) (bytes : List ℕ) → 0 < turns → per < left
    → let r = interval_through w per planes bytes in
    intervals_through turns w per k left planes bytes
    ≡ next_through (turns - 1) w per k left r.0 (r.1 >>= after_restart k)
unfolding intervals_through
through-more zero w per k left planes bytes some more = absurd (omega arith)
through-more (suc turns) w per k left planes bytes some more =
    let less : suc turns - 1 ≡ turns = omega arith in
    rw (lt-leb left per more, less, intervals_through) refl

pub through-last : (turns : ℕ) (w : Way) (per k left : ℕ) (planes : Planes) (bytes : List ℕ) → 0 < turns → left ≤ per
    → intervals_through turns w per k left planes bytes ≡ interval_through w left planes bytes
unfolding intervals_through
through-last zero w per k left planes bytes some last = absurd (omega arith)
through-last (suc turns) w per k left planes bytes some last = rw (le-leb left per last, intervals_through) refl

-- the end of what is read
abbrev pub end_of : (List ℕ → PlanesTo) → List ℕ → Outcome (Option Marker)
end_of read bytes = (read bytes).1

-- A call answered with the marker after what is read.
abbrev pub Ends : (List ℕ → PlanesTo) → Stream → Result (Option Marker) Error → Stream → Type 0
Ends read old r new = Answers (λ (m : Option Marker). m) (end_of read) old r new

-- From old, what is read of the whole is what is read at cur of these rows that are left of it.
pub record Goes (whole : List ℕ → PlanesTo) (old : Stream) (turns : ℕ) (w : Way) (per k left : ℕ) (planes : Planes)
    (cur : Stream) : Type 0 where
  pub failed : cur.failed ≡ old.failed
  pub stays : old.known ≡ true → cur.known ≡ true
  pub same : old.known ≡ true → whole old.bytes ≡ intervals_through turns w per k left planes cur.bytes

-- before the first interval
pub goes-begun : (turns same : ℕ) (w : Way) (per left : ℕ) (planes : Planes) (old : Stream) → same ≡ turns
    → Goes (intervals_through turns w per 0 left planes) old same w per 0 left planes old
goes-begun turns same w per left planes old is = record {
  failed = refl;
  stays = λ known. known;
  same = λ known. ap (λ (n : ℕ). intervals_through n w per 0 left planes old.bytes) (sym is);
}

module _ {whole : List ℕ → PlanesTo} {turns : ℕ} {w : Way} {per k left : ℕ} {planes : Planes} {old cur : Stream}
    (some : 0 < turns) (goes : Goes whole old turns w per k left planes cur) where
  -- ---- an interval before the last

  -- where it isn't read, nothing that follows is
  fault-through : per < left → (f : Fault) → end_of (interval_through w per planes) cur.bytes ≡ Err f
      → intervals_through turns w per k left planes cur.bytes ≡ ((interval_through w per planes cur.bytes).0, Err f)
  fault-through more f h =
      through-more turns w per k left planes cur.bytes some more
      ∙ ap (λ (o : Outcome (Option Marker)). next_through (turns - 1) w per k left
      (interval_through w per planes cur.bytes).0 (o >>= after_restart k)) h

  pub refused-end : (new : Stream) (e : Error) → per < left → Ends (interval_through w per planes) cur (Err e) new
      → Ends whole old (Err e) new
  refused-end new e more a =
      Continues-err {X = Option Marker} {Z = Option Marker} (λ m. m) (λ m. m) (end_of whole)
      (end_of (intervals_through turns w per k left planes)) (end_of (interval_through w per planes)) old cur new e
      (λ f h. ap (λ (r : PlanesTo). r.1) (fault-through more f h))
      (goes.failed, λ known. (goes.stays known, ap (λ (r : PlanesTo). r.1) (goes.same known))) a

  pub refused-planes : (new : Stream) (e : Error) (now : Planes) → per < left
      → Ends (interval_through w per planes) cur (Err e) new
      → LeavesPlanes {X = Option Marker} cur (Err e) new now (interval_through w per planes cur.bytes).0
      → LeavesPlanes {X = Option Marker} old (Err e) new now (whole old.bytes).0
  refused-planes new e now more a is = λ known l there.
      let here = goes.stays known in
      let fault = named {Y = Option Marker} e (end_of (interval_through w per planes) cur.bytes) there (a.1 here l) in
      is here l there ∙ sym (ap (λ (r : PlanesTo). r.0) (goes.same known ∙ fault-through more fault.0 fault.1))

  -- where a marker was met after it
  met-through : (new : Stream) (m : Option Marker) → per < left → Ends (interval_through w per planes) cur (Ok m) new
      → old.known ≡ true → whole old.bytes
      ≡ next_through (turns - 1) w per k left (interval_through w per planes cur.bytes).0
      (after_restart k (m, new.bytes))
  met-through new m more a known =
      goes.same known ∙ through-more turns w per k left planes cur.bytes some more
      ∙ ap (λ (o : Outcome (Option Marker)). next_through (turns - 1) w per k left
      (interval_through w per planes cur.bytes).0 (o >>= after_restart k)) (a.1 (goes.stays known)).1

  -- The restart marker that is due stands there.
  pub goes-on : (new : Stream) (m : Option Marker) (now : Planes) (fewer next less : ℕ) → per < left
      → Ends (interval_through w per planes) cur (Ok m) new
      → LeavesPlanes cur (Ok m) new now (interval_through w per planes cur.bytes).0
      → is_restart k m ≡ true → fewer ≡ turns - 1 → next ≡ suc k → less ≡ left - per
      → Goes whole old fewer w per next less now new
  goes-on new m now fewer next less more a is restart f n l = record {
    failed = a.0 ∙ goes.failed;
    stays = λ known. (a.1 (goes.stays known)).0;
    same = λ known.
        let here = goes.stays known in
        let left_are = is here (a.1 here).0 (λ e. cc) in
        met-through new m more a known ∙ rw (restart, f, n, l, left_are) refl;
  }

  -- Another marker stands there, or none.
  broken-through : (new : Stream) (m : Option Marker) → per < left
      → Ends (interval_through w per planes) cur (Ok m) new → is_restart k m ≡ false → old.known ≡ true
      → whole old.bytes ≡ ((interval_through w per planes cur.bytes).0, Err Malformed)
  broken-through new m more a broken known = met-through new m more a known ∙ rw broken refl

  pub broken-end : (new : Stream) (m : Option Marker) (e : Error) → per < left
      → Ends (interval_through w per planes) cur (Ok m) new → is_restart k m ≡ false → NamesFormat e
      → Ends whole old (Err e) new
  broken-end new m e more a broken names =
      let is = broken-through new m more a broken in grind (arith, common_steps)

  pub broken-planes : (new : Stream) (m : Option Marker) (now : Planes) → per < left
      → Ends (interval_through w per planes) cur (Ok m) new
      → LeavesPlanes cur (Ok m) new now (interval_through w per planes cur.bytes).0 → is_restart k m ≡ false
      → old.known ≡ true → now ≡ (whole old.bytes).0
  broken-planes new m now more a is broken known =
      let here = goes.stays known in
      is here (a.1 here).0 (λ e. cc) ∙ sym (ap (λ (r : PlanesTo). r.0) (broken-through new m more a broken known))

  -- ---- the last interval

  last-through : left ≤ per → old.known ≡ true → whole old.bytes ≡ interval_through w left planes cur.bytes
  last-through last known = goes.same known ∙ through-last turns w per k left planes cur.bytes some last

  pub last-end : (new : Stream) (r : Result (Option Marker) Error) → left ≤ per
      → Ends (interval_through w left planes) cur r new → Ends whole old r new
  last-end new r last a =
      Continues-answers (λ m. m) (end_of whole) (end_of (interval_through w left planes)) old cur new r
      (goes.failed, λ known. (goes.stays known, ap (λ (r : PlanesTo). r.1) (last-through last known))) a

  pub last-planes : (new : Stream) (r : Result (Option Marker) Error) (now : Planes) → left ≤ per
      → LeavesPlanes cur r new now (interval_through w left planes cur.bytes).0
      → LeavesPlanes old r new now (whole old.bytes).0
  last-planes new r now last is = λ known l there.
      is (goes.stays known) l there ∙ sym (ap (λ (r : PlanesTo). r.0) (last-through last known))
