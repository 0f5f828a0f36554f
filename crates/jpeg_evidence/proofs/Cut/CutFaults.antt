-- A fault of the data of a scan stays where more bytes come after them, but for their end.
use Rattle.std.proofs.Common.{◌≡◌, ℕ, zero, suc, ◌+◌, Bool, true, false, List, [], ◌∷◌, ◌++◌}
use Rattle.std.proofs.Common.{get_or, refl, sym, ap, subst, Ok, Err, Option}
use Rattle.std.specs.Prelude.{if◌then◌else◌}
use Rattle.std.specs.List.{AllByRecursion}
use Rattle.jpeg_bits.specs.Codes.{IsTable}
use Rattle.jpeg_bits.specs.Intervals.{is_restart}
use Rattle.jpeg_bits.specs.Passes.{Pass, Via}
use Rattle.jpeg_bits.specs.Reading.{End, Fault, Malformed, Outcome}
use Rattle.jpeg_bits.specs.Reading as outcomes
use Rattle.jpeg_bits.specs.declared.marker.Marker.{Marker}
use Rattle.jpeg_meaning.specs.Brought.{after_interval, after_intervals, interval_reached, intervals_reached, or_first}
use Rattle.jpeg_meaning.specs.Order.{Spot}
use Rattle.jpeg_meaning.specs.Scans.{Arrays}
use Rattle.jpeg_meaning.specs.ScanSegments.{Coding, vias_from}
use Rattle.jpeg_meaning.proofs.Partial.ReachedIntervals.{Scanned, next_reached}
use Rattle.jpeg_meaning.proofs.Longer.LongerBits.{AreSized, HasSized}
use Rattle.jpeg_meaning.proofs.Longer.LongerData.{interval-stay, interval-stays}
use Rattle.jpeg_meaning.proofs.Longer.LongerSegments.{Stays, after-stays, stays-bind}
use Rattle.jpeg_meaning.proofs.Longer.LongerSegments.Stays.{stays-end, stays-err, stays-ok}

-- ---- tables

vias-sized : (base slot : ℕ) (codings : List Coding) (d : Via) → HasSized d
    → AllByRecursion (λ k. IsTable k.dc × IsTable k.ac) codings → HasSized (get_or (vias_from base codings) slot d)
unfolding vias_from
vias-sized base slot [] d h all = h
vias-sized base zero (k ∷ more) d h all = (all.0.0.counted, all.0.1.counted)
vias-sized base (suc slot) (k ∷ more) d h all = vias-sized (base + 1) slot more d h all.1

-- The tables of a scan that exist have 16 counts.
pub tables-sized : (codings : List Coding) → AllByRecursion (λ k. IsTable k.dc × IsTable k.ac) codings
    → AreSized (vias_from 0 codings)
tables-sized codings all slot = vias-sized 0 slot codings _ (refl, refl) all

-- ---- a scan

module _ (more : List ℕ) (p : Pass) (vias : List Via) (sized : AreSized vias) where
  -- after an interval that isn't the last
  next-stay : (k : ℕ) (reached : Arrays → List ℕ → Scanned) (a b : Arrays) (x y : Option Spot)
      (r s : Outcome (Option Marker)) → Stays more r s
      → ((x : Option Marker × List ℕ) → r ≡ Ok x → (left : List ℕ)
      → Stays more (reached a left).rest (reached b (left ++ more)).rest)
      → Stays more (next_reached reached a x (outcomes.◌>>=◌ r (after_interval k))).rest
      (next_reached reached b y (outcomes.◌>>=◌ s (after_interval k))).rest
  next-stay k reached a b x y r s (stays-ok z rest) each = go (is_restart k z)
    where
      go : (t : Bool) → Stays more (next_reached reached a x (if t then Ok rest else Err Malformed)).rest
          (next_reached reached b y (if t then Ok (rest ++ more) else Err Malformed)).rest
      go true = each (z, rest) refl rest
      go false = stays-err Malformed
  next-stay k reached a b x y r s (stays-err g) each = stays-err g
  next-stay k reached a b x y r s (stays-end q) each = stays-end _

  -- the marker after the data of a scan, or their fault
  pub data-stay : (k : ℕ) (spots : List Spot) (groups : List (List Spot)) (arrays : Arrays) (bytes : List ℕ)
      → Stays more (intervals_reached p vias k spots groups arrays bytes).rest
      (intervals_reached p vias k spots groups arrays (bytes ++ more)).rest
  unfolding intervals_reached
  data-stay k spots [] arrays bytes =
      stays-bind more _ _ after_intervals after_intervals (interval-stay p vias spots arrays bytes more sized) (after-stays more)
  data-stay k spots (next ∷ groups) arrays bytes =
      let r = interval_reached p vias spots arrays bytes in
      let s = interval_reached p vias spots arrays (bytes ++ more) in
      let others = intervals_reached p vias (suc k) next groups in
      next-stay k others r.reached s.reached (or_first r.unread next) (or_first s.unread next) r.rest s.rest
      (interval-stay p vias spots arrays bytes more sized)
      (λ x e left.
      subst (λ (a : Arrays). Stays more (others r.reached left).rest (others a (left ++ more)).rest)
      (sym (ap (λ (y : Arrays × Outcome (Option Marker)). y.0) (interval-stays p vias spots arrays bytes more x e)))
      (data-stay (suc k) next groups r.reached left))
