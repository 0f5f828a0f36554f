-- The beginning of the data of a scan of an image has the own blocks of its components at the levels after the scan, as
-- far as it has them wholly, and all others at the levels before it.
use Rattle.std.proofs.Common.{◌≡◌, ◌⊎◌, inl, inr, ◌*◌, ◌/◌, ◌%◌, ℕ, zero, suc, Bool, true, false, List, [], ◌∷◌, ◌++◌}
use Rattle.std.proofs.Common.{Err, append_assoc, length-append, length, map, get_or, slice_get, Option, Some, None}
use Rattle.std.proofs.Common.{Ok, refl, sym, ap, ◌∙◌, subst, arith, ap₂, replicate, length-set, ◌≤◌}
use Rattle.std.specs.List.{AllByRecursion}
use Rattle.std.proofs.lemmas.List.{length-replicate}
use Rattle.std.proofs.lemmas.Option.{slice_get_past}
use lib.ListN.{length-map}
use Rattle.jpeg_bits.specs.Passes.{Block, Pass, whole_pass, zero_block}
use Rattle.jpeg_bits.specs.Intervals.{first_group, other_groups}
use Rattle.jpeg_bits.specs.Reading.{End, Outcome}
use Rattle.jpeg_bits.specs.Written.{IsMarker, marker}
use Rattle.jpeg_bits.specs.declared.marker.Marker.{Marker}
use Rattle.jpeg_bits.specs.declared.marker.Marker.TheVariants.{EOI}
use Rattle.jpeg_segments.specs.Frame.{Component, Frame}
use Rattle.jpeg_segments.specs.ScanHeader.{Scan}
use Rattle.jpeg_meaning.specs.Brought.{BlocksTo, scan_reached}
use Rattle.jpeg_meaning.specs.Found.{Found, Said}
use Rattle.jpeg_meaning.specs.InTurn.{AreApart, AreArrays, Fits, IsIn}
use Rattle.jpeg_meaning.specs.Levels.{Levels, cut, nothing_sent, numbers_at, sent_after}
use Rattle.jpeg_meaning.specs.Order.{Spot, grid_of, mcu_size, own_spots, spots_of}
use Rattle.jpeg_meaning.specs.Scans.{Arrays, block_at, put_block, put_blocks}
use Rattle.jpeg_meaning.specs.ScanSegments.{Coding, arrays_before, components_of, is_progressive, pass_of}
use Rattle.jpeg_meaning.specs.ScanSegments.{after_restarts, scan_arrays, vias_from}
use Rattle.jpeg_meaning.specs.WrittenScans.{Coefficients, IsOwn}
use Rattle.jpeg_meaning.proofs.Order.Apart.{At, at-got, get-at, spots-apart}
use Rattle.jpeg_meaning.proofs.Written.BroughtLevels.{CodingFacts, KnownScan, PassSo, Progress, Scanned, Shaped, count, facts}
use Rattle.jpeg_meaning.proofs.Written.BroughtLevels.{holds-now, is-legal, low, progressive, reading, scan-brings, sequential}
use Rattle.jpeg_meaning.proofs.Written.BroughtLevels.{sequential-arrays, single, stands, unsent, zero-at, zeros-now}
use Rattle.jpeg_meaning.proofs.Order.OwnSpots.{IsOwnSpot, own-only}
use Rattle.jpeg_meaning.proofs.Written.ReadTurns.{ok-same}
use Rattle.jpeg_meaning.proofs.Written.WrittenFrameScans.{IsReadyAt, array-at, in-all, put-size, zeros-in}
use Rattle.jpeg_evidence.specs.FirstBlocks.{StandWhole}
use Rattle.jpeg_meaning.specs.LongerStreams.{IsMost}
use Rattle.jpeg_meaning.specs.LongerStreams.{IsDcAlone, IsKeptBefore, Puts, ReadsOn, arrays_of}
use Rattle.jpeg_meaning.specs.LongerStreams.Puts.{finished, put}
use Rattle.jpeg_evidence.proofs.Cut.CutBlocks.{HasOwn}
use Rattle.jpeg_meaning.proofs.Longer.LongerBlocks.{reached_are_read}
use Rattle.jpeg_meaning.proofs.Longer.LongerData.{both}
use Rattle.jpeg_evidence.proofs.Cut.FirstWritten.{first_blocks_are_written}
use Rattle.jpeg_meaning.proofs.Longer.LongerScans.{CanReachOf, longer_data_read_most, longer_data_read_on}
use Rattle.jpeg_meaning.proofs.Longer.LongerScans.{unread_is_next}
use Rattle.jpeg_meaning.proofs.Longer.LongerSegments.{nothing-left, short-ends}
use Rattle.jpeg_evidence.proofs.Cut.CutFaults.{data-stay, tables-sized}
use Rattle.jpeg_evidence.proofs.Cut.ReachedFirst.{first_blocks_are_reached}
use Rattle.jpeg_evidence.proofs.Cut.StandingBlocks.{whole_data_have_all_blocks}
use Rattle.jpeg_evidence.proofs.Cut.SentCuts.{SentMost, cut_scans_have_what_was_sent, kept-ready, sequential_levels}
use Rattle.jpeg_evidence.proofs.Cut.WrittenCuts.{eoi_code, eoi_ends, scan-written}

-- ---- levels at a spot

abbrev pub levels_in : (ℕ → Levels) → Option Coding → Levels
levels_in levels (Some k) = levels k.index
levels_in levels None = nothing_sent

-- the levels, before a scan, of the component that has a spot of it
abbrev pub levels_at : List Coding → (ℕ → Levels) → Spot → Levels
levels_at codings levels s = levels_in levels (slice_get codings s.slot)

-- ---- lists of codings

all-fit : (w : Said) (f : Frame) (ks : List Coding) → Shaped f → AllByRecursion (CodingFacts w f) ks
    → AllByRecursion (Fits f) (components_of ks)
all-fit w f [] shape h = tt
all-fit w f (k ∷ ks) shape h = (shape.fits k.index k.component h.0.at, all-fit w f ks shape h.1)

all-sized : (w : Said) (f : Frame) (before : Arrays) (ks : List Coding)
    → ((k : ℕ) (c : Component) → At k f.components c → length (get_or before k []) ≡ c.blocks_high * c.blocks_wide)
    → AllByRecursion (CodingFacts w f) ks
    → AreArrays (components_of ks) (map (λ (c : Coding). get_or before c.index []) ks)
unfolding AreArrays
all-sized w f before [] sized h = tt
all-sized w f before (k ∷ ks) sized h = (sized k.index k.component h.0.at, all-sized w f before ks sized h.1)

-- ---- blocks that are put

puts-count : (spots : List Spot) (before after : Arrays) → Puts spots before after → length after ≡ length before
puts-count spots before after (finished arrays) = refl
puts-count spots before after (put s more b old new p) =
    puts-count more (put_block s b before) after p ∙ length-set before s.slot _

puts-size : (spots : List Spot) (before after : Arrays) → Puts spots before after → (slot : ℕ)
    → length (get_or after slot []) ≡ length (get_or before slot [])
unfolding put_blocks
puts-size spots before after (finished arrays) slot = refl
puts-size spots before after (put s more b old new p) slot =
    puts-size more (put_block s b before) after p slot ∙ put-size (λ x. b) slot (s ∷ []) before

-- where no spot is left
none-put : (spots : List Spot) (before after : Arrays) → Puts spots before after → length spots ≡ 0 → after ≡ before
none-put spots before after (finished arrays) e = refl
none-put spots before after (put s more b old new p) e = absurd (omega arith)

-- where shorter data bring all blocks, longer ones bring no other
nothing-further : (spots : List Spot) (before shorter longer : Arrays) (r : ReadsOn spots before shorter longer)
    → length spots ≤ length r.done → longer ≡ shorter
nothing-further spots before shorter longer r all =
    let f = r.further in
    let parts = ap (λ (l : List Spot). length l) r.parts ∙ length-append r.done r.others in
    let more = ap (λ (l : List Spot). length l) f.parts ∙ length-append f.done f.others in
    none-put f.done shorter longer f.puts (omega (arith, parts, more))

-- ---- a scan of a frame

module _ {w : Said} {f : Frame} {array : Coefficients} {levels : ℕ → Levels} {progress : Progress} {s : Scan}
    {codings : List Coding} {bytes : List ℕ}
    (known : KnownScan w f array levels w.scanned progress s codings bytes) where
  abbrev now : Found
  now = reading w w.scanned progress.0 progress.1 progress.2

  abbrev p : Pass
  p = pass_of s

  abbrev spots : List Spot
  spots = spots_of f (components_of codings)

  abbrev before : Arrays
  before = arrays_of now f codings

  -- what the scan reaches of these bytes
  abbrev pub reached_of : List ℕ → BlocksTo (Option Marker)
  reached_of front =
      scan_reached p (w.restart * mcu_size (components_of codings)) (vias_from 0 codings) spots before front

  -- the whole scan
  abbrev pub scanned : Scanned w f array levels w.scanned progress.0 progress.1 progress.2 s codings bytes
  scanned = scan-brings known

  unsent-at : is_progressive f.process ≡ false → p ≡ whole_pass → (x : Spot)
      → levels_at codings levels x ≡ nothing_sent
  unsent-at e q x = go (slice_get codings x.slot) refl
    where
      go : (o : Option Coding) → slice_get codings x.slot ≡ o → levels_in levels o ≡ nothing_sent
      go None a = refl
      go (Some k) a = unsent known e q k x.slot (get-at x.slot codings k a)

  pub size-now : (k : ℕ) (c : Component) → At k f.components c
      → length (get_or (arrays_before now f) k []) ≡ c.blocks_high * c.blocks_wide
  size-now k c t = go (is_progressive f.process) refl
    where
      go : (b : Bool) → is_progressive f.process ≡ b
          → length (get_or (arrays_before now f) k []) ≡ c.blocks_high * c.blocks_wide
      go true e = ((known.framed.kept e).each k c t).sized
      go false e =
          ap (λ (a : Arrays). length (get_or a k [])) (sequential-arrays now f e)
          ∙ ap (λ (l : List Block). length l) (zero-at f.components k c t)
          ∙ length-replicate (c.blocks_high * c.blocks_wide) zero_block

  -- the own blocks of the scan's components before it
  kept-own : (k : Coding) (x : Spot) → At x.slot codings k → IsOwn (grid_of k.component) x.index
      → block_at before x ≡ cut (levels k.index)
      (array k.index (x.index / k.component.blocks_wide) (x.index % k.component.blocks_wide))
  kept-own k x t own =
      ap (λ (l : List Block). get_or l x.index zero_block) (array-at (arrays_before now f) codings k x.slot t)
      ∙ (holds-now known known.says.so k x.slot t).each x.index own

  sent-own : (k : Coding) (x : Spot) → At x.slot codings k → IsOwn (grid_of k.component) x.index
      → known.written.sent x ≡ array k.index (x.index / k.component.blocks_wide) (x.index % k.component.blocks_wide)
  sent-own k x t own = known.written.is_own x k (at-got x.slot codings k t) own

  levels-own : (k : Coding) (x : Spot) → At x.slot codings k → levels k.index ≡ levels_at codings levels x
  levels-own k x t = ap (levels_in levels) (sym (at-got x.slot codings k t))

  -- what is kept at an own spot
  own-kept : (k : Coding) (x : Spot) → At x.slot codings k → IsOwn (grid_of k.component) x.index
      → IsKeptBefore p (levels_at codings levels x) (known.written.sent x) (block_at before x)
  own-kept k x t own =
      subst (λ (l : Levels). IsKeptBefore p l (known.written.sent x) (block_at before x)) (levels-own k x t)
      (record {
        legal = is-legal known k x.slot t;
        sized = known.framed.sized k.index;
        kept_is = kept-own k x t own ∙ ap (λ (b : Block). cut (levels k.index) b) (sym (sent-own k x t own));
      })

  -- what is kept at each spot of the scan
  kept-at : PassSo f s → (x : Spot) → IsIn x spots
      → IsKeptBefore p (levels_at codings levels x) (known.written.sent x) (block_at before x) ⊎ IsDcAlone p
  unfolding pass_of spots_of
  kept-at (sequential e q) x t =
      let zeros : block_at before x ≡ zero_block = zeros-in (arrays_before now f) codings x.slot x.index
      (zeros-now known e) in
      inl (subst (λ (l : Levels). IsKeptBefore p l (known.written.sent x) (block_at before x)) (sym (unsent-at e q x))
      (subst (λ (b : Block). IsKeptBefore p nothing_sent (known.written.sent x) b) (sym zeros)
      (subst (λ (y : Pass). IsKeptBefore y nothing_sent (known.written.sent x) zero_block) (sym q)
      (sequential_levels (known.written.sent x) (known.written.in_range x)).0)))
  kept-at (progressive e d (inl z) lt le) x t = inr (record { first = z; end = d z; low = low known })
  kept-at (progressive e d (inr one) lt le) x t =
      let k = single codings (count known ∙ one) in
      let first : At 0 codings k.0 = subst (λ (l : List Coding). At 0 l k.0) (sym k.1) refl in
      let g = grid_of k.0.component in
      let fits = known.shape.fits k.0.index k.0.component (stands known k.0 0 first) in
      let here : IsIn x (own_spots g) = subst (λ (l : List Coding). IsIn x (spots_of f (components_of l))) k.1 t in
      let own = in-all (IsOwnSpot g) (own_spots g) x (own-only g fits.own_wide) here in
      inl (own-kept k.0 x (subst (λ (n : ℕ). At n codings k.0) (sym own.slot) first) own.own)

  -- The beginning of the data has what was sent, at least the blocks that stand whole in it.
  pub scan-cut : (front more : List ℕ) → bytes ≡ front ++ more
      → SentMost (λ count. StandWhole f w.restart p codings known.written.sent count front) p spots
      (levels_at codings levels) known.written.sent before (reached_of front).reached
  scan-cut front more parts =
      cut_scans_have_what_was_sent f w.restart p codings array bytes known.written (levels_at codings levels) before
      front more (all-fit w f codings known.shape (facts known))
      (all-sized w f (arrays_before now f) codings size-now (facts known))
      known.exist (kept-at known.says.so) parts

  -- an own block that the beginning has
  own-sent : (front more : List ℕ) (parts : bytes ≡ front ++ more) (k : Coding) (x : Spot) → At x.slot codings k
      → IsOwn (grid_of k.component) x.index → IsIn x (scan-cut front more parts).holds.done
      → block_at (reached_of front).reached x
      ≡ cut (sent_after p (levels k.index))
      (array k.index (x.index / k.component.blocks_wide) (x.index % k.component.blocks_wide))
  own-sent front more parts k x t own here =
      (scan-cut front more parts).holds.first x here (own-kept k x t own)
      ∙ ap (λ (l : Levels). cut (sent_after p l) (known.written.sent x)) (sym (levels-own k x t))
      ∙ ap (λ (b : Block). cut (sent_after p (levels k.index)) b) (sent-own k x t own)

  -- an own block that it lacks
  own-unsent : (front more : List ℕ) (parts : bytes ≡ front ++ more) (k : Coding) (x : Spot) → At x.slot codings k
      → IsOwn (grid_of k.component) x.index → (IsIn x (scan-cut front more parts).holds.done → ⊥)
      → block_at (reached_of front).reached x
      ≡ cut (levels k.index)
      (array k.index (x.index / k.component.blocks_wide) (x.index % k.component.blocks_wide))
  own-unsent front more parts k x t own away = (scan-cut front more parts).holds.kept x away ∙ kept-own k x t own

  -- ---- the whole scan

  apart : AreApart spots
  apart = spots-apart f (components_of codings) (all-fit w f codings known.shape (facts known))

  ready : (x : Spot) → IsIn x spots
      → IsReadyAt p (vias_from 0 codings) before (λ x. numbers_at p.al (known.written.sent x)) x
  ready x t =
      kept-ready p codings (levels_at codings levels) known.written.sent before x known.exist (known.written.in_range x)
      (kept-at known.says.so x t)

  -- The whole data are reached up to the marker after them, with the blocks that are read of them.
  pub whole-reached : (fill code : ℕ) (m : Marker) (rest : List ℕ) → IsMarker code m
      → after_restarts (suc (length rest)) (Some m) rest ≡ Ok (Some m, rest)
      → both (reached_of (bytes ++ marker fill code rest)) ≡ (scanned.arrays, Ok (Some m, rest))
  unfolding scan_arrays
  whole-reached fill code m rest is ends =
      let n = w.restart * mcu_size (components_of codings) in
      let vias = vias_from 0 codings in
      let all = bytes ++ marker fill code rest in
      let reached = scan-written p n vias (λ x. numbers_at p.al (known.written.sent x)) spots before bytes fill code m
      rest (Some m, rest) is ends apart ready known.written.coded in
      let r = reached_are_read p n vias spots before all (Some m, rest) apart reached in
      let same : (reached_of all).reached ≡ scanned.arrays
      = ap (λ (y : (Arrays × Option Marker) × List ℕ). y.0.0)
      (ok-same _ _ (sym r.2 ∙ scanned.read fill code m rest is)) in
      ap₂ (λ (a : Arrays) (o : Outcome (Option Marker)). (a, o)) same reached

  -- ---- the first block that isn't read

  -- Of a beginning of the data it is the one after all that stand whole in it.
  pub cut-unread : (front more : List ℕ) (number : ℕ) → bytes ≡ front ++ more
      → IsMost (λ number. StandWhole f w.restart p codings known.written.sent number front) number
      → (reached_of front).unread ≡ slice_get spots number
  cut-unread front more number parts m =
      let n = w.restart * mcu_size (components_of codings) in
      let vias = vias_from 0 codings in
      let u : Spot → Block = λ x. numbers_at p.al (known.written.sent x) in
      unread_is_next p n vias spots before front number (record {
        holds = first_blocks_are_reached p n vias u spots before front number apart ready m.holds;
        most = λ k c. m.most k (first_blocks_are_written p n vias u spots before bytes front more k apart ready
            known.written.coded parts c);
      })

  -- In all data all blocks stand whole.
  all-stand : (more : List ℕ)
      → CanReachOf p (w.restart * mcu_size (components_of codings)) (vias_from 0 codings) spots before (bytes ++ more)
      (length spots)
  all-stand more =
      first_blocks_are_reached p (w.restart * mcu_size (components_of codings)) (vias_from 0 codings)
      (λ x. numbers_at p.al (known.written.sent x)) spots before (bytes ++ more) (length spots) apart ready
      (whole_data_have_all_blocks f w.restart p codings array bytes more (length spots) known.written (omega arith))

  -- Of all data there is none.
  pub whole-unread : (more : List ℕ) → (reached_of (bytes ++ more)).unread ≡ None
  whole-unread more =
      let on = longer_data_read_most p (w.restart * mcu_size (components_of codings)) (vias_from 0 codings) spots before
      (bytes ++ more) [] in
      on.next ∙ slice_get_past spots (length on.on.done) (on.most (length spots) (all-stand more))

  -- All data have the same blocks, whatever bytes come after them.
  whole-alike : (more : List ℕ) → (reached_of (bytes ++ more)).reached ≡ (reached_of (bytes ++ [])).reached
  whole-alike more =
      let on = longer_data_read_most p (w.restart * mcu_size (components_of codings)) (vias_from 0 codings) spots before
      (bytes ++ []) more in
      ap (λ (l : List ℕ). (reached_of l).reached) (sym (append_assoc bytes [] more))
      ∙ nothing-further spots before _ _ on.on (on.most (length spots) (all-stand []))

  -- Without the code of the marker after them the data end.
  short-stops : (front left : List ℕ) (fill : ℕ) → (left ≡ [] → ⊥) → front ++ left ≡ bytes ++ marker fill 217 []
      → (reached_of front).rest ≡ Err End
  short-stops front left fill some parts =
      let n = w.restart * mcu_size (components_of codings) in
      let vias = vias_from 0 codings in
      let whole = whole-reached fill 217 EOI [] (record { is = eoi_code }) eoi_ends in
      short-ends left _ _ (Some EOI)
      (data-stay left p vias (tables-sized codings known.exist) 0 (first_group n spots) (other_groups n spots) before
      front)
      (ap (λ (l : List ℕ). (scan_reached p n vias spots before l).rest) parts
      ∙ ap (λ (y : Arrays × Outcome (Option Marker)). y.1) whole) some

  -- A beginning of the data, even all of them, has no end of the scan: the data end.
  pub cut-stops : (front more : List ℕ) → bytes ≡ front ++ more → (reached_of front).rest ≡ Err End
  cut-stops front more parts =
      let close = marker 0 217 [] in
      short-stops front (more ++ close) 0 (λ n. let z : close ≡ [] = nothing-left more close n in cc)
      (sym (append_assoc front more close) ∙ ap (λ (l : List ℕ). l ++ close) (sym parts))

  -- ---- all data, and bytes FF

  -- All data and bytes FF of the marker after them bring the whole scan.
  pub whole-filled : (j : ℕ) → (reached_of (bytes ++ replicate j 255)).reached ≡ scanned.arrays
  whole-filled j =
      whole-alike (replicate j 255) ∙ sym (whole-alike (marker 0 217 []))
      ∙ ap (λ (y : Arrays × Outcome (Option Marker)). y.0)
      (whole-reached 0 217 EOI [] (record { is = eoi_code }) eoi_ends)

  pub filled-stops : (j : ℕ) → (reached_of (bytes ++ replicate j 255)).rest ≡ Err End
  filled-stops zero =
      short-stops (bytes ++ []) (marker 0 217 []) 0 (λ n. cc) (append_assoc bytes [] (marker 0 217 []))
  filled-stops (suc fill) =
      short-stops (bytes ++ replicate (suc fill) 255) (217 ∷ []) fill (λ n. cc)
      (append_assoc bytes (replicate (suc fill) 255) (217 ∷ []))

  -- ---- the own blocks

  -- The beginning of the data has the own blocks of the scan's components.
  pub cut-own : (front more : List ℕ) (parts : bytes ≡ front ++ more)
      → HasOwn p array levels codings (scan-cut front more parts).holds.done (reached_of front).reached
  cut-own front more parts =
      let n = w.restart * mcu_size (components_of codings) in
      let vias = vias_from 0 codings in
      let reached = (scan_reached p n vias spots before front).reached in
      let on = longer_data_read_on p n vias spots before front [] in
      record {
        count = puts-count on.done before reached on.puts
            ∙ length-map codings (λ (c : Coding). get_or (arrays_before now f) c.index []);
        sized = λ k j t.
            puts-size on.done before reached on.puts j
            ∙ ap (λ (l : List Block). length l) (array-at (arrays_before now f) codings k j t)
            ∙ size-now k.index k.component (stands known k j t);
        sent = own-sent front more parts;
        kept = own-unsent front more parts;
      }
