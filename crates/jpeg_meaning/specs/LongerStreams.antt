-- What more bytes add to what was brought of some: what was brought stays, and more comes after it.
use Rattle.std.specs.Prelude.{◌≡◌, ◌≤◌, ℕ, suc, List, [], ◌∷◌, ◌++◌, length, drop, map, get_or, zip}
use Rattle.std.specs.Prelude.{Bool, false, Option, None, Ok}
use Rattle.jpeg_bits.specs.Entropy.{Ending}
use Rattle.jpeg_bits.specs.Passes.{Block, Pass, Via}
use Rattle.jpeg_bits.specs.Readers.{text}
use Rattle.jpeg_bits.specs.declared.marker.Marker.{Marker}
use Rattle.jpeg_segments.specs.Frame.{Frame}
use Rattle.jpeg_segments.specs.ScanHeader.{Scan}
use Rattle.jpeg_meaning.specs.declared.before.Before.{Before}
use Rattle.jpeg_bits.specs.declared.beyond.Beyond.TheVariants.{Nothing}
use Rattle.jpeg_lossless.specs.Scans.{lines_by_component, planes_of}
use Rattle.jpeg_meaning.specs.Brought.{reached_from, samples_over}
use Rattle.jpeg_meaning.specs.Found.{Found}
use Rattle.jpeg_meaning.specs.InTurn.{IsIn, Reached}
use Rattle.jpeg_meaning.specs.Levels.{IsLegal, Levels, cut, sent_after}
use Rattle.jpeg_meaning.specs.LosslessScans.{LosslessCoding, way_of}
use Rattle.jpeg_meaning.specs.Order.{Spot, spots_of}
use Rattle.jpeg_meaning.specs.Scans.{Arrays, block_at, put_block}
use Rattle.jpeg_meaning.specs.ScanSegments.{Coding, after_samples, after_scan, arrays_before}
use Rattle.jpeg_meaning.specs.ScanSegments.{components_of}
use Rattle.jpeg_meaning.specs.Stream.{Walked, turn_at, walk}

-- This holds of so many, and of no more.
pub record IsMost (holds_of : ℕ → Type 0) (count : ℕ) : Type 0 where
  pub holds : holds_of count
  pub most : (n : ℕ) → holds_of n → n ≤ count

-- These bits bring the blocks at `done`, and `left` are left, of which no block more can be read
-- where nothing follows. Where more bits come after them, the other blocks are read from there on.
-- Both are so before any end.
pub record GoesOn (p : Pass) (vias : List Via) (spots : List Spot) (old : Reached)
    (bits : List Bool) (reached : Reached) : Type 0 where
  pub done : List Spot
  pub others : List Spot
  pub taken : List Bool
  pub left : List Bool
  pub spots_are : spots ≡ done ++ others
  pub bits_are : bits ≡ taken ++ left
  pub brought : (following : List (List ℕ)) (e : Ending)
      → reached_from p vias done old (text bits following e)
      ≡ record { reached = reached; unread = None; rest = Ok left }
  pub longer : (more : List Bool) (following : List (List ℕ)) (e : Ending)
      → reached_from p vias spots old (text (bits ++ more) following e)
      ≡ reached_from p vias others reached (text (left ++ more) (drop (length taken) following) e)

-- a block is put at each of these spots, one after the other
pub data Puts : List Spot → Arrays → Arrays → Type 0 where
  finished : (arrays : Arrays) → Puts [] arrays arrays
  put : (s : Spot) (spots : List Spot) (b : Block) (before after : Arrays)
      → Puts spots (put_block s b before) after → Puts (s ∷ spots) before after

-- a block is put at each of the first of these spots
pub record PutsFirst (spots : List Spot) (before after : Arrays) : Type 0 where
  pub done : List Spot
  pub others : List Spot
  pub parts : spots ≡ done ++ others
  pub puts : Puts done before after

-- Of the scan of the blocks at these spots, shorter data bring the first blocks, and longer data
-- the same blocks, and of the others the first.
pub record ReadsOn (spots : List Spot) (before shorter longer : Arrays) : Type 0 where
  pub done : List Spot
  pub others : List Spot
  pub parts : spots ≡ done ++ others
  pub puts : Puts done before shorter
  pub further : PutsFirst others shorter longer

-- Of the scan of the blocks at these spots, the first are as longer data have them, and each other
-- block is as it was before the scan.
pub record HoldsFirst (spots : List Spot) (before shorter longer : Arrays) : Type 0 where
  pub done : List Spot
  pub others : List Spot
  pub parts : spots ≡ done ++ others
  pub same : (s : Spot) → IsIn s done → block_at shorter s ≡ block_at longer s
  pub kept : (s : Spot) → (IsIn s done → ⊥) → block_at shorter s ≡ block_at before s

-- What is kept of a block before a pass is its coefficients, cut at the bits that were sent of
-- them; and the pass may be sent then.
pub record IsKeptBefore (p : Pass) (levels : Levels) (coefficients kept : Block) : Type 0 where
  pub legal : IsLegal p levels
  pub sized : length levels.acs ≡ 63
  pub kept_is : kept ≡ cut levels coefficients

-- the pass codes DC alone, of coefficients of 8 bits
pub record IsDcAlone (p : Pass) : Type 0 where
  pub first : p.ss ≡ 0
  pub end : p.se ≡ 0
  pub low : p.al ≤ 7

-- Of the scan of the blocks at these spots, the first are the coefficients that were sent, at the
-- levels after the pass, where they were so at the levels before it; and each other block is as it
-- was before the scan.
pub record HoldsSent (p : Pass) (spots : List Spot) (levels : Spot → Levels) (sent : Spot → Block)
    (before reached : Arrays) : Type 0 where
  pub done : List Spot
  pub others : List Spot
  pub parts : spots ≡ done ++ others
  pub first : (s : Spot) → IsIn s done → IsKeptBefore p (levels s) (sent s) (block_at before s)
      → block_at reached s ≡ cut (sent_after p (levels s)) (sent s)
  pub kept : (s : Spot) → (IsIn s done → ⊥) → block_at reached s ≡ block_at before s

-- the blocks of a scan's components before it
abbrev pub arrays_of : Found → Frame → List Coding → Arrays
arrays_of found frame codings = map (λ c. get_or (arrays_before found frame) c.index []) codings

-- What was found with some blocks of a scan, and with more of them.
pub record ScanGoesOn (before shorter longer : Found) : Type 0 where
  pub frame : Frame
  pub scan : Scan
  pub codings : List Coding
  pub blocks : Arrays
  pub more_blocks : Arrays
  pub shorter_is : shorter ≡ after_scan before frame scan codings blocks
  pub longer_is : longer ≡ after_scan before frame scan codings more_blocks
  pub reads_on : ReadsOn (spots_of frame (components_of codings)) (arrays_of before frame codings)
      blocks more_blocks

-- Of the rows of MCUs of a lossless scan, interval by interval, shorter data bring these, and
-- longer data the same: of the intervals in front all rows, and of the last the first rows.
pub record RowsGoOn (shorter longer : List (List (List ℕ))) : Type 0 where
  pub front : List (List (List ℕ))
  pub last : List (List ℕ)
  pub more : List (List ℕ)
  pub others : List (List (List ℕ))
  pub shorter_is : shorter ≡ front ++ last ∷ []
  pub longer_is : longer ≡ front ++ (last ++ more) ∷ others

-- each plane begins with the samples of the shorter one
unfoldable pub PlanesGoOn : List (List ℕ) → List (List ℕ) → Type 0
PlanesGoOn [] [] = Unit {0}
PlanesGoOn (s ∷ shorter) (l ∷ longer) =
    ((more : List ℕ) × (l ≡ s ++ more)) × PlanesGoOn shorter longer
PlanesGoOn _ _ = ⊥

-- the planes of some rows of MCUs of a lossless scan
abbrev pub planes_after : Frame → Scan → List LosslessCoding → List (List (List ℕ)) → List (List ℕ)
planes_after frame scan codings rows =
    let w = way_of frame scan.predictor scan.point_transform codings in
    planes_of scan.point_transform w.parts (lines_by_component w 0 w.parts rows)

-- What is found after some rows of MCUs of a lossless scan.
abbrev pub after_rows : Found → Frame → Scan → List LosslessCoding → List (List (List ℕ)) → Found
after_rows found frame scan codings rows = after_samples found codings
    (map (samples_over found frame) (zip codings (planes_after frame scan codings rows)))

-- What was found with some rows of a lossless scan, and with more of them.
pub record RowScanGoesOn (before shorter longer : Found) : Type 0 where
  pub frame : Frame
  pub scan : Scan
  pub codings : List LosslessCoding
  pub rows : List (List (List ℕ))
  pub more_rows : List (List (List ℕ))
  pub shorter_is : shorter ≡ after_rows before frame scan codings rows
  pub longer_is : longer ≡ after_rows before frame scan codings more_rows
  pub go_on : RowsGoOn rows more_rows

-- How a longer stream goes on, where a shorter one has brought `brought` up to its first fault and
-- `left` are the bytes of it that are read again. It comes by what was brought, in front of the
-- segment that has the fault; or the fault is in the data of a scan, and the longer stream comes by
-- what was found before this scan, and brings of it the same blocks first, or rows of MCUs.
pub data ComesBy (more : List ℕ) (brought : Found) (longer : Walked) : Type 0 where
  in_front : (turns : ℕ) (before : Before) (met : Option Marker) (left : List ℕ)
      → longer ≡ walk None Nothing turns false before brought met (left ++ more)
      → ComesBy more brought longer
  in_scan : (turns : ℕ) (before : Before) (last : Found) (met : Option Marker) (left : List ℕ)
      → longer ≡ walk None Nothing (suc turns) false before last met (left ++ more)
      → ScanGoesOn last brought (turn_at Nothing before last met (left ++ more)).found
      → ComesBy more brought longer
  in_rows : (turns : ℕ) (before : Before) (last : Found) (met : Option Marker) (left : List ℕ)
      → longer ≡ walk None Nothing (suc turns) false before last met (left ++ more)
      → RowScanGoesOn last brought (turn_at Nothing before last met (left ++ more)).found
      → ComesBy more brought longer
