-- A scan of some components of a frame by DCT, in the words of a writer (T.81, A.2, F.1 and G.1).
use Rattle.std.specs.Prelude.{◌≡◌, ◌≤◌, ◌<◌, ◌*◌, ◌/◌, ◌%◌, ◌==◌, ◌++◌, [], ◌∷◌, ℕ, Bool, true}
use Rattle.std.specs.Prelude.{List, Option, None, Some, length, map, nat_lt, slice_get}
use Rattle.std.specs.Prelude.{slice_index_or}
use Rattle.std.specs.List.{AllByRecursion}
use Rattle.jpeg_bits.specs.Passes.{Block, Pass, Via, whole_pass}
use Rattle.jpeg_bits.specs.declared.huffman.codes.HuffmanTableClass.TheVariants.{AC, DC}
use Rattle.jpeg_segments.specs.Frame.{Component, Frame as WrittenFrame}
use Rattle.jpeg_meaning.specs.Order.{Spot, grid_of, mcu_size, spots_of}
use Rattle.jpeg_meaning.specs.Scans.{via_at}
use Rattle.jpeg_meaning.specs.ScanSegments.{Coding, components_of, vias_from}
use Rattle.jpeg_meaning.specs.WrittenScans.{IsTableAt}
use Rattle.zaxbriar_strict.specs.Changes.{Change, Kept, Place, kept_in}
use Rattle.zaxbriar_strict.specs.Heads.{IsMade, IsSequential, is_progressive_process, members_of}
use Rattle.zaxbriar_strict.specs.Heads.{SendsPart, pass_in, written_frame}
use Rattle.zaxbriar_strict.specs.Installed.{codes_of, steps_of}
use Rattle.zaxbriar_strict.specs.Members.{HaveTables}
use Rattle.zaxbriar_strict.specs.Runs.{AreChanged, AreGood, WritesGroups, WritesPassBlocks}
use Rattle.zaxbriar_strict.specs.Runs.{turns_by}
use Rattle.zaxbriar_strict.specs.declared.frame.Frame.{Frame}
use Rattle.zaxbriar_strict.specs.declared.scan.Member.{Member}
use Rattle.zaxbriar_strict.specs.declared.scan.Scan.{Scan}
use Rattle.zaxbriar_strict.specs.declared.tables.Tables.{Tables}

-- ---- how it is coded

-- A component of a scan has these tables: those that are installed at its destinations, where the
-- pass needs them.
pub record IsCodedBy (p : Pass) (t : Tables) (frame : WrittenFrame) (m : Member) (k : Coding)
    : Type 0 where
  pub index : m.component ≡ k.index
  pub component : slice_get frame.components k.index ≡ Some k.component
  pub quantization : slice_index_or (steps_of t) k.component.factors.quantization None
      ≡ Some k.quantization
  pub dc : IsTableAt (p.ss == 0) DC (codes_of t).dc m.dc k.dc
  pub ac : IsTableAt (nat_lt 0 p.se) AC (codes_of t).ac m.ac k.ac

-- so do those of all its components
unfoldable pub AreCodedBy : Pass → Tables → WrittenFrame → List Member → List Coding → Type 0
AreCodedBy p t frame [] [] = Unit {0}
AreCodedBy p t frame (m ∷ ms) (k ∷ codings) =
    IsCodedBy p t frame m k × AreCodedBy p t frame ms codings
AreCodedBy p t frame _ _ = ⊥

-- Their tables are installed.
pub record AreInstalled (p : Pass) (t : Tables) (frame : WrittenFrame) (ms : List Member)
    : Type 0 where
  pub codings : List Coding
  pub are : AreCodedBy p t frame ms codings

-- how the blocks of a scan are coded, in its order
abbrev pub ways_of : WrittenFrame → List Coding → List Via
ways_of frame codings =
    map (λ s. via_at (vias_from 0 codings) s.slot) (spots_of frame (components_of codings))

-- ---- where its blocks stand

-- the elements of two lists are so, one by one
unfoldable pub AreAlike : {A B : Type 0} → (A → B → Type 0) → List A → List B → Type 0
AreAlike P [] [] = Unit {0}
AreAlike P (x ∷ xs) (y ∷ ys) = P x y × AreAlike P xs ys
AreAlike P _ _ = ⊥

-- The block at a spot of a scan stands at this place of the frame.
pub record IsAtSpot (codings : List Coding) (s : Spot) (q : Place) : Type 0 where
  pub coding : Coding
  pub here : slice_get codings s.slot ≡ Some coding
  pub index : coding.index ≡ q.index
  pub row : s.index / coding.component.blocks_wide ≡ q.row
  pub column : s.index % coding.component.blocks_wide ≡ q.column

-- ---- its data

-- The bytes of the intervals of a scan, up to these others.
pub record AreGroups (p : Pass) (every : ℕ) (turns : List (Via × Block)) (bytes rest : List ℕ)
    : Type 0 where
  pub data_bytes : List ℕ
  pub parts : bytes ≡ data_bytes ++ rest
  pub coded : WritesGroups (WritesPassBlocks p) every 0 turns data_bytes

-- The data of a scan, and what follows them: all its blocks, of 8-bit samples, by the tables that
-- are installed at the destinations of its components, and how they change what is kept, if blocks
-- are, at the places of the scan's spots.
pub record ReadsData (is_kept : Bool) (p : Pass) (t : Tables) (frame : WrittenFrame)
    (ms : List Member) (from to : Kept) (bytes rest : List ℕ) : Type 0 where
  pub installed : AreInstalled p t frame ms
  pub changes : List Change
  pub counted : length changes ≡ length (ways_of frame installed.codings)
  pub placed : AreAlike (IsAtSpot installed.codings)
      (spots_of frame (components_of installed.codings)) (map (λ c. c.place) changes)
  pub changed : AreChanged is_kept p changes from to
  pub coded : AreGood is_kept p changes
      → AreGroups p (t.interval * mcu_size (components_of installed.codings))
      (turns_by p (ways_of frame installed.codings) changes) bytes rest

-- A scan has some components of a frame, and Huffman tables at destinations that there are.
pub record HasMembers (f : Frame) (s : Scan) : Type 0 where
  pub counted : s.count ≡ length (members_of s)
  pub some : 1 ≤ s.count
  pub within : AllByRecursion (λ m. m.component < length f.components.items) (members_of s)
  pub tables : HaveTables 3 (members_of s)

-- What such a scan of a frame by DCT sends: all of a sequential frame, or its own band and bits of
-- a progressive one.
pub data Sends (f : Frame) (s : Scan) (p : Pass) : Type 0 where
  sends_all : IsSequential f → p ≡ whole_pass → Sends f s p
  sends_part : is_progressive_process f.process ≡ true → p ≡ pass_in s → SendsPart s → Sends f s p

-- Such a scan of a frame of 8 bits is read so: the frame before it and after it.
abbrev pub ReadsIfEight : Tables → Frame → Frame → Scan → List ℕ → List ℕ → Type 0
ReadsIfEight t f g s bytes rest =
    (p : Pass) → IsMade f → Sends f s p → f.precision ≡ 8 → HasMembers f s
    → ReadsData (is_progressive_process f.process) p t (written_frame f) (members_of s)
    (kept_in f.components.items) (kept_in g.components.items) bytes rest

-- How many columns and rows of MCUs it has: of a component that is alone its own blocks (A.2.2 and
-- A.2.3).
abbrev pub own_wide_of : Option Component → ℕ
own_wide_of None = 0
own_wide_of (Some c) = (grid_of c).own_wide

abbrev pub own_high_of : Option Component → ℕ
own_high_of None = 0
own_high_of (Some c) = (grid_of c).own_high

abbrev pub units_wide : WrittenFrame → List Member → ℕ
units_wide frame (m ∷ []) = own_wide_of (slice_get frame.components m.component)
units_wide frame _ = frame.mcus_wide

abbrev pub units_high : WrittenFrame → List Member → ℕ
units_high frame (m ∷ []) = own_high_of (slice_get frame.components m.component)
units_high frame _ = frame.mcus_high
