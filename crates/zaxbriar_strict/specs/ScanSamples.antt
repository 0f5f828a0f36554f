-- Scans of a lossless frame that are read, in the words of a writer (T.81, A.2 and Annex H).
use Rattle.std.specs.Prelude.{◌≡◌, ◌≤◌, ◌++◌, [], ◌∷◌, ℕ, Bool, true, List, Option, None, Some}
use Rattle.std.specs.Prelude.{◌==◌, if◌then◌else◌, map, replicate, slice_get, slice_index_or}
use Rattle.std.specs.List.{AllByRecursion}
use Rattle.jpeg_bits.specs.Codes.{Table}
use Rattle.jpeg_bits.specs.Intervals.{first_group, other_groups}
use Rattle.jpeg_bits.specs.Written.{WritesEach, WritesIntervals}
use Rattle.jpeg_bits.specs.declared.huffman.codes.HuffmanTableClass.TheVariants.{DC}
use Rattle.jpeg_segments.specs.Frame.{Component as WrittenComponent, Frame as WrittenFrame}
use Rattle.jpeg_segments.specs.Frame.{ceiling, most_across, most_down}
use Rattle.jpeg_lossless.specs.Differences.{Part, mcu_tables, row_tables}
use Rattle.jpeg_lossless.specs.Scans.{is_of_rows, rows_of_interval}
use Rattle.jpeg_lossless.specs.Written.{WritesRows, WritesSampleDifference}
use Rattle.jpeg_meaning.specs.LosslessScans.{LosslessCoding, mcus_across, mcus_down, parts_of}
use Rattle.jpeg_meaning.specs.WrittenLossless.{AreSampleCodings}
use Rattle.zaxbriar_strict.specs.Data.{Data, Reads}
use Rattle.zaxbriar_strict.specs.Heads.{IsLosslessFrame, IsMade, members_of, written_frame}
use Rattle.zaxbriar_strict.specs.Installed.{codes_of}
use Rattle.zaxbriar_strict.specs.ScanData.{HasMembers}
use Rattle.zaxbriar_strict.specs.declared.frame.Component.{Component}
use Rattle.zaxbriar_strict.specs.declared.frame.Frame.{Frame}
use Rattle.zaxbriar_strict.specs.declared.lossless.Lines.{Lines}
use Rattle.zaxbriar_strict.specs.declared.scan.Member.{Member}
use Rattle.zaxbriar_strict.specs.declared.scan.Scan.{Scan}
use Rattle.zaxbriar_strict.specs.declared.tables.Tables.{Tables}

-- ---- differences

-- the bits of differences, each by its table
abbrev pub WritesDifferences : List (Table × ℕ) → List Bool → Type 0
WritesDifferences = WritesEach (λ x. WritesSampleDifference x.0 x.1)

-- Differences were read one after the other, by these tables.
pub record ReadsDifferences (tables : List Table) (old new : Data) : Type 0 where
  pub differences : List (Table × ℕ)
  pub tables_are : map (λ x. x.0) differences ≡ tables
  pub read : Reads (WritesDifferences differences) old new

-- ---- the components of a scan

-- a table without codes
abbrev pub no_codes : Table
no_codes = record { class = DC; counts = []; symbols = [] }

abbrev pub codes_or_none : Option Table → Table
codes_or_none None = no_codes
codes_or_none (Some table) = table

-- the table that is installed for a component's differences
abbrev pub difference_codes : Tables → Member → Table
difference_codes t m = codes_or_none (slice_index_or (codes_of t).dc m.dc None)

-- A component of a scan, and how many samples an MCU has of it, across and down.
pub record Share : Type 0 where
  pub member : Member
  pub across : ℕ
  pub down : ℕ

abbrev pub share_of : Lines → Share
share_of l = record { member = l.member; across = l.across; down = l.down }

-- as many as its sampling factors say, or one where it is alone (A.2.2 and A.2.3)
abbrev pub share_in : ℕ → Member → Component → Share
share_in count m c = record {
  member = m;
  across = if count == 1 then 1 else c.across;
  down = if count == 1 then 1 else c.down;
}

abbrev pub share_at : ℕ → Member → Option Component → List Share
share_at count m None = []
share_at count m (Some c) = share_in count m c ∷ []

-- those of the components of a scan of so many
unfoldable pub shares_of : ℕ → List Component → List Member → List Share
shares_of count cs [] = []
shares_of count cs (m ∷ ms) =
    share_at count m (slice_get cs m.component) ++ shares_of count cs ms

abbrev pub part_by : Tables → Share → Part
part_by t s = record {
  table = difference_codes t s.member;
  across = s.across;
  down = s.down;
  width = 0;
  height = 0;
}

-- the table of each difference of an MCU
abbrev pub unit_tables : Tables → List Share → List Table
unit_tables t shares = mcu_tables (map (part_by t) shares)

-- Their tables have destinations that there are.
abbrev pub ArePlaced : List Share → Type 0
ArePlaced shares = AllByRecursion (λ s. s.member.dc ≤ 3) shares

-- How many columns and rows of MCUs a lossless scan has: of a component that is alone its own
-- samples (A.2.2 and A.2.3).
abbrev pub width_of : Option WrittenComponent → ℕ
width_of None = 0
width_of (Some c) = c.width

abbrev pub height_of : Option WrittenComponent → ℕ
height_of None = 0
height_of (Some c) = c.height

abbrev pub samples_wide : WrittenFrame → List Member → ℕ
samples_wide frame (m ∷ []) = width_of (slice_get frame.components m.component)
samples_wide frame _ = ceiling frame.width (most_across frame.components)

abbrev pub samples_high : WrittenFrame → List Member → ℕ
samples_high frame (m ∷ []) = height_of (slice_get frame.components m.component)
samples_high frame _ = ceiling frame.height (most_down frame.components)

-- ---- its data

-- the index of a component, and the destination of its table
abbrev pub sample_slot : Member → ℕ × ℕ
sample_slot m = (m.component, m.dc)

-- The data of a scan, and what follows them: differences in whole rows of MCUs, by the tables that
-- are installed at the destinations of its components.
pub record ReadsSamples (t : Tables) (frame : WrittenFrame) (ms : List Member)
    (bytes rest : List ℕ) : Type 0 where
  pub codings : List LosslessCoding
  pub coded : AreSampleCodings (codes_of t).dc frame (map sample_slot ms) codings
  pub interval :
      is_of_rows (mcus_across frame codings) (mcus_down frame codings) t.interval ≡ true
  pub rows : List (List (Table × ℕ))
  pub tables : map (map (λ x. x.0)) rows
      ≡ replicate (mcus_down frame codings)
      (row_tables (mcus_across frame codings) (mcu_tables (parts_of codings)))
  pub data_bytes : List ℕ
  pub parts : bytes ≡ data_bytes ++ rest
  pub written :
      let n = rows_of_interval (mcus_across frame codings) (mcus_down frame codings) t.interval in
      WritesIntervals WritesRows 0 (first_group n rows) (other_groups n rows) data_bytes

-- A scan of a lossless frame is read so.
abbrev pub ReadsIfLossless : Tables → Frame → Scan → List ℕ → List ℕ → Type 0
ReadsIfLossless t f s bytes rest =
    IsMade f → IsLosslessFrame f → HasMembers f s
    → ReadsSamples t (written_frame f) (members_of s) bytes rest
