-- Scan headers (T.81, B.2.3).
use Rattle.std.specs.Prelude.{◌≡◌, ◌≤◌, ◌<◌, ℕ, zero, suc, All, true, ◌+◌, ◌-◌, ◌*◌, ◌/◌, ◌%◌, List}
use Rattle.std.specs.Prelude.{[], ◌∷◌, ◌++◌, map, length, sum_by, Bool, not, ◌&&◌, ◌||◌, Option}
use Rattle.std.specs.Prelude.{Some, Ok, nat_lt, nat_le, ◌==◌, position, get_or}
use Rattle.jpeg_bits.specs.Reading.{Outcome, ◌>>=◌, next_byte, length_at}
use Rattle.jpeg_bits.specs.declared.scan.Predictor.{Predictor}
use Rattle.jpeg_bits.specs.declared.scan.Predictor.TheVariants.{NoPrediction, Ra, Rb, Rc, RaRbRc1}
use Rattle.jpeg_bits.specs.declared.scan.Predictor.TheVariants.{RaRbRc2, RaRbRc3, RaRb}
use Rattle.jpeg_segments.specs.declared.frame.CodingProcess.{CodingProcess}
use Rattle.jpeg_segments.specs.declared.frame.CodingProcess.TheVariants.{DctSequential}
use Rattle.jpeg_segments.specs.declared.frame.CodingProcess.TheVariants.{DctProgressive, Lossless}
use Rattle.jpeg_segments.specs.Frame.{Frame, Component}
use Rattle.jpeg_segments.specs.Checks.{check, needed}
use Rattle.jpeg_segments.specs.HuffmanTables.{greatest_destination}

-- A scan: the indices of its components in the frame and the destinations of their DC and AC
-- tables, in the order of the scan; the coefficients that it codes, by their indices in zigzag
-- order, from the first to the one after the last; its predictor; the levels Ah and Al of
-- successive approximation; and its point transform.
pub record Scan : Type 0 where
  pub components : List ℕ
  pub dc_destinations : List ℕ
  pub ac_destinations : List ℕ
  pub first : ℕ
  pub after : ℕ
  pub predictor : Predictor
  pub high : ℕ
  pub low : ℕ
  pub point_transform : ℕ

-- ---- components

-- the index of a component in the frame, and the destinations of its DC and AC tables
pub record Selector : Type 0 where
  pub component : ℕ
  pub dc : ℕ
  pub ac : ℕ

-- the index of the component with this identifier
abbrev pub index_of : List Component → ℕ → Option ℕ
index_of components identifier = position (λ c. c.factors.identifier == identifier) components

-- The number of blocks that the component at an index has in an MCU of several components (A.2.3):
-- its sampling factors multiplied.
abbrev pub blocks_by : List Component → ℕ → ℕ
blocks_by [] index = 0
blocks_by (c ∷ more) zero = c.factors.horizontal * c.factors.vertical
blocks_by (c ∷ more) (suc index) = blocks_by more index

-- The next component, whose index in the frame is at least `least`, since components stand in the
-- order of the frame; and the destinations Td and Ta of its tables, 0 or 1 in a baseline frame.
unfoldable pub selector_at : Frame → ℕ → List ℕ → Outcome Selector
selector_at frame least bytes = do
  identifier ← next_byte bytes
  index ← needed (index_of frame.components identifier.0)
  _ ← check (nat_le least index)
  d ← next_byte identifier.1
  let greatest = greatest_destination (Some frame.is_baseline) in do
    _ ← check (nat_le (d.0 / 16) greatest && nat_le (d.0 % 16) greatest)
    Ok (record { component = index; dc = d.0 / 16; ac = d.0 % 16 }, d.1)

-- n more components, after those in `front`
unfoldable pub selectors_from : Frame → ℕ → List Selector → ℕ → List ℕ → Outcome (List Selector)
selectors_from frame zero front least bytes = Ok (front, bytes)
selectors_from frame (suc n) front least bytes =
    selector_at frame least bytes
    >>= (λ s. selectors_from frame n (front ++ s.0 ∷ []) (s.0.component + 1) s.1)

-- An MCU of several components has at most 10 blocks.
abbrev pub is_mcu : Frame → List Selector → Bool
is_mcu frame selectors =
    nat_le (length selectors) 1
    || nat_le (sum_by (λ s. blocks_by frame.components s.component) selectors) 10

-- ---- the band

-- A progressive scan (G.1.1.1) codes the DC coefficients or others: never both, and others of one
-- component alone. A refinement lowers the level by one.
abbrev pub is_progressive_band : ℕ → ℕ → ℕ → ℕ → ℕ → Bool
is_progressive_band count first last high low =
    nat_le first last && (nat_le last 63 && ((not (first == 0) || last == 0)
    && ((first == 0 || count == 1) && (
    nat_le high 13 && (nat_le low 13 && (high == 0 || high == low + 1))))))

-- A lossless scan has a predictor of 0 to 7 (H.1.2.1).
abbrev pub is_lossless_band : ℕ → ℕ → ℕ → Bool
is_lossless_band first last high = nat_le first 7 && (last == 0 && high == 0)

-- A sequential scan codes all coefficients at once. A last coefficient of 0 is read as 63.
abbrev pub is_sequential_band : ℕ → ℕ → ℕ → ℕ → Bool
is_sequential_band first last high low =
    first == 0 && ((last == 0 || last == 63) && (high == 0 && low == 0))

abbrev pub is_band : CodingProcess → ℕ → ℕ → ℕ → ℕ → ℕ → Bool
is_band DctSequential count first last high low = is_sequential_band first last high low
is_band DctProgressive count first last high low = is_progressive_band count first last high low
is_band Lossless count first last high low = is_lossless_band first last high

abbrev pub predictor_by : ℕ → Predictor
predictor_by n = get_or (NoPrediction ∷ Ra ∷ Rb ∷ Rc ∷ RaRbRc1 ∷ RaRbRc2 ∷ RaRbRc3 ∷ []) n RaRb

abbrev pub predictor_of : CodingProcess → ℕ → Predictor
predictor_of Lossless first = predictor_by first
predictor_of _ first = NoPrediction

abbrev pub after_of : CodingProcess → ℕ → ℕ
after_of DctSequential last = 64
after_of _ last = last + 1

unfoldable pub scan_of : Frame → List Selector → ℕ → ℕ → ℕ → Scan
scan_of frame selectors first last levels = record {
  components = map (λ s. s.component) selectors;
  dc_destinations = map (λ s. s.dc) selectors;
  ac_destinations = map (λ s. s.ac) selectors;
  first = first;
  after = after_of frame.process last;
  predictor = predictor_of frame.process first;
  high = levels / 16;
  low = levels % 16;
  point_transform = levels % 16;
}

-- The coefficients and the levels. The level Al is below the sample precision.
unfoldable pub band_at : Frame → List Selector → List ℕ → Outcome Scan
band_at frame selectors bytes = do
  first ← next_byte bytes
  last ← next_byte first.1
  levels ← next_byte last.1
  _ ← check (nat_lt (levels.0 % 16) frame.precision && is_band frame.process (length selectors)
      first.0 last.0 (levels.0 / 16) (levels.0 % 16))
  Ok (scan_of frame selectors first.0 last.0 levels.0, levels.1)

-- the number of components, where the length is the one that they need
unfoldable pub count_at : List ℕ → Outcome ℕ
count_at bytes = do
  left ← length_at bytes
  _ ← check (nat_lt 0 left.0)
  count ← next_byte left.1
  _ ← check (nat_lt 0 count.0 && (nat_le count.0 4 && left.0 == 4 + 2 * count.0))
  Ok count

-- The parameters of an SOS segment, after the marker.
unfoldable pub sos_at : Frame → List ℕ → Outcome Scan
sos_at frame bytes = do
  count ← count_at bytes
  selectors ← selectors_from frame count.0 [] 0 count.1
  _ ← check (is_mcu frame selectors.0)
  band_at frame selectors.0 selectors.1

-- ---- what each scan that is read has

-- A component of the frame, and the destinations of its two tables.
pub record IsSelectorOf (frame : Frame) (s : Selector) : Type 0 where
  pub component : s.component < length frame.components
  pub dc : s.dc ≤ 3
  pub ac : s.ac ≤ 3

-- The indices rise: the first is at least `least`, and each other is greater than the one before.
unfoldable pub IsRising : ℕ → List ℕ → Type 0
IsRising least [] = Unit {0}
IsRising least (index ∷ more) = (least ≤ index) × IsRising (index + 1) more

-- The coefficients, from the first to the one after the last, and the levels of successive
-- approximation that a process may code.
abbrev pub IsBandOf : CodingProcess → ℕ → ℕ → ℕ → ℕ → Type 0
IsBandOf DctSequential first after high low = (first ≡ 0) × (after ≡ 64) × (high ≡ 0) × (low ≡ 0)
IsBandOf DctProgressive first after high low =
    (first < after) × (after ≤ 64) × (high ≤ 13) × (low ≤ 13)
IsBandOf Lossless first after high low = (first ≤ 7) × (after ≡ 1) × (high ≡ 0)

-- A scan has one to four components of the frame, which stand in the order of the frame, each once,
-- and of which two or more have at most 10 blocks in an MCU; two tables for each; and coefficients
-- and levels that the process may code. The level Al, which is the point transform too, is below
-- the sample precision.
pub record IsScanOf (frame : Frame) (s : Scan) : Type 0 where
  pub some : 1 ≤ length s.components
  pub most : length s.components ≤ 4
  pub components : All (λ index. index < length frame.components) s.components
  pub rising : IsRising 0 s.components
  pub few_blocks : 2 ≤ length s.components → sum_by (blocks_by frame.components) s.components ≤ 10
  pub dc_length : length s.dc_destinations ≡ length s.components
  pub dc_destinations : All (λ d. d ≤ 3) s.dc_destinations
  pub ac_length : length s.ac_destinations ≡ length s.components
  pub ac_destinations : All (λ d. d ≤ 3) s.ac_destinations
  pub coded : IsBandOf frame.process s.first s.after s.high s.low
  pub legal : is_band frame.process (length s.components) s.first (s.after - 1) s.high s.low ≡ true
  pub below : s.low < frame.precision
  pub same_point : s.point_transform ≡ s.low
