-- Frame and scan headers that were read, in the words of a writer (T.81, B.2.2 and B.2.3).
use Rattle.std.specs.Prelude.{◌≡◌, ◌≢◌, ◌+◌, ◌≤◌, ◌<◌, ℕ, Bool, true, false, List, [], ◌∷◌, map}
use Rattle.std.specs.Prelude.{◌==◌, Option, None, get_or, replicate, set, take}
use Rattle.std.specs.List.{AllByRecursion}
use Rattle.jpeg_bits.specs.Passes.{Pass}
use Rattle.jpeg_segments.specs.Frame.{Factors, greatest, Frame as WrittenFrame}
use Rattle.jpeg_segments.specs.ScanHeader.{Selector}
use Rattle.jpeg_segments.specs.ScanHeaders.{AreChoices, IsScan, ScanHeader, scan_payload}
use Rattle.jpeg_segments.specs.WrittenSegments.{FrameHeader, IsFrameHeader, frame_payload}
use Rattle.jpeg_segments.specs.WrittenSegments.{frame_written}
use Rattle.zaxbriar_strict.specs.Changes.{kept_of}
use Rattle.zaxbriar_strict.specs.Progress.{AreNoted}
use Rattle.zaxbriar_strict.specs.Sent.{IsBand}
use Rattle.zaxbriar_strict.specs.declared.frame.Component.{Component}
use Rattle.zaxbriar_strict.specs.declared.frame.Frame.{Frame}
use Rattle.zaxbriar_strict.specs.declared.frame.Process.{Process}
use Rattle.zaxbriar_strict.specs.declared.frame.Process.TheVariants.{Baseline, Extended}
use Rattle.zaxbriar_strict.specs.declared.frame.Process.TheVariants.{Lossless, Progressive}
use Rattle.zaxbriar_strict.specs.declared.scan.Member.{Member}
use Rattle.zaxbriar_strict.specs.declared.scan.Scan.{Scan}

-- ---- frames

-- the n of SOFn
abbrev pub number_of : Process → ℕ
number_of Baseline = 0
number_of Extended = 1
number_of Progressive = 2
number_of Lossless = 3

abbrev pub is_baseline_process : Process → Bool
is_baseline_process Baseline = true
is_baseline_process _ = false

abbrev pub is_progressive_process : Process → Bool
is_progressive_process Progressive = true
is_progressive_process _ = false

abbrev pub is_baseline_of : Frame → Bool
is_baseline_of f = is_baseline_process f.process

abbrev pub factors_of : Component → Factors
factors_of c = record {
  identifier = c.identifier;
  horizontal = c.across;
  vertical = c.down;
  quantization = c.table;
}

abbrev pub header_of : Frame → FrameHeader
header_of f = record {
  precision = f.precision;
  width = f.width;
  height = f.height;
  components = map factors_of f.components.items;
}

abbrev pub written_frame : Frame → WrittenFrame
written_frame f = frame_written (number_of f.process) (header_of f)

-- Its header keeps its rules, and it has the greatest sampling factors of its components.
pub record IsMade (f : Frame) : Type 0 where
  pub legal : IsFrameHeader (number_of f.process) (header_of f)
  pub wide : f.width ≤ 65535
  pub high : f.height ≤ 65535
  pub across : f.most_across ≡ greatest (λ c. c.horizontal) (header_of f).components
  pub down : f.most_down ≡ greatest (λ c. c.vertical) (header_of f).components

-- No scan of a component was read yet.
pub record IsUnread (c : Component) : Type 0 where
  pub unsent : c.has_scan ≡ false
  pub levels : c.lowest ≡ replicate 64 None
  pub blocks : c.rows.items ≡ []

-- The bytes of a segment SOFn after its length are those of a frame header, and no scan of it was
-- read yet.
pub record ReadsFrame (code : ℕ) (bytes : List ℕ) (f : Frame) : Type 0 where
  pub marked : code ≡ 192 + number_of f.process
  pub are : bytes ≡ frame_payload (header_of f)
  pub made : IsMade f
  pub unsent : AllByRecursion IsUnread f.components.items

-- A frame whose header is the same: scans may have been read between.
pub record IsSameFrame (old new : Frame) : Type 0 where
  pub process : new.process ≡ old.process
  pub header : header_of new ≡ header_of old
  pub across : new.most_across ≡ old.most_across
  pub down : new.most_down ≡ old.most_down

-- ---- scans

abbrev pub no_factors : Factors
no_factors = record { identifier = 0; horizontal = 0; vertical = 0; quantization = 0 }

-- a component of a scan, by its identifier and its index in the frame
abbrev pub choice_of : List Factors → Member → ℕ × Selector
choice_of components m = (
  (get_or components m.component no_factors).identifier,
  record { component = m.component; dc = m.dc; ac = m.ac },
)

abbrev pub members_of : Scan → List Member
members_of s = take s.count s.members

-- what a scan sends: the band and the bits
abbrev pub pass_in : Scan → Pass
pass_in s = record { is_first = s.high == 0; ss = s.first; se = s.last; al = s.low }

abbrev pub scan_header_of : Frame → Scan → ScanHeader
scan_header_of f s = record {
  choices = map (choice_of (header_of f).components) (members_of s);
  first = s.first;
  last = s.last;
  high = s.high;
  low = s.low;
}

-- The frame is sequential.
abbrev pub IsSequential : Frame → Type 0
IsSequential f = number_of f.process ≤ 1

-- The frame is lossless.
abbrev pub IsLosslessFrame : Frame → Type 0
IsLosslessFrame f = number_of f.process ≡ 3

-- Each component of the frame has one scan.
abbrev pub IsSentOnce : Frame → Type 0
IsSentOnce f = number_of f.process ≢ 2

-- which components of a frame have a scan
abbrev pub has_scans : Frame → List Bool
has_scans f = map (λ c. c.has_scan) f.components.items

-- the lowest bits that were sent of their coefficients
abbrev pub lowest_of : Frame → List (List (Option ℕ))
lowest_of f = map (λ c. c.lowest) f.components.items

-- the components of a scan are none of these
abbrev pub AreUnsent : List Bool → List Member → Type 0
AreUnsent sent ms = AllByRecursion (λ m. get_or sent m.component true ≡ false) ms

-- these, and the components of a scan
unfoldable pub sent_with : List Member → List Bool → List Bool
sent_with [] sent = sent
sent_with (m ∷ ms) sent = sent_with ms (set sent m.component true)

-- The scan of a progressive frame sends DC, or AC of one component: all their bits down to one of
-- them, or after a scan before it the next one.
pub record SendsPart (s : Scan) : Type 0 where
  pub banded : IsBand (pass_in s)
  pub last : s.last ≤ 63
  pub high : s.high ≢ 0 → s.high ≡ s.low + 1
  pub high_most : s.high ≤ 13
  pub low : s.low ≤ 13
  pub alone : s.first ≢ 0 → s.count ≤ 1

-- The components of a scan stand in the order of the frame, and their tables at destinations that
-- it has.
abbrev pub HaveChoices : Frame → Scan → Type 0
HaveChoices f s =
    AreChoices (written_frame f) 0 (map (choice_of (header_of f).components) (members_of s))

-- The bytes of a segment SOS after its length are those of a scan header, which keeps its rules, in
-- a progressive frame if Al is below the sample precision, and in a sequential one sends all bits
-- of all coefficients.
pub record ReadsHeader (bytes : List ℕ) (s : Scan) (old new : Frame) : Type 0 where
  pub are : bytes ≡ scan_payload (scan_header_of old s)
  pub counted : s.count ≤ 4
  pub some : 1 ≤ s.count
  pub choices : HaveChoices old s
  pub legal : IsSentOnce old → IsScan (written_frame old) (scan_header_of old s)
  pub legal_part : is_progressive_process old.process ≡ true → s.low < old.precision
      → IsScan (written_frame old) (scan_header_of old s)
  pub last : IsSequential old → s.last ≡ 63
  pub part : is_progressive_process old.process ≡ true → SendsPart s
  pub noted : is_progressive_process old.process ≡ true
      → AreNoted (pass_in s) (members_of s) (lowest_of old) (lowest_of new)
  pub same : IsSameFrame old new
  pub kept : map kept_of new.components.items ≡ map kept_of old.components.items
  -- none of its components has a scan before, and all have one after it
  pub unsent : IsSentOnce old → AreUnsent (has_scans old) (members_of s)
  pub sent : has_scans new ≡ sent_with (members_of s) (has_scans old)
