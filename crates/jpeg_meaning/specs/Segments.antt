-- What each segment but a scan adds to what was found (T.81, B.2.2 and B.2.4), and which frames are
-- decoded.
use Rattle.std.specs.Prelude.{ℕ, ◌==◌, min, not, ◌&&◌, ◌||◌, nat_le, List, [], ◌∷◌, ◌++◌, length}
use Rattle.std.specs.Prelude.{Bool, true, false, Option, Some, None, option_map, is_some, Result}
use Rattle.std.specs.Prelude.{Ok, Err, if◌then◌else◌}
use Rattle.jpeg_bits.specs.Reading.{Outcome, Fault, Lacks, ◌>>=◌, length_at, skip_at}
use Rattle.jpeg_bits.specs.declared.marker.Marker.{Marker}
use Rattle.jpeg_bits.specs.declared.error.UnsupportedFeature.TheVariants as features
use Rattle.jpeg_segments.specs.declared.frame.CodingProcess.{CodingProcess}
use Rattle.jpeg_segments.specs.declared.frame.CodingProcess.TheVariants.{Lossless}
use Rattle.jpeg_segments.specs.declared.frame.EntropyCoding.{EntropyCoding}
use Rattle.jpeg_segments.specs.declared.frame.EntropyCoding.TheVariants.{Huffman, Arithmetic}
use Rattle.jpeg_segments.specs.Frame.{Frame, sof_at}
use Rattle.jpeg_segments.specs.Quantization.{dqt_at}
use Rattle.jpeg_segments.specs.HuffmanTables.{Tables, dht_at}
use Rattle.jpeg_segments.specs.Application.{Application, Adobe, Jfif, Avi1, Icc, Exif, Xmp}
use Rattle.jpeg_segments.specs.Application.{Psir, app_at, dri_at}
use Rattle.jpeg_pixels.specs.Pictures.{sources_of}
use Rattle.jpeg_meaning.specs.declared.before.Before.{Before}
use Rattle.jpeg_meaning.specs.declared.before.Before.TheVariants.{Elsewhere}
use Rattle.jpeg_meaning.specs.Found.{Metadata, Found, Said, with_said}

-- What a segment leads to: the state, what stands before the next marker, that marker, if it is met
-- already, and whether the image has ended.
pub record Turn : Type 0 where
  pub found : Found
  pub before : Before
  pub met : Option Marker
  pub ended : Bool

abbrev pub onward : Found → Turn
onward found = record { found = found; before = Elsewhere; met = None; ended = false }

-- tables by their destinations, where those that are read stand in place of those that were there
unfoldable pub updated : {A : Type 0} → List (Option A) → List (Option A) → List (Option A)
updated [] new = []
updated (o ∷ old) [] = o ∷ old
updated (o ∷ old) (None ∷ new) = o ∷ updated old new
updated (o ∷ old) (Some t ∷ new) = Some t ∷ updated old new

abbrev pub with_huffman : Tables → Tables → Tables
with_huffman old new = record { dc = updated old.dc new.dc; ac = updated old.ac new.ac }

-- a precision that the process can be decoded at: 8 bits, or in a lossless frame 2 to 16
abbrev pub is_decoded_precision : CodingProcess → ℕ → Bool
is_decoded_precision Lossless precision = nat_le 2 precision && nat_le precision 16
is_decoded_precision _ precision = precision == 8

abbrev pub is_arithmetic : EntropyCoding → Bool
is_arithmetic Huffman = false
is_arithmetic Arithmetic = true

abbrev pub is_decoded_count : ℕ → Bool
is_decoded_count count = count == 1 || (count == 3 || count == 4)

-- The frame that is decoded: of one, three or four components, each with a way to upsample it. A
-- number of components is reported as a byte.
unfoldable pub accepted : Frame → Result Frame Fault
accepted frame =
    if frame.is_differential then Err (Lacks features.Hierarchical) else (
    if is_arithmetic frame.coding then Err (Lacks features.ArithmeticEntropyCoding) else (
    if not (is_decoded_precision frame.process frame.precision)
    then Err (Lacks (features.SamplePrecision frame.precision)) else (
    if is_decoded_count (length frame.components)
    then sources_of frame.components frame.output_width frame.output_height
    >>= (λ sources. Ok frame)
    else Err (Lacks (features.ComponentCount (min 255 (length frame.components)))))))

-- A frame, of which there is one.
unfoldable pub frame_segment : ℕ → Found → List ℕ → Outcome Turn
frame_segment number found bytes =
    if is_some found.said.frame then Err (Lacks features.Hierarchical) else (do
      frame ← sof_at number bytes
      decoded ← accepted frame.0
      Ok (onward (with_said (λ said. record said { frame = Some decoded }) found), frame.1))

-- the metadata after what a segment of an application says
abbrev pub with_application : Metadata → Option Application → Metadata
with_application m None = m
with_application m (Some (Adobe transform)) = record m { adobe = Some transform }
with_application m (Some Jfif) = record m { jfif = true }
with_application m (Some Avi1) = record m { avi1 = true }
with_application m (Some (Icc chunk)) = record m { icc = m.icc ++ chunk ∷ [] }
with_application m (Some (Exif bytes)) = record m { exif = Some bytes }
with_application m (Some (Xmp bytes)) = record m { xmp = Some bytes }
with_application m (Some (Psir bytes)) = record m { psir = Some bytes }

-- A segment whose parameters are read so, and how what was said changes by them.
abbrev pub says : {A : Type 0} → (List ℕ → Outcome A) → (A → Said → Said) → Found → List ℕ
    → Outcome Turn
says read change found bytes =
    read bytes >>= (λ r. Ok (onward (with_said (change r.0) found), r.1))

-- ---- as the functions of the code read them

abbrev pub quantization_segment : Found → List ℕ → Outcome Turn
quantization_segment found =
    says dqt_at (λ t said. record said { quantization = updated said.quantization t }) found

abbrev pub huffman_segment : Found → List ℕ → Outcome Turn
huffman_segment found =
    says (dht_at (option_map (λ f. f.is_baseline) found.said.frame))
    (λ t said. record said { huffman = with_huffman said.huffman t }) found

abbrev pub restart_segment : Found → List ℕ → Outcome Turn
restart_segment found = says dri_at (λ n said. record said { restart = n }) found

abbrev pub application_segment : ℕ → Found → List ℕ → Outcome Turn
application_segment number found =
    says (app_at number)
    (λ a said. record said { metadata = with_application said.metadata a }) found

-- a segment that is passed over
abbrev pub skipped_segment : Found → List ℕ → Outcome Turn
skipped_segment found bytes =
    length_at bytes >>= (λ n. says (skip_at n.0) (λ _ said. said) found n.1)
