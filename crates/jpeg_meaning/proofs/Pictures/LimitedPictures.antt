-- Pictures that are within the limit.
use Rattle.std.proofs.Common.{◌≡◌, ◌≢◌, ◌≤◌, ℕ, ◌*◌, Bool, true, false, List, length, nat_lt, if◌then◌else◌}
use Rattle.std.proofs.Common.{Some, None, Result, Ok, Err, refl, sym, ap, ap₂, ◌∙◌}
use Rattle.std.specs.Prelude.{slice_index_or}
use Rattle.std.proofs.lemmas.Bool.{le-ltb}
use Rattle.jpeg_bits.specs.Reading.{Fault, Malformed, ◌>>=◌}
use Rattle.jpeg_segments.specs.Checks.{needed}
use Rattle.jpeg_segments.specs.Frame.{Component, Frame}
use Rattle.jpeg_segments.specs.declared.frame.CodingProcess.{CodingProcess}
use Rattle.jpeg_segments.specs.declared.frame.CodingProcess.TheVariants.{Lossless}
use Rattle.jpeg_meaning.specs.declared.settings.Settings.{Settings}
use Rattle.jpeg_meaning.specs.Found.{Said}
use Rattle.jpeg_meaning.specs.FoundPictures.{limited}
use Rattle.jpeg_meaning.specs.Pixels.{luma_samples, samples_shown}
use Rattle.jpeg_meaning.specs.Rasters.{plane_of_blocks}
use Rattle.jpeg_meaning.specs.WrittenScans.{Coefficients}

-- the plane of a component with its index in the frame, by the tables that were said
abbrev pub array_plane : Said → Coefficients → ℕ × Component → Result (List ℕ) Fault
array_plane said blocks c =
    needed (slice_index_or said.quantization c.1.factors.quantization None)
    >>= (λ table. Ok (plane_of_blocks c.1 table (blocks c.0)))

-- ---- how many samples a pixel has

-- the same by the process and the number of components
abbrev samples_by : Bool → CodingProcess → ℕ → ℕ
samples_by luma process count = if luma then luma_samples process count else count

by-lossless : (luma : Bool) (process : CodingProcess) (count : ℕ) → process ≡ Lossless
    → samples_by luma process count ≡ count
by-lossless true process count e = ap (λ (p : CodingProcess). luma_samples p count) e
by-lossless false process count e = refl

-- A lossless picture has a sample of each component, by any settings.
pub lossless-shown : (settings : Settings) (frame : Frame) → frame.process ≡ Lossless
    → samples_shown settings frame ≡ length frame.components
lossless-shown settings frame e = by-lossless settings.luma frame.process (length frame.components) e

pub luma-alone : (process : CodingProcess) (count : ℕ) → process ≢ Lossless → luma_samples process count ≡ 1
luma-alone Lossless count lossy = absurd (lossy refl)
luma-alone process count lossy = refl

-- A picture of blocks has its luma alone where that is asked for.
pub luma-shown : (settings : Settings) (frame : Frame) → frame.process ≢ Lossless
    → samples_shown settings frame ≡ (if settings.luma then 1 else length frame.components)
luma-shown settings frame lossy = go settings.luma
  where
    go : (luma : Bool) → samples_by luma frame.process (length frame.components)
        ≡ (if luma then 1 else length frame.components)
    go true = luma-alone frame.process (length frame.components) lossy
    go false = refl

-- Frames of blocks have as many samples a pixel where they have as many components.
pub lossy-shown : (settings : Settings) (f g : Frame) → f.process ≢ Lossless → g.process ≢ Lossless
    → length f.components ≡ length g.components → samples_shown settings f ≡ samples_shown settings g
lossy-shown settings f g one two same =
    luma-shown settings f one ∙ ap (λ (n : ℕ). if settings.luma then 1 else n) same
    ∙ sym (luma-shown settings g two)

-- ---- the limit

-- how many samples the picture of this frame has
abbrev pub samples_of : Settings → Frame → ℕ
samples_of settings f = samples_shown settings f * (f.output_width * f.output_height)

abbrev pub within : Settings → Frame → Result (List ℕ) Fault → Result (List ℕ) Fault
within settings frame x = if nat_lt settings.limit (samples_of settings frame) then Err Malformed else x

pub limited-at : (settings : Settings) (said : Said) (frame : Frame) (picture : Frame → Result (List ℕ) Fault)
    → said.frame ≡ Some frame → limited settings said picture ≡ within settings frame (picture frame)
unfolding limited
limited-at settings said frame picture e = rw e refl

pub limited-same : (settings : Settings) (a b : Said) (f g : Frame) (p q : Frame → Result (List ℕ) Fault)
    → a.frame ≡ Some f → b.frame ≡ Some g → samples_of settings f ≡ samples_of settings g → p f ≡ q g
    → limited settings a p ≡ limited settings b q
limited-same settings a b f g p q is_a is_b size same =
    limited-at settings a f p is_a
    ∙ ap₂ (λ (n : ℕ) (o : Result (List ℕ) Fault). if nat_lt settings.limit n then Err Malformed else o) size same
    ∙ sym (limited-at settings b g q is_b)

pub limited-ok : (settings : Settings) (w : Said) (f : Frame) (p : Frame → Result (List ℕ) Fault) (x : List ℕ)
    → w.frame ≡ Some f → samples_of settings f ≤ settings.limit → p f ≡ Ok x → limited settings w p ≡ Ok x
limited-ok settings w f p x is within e =
    limited-at settings w f p is ∙ rw (le-ltb settings.limit (samples_of settings f) within) e
