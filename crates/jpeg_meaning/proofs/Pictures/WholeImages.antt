-- Where all is sent, the picture is that of the array itself.
use Rattle.std.proofs.Common.{rules, ◌≡◌, ℕ, suc, ◌+◌, ◌/◌, ◌^◌, false, List, [], ◌∷◌, length, ℤ, pos, negsuc, neg_ℤ}
use Rattle.std.proofs.Common.{◌*ℤ◌, Option, Some, refl, ap, subst, arith}
use Rattle.std.proofs.lemmas.Grind.{common_steps}
use Rattle.std.proofs.lemmas.Int.{ints}
use Rattle.std.specs.List.{AllByRecursion, enumerate_from, range_with_len}
use Rattle.jpeg_segments.specs.Checks.{gathered}
use Rattle.jpeg_segments.specs.Frame.{Frame, Component}
use Rattle.jpeg_meaning.specs.declared.settings.Settings.{Settings}
use Rattle.jpeg_bits.specs.Passes.{Block}
use Rattle.jpeg_pixels.specs.Planes.{plane_of}
use Rattle.jpeg_meaning.specs.Levels.{Levels, Is8Bit, cut, cut_acs, floor_at, nothing_sent, toward_zero}
use lib.ListN.{length-map}
use Rattle.jpeg_segments.specs.declared.frame.CodingProcess.{CodingProcess}
use Rattle.jpeg_segments.specs.declared.frame.CodingProcess.TheVariants.{DctSequential}
use Rattle.jpeg_segments.specs.Scales.{frame_at, scaled_by}
use Rattle.jpeg_segments.specs.declared.scale.Scale.{Scale}
use Rattle.jpeg_meaning.specs.Stream.{scaled_to, sized_to}
use Rattle.jpeg_meaning.specs.ScanSegments.{is_progressive}
use Rattle.jpeg_meaning.specs.Found.{nothing_said, Said}
use Rattle.jpeg_meaning.specs.WrittenScans.{Coefficients, IsComplete}
use Rattle.jpeg_meaning.specs.ArrayPictures.{as_sent, picture_of_blocks, picture_of_array, meaning_of_array}
use Rattle.jpeg_meaning.specs.FoundPictures.{picture_by}
use Rattle.jpeg_meaning.specs.Rasters.{plane_of_blocks}
use Rattle.jpeg_bits.specs.Reading.{◌>>=◌}
use Rattle.jpeg_meaning.proofs.Written.BroughtLevels.{after-length}
use Rattle.jpeg_meaning.proofs.Pictures.LimitedPictures.{array_plane, limited-same}
use Rattle.jpeg_meaning.specs.WrittenImages.{WritesImage}
use Rattle.jpeg_meaning.specs.WholeImages.{whole_meaning, AllComplete}
use Rattle.jpeg_meaning.proofs.Written.WalkedStreams.{keeps}
use Rattle.jpeg_bits.proofs.BandSteps.{bind_same}
use Rattle.jpeg_meaning.proofs.Order.Apart.{map-same}

-- ---- cuts that cut nothing

over-one : (n : ℕ) → n / 2 ^ 0 ≡ n
over-one n = omega arith

times-one : (u : ℤ) → u *ℤ pos (2 ^ 0) ≡ u
times-one u = omega (arith, ints)

pub floor-whole : (u : ℤ) → floor_at 0 u ≡ u
floor-whole (pos n) = ap pos (over-one n)
floor-whole (negsuc n) = ap negsuc (over-one n)

pub toward-whole : (u : ℤ) → toward_zero 0 u ≡ u
toward-whole (pos n) = ap pos (over-one n)
toward-whole (negsuc n) = ap (λ (k : ℕ). neg_ℤ (pos k)) (over-one (suc n))

acs-whole : (cs : List ℤ) (ls : List (Option ℕ)) → length cs ≡ length ls → AllByRecursion (λ x. x ≡ Some 0) ls
    → cut_acs cs ls ≡ cs
unfolding cut_acs
acs-whole (c ∷ cs) (l ∷ ls) h all = search (rules, times-one, toward-whole, acs-whole cs ls (omega arith) all.1)
acs-whole cs ls h all = search rules

pub cut-whole : (l : Levels) (c : Block) → IsComplete l → length c.acs ≡ length l.acs → cut l c ≡ c
cut-whole l c done h = search (rules, times-one, floor-whole, acs-whole)

-- ---- planes

plane-same : (scale : ℕ) (table : List ℕ) (wide high : ℕ) (f g : ℕ → ℕ → List ℤ)
    → ((row column : ℕ) → f row column ≡ g row column)
    → plane_of scale table wide high f ≡ plane_of scale table wide high g
unfolding plane_of
plane-same scale table wide high f g h = grind (arith, common_steps, map-same)

planes-whole : (said : Said) (array : Coefficients) (levels : ℕ → Levels) (index : ℕ)
    (cs : List Component) → AllByRecursion (λ k. IsComplete (levels k))
    (range_with_len index (length cs)) → ((k row column : ℕ) → length (array k row column).acs
    ≡ length (levels k).acs) → gathered (array_plane said (as_sent array levels))
    (enumerate_from index cs) ≡ gathered (array_plane said array) (enumerate_from index cs)
unfolding gathered plane_of_blocks
planes-whole said array levels index [] done h = refl
planes-whole said array levels index (c ∷ cs) done h =
    let more = planes-whole said array levels (index + 1) cs done.1 h in
    search (rules, bind_same, plane-same, cut-whole, more)

picture-whole : (settings : Settings) (said : Said) (array : Coefficients) (levels : ℕ → Levels) (frame : Frame)
    → said.frame ≡ Some frame → AllComplete frame levels
    → ((k row column : ℕ) → length (array k row column).acs ≡ length (levels k).acs)
    → picture_of_array settings said array levels ≡ picture_of_blocks settings said array
unfolding picture_of_blocks
picture-whole settings said array levels frame e done h =
    limited-same settings said said frame frame _ _ e e refl
    (ap (λ o. o >>= (λ planes. picture_by settings said.metadata frame frame.components planes))
    (planes-whole said array levels 0 frame.components done h))

-- ---- the levels of a stream

levels-sized : (array : Coefficients) (bytes : List ℕ) (final : Said) (last : ℕ → Levels)
    → WritesImage array bytes final last → (k : ℕ) → length (last k).acs ≡ 63
levels-sized array bytes final last w =
    (keeps (λ said levels. (k : ℕ) → length (levels k).acs ≡ 63) nothing_said final (λ k. nothing_sent) last w.after
    (λ now levels s stands may h. h)
    (λ now levels next f h data_bytes e framed x sized.
    subst (λ (l : ℕ → Levels). (k : ℕ) → length (l k).acs ≡ 63) x.sent (after-length _ _ levels sized))
    w.written (λ k. refl)).0

pub whole-is : (settings : Settings) (array : Coefficients) (bytes tail : List ℕ) (final : Said) (last : ℕ → Levels)
    (frame : Frame) → ((index row column : ℕ) → Is8Bit (array index row column))
    → WritesImage array bytes final last → final.frame ≡ Some frame → AllComplete frame last
    → meaning_of_array settings final array last tail ≡ whole_meaning settings final array tail
whole-is settings array bytes tail final last frame range w e done =
    let sized = levels-sized array bytes final last w in search (rules, sized, picture-whole)

pub sequential-whole : (array : Coefficients) (bytes : List ℕ) (final : Said) (last : ℕ → Levels) (frame : Frame)
    → WritesImage array bytes final last → final.frame ≡ Some frame
    → is_progressive frame.process ≡ false → AllComplete frame last
sequential-whole array bytes final last frame w e n =
    let c = (keeps (λ said levels. Unit {0}) nothing_said final (λ k. nothing_sent) last w.after (λ now x s a b p. tt)
    (λ now x next f h data_bytes a b q p. tt) w.written tt).2 in
    search rules

-- ---- at a scale

scaled-count : (scale : ℕ) (p : CodingProcess) (frame : Frame)
    → length (scaled_by p scale frame).components ≡ length frame.components
unfolding frame_at
scaled-count scale DctSequential frame = length-map frame.components _
scaled-count scale p frame = search (rules, length-map)

pub sized-whole : (width height : ℕ) (settings : Settings) (array : Coefficients) (bytes tail : List ℕ)
    (final : Said) (last : ℕ → Levels) (frame : Frame) → ((index row column : ℕ) → Is8Bit (array
    index row column))
    → WritesImage array bytes final last → final.frame ≡ Some frame → AllComplete frame last
    → meaning_of_array settings (sized_to width height final) array last tail
    ≡ whole_meaning settings (sized_to width height final) array tail
sized-whole width height settings array bytes tail final last frame range w e done =
    let levels = levels-sized array bytes final last w in search (rules, levels, scaled-count, picture-whole)

pub scaled-whole : (scale : Scale) (settings : Settings) (array : Coefficients) (bytes tail : List ℕ)
    (final : Said) (last : ℕ → Levels) (frame : Frame) → ((index row column : ℕ) → Is8Bit (array
    index row column))
    → WritesImage array bytes final last → final.frame ≡ Some frame → AllComplete frame last
    → meaning_of_array settings (scaled_to scale final) array last tail
    ≡ whole_meaning settings (scaled_to scale final) array tail
scaled-whole scale settings array bytes tail final last frame range w e done =
    let levels = levels-sized array bytes final last w in search (rules, levels, scaled-count, picture-whole)
