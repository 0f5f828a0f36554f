-- The planes of a written stream are those of its array, cut at the levels that were sent.
use Rattle.std.proofs.Common.{◌≡◌, ◌≢◌, ◌*◌, ℕ, List, [], ◌∷◌, ◌++◌, None, Some, Ok, Err, Result, refl, sym, ap, ap₂}
use Rattle.std.proofs.Common.{◌∙◌, arith, nat_lt, if◌then◌else◌}
use Rattle.std.proofs.Math.Nat.{mul_comm}
use Rattle.std.specs.List.{enumerate_from}
use Rattle.jpeg_bits.specs.Reading.{Fault, Malformed, Outcome, ◌>>=◌}
use Rattle.jpeg_segments.specs.Checks.{gathered}
use Rattle.jpeg_segments.specs.Frame.{Component, Frame}
use Rattle.jpeg_segments.specs.declared.frame.CodingProcess.{CodingProcess}
use Rattle.jpeg_segments.specs.declared.frame.CodingProcess.TheVariants.{Lossless}
use Rattle.jpeg_segments.specs.declared.scale.Scale.{Scale}
use Rattle.jpeg_meaning.specs.ArrayPictures.{as_sent}
use Rattle.jpeg_meaning.specs.Found.{Found, Said}
use Rattle.jpeg_meaning.specs.FoundPictures.{plane_at_end}
use Rattle.jpeg_meaning.specs.FoundPlanes.{blocks_planes, own_plane, own_planes, planes_by_process, planes_of, planes_within}
use Rattle.jpeg_meaning.specs.FoundPlanes.{samples_in}
use Rattle.jpeg_meaning.specs.Levels.{Is8Bit, Levels}
use Rattle.jpeg_meaning.specs.Stream.{Told, meaning_showing, scaled_showing, scaled_to, sized_showing, sized_to, told_of}
use Rattle.jpeg_meaning.specs.WrittenImages.{WritesImage}
use Rattle.jpeg_meaning.specs.WrittenPlanes.{planes_of_blocks}
use Rattle.jpeg_meaning.specs.WrittenScans.{Coefficients}
use Rattle.jpeg_meaning.proofs.Pictures.LimitedPictures.{array_plane}
use Rattle.jpeg_meaning.proofs.Pictures.UpsampledFactors.{AllAlike, cropped-same}
use Rattle.jpeg_meaning.proofs.Written.ReadTurns.{then-ok}
use Rattle.jpeg_meaning.proofs.Written.SizedStreams.{image-scaled, image-sized}
use Rattle.jpeg_meaning.proofs.Written.WalkedStreams.{beside}
use Rattle.jpeg_meaning.proofs.Written.WrittenPictures.{ImageMeant, ReadImage, both-planes, bring, image-walked, shape}

-- ---- the limit

pub within-at : (limit : ℕ) (said : Said) (frame : Frame) (planes : Frame → Result (List (List ℕ)) Fault)
    → said.frame ≡ Some frame → planes_within limit said planes
    ≡ (if nat_lt limit (samples_in frame) then Err Malformed else planes frame)
unfolding planes_within
within-at limit said frame planes e = rw e refl

pub within-same : (limit : ℕ) (said : Said) (frame : Frame) (p q : Frame → Result (List (List ℕ)) Fault)
    → said.frame ≡ Some frame → p frame ≡ q frame → planes_within limit said p ≡ planes_within limit said q
within-same limit said frame p q is same =
    within-at limit said frame p is
    ∙ ap (λ (o : Result (List (List ℕ)) Fault). if nat_lt limit (samples_in frame) then Err Malformed else o) same
    ∙ sym (within-at limit said frame q is)

-- ---- planes that are the same

one-same : (c : Component) (more : List Component) (p q : List ℕ) (ps qs : List (List ℕ))
    → AllAlike (c ∷ more) (p ∷ ps) (q ∷ qs) → own_plane c p ≡ own_plane c q
one-same c more p q ps qs alike =
    let turned = mul_comm c.scale c.blocks_wide in
    rw turned (cropped-same (c.blocks_wide * c.scale) c.width c.height c.width c.height p q (omega arith) (omega arith) alike.0)

own-same : (components : List Component) (ps qs : List (List ℕ)) → AllAlike components ps qs
    → own_planes components ps ≡ own_planes components qs
unfolding own_planes
own-same [] ps qs alike = refl
own-same (c ∷ more) (p ∷ ps) (q ∷ qs) alike =
    ap₂ (λ (x : List ℕ) (xs : List (List ℕ)). x ∷ xs) (one-same c more p q ps qs alike) (own-same more ps qs alike.1)
own-same (c ∷ more) [] qs alike = absurd alike
own-same (c ∷ more) (p ∷ ps) [] alike = absurd alike

lossy-planes : (all : Found) (f : Frame) (p : CodingProcess) → p ≢ Lossless
    → planes_by_process p all f ≡ blocks_planes all f
lossy-planes all f Lossless n = absurd (n refl)
lossy-planes all f p n = refl

-- ---- the planes

planes-same : (limit : ℕ) (array : Coefficients) (final : Said) (last : ℕ → Levels)
    → (r : ReadImage array final last)
    → planes_of limit (beside bring final r.brought) ≡ planes_of_blocks limit final (as_sent array last)
unfolding planes_of planes_of_blocks blocks_planes
planes-same limit array final last r =
    let f = r.frame in
    let all = beside bring final r.brought in
    let is = shape array final last r in
    let b = both-planes array final last r in
    within-same limit final f _ _ r.framed
    (lossy-planes all f f.process is.lossy
    ∙ then-ok (gathered (plane_at_end all f) (enumerate_from 0 f.components)) _ b.ours _ b.ours_are
    (ap (λ (l : List (List ℕ)). Ok l) (own-same f.components b.ours b.theirs b.alike))
    ∙ sym (then-ok (gathered (array_plane final (as_sent array last)) (enumerate_from 0 f.components)) _ b.theirs _
    b.theirs_are refl))

-- what a caller is given of planes
abbrev pub planes_given : Said → List ℕ → Result (List (List ℕ)) Fault → Outcome (Told × List (List ℕ))
planes_given said rest planes = planes >>= (λ p. Ok ((told_of said, p), rest))

planed : (limit : ℕ) (array : Coefficients) (final : Said) (last : ℕ → Levels) (tail : List ℕ)
    (meant : Outcome (Told × List (List ℕ))) → ImageMeant (planes_of limit) array final last tail meant
    → meant ≡ planes_given final tail (planes_of_blocks limit final (as_sent array last))
planed limit array final last tail meant r =
    r.1 ∙ ap (planes_given final tail) (planes-same limit array final last r.0)

-- ---- a written stream, at each size

pub planes-mean : (limit : ℕ) (array : Coefficients) (bytes rest : List ℕ) (final : Said)
    (last : ℕ → Levels) → ((index row column : ℕ) → Is8Bit (array index row column))
    → WritesImage array bytes final last → meaning_showing None (planes_of limit) (bytes ++ rest)
    ≡ planes_given final rest (planes_of_blocks limit final (as_sent array last))
planes-mean limit array bytes rest final last range w =
    planed limit array final last rest _ (image-walked (planes_of limit) array bytes rest final last range w)

pub planes-mean_sized : (width height limit : ℕ) (array : Coefficients) (bytes rest : List ℕ) (final : Said)
    (last : ℕ → Levels) → ((index row column : ℕ) → Is8Bit (array index row column))
    → WritesImage array bytes final last → sized_showing width height (planes_of limit) (bytes ++ rest)
    ≡ planes_given (sized_to width height final) rest
    (planes_of_blocks limit (sized_to width height final) (as_sent array last))
planes-mean_sized width height limit array bytes rest final last range w =
    planed limit array (sized_to width height final) last rest _
    (image-sized width height (planes_of limit) array bytes rest final last range w)

pub planes-mean_scaled : (scale : Scale) (limit : ℕ) (array : Coefficients) (bytes rest : List ℕ) (final : Said)
    (last : ℕ → Levels) → ((index row column : ℕ) → Is8Bit (array index row column))
    → WritesImage array bytes final last → scaled_showing scale (planes_of limit) (bytes ++ rest)
    ≡ planes_given (scaled_to scale final) rest (planes_of_blocks limit (scaled_to scale final) (as_sent array last))
planes-mean_scaled scale limit array bytes rest final last range w =
    planed limit array (scaled_to scale final) last rest _
    (image-scaled scale (planes_of limit) array bytes rest final last range w)
