-- The lines of the components of a picture.
use Rattle.std.proofs.lemmas.Slice.{take-put_mid}
use Rattle.std.proofs.lemmas.Grind.{common_steps}
use Rattle.std.proofs.Common.{◌≡◌, ℕ, zero, suc, ◌+◌, ◌*◌, ◌<◌, ◌≤◌, List, [], ◌∷◌, length, get_or}
use Rattle.std.proofs.Common.{slice_index, take, ap₂, ◌∙◌, arith, add-one, subst, rules}
use Rattle.std.specs.Prelude.{zip}
use Rattle.std.proofs.lemmas.List.{append-nil, get_or-map, length-map}
use Rattle.std.proofs.lemmas.Slice.Zip.{get_or-zip, length-zip}
use Rattle.std.proofs.lemmas.List.FromFn.{length-map-range_with_len, fill_by_all}
use Rattle.std.proofs.lemmas.List.Folds.{concat-append}
use Rattle.std.proofs.Math.Seq.{take-suc}
use Rattle.std.specs.List.{concat}
use borrow.Rule.Slice.PartMut.{put_mid}
use Rattle.jpeg_pixels.specs.Upsampling.{upsampled}
use Rattle.jpeg_pixels.specs.Pictures.{Source, Covers, AllCover, line_of, lines_of}
use Rattle.jpeg_pixels.specs.JointPlanes.{HaveWidth}

pub lines_of-length : (sources : List Source) (planes : List (List ℕ)) (width row : ℕ) → length planes ≡ length sources
    → length (lines_of sources planes width row) ≡ length sources
unfolding lines_of
lines_of-length sources planes width row e = grind (arith, common_steps, length-map, length-zip)

pub cover-at : (sources : List Source) (planes : List (List ℕ)) (width height k : ℕ) (s : Source)
    → length planes ≡ length sources → AllCover sources planes width height → k < length sources
    → Covers (get_or sources k s) (get_or planes k []) width height
unfolding AllCover
cover-at [] planes width height k s e all h = absurd (omega arith)
cover-at (t ∷ sources) [] width height k s e all h = absurd all
cover-at (t ∷ sources) (p ∷ planes) width height zero s e all h = all.0
cover-at (t ∷ sources) (p ∷ planes) width height (suc k) s e all h =
    cover-at sources planes width height k s (omega arith) all.1 (omega arith)

-- the same of a source and a plane that are known by other words
pub cover-of : (sources : List Source) (planes : List (List ℕ)) (width height k : ℕ) (s t : Source) (p : List ℕ)
    → length planes ≡ length sources → AllCover sources planes width height → k < length sources
    → get_or sources k s ≡ t → get_or planes k [] ≡ p → Covers t p width height
cover-of sources planes width height k s t p e all h source plane =
    subst (λ (r : Source). Covers r p width height) source
    (subst (λ (l : List ℕ). Covers (get_or sources k s) l width height) plane (cover-at sources planes width height
    k s e all h))

pub line-of : (sources : List Source) (planes : List (List ℕ)) (width row k : ℕ) (s t : Source) (p : List ℕ)
    → length planes ≡ length sources → k < length sources
    → get_or sources k s ≡ t → get_or planes k [] ≡ p → get_or (lines_of sources planes width row) k []
    ≡ line_of t p width row
unfolding lines_of
line-of sources planes width row k s t p e h source plane =
    let both = get_or-zip sources planes k (s, []) h (omega arith) in
    get_or-map (λ x. line_of x.0 x.1 width row) (zip sources planes) k (s, []) [] (omega (arith, length-zip sources planes))
    ∙ (λ i. line_of (both i).0 (both i).1 width row) ∙ ap₂ (λ a b. line_of a b width row) source plane

-- planes that cover a picture cover its upper part
pub cover-lower : (sources : List Source) (planes : List (List ℕ)) (width low high : ℕ) → low ≤ high
    → AllCover sources planes width high → AllCover sources planes width low
unfolding AllCover
cover-lower [] planes width low high le all = tt
cover-lower (s ∷ sources) [] width low high le all = all
cover-lower (s ∷ sources) (p ∷ planes) width low high le all =
    search (rules, cover-lower sources planes width low high le all.1)

pub lines_of-long : (sources : List Source) (planes : List (List ℕ)) (width row : ℕ) → length planes ≡ length sources
    → HaveWidth width (lines_of sources planes width row)
unfolding lines_of
lines_of-long [] planes width row e = record { each = λ k h. absurd (omega arith) }
lines_of-long (s ∷ sources) [] width row e = absurd (omega arith)
lines_of-long (s ∷ sources) (p ∷ planes) width row e =
    search (rules, get_or, length-map-range_with_len, slice_index, lines_of-long sources planes width row (omega arith))

-- one more line after the first lines
pub lines-more : (all : List (List ℕ)) (index width k : ℕ) (now new : List ℕ) → index < length all
    → index * width ≤ length now → length new ≡ width
    → new ≡ get_or all index []
    → take (index * width) now ≡ concat (take index all)
    → take ((index + 1) * width) (put_mid (index * width) k now new) ≡ concat (take (index + 1) all)
lines-more all index width k now new h room long is before =
    grind (arith, common_steps, add-one, append-nil, concat-append, get_or, take-put_mid, take-suc)

-- a line by its samples
pub line_by_samples : (s : Source) (plane : List ℕ) (width row : ℕ) (new : List ℕ) → length new ≡ width
    → ((x : ℕ) → x < width → get_or new x 0 ≡ upsampled s.rule (λ i j. slice_index plane (j * s.stride + i)) s.width
    s.height x row)
    → new ≡ line_of s plane width row
line_by_samples s plane width row new long each =
    fill_by_all (λ x. upsampled s.rule (λ i j. slice_index plane (j * s.stride + i)) s.width s.height x row) new width 0
    long each
