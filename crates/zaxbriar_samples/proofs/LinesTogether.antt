-- The lines of a picture, and all of them together.
use Rattle.std.proofs.Common.{◌≡◌, ◌∙◌, ℕ, zero, suc, ◌+◌, ◌*◌, ◌<◌, List, [], ◌∷◌, ◌++◌, length, take, drop}
use Rattle.std.proofs.Common.{ap, arith, sym, add-mul, drop-drop}
use Rattle.std.proofs.lemmas.List.{drop_at, take_at}
use Rattle.std.specs.List.{AllByRecursion, concat}
use Rattle.std.specs.Prelude.{slice_index_or}
use Rattle.jpeg_meaning.specs.declared.images.ImageInfo.{ImageInfo}
use Rattle.zaxbriar_samples.specs.Boxing.{IsLine}
use Rattle.zaxbriar_samples.specs.Png.{line_bytes}

-- a line of as many bytes as the others, in all of them together
pub line-at : (n y : ℕ) (lines : List (List ℕ)) → AllByRecursion (λ line. length line ≡ n) lines → y < length lines
    → slice_index_or lines y [] ≡ take n (drop (y * n) (concat lines))
line-at n y [] all low = absurd (let n : ⊥ = omega arith in n)
line-at n zero (line ∷ lines) all low =
    let first : 0 * n ≡ 0 = omega arith in
    rw first (sym (take_at line (concat lines) n all.0))
line-at n (suc y) (line ∷ lines) all low =
    let next : suc y ≡ 1 + y = omega arith in
    let from : suc y * n ≡ n + y * n = ap (λ (k : ℕ). k * n) next ∙ omega (arith, add-mul 1 y n) in
    line-at n y lines all.1 (omega arith)
    ∙ ap (λ (l : List ℕ). take n (drop (y * n) l)) (sym (drop_at line (concat lines) n all.0))
    ∙ ap (take n) (drop-drop (y * n) n (line ++ concat lines) ∙ ap (λ (k : ℕ). drop k (line ++ concat lines)) (sym from))

line-length : (n y : ℕ) (lines : List (List ℕ)) → AllByRecursion (λ line. length line ≡ n) lines → y < length lines
    → length (slice_index_or lines y []) ≡ n
line-length n y [] all low = absurd (let n : ⊥ = omega arith in n)
line-length n zero (line ∷ lines) all low = all.0
line-length n (suc y) (line ∷ lines) all low = line-length n y lines all.1 (omega arith)

-- A line of those of a picture is one that a picture is made smaller by.
pub line-is : (info : ImageInfo) (precision y : ℕ) (lines : List (List ℕ))
    → AllByRecursion (λ line. length line ≡ line_bytes info precision) lines → y < length lines
    → IsLine info precision (concat lines) y (slice_index_or lines y [])
line-is info precision y lines all low =
    (line-at (line_bytes info precision) y lines all low, line-length (line_bytes info precision) y lines all low)
