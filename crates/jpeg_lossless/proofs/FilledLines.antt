-- Pieces of one length that are written one after the other into a list that has exactly their room.
use Rattle.std.proofs.lemmas.Grind.{common_steps}
use Rattle.std.proofs.Common.{◌≡◌, ℕ, zero, suc, ◌+◌, ◌*◌, ◌<◌, ◌≤◌, List, [], ◌∷◌, ◌++◌, length}
use Rattle.std.proofs.Common.{take, set, ap, arith, length-take, slice_index_or, rules}
use Rattle.std.proofs.Math.Nat.{add-mul, mul-le-mul_right, one-mul}
use Rattle.std.proofs.Math.Seq.{take-append-add, take-append_seam}
use Rattle.std.proofs.lemmas.List.{take_all}
use Rattle.std.proofs.lemmas.List.FromFn.{length-map-range_with_len}
use borrow.Rule.Slice.PartMut.{put_mid}
use Rattle.jpeg_lossless.specs.Pictures.{AreWide, Layer, lines_across}

-- a part written after the first a elements
pub take-put : (a n k : ℕ) (xs ys : List ℕ) → a ≤ length xs → length ys ≡ n
    → take (a + n) (put_mid a k xs ys) ≡ take a xs ++ ys
take-put a n k xs ys le e = grind (arith, common_steps, length-take, take-append-add, take-append_seam)

pub no-pieces : (size : ℕ) (out : List ℕ) → take (0 * size) out ≡ []
no-pieces size out = let e : 0 * size ≡ 0 = omega arith in ap (λ (n : ℕ). take n out) e

-- a piece is within the room
pub piece-fits : (count i size long : ℕ) → i < count → long ≡ count * size → i * size + size ≤ long
piece-fits count i size long lt is = search (rules, mul-le-mul_right, add-mul, one-mul)

-- one piece more
pub pieces-more : (i size k : ℕ) (now new front more : List ℕ) {made : List ℕ} → i * size ≤ length now
    → length new ≡ size → take (i * size) now ≡ front → new ≡ made → more ≡ front ++ made
    → take ((i + 1) * size) (put_mid (i * size) k now new) ≡ more
pieces-more i size k now new front more room long before is joined = search (rules, take-put)

-- all pieces
pub all-pieces : (count i size : ℕ) (now made : List ℕ) → i ≡ count → length now ≡ count * size
    → take (i * size) now ≡ made → now ≡ made
all-pieces count i size now made end long is = grind (arith, common_steps, take_all)

-- ---- lines of one width

pub wide-at : (n i : ℕ) (lines : List (List ℕ)) (d : List ℕ) → AreWide n lines → i < length lines
    → length (slice_index_or lines i d) ≡ n
unfolding AreWide
wide-at n i [] d w h = absurd (omega arith)
wide-at n zero (l ∷ lines) d w h = w.0
wide-at n (suc i) (l ∷ lines) d w h = wide-at n i lines d w.1 (omega arith)

pub wide-set : (n i : ℕ) (lines : List (List ℕ)) (new : List ℕ) → AreWide n lines → length new ≡ n
    → AreWide n (set lines i new)
unfolding AreWide
wide-set n i [] new w h = tt
wide-set n zero (l ∷ lines) new w h = (h, w.1)
wide-set n (suc i) (l ∷ lines) new w h = (w.0, wide-set n i lines new w.1 h)

pub wide-none : (n : ℕ) → AreWide n []
unfolding AreWide
wide-none n = tt

pub wide-more : (n : ℕ) (lines : List (List ℕ)) (new : List ℕ) → AreWide n lines → length new ≡ n
    → AreWide n (lines ++ new ∷ [])
unfolding AreWide
wide-more n [] new w h = (h, tt)
wide-more n (l ∷ lines) new w h = (w.0, wide-more n lines new w.1 h)

pub across-wide : (h v width y : ℕ) (layers : List Layer) → AreWide width (lines_across h v width layers y)
unfolding AreWide lines_across
across-wide h v width y [] = tt
across-wide h v width y (l ∷ layers) = (length-map-range_with_len _ 0 width, across-wide h v width y layers)

pub ruleset pieces = (no-pieces, piece-fits, pieces-more, all-pieces, common_steps)

pub ruleset wide_lines = (wide-none, wide-more, common_steps)
