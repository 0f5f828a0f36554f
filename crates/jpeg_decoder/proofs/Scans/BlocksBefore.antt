-- What a scan begins with, what it finishes, and the length of a plane.
use Rattle.std.proofs.Common.{◌≡◌, ◌≢◌, ◌≤◌, ℕ, zero, suc, ◌-◌, ◌*◌, pos, Bool, true, List, ◌∷◌}
use Rattle.std.proofs.Common.{◌++◌, refl, ap, ◌∙◌, length, map, take, drop, replicate, arith}
use Rattle.std.proofs.Common.{ne_eqb}
use Rattle.std.proofs.lemmas.List.{drop-drop, take_all}
use Rattle.std.proofs.lemmas.List.FromFn.{length-map-range_with_len}
use Rattle.jpeg_bits.specs.BlockView.{to_block}
use Rattle.jpeg_bits.specs.Passes.{Block, Pass, zero_block}
use Rattle.jpeg_bits.specs.Zigzag.{coefficients_in_zigzag}
use Rattle.jpeg_segments.specs.Frame.{Component}
use Rattle.jpeg_pixels.specs.Planes.{plane_of}
use Rattle.jpeg_meaning.specs.Scans.{zero_of, zero_arrays}
use Rattle.jpeg_meaning.specs.Rasters.{plane_by, plane_of_blocks}
use Rattle.jpeg_meaning.specs.ScanSegments.{finished_by}
use Rattle.std.proofs.lemmas.Grind.{common_steps}

-- ---- zeros

pub zero-blocks : (n : ℕ) → map to_block (replicate n (replicate 64 (pos 0))) ≡ replicate n zero_block
unfolding zero_block coefficients_in_zigzag
zero-blocks zero = refl
zero-blocks (suc n) = ap (λ (l : List Block). zero_block ∷ l) (zero-blocks n)

-- ---- the marks of a pass

pub marked-by : (p : Pass) (marks new : List Bool) (from n : ℕ) → p.al ≡ 0 → from ≡ p.ss → n ≡ suc p.se - p.ss
    → p.ss ≤ p.se → new ≡ replicate n true
    → take from marks ++ (new ++ drop n (drop from marks)) ≡ finished_by p marks
unfolding finished_by
marked-by p marks new from n level f c order e = grind (arith, common_steps, drop-drop)

pub unmarked-by : (p : Pass) (marks : List Bool) → p.al ≢ 0 → marks ≡ finished_by p marks
unfolding finished_by
unmarked-by p marks level = rw (ne_eqb p.al 0 level) refl

-- ---- the length of a plane

-- A plane has a sample for each line and column of its blocks.
pub plane_by-length : (c : Component) (quantization : List ℕ) (blocks : List Block)
    → length (plane_by c quantization blocks) ≡ (c.blocks_high * c.scale) * (c.blocks_wide * c.scale)
unfolding plane_by plane_of_blocks plane_of
plane_by-length c quantization blocks = grind (arith, common_steps, length-map-range_with_len)

-- after the last component
pub zeros_all : {A : Type 0} (f : A → Component) (xs items : List A) (i : ℕ) → length xs ≤ i → xs ≡ items
    → map zero_of (map f (take i xs)) ≡ zero_arrays (map f items)
unfolding zero_arrays
zeros_all f xs items i h e = ap (λ (l : List _). map zero_of (map f l)) (take_all i xs h ∙ e)
