use Rattle.std.proofs.Common.{ℕ, rules, ap, ℤ, pos, List, slice_index_or, FitsSigned}
use Rattle.std.proofs.lemmas.Int.{to_z-of_z}
use Rattle.std.specs.Int.{w32}
use Rattle.jpeg_pixels.proofs.LaneSums.{butterfly_is}
use Rattle.jpeg_pixels.proofs.idct.kernel.Goals as goal

pub returns : goal.returns
returns c =
    let s : ℕ → ℤ = λ k. slice_index_or c.args.s.now k (pos 0) in
    let f0 : FitsSigned w32 (s 0) = search rules in
    let f1 : FitsSigned w32 (s 1) = search rules in
    let f2 : FitsSigned w32 (s 2) = search rules in
    let f3 : FitsSigned w32 (s 3) = search rules in
    let f4 : FitsSigned w32 (s 4) = search rules in
    let f5 : FitsSigned w32 (s 5) = search rules in
    let f6 : FitsSigned w32 (s 6) = search rules in
    let f7 : FitsSigned w32 (s 7) = search rules in
    let fx = c.ranges.x_scale in
    let x = simp to_z-of_z at c.kernel_x.ensures in
    let t = simp to_z-of_z at c.kernel_t.ensures in
    butterfly_is s c.args.x_scale _ _ _ _ _ _ _ _
    (ap (λ (l : List ℤ). slice_index_or l 0 (pos 0)) x) (ap (λ (l : List ℤ). slice_index_or l 1 (pos 0)) x)
    (ap (λ (l : List ℤ). slice_index_or l 2 (pos 0)) x) (ap (λ (l : List ℤ). slice_index_or l 3 (pos 0)) x)
    (ap (λ (l : List ℤ). slice_index_or l 0 (pos 0)) t) (ap (λ (l : List ℤ). slice_index_or l 1 (pos 0)) t)
    (ap (λ (l : List ℤ). slice_index_or l 2 (pos 0)) t) (ap (λ (l : List ℤ). slice_index_or l 3 (pos 0)) t)
