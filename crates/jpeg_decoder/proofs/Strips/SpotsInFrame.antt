-- A block of a row of MCUs by its index among all blocks of its component.
use Rattle.std.proofs.Common.{◌≡◌, ◌∙◌, ◌+◌, ◌*◌, ◌<◌, ℕ, zero, suc, List, [], ◌∷◌, Option, Some, None, ap, arith}
use Rattle.std.proofs.Common.{get_or, length, map, subst, sym}
use Rattle.std.specs.Prelude.{IfSome, option_map}
use Rattle.jpeg_meaning.specs.McuRows.{row_size}
use Rattle.jpeg_meaning.specs.Order.{Spot}
use Rattle.jpeg_meaning.specs.ScanSegments.{components_of}
use Rattle.jpeg_decoder.specs.Scanning.{IsSpotOf}
use Rattle.jpeg_decoder.specs.Steps.{coding_in}
use Rattle.jpeg_decoder.specs.Strips.{row_sizes}
use Rattle.jpeg_decoder.specs.Through.{in_frame}
use Rattle.jpeg_decoder.specs.Walk.{spot_of}
use Rattle.jpeg_decoder.specs.declared.scan.coded.Coded.{Coded}
use Rattle.jpeg_decoder.specs.declared.scan.spots.Spot as taken

-- the blocks that a component has in a row of MCUs
abbrev size_in : Coded → ℕ
size_in c = c.component.now.vertical_sampling_factor * c.component.now.block_size.width

size-kept : (seen : List Coded) (slot : ℕ) (c : Coded) → slot < length seen → c ≡ get_or seen slot c
    → get_or (row_sizes (map coding_in seen)) slot 0 ≡ size_in c
size-kept [] slot c h e = absurd (omega arith)
size-kept (x ∷ seen) zero c h e = ap (λ (x : Coded). size_in x) (sym e)
size-kept (x ∷ seen) (suc slot) c h e = size-kept seen slot c (omega arith) e

size-above : (seen : List Coded) (slot : ℕ) (c : Coded) → slot < length seen → c ≡ get_or seen slot c
    → get_or (map row_size (components_of (map coding_in seen))) slot 0 ≡ size_in c
size-above [] slot c h e = absurd (omega arith)
size-above (x ∷ seen) zero c h e = ap (λ (x : Coded). size_in x) (sym e)
size-above (x ∷ seen) (suc slot) c h e = size-above seen slot c (omega arith) e

spot-in : (seen : List Coded) (row index : ℕ) (s : taken.Spot) (c : Coded) → c ≡ get_or seen s.slot c
    → (s.index < size_in c → index ≡ row * size_in c + s.index)
    → IsSpotOf (length seen) (row_sizes (map coding_in seen)) (spot_of s)
    → spot_of (record { slot = s.slot; index = index }) ≡ in_frame (map coding_in seen) row (spot_of s)
spot-in seen row index s c e is of =
    let within : s.index < size_in c =
    subst (λ (n : ℕ). s.index < n) (size-kept seen s.slot c of.slot e) of.kept.has_index in
    let above = size-above seen s.slot c of.slot e in
    ap (λ (n : ℕ). record { slot = s.slot; index = n })
    (is within ∙ ap (λ (n : ℕ). row * n + s.index) (sym above))

-- A spot that was found in the row.
pub spot-shifted : (seen : List Coded) (row index : ℕ) (spot : Option taken.Spot) (s : taken.Spot) (c : Coded)
    → spot ≡ Some s → c ≡ get_or seen s.slot c → (s.index < size_in c → index ≡ row * size_in c + s.index)
    → IfSome spot (λ s. IsSpotOf (length seen) (row_sizes (map coding_in seen)) (spot_of s))
    → ◌≡◌ {A = Option Spot} (Some (spot_of (record { slot = s.slot; index = index })))
    (option_map (in_frame (map coding_in seen) row) (option_map spot_of spot))
spot-shifted seen row index None s c is e above h = absurd (let n : ⊥ = cc in n)
spot-shifted seen row index (Some q) s c is e above h =
    let same : q ≡ s = cc in
    let of = subst (λ (s : taken.Spot). IsSpotOf (length seen) (row_sizes (map coding_in seen)) (spot_of s)) same h in
    ap (λ (s : Spot). Some s) (spot-in seen row index s c e above of)
    ∙ ap (λ (s : taken.Spot). Some (in_frame (map coding_in seen) row (spot_of s))) (sym same)
