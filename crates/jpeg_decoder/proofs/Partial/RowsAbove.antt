-- The rows of the picture above what a scan lacks, as they are counted.
use Rattle.std.proofs.Common.{◌≡◌, ◌∙◌, ◌⊎◌, inl, inr, ◌*◌, ◌/◌, ◌<◌, ◌≤◌, ◌==◌, ℕ, zero, suc, true, false}
use Rattle.std.proofs.Common.{List, [], ◌∷◌, length, map, min, refl, sym, ap, arith, Some, get_or}
use Rattle.std.specs.Prelude.{◌||◌, Bool, option_map, slice_get}
use Rattle.std.specs.List.{list_any}
use Rattle.std.proofs.lemmas.Bool.{ne_eqb}
use Rattle.std.proofs.lemmas.Nat.{le-div}
use Rattle.std.proofs.lemmas.Option.{slice_get-map, slice_get_read}
use Rattle.std.proofs.Math.Nat.{div-zero, min-eq_left}
use Rattle.jpeg_segments.specs.Frame.{Component, Frame, most_down}
use Rattle.jpeg_segments.specs.FrameView.{component_in}
use Rattle.jpeg_pixels.specs.Pictures.{is_blended}
use Rattle.jpeg_segments.proofs.FrameLemmas.{greatest-some}
use Rattle.jpeg_meaning.specs.WholeRows.{rows_above_line, rows_of_lines}
use Rattle.jpeg_decoder.specs.declared.scan.coded.Coded.{Coded}
use Rattle.jpeg_meaning.specs.ScanSegments.{Coding, components_of}
use Rattle.jpeg_decoder.specs.Steps.{coding_in}

-- A number of lines that is cut off makes as many rows as the height, where that is small enough.
cut-off : (x m g f h : ℕ) → 1 ≤ g → 0 < f → h * f ≤ m → m < x → min h (min x m * g / f) ≡ min h (x * g / f)
cut-off x m g f h some f_some enough long =
    let cut : min x m ≡ m = omega (arith, long) in
    let least : m * 1 ≤ m * g = grind arith in
    let more : m * g ≤ x * g = grind arith in
    let a : h ≤ m * g / f = le-div h (m * g) f f_some (omega (arith, enough, least)) in
    let b : h ≤ x * g / f = le-div h (x * g) f f_some (omega (arith, enough, least, more)) in
    ap (λ (n : ℕ). min h (n * g / f)) cut ∙ min-eq_left a ∙ sym (min-eq_left b)

cut-lines : (x m g f h : ℕ) → 1 ≤ g → h * f ≤ m → min h (min x m * g / f) ≡ min h (x * g / f)
cut-lines x m g zero h some enough =
    ap (min h) (div-zero (min x m * g) ∙ sym (div-zero (x * g)))
cut-lines x m g (suc f) h some enough = go (cases x m)
  where
    cases : (a b : ℕ) → a ≤ b ⊎ b < a
    cases a b = search arith

    go : x ≤ m ⊎ m < x → min h (min x m * g / suc f) ≡ min h (x * g / suc f)
    go (inl few) = ap (λ (n : ℕ). min h (n * g / suc f)) (min-eq_left few)
    go (inr long) = cut-off x m g (suc f) h some (omega arith) enough long

pub saturated : (frame : Frame) (c : Component) (lines : ℕ) → c.factors.vertical < 256 → frame.output_height < 65536
    → min frame.output_height (rows_of_lines frame c (min lines 18446744073709551615))
    ≡ min frame.output_height (rows_of_lines frame c lines)
saturated frame c lines few low =
    cut-lines lines 18446744073709551615 (most_down frame.components) c.factors.vertical frame.output_height
    (greatest-some (λ f. f.vertical) (map (λ c. c.factors) frame.components))
    (product frame.output_height c.factors.vertical low few)
  where
    product : (h v : ℕ) → h < 65536 → v < 256 → h * v ≤ 18446744073709551615
    product h v a b = grind arith

-- the lines above a row of MCUs, of a component alone or one of several
pub above-line : (frame : Frame) (cs : List Component) (c : Component) (line n : ℕ)
    → ((length cs == 1) ≡ true → n ≡ line)
    → ((length cs == 1) ≡ false → n ≡ line / c.factors.vertical * c.factors.vertical)
    → rows_of_lines frame c (n * c.scale) ≡ rows_above_line frame cs c line
above-line frame [] c line n alone others = ap (λ (n : ℕ). rows_of_lines frame c (n * c.scale)) (others refl)
above-line frame (a ∷ []) c line n alone others = ap (λ (n : ℕ). rows_of_lines frame c (n * c.scale)) (alone refl)
above-line frame (a ∷ b ∷ more) c line n alone others =
    ap (λ (n : ℕ). rows_of_lines frame c (n * c.scale)) (others (ne_eqb (length (a ∷ b ∷ more)) 1 (omega arith)))

-- the component of a slot
pub slot-component : (codings : List Coding) (seen : List Coded) (slot : ℕ) (c : Coded) → map coding_in seen ≡ codings
    → slot < length seen → c ≡ get_or seen slot c → slice_get (components_of codings) slot ≡ Some (coding_in c).component
slot-component codings seen slot c same within is =
    sym (ap (λ (l : List Coding). slice_get (components_of l) slot) same)
    ∙ slice_get-map (λ (c : Coding). c.component) (map coding_in seen) slot
    ∙ ap (option_map (λ (c : Coding). c.component)) (slice_get-map coding_in seen slot)
    ∙ ap (λ (o : _). option_map (λ (c : Coding). c.component) (option_map coding_in o))
    (slice_get_read seen (length seen) slot c refl within is)

-- some component of a scan's, by the scan's codings
pub any_component : (frame : Frame) (seen : List Coded)
    → list_any (λ (c : Coded). is_blended frame (component_in c.component.now)) seen
    ≡ list_any (is_blended frame) (components_of (map coding_in seen))
any_component frame [] = refl
any_component frame (c ∷ seen) = ap (λ (b : Bool). is_blended frame (component_in c.component.now) || b) (any_component frame seen)
