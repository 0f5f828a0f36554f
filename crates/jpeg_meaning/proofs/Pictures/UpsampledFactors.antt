-- Components whose factors can be upsampled have a way to upsample them, and no others.
use Rattle.std.proofs.Common.{rules, ◌≡◌, ◌⊎◌, ℕ, ◌%◌, ◌||◌, Bool, true, false, List, [], ◌∷◌, Option, Some, None, Ok}
use Rattle.std.proofs.Common.{refl, sym, if◌then◌else◌, true≢false, zero, suc, ◌+◌, ◌*◌, ◌/◌, ◌<◌, ◌≤◌, map, length}
use Rattle.std.proofs.Common.{slice_index, ap, ap₂, arith}
use Rattle.std.proofs.lemmas.Bool.{eqb-true, eq-eqb, and_from as and-true, or_left}
use Rattle.std.specs.List.{AllByRecursion, range_with_len, concat}
use Rattle.jpeg_segments.specs.Checks.{gathered}
use Rattle.jpeg_segments.specs.Frame.{Component, Factors}
use Rattle.jpeg_pixels.specs.declared.upsample_rows.UpsampleRule.{UpsampleRule}
use Rattle.jpeg_pixels.specs.declared.upsample_rows.UpsampleRule.TheVariants.{H1V1, H2V1, H1V2, H2V2}
use Rattle.jpeg_pixels.specs.Pictures.{Source, source_of, sources_of, lines_of, picture_line}
use Rattle.jpeg_pixels.specs.Pictures.{converted_picture, image_of}
use Rattle.jpeg_pixels.specs.Upsampling.{rule_of, upsampled, across, down}
use Rattle.jpeg_meaning.specs.AcceptedFrames.{IsNear}
use Rattle.jpeg_pixels.proofs.SourceLists.{source_with}
use Rattle.jpeg_meaning.proofs.Written.ReadTurns.{bind-ok, err-ok, then-ok, ok-same}
use Rattle.std.proofs.lemmas.Grind.{common_steps}
use Rattle.std.proofs.Math.Nat.{div-lt_iff_lt-mul, mod-lt, mul_comm}
use Rattle.jpeg_bits.specs.declared.color_transform.ColorTransform.{ColorTransform}
use Rattle.jpeg_pixels.specs.declared.color_convert.ColorConvert.{ColorConvert}
use Rattle.jpeg_pixels.specs.Colour.{line_bytes}
use Rattle.jpeg_pixels.specs.Planes.{cropped}

-- ---- a rule by its tests

abbrev pick : Bool → Bool → Bool → Bool → Bool → UpsampleRule → Option UpsampleRule
pick a b c d e last = if a then Some H1V1 else
    (if b then Some H2V1 else (if c then Some H1V2 else (if d then Some H2V2 else (if e then Some last else None))))

pick-some : (a b c d e : Bool) (l : UpsampleRule) → (a || (b || (c || (d || e)))) ≡ true
    → (r : UpsampleRule) × (pick a b c d e l ≡ Some r)
pick-some true b c d e l h = (H1V1, refl)
pick-some false true c d e l h = (H2V1, refl)
pick-some false false true d e l h = (H1V2, refl)
pick-some false false false true e l h = (H2V2, refl)
pick-some false false false false true l h = (l, refl)
pick-some false false false false false l h = absurd (true≢false (sym h))

-- ---- from the factors to a rule

-- the greatest factors, and the size of the picture
abbrev pub Upsampled : ℕ → ℕ → ℕ → ℕ → Factors → Type 0
Upsampled most_h most_v width height c =
    (IsNear c.horizontal most_h width × IsNear c.vertical most_v height)
    ⊎ ((most_h % c.horizontal ≡ 0) × (most_v % c.vertical ≡ 0))

rule-some : (most_h most_v width height : ℕ) (c : Factors) → Upsampled most_h most_v width height c
    → (r : UpsampleRule) × (rule_of c.horizontal c.vertical most_h most_v width height ≡ Some r)
unfolding rule_of
rule-some most_h most_v width height c u = search (rules, pick-some, or_left, and-true, eq-eqb)

pub sources-some : (most_h most_v width height : ℕ) (cs : List Component)
    → AllByRecursion (λ c. Upsampled most_h most_v width height c.factors) cs
    → (sources : List Source) × (gathered (source_of most_h most_v width height) cs ≡ Ok sources)
unfolding gathered source_of
sources-some most_h most_v width height [] u = ([], refl)
sources-some most_h most_v width height (c ∷ cs) u =
    let r = rule-some most_h most_v width height c.factors u.0 in
    let others = sources-some most_h most_v width height cs u.1 in (
      _,
      then-ok (source_of most_h most_v width height c) _ (source_with c r.0) _ (rw r.1 refl)
          (then-ok (gathered (source_of most_h most_v width height) cs) _ others.0 _ others.1 refl),
    )

-- ---- and back

pub sources-back : (most_h most_v width height : ℕ) (cs : List Component) (sources : List Source)
    → gathered (source_of most_h most_v width height) cs ≡ Ok sources
    → AllByRecursion (λ c. Upsampled most_h most_v width height c.factors) cs
unfolding gathered rule_of source_of
sources-back most_h most_v width height [] sources e = tt
sources-back most_h most_v width height (c ∷ cs) sources e =
    search (rules, bind-ok, eqb-true, err-ok, sources-back most_h most_v width height cs)

-- ---- one sample

-- planes that are the same inside
abbrev pub Agree : ℕ → ℕ → (ℕ → ℕ → ℕ) → (ℕ → ℕ → ℕ) → Type 0
Agree w h p q = (i j : ℕ) → i < w → j < h → p i j ≡ q i j

-- a sample between a component's own is made of those inside
upsampled-inside : (rule : UpsampleRule) (w h width height x y : ℕ) (p q : ℕ → ℕ → ℕ) → 0 < w
    → 0 < h → 0 < across rule → 0 < down rule → width ≤ across rule * w → height ≤ down rule * h
    → x < width → y < height → Agree w h p q → upsampled rule p w h x y ≡ upsampled rule q w h x y
unfolding upsampled
upsampled-inside rule w h width height x y p q a b c d e f k l same = grind (arith, common_steps)

-- ---- lines and pictures

pub map-same : {B : Type 0} (f g : ℕ → B) (a n : ℕ) → ((k : ℕ) → a ≤ k → k < a + n → f k ≡ g k)
    → map f (range_with_len a n) ≡ map g (range_with_len a n)
map-same f g a zero h = refl
map-same {B} f g a (suc n) h = ap₂ (λ (x : B) (l : List B). x ∷ l) (h a (omega arith) (omega arith))
    (map-same f g (a + 1) n (λ k low high. h k (omega arith) (omega arith)))

-- two lists of samples, in lines of a stride, that are the same inside
pub record SamePlane (stride w h : ℕ) (p q : List ℕ) : Type 0 where
  pub count : length p ≡ length q
  pub each : Agree w h (λ i j. slice_index p (j * stride + i)) (λ i j. slice_index q (j * stride + i))

-- a component reaches the ends of the picture
pub record Reaches (s : Source) (width height : ℕ) : Type 0 where
  pub some_width : 0 < s.width
  pub some_height : 0 < s.height
  pub some_across : 0 < across s.rule
  pub some_down : 0 < down s.rule
  pub wide_enough : width ≤ across s.rule * s.width
  pub high_enough : height ≤ down s.rule * s.height

abbrev pub AllReach : List Source → ℕ → ℕ → Type 0
AllReach [] width height = Unit {0}
AllReach (s ∷ sources) width height = Reaches s width height × AllReach sources width height

abbrev pub AllSame : List Source → List (List ℕ) → List (List ℕ) → Type 0
AllSame [] ps qs = Unit {0}
AllSame (s ∷ sources) [] qs = ⊥
AllSame (s ∷ sources) (p ∷ ps) [] = ⊥
AllSame (s ∷ sources) (p ∷ ps) (q ∷ qs) = SamePlane s.stride s.width s.height p q × AllSame sources ps qs

lines-same : (sources : List Source) (ps qs : List (List ℕ)) (width height row : ℕ) → AllReach sources width height
    → row < height → AllSame sources ps qs
    → lines_of sources ps width row ≡ lines_of sources qs width row
unfolding lines_of
lines-same (s ∷ sources) (p ∷ ps) (q ∷ qs) width height row c low same =
    search (rules, map-same, upsampled-inside, lines-same sources ps qs width height row c.1 low same.1)
lines-same sources ps qs width height row c low same = search rules

picture-same : (convert : ColorConvert) (sources : List Source) (ps qs : List (List ℕ)) (width height : ℕ)
    → AllReach sources width height → AllSame sources ps qs
    → converted_picture convert sources ps width height ≡ converted_picture convert sources qs
    width height
unfolding converted_picture picture_line
picture-same convert sources ps qs width height c same =
    ap concat (map-same (picture_line convert sources ps width) (picture_line convert sources qs width) 0 height
    (λ row a b. ap (line_bytes convert width) (lines-same sources ps qs width height row c (omega arith) same)))

-- ---- by components

abbrev pub AllAlike : List Component → List (List ℕ) → List (List ℕ) → Type 0
AllAlike [] ps qs = Unit {0}
AllAlike (c ∷ more) [] qs = ⊥
AllAlike (c ∷ more) (p ∷ ps) [] = ⊥
AllAlike (c ∷ more) (p ∷ ps) (q ∷ qs) = SamePlane (c.blocks_wide * c.scale) c.width c.height p q × AllAlike more ps qs

sources-same : (a b width height : ℕ) (components : List Component) (sources : List Source) (ps qs : List (List ℕ))
    → gathered (source_of a b width height) components ≡ Ok sources → AllAlike components ps qs
    → AllSame sources ps qs
unfolding gathered source_of
sources-same a b width height (c ∷ more) sources (p ∷ ps) (q ∷ qs) e h =
    search (rules, bind-ok, err-ok, sources-same a b width height more)
sources-same a b width height components sources ps qs e h = search (rules, ok-same)

-- The image of several components.
pub image-same : (components : List Component) (ps qs : List (List ℕ)) (width height : ℕ) (transform : ColorTransform)
    → ((sources : List Source) → sources_of components width height ≡ Ok sources → AllReach sources width height)
    → AllAlike components ps qs
    → image_of components ps width height transform ≡ image_of components qs width height transform
unfolding image_of
image-same components ps qs width height transform covers same = search (rules, picture-same, sources-same)

-- The first samples of the first lines.
pub cropped-same : (stride w h width height : ℕ) (p q : List ℕ) → width ≤ w → height ≤ h → SamePlane stride w h p q
    → cropped stride width height p ≡ cropped stride width height q
unfolding cropped
cropped-same stride w h width height p q a b same = search (rules, map-same, slice_index, go)
  where
    go : (n : ℕ) → n ≡ width → (i : ℕ) → i < 0 + width * height
        → slice_index p (i / width * stride + i % width) ≡ slice_index q (i / width * stride + i % width)
    go zero e i lt = search rules
    go (suc n) e i lt = grind (arith, common_steps, mul_comm, div-lt_iff_lt-mul, mod-lt)
