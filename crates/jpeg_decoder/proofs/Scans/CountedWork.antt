-- The work of a scan, by the components at its indices in the frame.
use Rattle.std.proofs.Common.{◌≡◌, ◌≤◌, ◌<◌, ◌+◌, ◌*◌, ℕ, zero, suc, List, [], ◌∷◌}
use Rattle.std.proofs.Common.{All, length, drop, take, get_or, refl, sym, ap, ◌∙◌, arith, mul_assoc}
use Rattle.std.proofs.Math.Nat.{mul-le-mul_right}
use Rattle.std.proofs.lemmas.Grind.{common_steps}
use Rattle.std.proofs.lemmas.List.{drop_all, drop_more}
use Rattle.std.proofs.lemmas.List.Elements.{recursion_from_All}
use Rattle.std.proofs.lemmas.List.Sums.{sum_by-cons}
use Rattle.std.proofs.lemmas.Option.{slice_get-get_or}
use Rattle.std.specs.Int.{div_ceil}
use Rattle.std.specs.List.{AllByRecursion}
use Rattle.std.specs.Prelude.{sum_by}
use Rattle.jpeg_segments.specs.declared.frame.CodingProcess.{CodingProcess}
use Rattle.jpeg_segments.specs.declared.frame.CodingProcess.TheVariants.{Lossless}
use Rattle.jpeg_segments.specs.Frame.{Component, Frame, ceiling}
use Rattle.jpeg_meaning.specs.Order.{grid_of, mcu_size, spots_of}
use Rattle.jpeg_meaning.specs.Work.{blocks_coded, components_at, samples_coded}
use Rattle.jpeg_meaning.proofs.Order.SpotCounts.{alone-spots, part_size, several-spots}
use Rattle.jpeg_decoder.specs.LosslessParts.{mcus_high, mcus_wide, no_component}
use Rattle.jpeg_decoder.specs.Steps.{IsDct}

-- ---- the components at some indices

-- They are indices of components of the frame.
abbrev AreIn : Frame → List ℕ → Type 0
AreIn frame indices = AllByRecursion (λ index. index < length frame.components) indices

are-in : (frame : Frame) (indices : List ℕ) → All (λ index. index < length frame.components) indices
    → AreIn frame indices
are-in frame indices within = recursion_from_All (λ (index : ℕ). index < length frame.components) indices within

-- the one at the first index, and those at the others
next-at : (frame : Frame) (index : ℕ) (more : List ℕ) (c : Component) → index < length frame.components
    → components_at frame (index ∷ more) ≡ get_or frame.components index c ∷ components_at frame more
unfolding components_at
next-at frame index more c h = rw (slice_get-get_or frame.components index c h, components_at) refl

none-at : (frame : Frame) → components_at frame [] ≡ []
unfolding components_at
none-at frame = refl

-- those at the first indices of a frame are all of a few
abbrev pub first_four : List ℕ
first_four = 0 ∷ 1 ∷ 2 ∷ 3 ∷ []

pub first-long : (n : ℕ) → n ≤ 4 → length (take n first_four) ≡ n
first-long zero few = refl
first-long (suc zero) few = refl
first-long (suc (suc zero)) few = refl
first-long (suc (suc (suc zero))) few = refl
first-long (suc (suc (suc (suc zero)))) few = refl
first-long (suc (suc (suc (suc (suc n))))) few = absurd (omega (arith, few))

pub all-at : (frame : Frame) (cs : List Component) → frame.components ≡ cs → length cs ≤ 4
    → components_at frame (take (length cs) first_four) ≡ frame.components
unfolding components_at
all-at frame [] e few = rw e refl
all-at frame (a ∷ []) e few = rw e refl
all-at frame (a ∷ b ∷ []) e few = rw e refl
all-at frame (a ∷ b ∷ c ∷ []) e few = rw e refl
all-at frame (a ∷ b ∷ c ∷ d ∷ []) e few = rw e refl
all-at frame (a ∷ b ∷ c ∷ d ∷ f ∷ more) e few = absurd (omega (arith, few))

-- a component alone
alone-at : (frame : Frame) (indices : List ℕ) → length indices ≡ 1
    → All (λ index. index < length frame.components) indices
    → components_at frame indices ≡ get_or frame.components (get_or indices 0 0) no_component ∷ []
alone-at frame (index ∷ []) e within =
    next-at frame index [] no_component (are-in frame (index ∷ []) within).0
    ∙ ap (λ (cs : List Component). get_or frame.components index no_component ∷ cs) (none-at frame)
alone-at frame [] e within = absurd (omega (arith, e))
alone-at frame (i ∷ j ∷ more) e within = absurd (omega (arith, e))

-- ---- the blocks of an MCU

-- one of a component alone
pub alone-size : (frame : Frame) (indices : List ℕ) → length indices ≡ 1
    → All (λ index. index < length frame.components) indices → mcu_size (components_at frame indices) ≡ 1
unfolding mcu_size
alone-size frame indices e within = rw (alone-at frame indices e within) refl

-- those of the components from a slot on
abbrev pub size_left : Frame → ℕ → List ℕ → ℕ
size_left frame slot indices = sum_by part_size (components_at frame (drop slot indices))

-- the blocks of the component in the slot, and of those after it
pub size-next : (frame : Frame) (indices : List ℕ) (slot : ℕ) (c : Component)
    → All (λ index. index < length frame.components) indices → slot < length indices
    → c ≡ get_or frame.components (get_or indices slot 0) no_component
    → part_size c + size_left frame (slot + 1) indices ≡ size_left frame slot indices
size-next frame indices slot c within h e =
    let i = get_or indices slot 0 in
    rw (drop_more indices slot 0 h)
    (rw (next-at frame i (drop (slot + 1) indices) no_component (within slot 0 h), e)
    (sym (sum_by-cons part_size (get_or frame.components i no_component)
    (components_at frame (drop (slot + 1) indices)))))

-- none are left
pub size-none : (frame : Frame) (indices : List ℕ) (slot : ℕ) → length indices ≤ slot
    → size_left frame slot indices ≡ 0
unfolding components_at
size-none frame indices slot h = rw (drop_all slot indices h) refl

-- All of them are an MCU, if it is not one component alone.
pub several-size : (frame : Frame) (indices : List ℕ) → (length indices ≡ 1 → ⊥)
    → All (λ index. index < length frame.components) indices
    → size_left frame 0 indices ≡ mcu_size (components_at frame indices)
unfolding mcu_size
several-size frame [] e within = rw (none-at frame) refl
several-size frame (i ∷ []) e within = absurd (e refl)
several-size frame (i ∷ j ∷ more) e within =
    let are = are-in frame (i ∷ j ∷ more) within in
    rw (next-at frame i (j ∷ more) no_component are.0, next-at frame j more no_component are.1.0) refl

-- A component has few, since a factor is a byte.
pub part-few : (h v : ℕ) → h ≤ 255 → v ≤ 255 → h * v ≤ 65025
part-few h v a b = omega (arith, mul-le-mul_right v a, b)

-- ---- the blocks of a scan

-- of a component alone
pub alone-blocks : (frame : Frame) (indices : List ℕ) → length indices ≡ 1
    → All (λ index. index < length frame.components) indices
    → let g = grid_of (get_or frame.components (get_or indices 0 0) no_component) in
    (g.own_high * g.own_wide) * mcu_size (components_at frame indices)
    ≡ length (spots_of frame (components_at frame indices))
alone-blocks frame indices e within =
    let c = get_or frame.components (get_or indices 0 0) no_component in
    let g = grid_of c in
    ap (λ (n : ℕ). (g.own_high * g.own_wide) * n) (alone-size frame indices e within)
    ∙ omega arith
    ∙ sym (ap (λ (cs : List Component). length (spots_of frame cs)) (alone-at frame indices e within)
    ∙ alone-spots frame c)

-- of several
pub several-blocks : (frame : Frame) (indices : List ℕ) → 0 < length indices → (length indices ≡ 1 → ⊥)
    → All (λ index. index < length frame.components) indices
    → (frame.mcus_high * frame.mcus_wide) * mcu_size (components_at frame indices)
    ≡ length (spots_of frame (components_at frame indices))
several-blocks frame [] some e within = absurd (omega (arith, some))
several-blocks frame (i ∷ []) some e within = absurd (e refl)
several-blocks frame (i ∷ j ∷ more) some e within =
    let are = are-in frame (i ∷ j ∷ more) within in
    let c = get_or frame.components i no_component in
    let d = get_or frame.components j no_component in
    rw (next-at frame i (j ∷ more) no_component are.0, next-at frame j more no_component are.1.0)
    (mul_assoc frame.mcus_high frame.mcus_wide (mcu_size (c ∷ d ∷ components_at frame more))
    ∙ sym (several-spots frame c d (components_at frame more)))

-- ---- the samples of a lossless scan

-- those of all MCUs, which a component alone has one each of
pub samples-counted : (frame : Frame) (indices : List ℕ) → 0 < length indices
    → All (λ index. index < length frame.components) indices
    → (mcus_high frame indices * mcus_wide frame indices) * mcu_size (components_at frame indices)
    ≡ samples_coded frame (components_at frame indices)
unfolding samples_coded mcus_high mcus_wide mcu_size
samples-counted frame [] some within = absurd (omega (arith, some))
samples-counted frame (i ∷ []) some within =
    rw (next-at frame i [] no_component (are-in frame (i ∷ []) within).0, none-at frame) (omega arith)
samples-counted frame (i ∷ j ∷ more) some within =
    let are = are-in frame (i ∷ j ∷ more) within in
    rw (next-at frame i (j ∷ more) no_component are.0, next-at frame j more no_component are.1.0)
    (mul_assoc _ _ _)

-- eight of them count as a block
pub rounded-up : (n : ℕ) → div_ceil n 8 ≡ ceiling n 8
rounded-up n = omega arith

-- ---- the work

-- of a lossless scan
pub lossless-work : (process : CodingProcess) (frame : Frame) (cs : List Component) → process ≡ Lossless
    → ceiling (samples_coded frame cs) 8 ≡ blocks_coded process frame cs
unfolding blocks_coded
lossless-work process frame cs e = rw e refl

-- of a scan of blocks
pub block-work : (process : CodingProcess) (frame : Frame) (cs : List Component) → IsDct process
    → length (spots_of frame cs) ≡ blocks_coded process frame cs
unfolding blocks_coded
block-work process frame cs is = grind (arith, common_steps)
