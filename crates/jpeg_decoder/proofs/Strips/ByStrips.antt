-- The planes of a sequential scan are the strips of its rows of MCUs, one after the other.
use Rattle.std.proofs.Common.{rules, ◌≡◌, ℕ, zero, suc, ◌+◌, ◌*◌, List, [], ◌∷◌, ◌++◌, map, take}
use Rattle.std.proofs.Common.{drop, length, Option, Result, Ok, Err, refl, sym, ap, ap₂, ◌∙◌}
use Rattle.std.proofs.Common.{append_assoc, append-nil, arith, add-mul, suc-mul, mul_assoc}
use Rattle.std.proofs.Common.{length-take, length-drop, take-append-drop}
use Rattle.std.proofs.lemmas.List.FromFn.{length-map-range_with_len}
use Rattle.std.specs.List.{AllByRecursion}
use Rattle.jpeg_bits.specs.Reading as reading
use Rattle.jpeg_bits.specs.Reading.{Outcome, Fault}
use Rattle.jpeg_bits.specs.Entropy.{Text, upcoming, fresh, marker_from}
use Rattle.jpeg_bits.specs.Readers.{Reads, read_on, gives}
use Rattle.jpeg_bits.specs.declared.marker.Marker.{Marker}
use Rattle.jpeg_bits.specs.Passes.{Pass, Via, Block}
use Rattle.jpeg_segments.specs.Frame.{Frame, Component}
use Rattle.jpeg_pixels.specs.Planes.{plane_of, strip_of}
use Rattle.jpeg_bits.specs.Zigzag.{values_in_block_order}
use Rattle.jpeg_pixels.proofs.PlaneRows.{plane-none}
use Rattle.jpeg_meaning.specs.Order.{Spot, mcu_size}
use Rattle.jpeg_meaning.specs.Scans.{Arrays, zero_arrays}
use Rattle.jpeg_meaning.specs.Rasters.{in_raster, ordered, plane_by, plane_of_blocks}
use Rattle.jpeg_meaning.specs.InTurn.{Counted, Fits, blocks_from, counted_at_start}
use Rattle.jpeg_meaning.specs.McuRows.{mcu_row, zero_rows, rows_of, each_with_more, on_arrays}
use Rattle.jpeg_meaning.specs.McuRows.{mcu_rows_from, scan_by_rows}
use Rattle.jpeg_meaning.specs.ScanSegments.{Coding, components_of}
use Rattle.jpeg_decoder.specs.Strips.{planes_by, planes_at, samples_of, with_strips, strips_from}
use Rattle.jpeg_decoder.specs.Strips.{no_samples, planes_by_rows}
use Rattle.jpeg_meaning.proofs.Order.Apart.{zeros-sized}
use Rattle.jpeg_meaning.proofs.Order.CountedScans.{frame-scans, on-on}
use Rattle.jpeg_meaning.proofs.Order.McuRows.{AreRows, blocks-any, rows-kept, counted-where, joined-rows}
use Rattle.jpeg_meaning.proofs.Order.McuRows.{no-blocks, zero-rows, scans-by-rows, plane-strips}
use Rattle.std.proofs.lemmas.Grind.{common_steps}

-- ---- rows of blocks after rows of blocks

front-long : (wide k : ℕ) (ys : List Block) → length ys ≡ suc k * wide → length (take (k * wide) ys) ≡ k * wide
front-long wide k ys e = let n = suc-mul k wide in let t = length-take (k * wide) ys in omega arith

back-long : (wide k : ℕ) (ys : List Block) → length ys ≡ suc k * wide → length (drop (k * wide) ys) ≡ wide
back-long wide k ys e = let n = suc-mul k wide in let d = length-drop (k * wide) ys in omega arith

pub plane-joined : (s : ℕ) (table : List ℕ) (wide n k : ℕ) (xs ys : List Block) → length xs ≡ n * wide → length ys
    ≡ k * wide
    → plane_of s table wide (n + k) (in_raster wide (xs ++ ys))
    ≡ plane_of s table wide n (in_raster wide xs) ++ plane_of s table wide k (in_raster wide ys)
plane-joined s table wide n zero xs [] e f = grind (arith, common_steps, append-nil, plane-none)
plane-joined s table wide n zero xs (y ∷ ys) e f = absurd (let z : 0 * wide ≡ 0 = omega arith in omega arith)
plane-joined s table wide n (suc k) xs ys e f =
    let front = take (k * wide) ys in
    let row = drop (k * wide) ys in
    let whole : front ++ row ≡ ys = take-append-drop (k * wide) ys in
    let fl = front-long wide k ys f in
    let rl = back-long wide k ys f in
    let above = plane_of s table wide n (in_raster wide xs) in
    let middle = plane_of s table wide k (in_raster wide front) in
    let last = strip_of s table (map ordered row) in
    let up : n + suc k ≡ n + k + 1 = omega arith in
    let one : suc k ≡ k + 1 = omega arith in
    grind (arith, common_steps, append_assoc, plane-strips, plane-joined s table wide n k xs front e fl)

-- ---- the planes of some rows of MCUs

pub grown : ℕ → List Coding → Arrays → List (List ℕ)
grown rows (c ∷ codings) (blocks ∷ arrays) =
    samples_of (rows * c.component.factors.vertical) c blocks ∷ grown rows codings arrays
grown rows [] arrays = []
grown rows (c ∷ codings) [] = []

pub strips-grow : (r : ℕ) (codings : List Coding) (front arrays : Arrays) → AreRows r (components_of codings) front
    → AreRows 1 (components_of codings) arrays
    → with_strips codings arrays (grown r codings front) ≡ grown (r + 1) codings (each_with_more
    front arrays)
unfolding AreRows with_strips each_with_more grown samples_of
strips-grow r [] [] [] h k = refl
strips-grow r (c ∷ codings) (a ∷ front) (b ∷ arrays) h k =
    grind (arith, common_steps, mul_assoc, add-mul, plane-joined, strips-grow r codings front arrays h.1 k.1)
strips-grow r [] (a ∷ front) arrays h k = absurd h
strips-grow r (c ∷ codings) [] arrays h k = absurd h
strips-grow r _ _ _ h k = absurd k

strips-in-turn : (p : Pass) (vias : List Via) (n : ℕ) (codings : List Coding) (rows : List (List Spot))
    (r : ℕ) (front : Arrays) (old : Counted) (t : Text)
    → AreRows r (components_of codings) front
    → strips_from p vias n codings rows (grown r codings front) (on_arrays [] old) t
    ≡ read_on (λ s. gives (grown (r + length rows) codings s.reached.arrays)) (mcu_rows_from p vias
    n
    (components_of codings) rows front old t)
unfolding strips_from mcu_rows_from
strips-in-turn p vias n codings [] r front old t h = grind (arith, common_steps, grown)
strips-in-turn p vias n codings (spots ∷ rows) r front old t h =
    let cs = components_of codings in
    let start = on_arrays (zero_rows 1 cs) old in
    let o = blocks_from p vias n spots start t in
    let end : Counted → Reads (List (List ℕ)) = λ s. gives (grown (r + suc (length rows)) codings s.reached.arrays) in
    counted-where (AreRows 1 cs)
    (λ s. λ u. strips_from p vias n codings rows (with_strips codings s.reached.arrays (grown r codings front))
    (on_arrays [] s) u)
    (λ s. λ u. read_on end (mcu_rows_from p vias n cs rows (each_with_more front s.reached.arrays)
    s u))
    (λ s u k.
    ap (λ (l : List (List ℕ)). strips_from p vias n codings rows l (on_arrays [] s) u)
    (strips-grow r codings front s.reached.arrays h k)
    ∙ strips-in-turn p vias n codings rows (r + 1) (each_with_more front s.reached.arrays) s u
    (joined-rows r cs front s.reached.arrays h k)
    ∙ ap (λ (m : ℕ). read_on (λ (s : Counted). gives (grown m codings s.reached.arrays))
    (mcu_rows_from p vias n cs rows
    (each_with_more front s.reached.arrays) s u))
    (let z : r + 1 + length rows ≡ r + suc (length rows) = omega arith in z))
    o (blocks-any (AreRows 1 cs) (rows-kept 1 cs) p vias n spots start t (zero-rows 1 cs))
    ∙ sym (on-on (λ s. λ u. mcu_rows_from p vias n cs rows (each_with_more front s.reached.arrays)
    s u) end o)

-- ---- a scan

abbrev Grown : Type 0
Grown = List (List ℕ) × Option Marker

ended : Result (List (List ℕ) × Text) Fault → Outcome Grown
ended o = reading.◌>>=◌ o (λ r. reading.◌>>=◌ (marker_from r.1) (λ m. Ok ((r.0, m.0), m.1)))

abbrev finished : Result (Counted × Text) Fault → Outcome (Arrays × Option Marker)
finished o = reading.◌>>=◌ o (λ r. reading.◌>>=◌ (marker_from r.1) (λ m. Ok ((r.0.reached.arrays, m.0), m.1)))

abbrev made : (Arrays → List (List ℕ)) → Outcome (Arrays × Option Marker) → Outcome Grown
made f o = reading.◌>>=◌ o (λ (r : (Arrays × Option Marker) × List ℕ). Ok ((f r.0.0, r.0.1), r.1))

ends : (f : Arrays → List (List ℕ)) (o : Result (Counted × Text) Fault)
    → ended (read_on (λ s. gives (f s.reached.arrays)) o) ≡ made f (finished o)
unfolding ended
ends f o = grind (arith, common_steps)

pub none-grown : (codings : List Coding) → map (λ (c : Coding). []) codings
    ≡ grown 0 codings (map (λ (c : Component). []) (components_of codings))
unfolding samples_of grown
none-grown [] = refl
none-grown (c ∷ codings) = ap₂ (λ (x : List ℕ) (l : List (List ℕ)). x ∷ l) (none c) (none-grown codings)
  where
    none : (c : Coding) → [] ≡ samples_of (0 * c.component.factors.vertical) c []
    none c =
        let z : 0 ≡ 0 * c.component.factors.vertical = omega arith in
        sym (plane-none c.component.scale (values_in_block_order c.quantization) c.component.blocks_wide
        (in_raster c.component.blocks_wide []))
        ∙ ap (λ (n : ℕ). plane_of c.component.scale (values_in_block_order c.quantization) c.component.blocks_wide n
        (in_raster c.component.blocks_wide [])) z

pub all-grown : (frame : Frame) (codings : List Coding) (arrays : Arrays)
    → AllByRecursion (Fits frame) (components_of codings) → grown frame.mcus_high codings arrays
    ≡ planes_by codings arrays
unfolding planes_by samples_of plane_by plane_of_blocks grown
all-grown frame (c ∷ codings) (blocks ∷ arrays) fits = search (rules, arith, all-grown frame codings arrays fits.1)
all-grown frame _ _ fits = refl

-- A sequential scan is its rows of MCUs, each of which gives a strip of each plane.
pub planes-by-rows : (frame : Frame) (c : Coding) (codings : List Coding) (p : Pass) (n : ℕ) (vias : List Via)
    (bytes : List ℕ) → AllByRecursion (Fits frame) (components_of (c ∷ codings))
    → planes_at p n vias frame (c ∷ codings) bytes
    ≡ planes_by_rows p vias n frame (c ∷ codings) (no_samples (c ∷ codings)) bytes
unfolding planes_at planes_by_rows scan_by_rows ended
planes-by-rows frame c codings p n vias bytes fits =
    let all = c ∷ codings in
    let cs = components_of all in
    let rows = rows_of frame cs in
    let high = frame.mcus_high in
    let t = upcoming fresh bytes in
    let none : Arrays = map (λ (x : Component). []) cs in
    let blocks = n * mcu_size cs in
    let start = counted_at_start blocks [] in
    let o = mcu_rows_from p vias blocks cs rows none start t in
    let count : 0 + length rows ≡ high = let e = length-map-range_with_len (mcu_row frame cs) 0
    high in omega arith in
    ap (made (planes_by all))
    (frame-scans frame cs p vias blocks (zero_arrays cs) bytes fits (zeros-sized cs)
    ∙ scans-by-rows frame c.component (components_of codings) p vias n bytes fits)
    ∙ sym (ap (λ (l : List (List ℕ)). ended (strips_from p vias blocks all rows l start t)) (none-grown all)
    ∙ ap ended (strips-in-turn p vias blocks all rows 0 none start t (no-blocks cs))
    ∙ ap (λ (k : ℕ). ended (read_on (λ (s : Counted). gives (grown k all s.reached.arrays)) o)) count
    ∙ ends (grown high all) o
    ∙ same (finished o))
  where
    same : (o : Outcome (Arrays × Option Marker)) → made (grown frame.mcus_high (c ∷ codings)) o
        ≡ made (planes_by (c ∷ codings)) o
    same (Ok r) = ap (λ (l : List (List ℕ)). Ok ((l, r.0.1), r.1)) (all-grown frame (c ∷ codings) r.0.0 fits)
    same (Err e) = refl
