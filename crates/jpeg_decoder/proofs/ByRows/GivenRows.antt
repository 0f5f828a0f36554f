-- The rows of MCUs of a scan whose lines are given as it is read: what is read, and the lines that are given.
use Rattle.std.proofs.lemmas.Grind.{common_steps}
use Rattle.std.proofs.Common.{◌≡◌, ℕ, zero, suc, ◌+◌, ◌-◌, ◌*◌, ◌<◌, ◌≤◌, List, [], ◌∷◌, ◌++◌, map, drop, min}
use Rattle.std.proofs.Common.{length, Result, Ok, Err, Bool, true, false, refl, sym, ap, ap₂, ◌∙◌, subst, arith}
use Rattle.std.proofs.Common.{length-append, if◌then◌else◌}
use Rattle.std.proofs.Math.Nat.{add-mul, mul_assoc, mul_comm, mul_right_comm, mul-le-mul_right}
use Rattle.std.proofs.lemmas.Bool.{eq-eqb, eqb-true}
use Rattle.std.proofs.lemmas.List.{length-map}
use Rattle.std.specs.Prelude.{◌==◌}
use Rattle.std.proofs.lemmas.List.Folds.{concat-append}
use Rattle.std.specs.List.{AllByRecursion, concat, list_any, range_with_len}
use Rattle.jpeg_bits.specs.Entropy.{Ahead, Takes, Text, upcoming}
use Rattle.jpeg_bits.specs.Reading.{Fault}
use Rattle.jpeg_bits.specs.Stream.{Stream}
use Rattle.jpeg_bits.specs.declared.error.Error.{Error}
use Rattle.jpeg_bits.specs.declared.error.Error.TheVariants.{OutOfMemory}
use Rattle.jpeg_bits.proofs.BandSteps.{Leaves-end}
use Rattle.jpeg_bits.proofs.WholeBlocks.{refused_after}
use Rattle.jpeg_segments.specs.Frame.{Component, Frame}
use Rattle.jpeg_pixels.specs.Pictures.{Source, is_blended, picture_line, sources_of}
use Rattle.jpeg_pixels.specs.declared.color_convert.ColorConvert.{ColorConvert}
use Rattle.jpeg_meaning.specs.InTurn.{Counted, blocks_from}
use Rattle.jpeg_meaning.specs.McuRows.{on_arrays, zero_rows}
use Rattle.jpeg_meaning.specs.Order.{Spot}
use Rattle.jpeg_meaning.specs.Scans.{Arrays}
use Rattle.jpeg_meaning.specs.ScanSegments.{Coding, components_of}
use Rattle.jpeg_meaning.specs.Sound.{IsDecodedFrame}
use Rattle.jpeg_decoder.specs.ByRows.{HaveRows, below, lines_decided, lines_from, strip_size, unit_lines}
use Rattle.jpeg_decoder.specs.Givers.{GivesRow, IsEndOf, IsReady}
use Rattle.jpeg_decoder.specs.RowScans.{HasGiven, HaveLeft, rows_on, rows_to}
use Rattle.jpeg_decoder.specs.Scanning.{BlockScan, arrays_in, kept_blocks, kept_counted, scan_vias}
use Rattle.jpeg_decoder.specs.Strips.{no_samples, plane_lists, samples_of, strips_from, with_strips}
use Rattle.jpeg_decoder.specs.declared.by_rows.giver.RowGiver.{RowGiver}
use Rattle.jpeg_decoder.proofs.ByRows.FrameRows.{HasRows}
use Rattle.jpeg_decoder.proofs.ByRows.WindowLines.{lines-stay, strips-go-on}
use Rattle.jpeg_decoder.proofs.ByRows.Windows.{have-count}
use Rattle.jpeg_decoder.proofs.Strips.KeptStrips.{kept-refused, strips_kept}
use Rattle.jpeg_decoder.proofs.Strips.StripSteps.{length-samples, strips_none, strips_refused, whole-rows}

-- ---- what is read

pub none-left : (s : BlockScan) (n : ℕ) (f : ℕ → List Spot) (start : Counted) (a : Ahead) (old : Stream)
    → HaveLeft s n f start a old 0 (no_samples s.codings) start a old
none-left s n f start a old high le = (
  refl,
  λ k. (
    k,
    ap (λ (rows : List (List Spot)). strips_from s.pass (scan_vias s) n s.codings rows (no_samples s.codings) start
        (upcoming a old.bytes)) (whole-rows f high),
  ),
)

-- what a scan keeps of the blocks of a row is enough
abbrev pub IsEnough : BlockScan → Type 0
IsEnough s = s.keeps_ac ≡ false → AllByRecursion (λ c. c.component.scale ≡ 1) s.codings

-- a row of MCUs as it is read
abbrev pub RowRead : BlockScan → ℕ → List Spot → Arrays → Counted → Text → Result (Counted × Text) Fault
RowRead s n spots zeros now = kept_blocks s.keeps_ac (blocks_from s.pass (scan_vias s) n spots (on_arrays zeros now))

module _ (s : BlockScan) (n : ℕ) (f : ℕ → List Spot) (start : Counted) (a b d : Ahead) (old cur new : Stream) (row : ℕ)
    (planes : List (List ℕ)) (zeros : Arrays) (now : Counted) (none : zeros ≡ zero_rows 1 (components_of s.codings))
    (left : HaveLeft s n f start a old row planes now b cur) where
  -- a row more
  pub more-left : (next : Counted) → IsEnough s
      → Takes (λ (u : Unit {0}). kept_counted s.keeps_ac next) (RowRead s n (f row) zeros now) b cur (Ok tt) d new
      → HaveLeft s n f start a old (row + 1) (with_strips s.codings next.reached.arrays planes)
      (on_arrays [] next) d new
  more-left next enough q high le =
      let was = left high (omega arith) in (
        q.0 ∙ was.0,
        λ k.
            let at = was.1 k in
            let by = q.1 at.0 in (
              by.0,
              at.1 ∙ strips_kept s.keeps_ac s.pass (scan_vias s) n s.codings f (f row) row high planes zeros now next
                  (upcoming b cur.bytes) (upcoming d new.bytes) enough (omega arith) none refl by.1,
            ),
      )

  -- a row that is refused
  pub row-refused : {X : Type 0} (v : X → List (List ℕ)) (view : Unit {0} → Counted) (high : ℕ) (e : Error) → row < high
      → Takes view (RowRead s n (f row) zeros now) b cur (Err e) d new
      → Takes v (rows_to s n f start high) a old (Err e) d new
  row-refused v view high e lt q =
      refused_after v view (rows_to s n f start high) (rows_on s n f row high planes now)
      (RowRead s n (f row) zeros now)
      a b d old cur new e
      (λ t fault h. strips_refused s.pass (scan_vias s) n s.codings f
      (f row) row high planes zeros now t fault lt none refl
      (kept-refused s.keeps_ac _ fault h)) (left high (omega arith)) q

module _ (s : BlockScan) (n : ℕ) (f : ℕ → List Spot) (start : Counted) (a b : Ahead) (old new : Stream) (row : ℕ)
    (planes : List (List ℕ)) (now : Counted) (left : HaveLeft s n f start a old row planes now b new) where
  -- no row is left
  pub rows-taken : {X : Type 0} (v : X → List (List ℕ)) (x : X) (high : ℕ) → row ≤ high → high ≤ row → v x ≡ planes
      → Takes v (rows_to s n f start high) a old (Ok x) b new
  rows-taken v x high le ge is =
      Leaves-end v (rows_to s n f start high) (rows_on s n f row high planes now) a b old new x
      (λ t. strips_none s.pass (scan_vias s) n s.codings f row high planes now t ge
      ∙ ap (λ (p : List (List ℕ)). Ok (p, t)) (sym is)) (left high le)

  -- memory ran out after them
  pub memory-out : {X : Type 0} (v : X → List (List ℕ)) (e : Error) (high : ℕ) → row ≤ high → e ≡ OutOfMemory
      → Takes v (rows_to s n f start high) a old (Err e) b new
  memory-out v e high le is = grind arith

-- ---- how many samples planes have

strip-lengths : (row v s w n m : ℕ) → n ≡ row * (v * s * (w * s)) → m ≡ s * w * (s * v)
    → n + m ≡ (row + 1) * (v * s * (w * s))
strip-lengths row v s w n m e h = grind (arith, common_steps, add-mul, mul_comm, mul_assoc, mul_right_comm)

pub have-next : (row : ℕ) (codings : List Coding) (arrays : Arrays) (planes : List (List ℕ))
    → length arrays ≡ length codings → HaveRows row (components_of codings) planes
    → HaveRows (row + 1) (components_of codings) (with_strips codings arrays planes)
unfolding HaveRows with_strips
have-next row [] [] [] e h = tt
have-next row [] (a ∷ arrays) planes e h = absurd (omega arith)
have-next row [] [] (p ∷ planes) e h = absurd h
have-next row (c ∷ codings) [] planes e h = absurd (omega arith)
have-next row (c ∷ codings) (a ∷ arrays) [] e h = absurd h
have-next row (c ∷ codings) (a ∷ arrays) (p ∷ planes) e h =
    let x = c.component in
    let v = x.factors.vertical in (
      length-append p (samples_of v c a)
          ∙ strip-lengths row v x.scale x.blocks_wide (length p) (length (samples_of v c a)) h.0 (length-samples v c a),
      have-next row codings arrays planes (omega arith) h.1,
    )

pub have-none : (codings : List Coding) → HaveRows 0 (components_of codings) (no_samples codings)
unfolding HaveRows
have-none [] = tt
have-none (c ∷ codings) = (omega arith, have-none codings)

-- planes of no rows are the same
pub none-same : (cs : List Component) (xs ys : List (List ℕ)) → HaveRows 0 cs xs → HaveRows 0 cs ys → xs ≡ ys
unfolding HaveRows
none-same [] [] [] h k = refl
none-same [] (x ∷ xs) ys h k = absurd h
none-same [] [] (y ∷ ys) h k = absurd k
none-same (c ∷ cs) [] ys h k = absurd h
none-same (c ∷ cs) (x ∷ xs) [] h k = absurd k
none-same (c ∷ cs) ([] ∷ xs) ([] ∷ ys) h k = ap (λ (l : List (List ℕ)). [] ∷ l) (none-same cs xs ys h.1 k.1)
none-same (c ∷ cs) ((z ∷ x) ∷ xs) (y ∷ ys) h k = absurd (let e = h.0 in omega arith)
none-same (c ∷ cs) ([] ∷ xs) ((z ∷ y) ∷ ys) h k = absurd (let e = k.0 in omega arith)

pub none-below : (n : ℕ) (cs : List Component) (xs : List (List ℕ)) → HaveRows n cs xs → below 0 cs xs ≡ xs
unfolding HaveRows below
none-below n [] [] h = refl
none-below n [] (x ∷ xs) h = absurd h
none-below n (c ∷ cs) [] h = absurd h
none-below n (c ∷ cs) (x ∷ xs) h =
    let none : 0 * strip_size c ≡ 0 = omega arith in
    ap₂ (λ (k : ℕ) (l : List (List ℕ)). drop k x ∷ l) none (none-below n cs xs h.1)

-- before the first row nothing is kept
pub none-end : (frame : Frame) (codings : List Coding) (g : RowGiver) → g.rows ≡ 0
    → components_of codings ≡ frame.components
    → HaveRows 0 frame.components (plane_lists g.planes.items)
    → IsEndOf frame (no_samples codings) g
none-end frame codings g e is h =
    let none = subst (λ (cs : List Component). HaveRows 0 cs (no_samples codings)) is (have-none codings) in
    let top : g.rows - min g.rows 2 ≡ 0 = omega arith in
    record {
      rows = subst (λ (n : ℕ). HaveRows n frame.components (no_samples codings)) (sym e) none;
      are = ap (λ (n : ℕ). below n frame.components (no_samples codings)) top
          ∙ none-below 0 frame.components (no_samples codings) none
          ∙ none-same frame.components _ _ none h;
    }

-- ---- the lines

pub ranges : {X : Type 0} (f : ℕ → X) (a m n : ℕ)
    → map f (range_with_len a (m + n)) ≡ map f (range_with_len a m) ++ map f (range_with_len (a + m) n)
ranges f a zero n =
    let e : a ≡ a + 0 = omega arith in
    let z : 0 + n ≡ n = omega arith in ap₂ (λ (k m : ℕ). map f (range_with_len k m)) e z
ranges f a (suc m) n =
    let e : a + 1 + m ≡ a + suc m = omega arith in
    let z : suc m + n ≡ suc (m + n) = omega arith in
    ap (λ (k : ℕ). map f (range_with_len a k)) z
    ∙ ap (λ l. f a ∷ l) (ranges f (a + 1) m n
    ∙ ap (λ (k : ℕ). map f (range_with_len (a + 1) m) ++ map f (range_with_len k n)) e)

-- lines after lines
pub lines-after : (frame : Frame) (convert : ColorConvert) (sources : List Source) (planes next : List (List ℕ))
    (m n : ℕ) (bytes more : List ℕ) → lines_from frame convert sources planes 0 m
    ≡ lines_from frame convert sources next 0 m
    → bytes ≡ concat (lines_from frame convert sources planes 0 m)
    → more ≡ concat (lines_from frame convert sources next m n)
    → bytes ++ more ≡ concat (lines_from frame convert sources next 0 (m + n))
lines-after frame convert sources planes next m n bytes more same one two =
    let line = picture_line convert sources next frame.output_width in
    let zero-on : 0 + m ≡ m = omega arith in
    ap₂ (λ (l k : List ℕ). l ++ k) (one ∙ ap concat same) two
    ∙ sym (concat-append (lines_from frame convert sources next 0 m) (lines_from frame convert sources next m n))
    ∙ ap concat (sym (ranges line 0 m n
    ∙ ap (λ (k : ℕ). map line (range_with_len 0 m) ++ map line (range_with_len k n)) zero-on))

-- More rows of MCUs decide no fewer lines.
pub decided-grow : (f : Frame) (k : ℕ) → k < f.mcus_high → lines_decided f k ≤ lines_decided f (k + 1)
unfolding lines_decided
decided-grow f k lt =
    go (k == f.mcus_high) refl (k + 1 == f.mcus_high) (list_any (is_blended f) f.components)
  where
    u : ℕ
    u = unit_lines f.components

    more : k * u ≤ (k + 1) * u
    more = mul-le-mul_right u (omega arith)

    go : (x : Bool) → (k == f.mcus_high) ≡ x → (y b : Bool)
        → (if x then f.output_height else min f.output_height (if b then k * u - 1 else k * u))
        ≤ (if y then f.output_height else min f.output_height (if b then (k + 1) * u - 1 else (k + 1) * u))
    go true e y b = let same : k ≡ f.mcus_high = eqb-true k f.mcus_high e in absurd (omega arith)
    go false e true true = omega arith
    go false e true false = omega arith
    go false e false true = let m = more in omega arith
    go false e false false = let m = more in omega arith

-- before the first row of MCUs none is decided
pub none-decided : (f : Frame) → HasRows f → lines_decided f 0 ≡ 0
unfolding lines_decided
none-decided f r = go (0 == f.mcus_high) refl (list_any (is_blended f) f.components)
  where
    u : ℕ
    u = unit_lines f.components

    none : 0 * u ≡ 0
    none = omega arith

    go : (x : Bool) → (0 == f.mcus_high) ≡ x → (b : Bool)
        → (if x then f.output_height else min f.output_height (if b then 0 * u - 1 else 0 * u)) ≡ 0
    go true e b =
        let same : 0 ≡ f.mcus_high = eqb-true 0 f.mcus_high e in
        let high = r.high in
        let no : f.mcus_high * u ≡ 0 = ap (λ (n : ℕ). n * u) (sym same) ∙ none in omega (arith, high, no)
    go false e true = let n = none in omega arith
    go false e false = let n = none in omega arith

-- after the last all are
pub all_decided : (f : Frame) (k : ℕ) → k ≡ f.mcus_high → lines_decided f k ≡ f.output_height
unfolding lines_decided
all_decided f k e = rw (eq-eqb k f.mcus_high e) refl

-- ---- a scan

-- Lines that rows of MCUs decide stay as they are with one row more.
abbrev pub LinesStay : Frame → List Coding → ColorConvert → Type 0
LinesStay frame codings convert =
    (row : ℕ) (arrays : Arrays) (planes : List (List ℕ)) (sources : List Source) → row < frame.mcus_high
    → length arrays ≡ length codings → HaveRows row frame.components planes
    → sources_of frame.components frame.output_width frame.output_height ≡ Ok sources
    → lines_from frame convert sources planes 0 (lines_decided frame row)
    ≡ lines_from frame convert sources (with_strips codings arrays planes) 0 (lines_decided frame row)

pub stay-decided : (frame : Frame) (codings : List Coding) (convert : ColorConvert) → IsDecodedFrame frame
    → components_of codings ≡ frame.components → LinesStay frame codings convert
stay-decided frame codings convert decoded is row arrays planes sources lt count have e =
    let long : length codings ≡ length planes = sym (length-map codings (λ (c : Coding). c.component))
    ∙ ap (λ (l : List Component). length l) is ∙ sym (have-count row frame.components planes have) in
    sym (lines-stay frame decoded convert sources planes (with_strips codings arrays planes) row 0
    (lines_decided frame row) e have (strips-go-on codings arrays planes long (count ∙ long)) (omega arith))

module _ (frame : Frame) (s : BlockScan) (n : ℕ) (f : ℕ → List Spot) (convert : ColorConvert) (start : Counted)
    (a : Ahead) (old : Stream) (is : components_of s.codings ≡ frame.components)
    (rows : HasRows frame) where
  -- before the first row
  pub given-none : (g : RowGiver) → IsReady frame s.codings convert 0 g
      → HasGiven frame s n f convert start a old 0 g start a old []
  given-none g ready =
      let few : min 0 2 ≡ 0 = omega arith in
      record {
        ready = ready;
        planes = no_samples s.codings;
        ends = none-end frame s.codings g ready.taken is
            (subst (λ (k : ℕ). HaveRows k frame.components (plane_lists g.planes.items)) few ready.planes);
        left = none-left s n f start a old;
        lines = λ sources e.
            ap (λ (k : ℕ). concat (lines_from frame convert sources (no_samples s.codings) 0 k))
            (sym (none-decided frame rows));
      }

  module _ (row : ℕ) (g : RowGiver) (now : Counted) (b : Ahead) (cur : Stream) (bytes : List ℕ)
      (h : HasGiven frame s n f convert start a old row g now b cur bytes) where
    sized : HaveRows row frame.components h.planes
    sized = subst (λ (k : ℕ). HaveRows k frame.components h.planes) h.ready.taken h.ends.rows

    -- no row is left
    pub given-all : row ≡ frame.mcus_high → HaveRows frame.mcus_high frame.components h.planes
        × ((sources : List Source)
        → sources_of frame.components frame.output_width frame.output_height ≡ Ok sources
        → bytes ≡ concat (lines_from frame convert sources h.planes 0 frame.output_height))
    given-all end = (
      subst (λ (k : ℕ). HaveRows k frame.components h.planes) end sized,
      λ sources e. subst (λ (k : ℕ). bytes ≡ concat (lines_from frame convert sources h.planes 0 k))
          (all_decided frame row end) (h.lines sources e),
    )

    -- A row more was read, and its lines were made.
    module _ (stay : LinesStay frame s.codings convert) (lt : row < frame.mcus_high) (o p : RowGiver)
        (same : o.convert ≡ convert) (taken : o.rows ≡ row)
        (ends : (planes : List (List ℕ)) → IsEndOf frame planes g → IsEndOf frame planes o) (next : Counted)
        (arrays : next.reached.arrays ≡ arrays_in o.blocks.items)
        (count : length (arrays_in o.blocks.items) ≡ length s.codings) (d : Ahead) (new : Stream) (zeros : Arrays)
        (none : zeros ≡ zero_rows 1 (components_of s.codings)) (enough : IsEnough s)
        (read : Takes (λ (u : Unit {0}). kept_counted s.keeps_ac next) (RowRead s n (f row) zeros now) b cur
        (Ok tt) d new) where
      abbrev more : List (List ℕ)
      more = with_strips s.codings (arrays_in o.blocks.items) h.planes

      abbrev first : ℕ
      first = lines_decided frame row

      abbrev rest : ℕ
      rest = lines_decided frame (row + 1) - lines_decided frame row

      more-read : HaveLeft s n f start a old (row + 1) more (on_arrays [] next) d new
      more-read =
          subst (λ (x : Arrays). HaveLeft s n f start a old (row + 1) (with_strips s.codings x h.planes)
          (on_arrays [] next)
          d new) arrays (more-left s n f start a b d old cur new row h.planes zeros now none h.left next enough read)

      abbrev left_by : ℕ → ℕ
      left_by r = lines_decided frame (r + 1) - lines_decided frame r

      more-lines : (sources : List Source) (line : List ℕ)
          → sources_of frame.components frame.output_width frame.output_height ≡ Ok sources
          → line ≡ concat (lines_from frame o.convert sources more (lines_decided frame o.rows) (left_by o.rows))
          → bytes ++ line ≡ concat (lines_from frame convert sources more 0 (lines_decided frame (row + 1)))
      more-lines sources line e made =
          let le = decided-grow frame row lt in
          let all : first + rest ≡ lines_decided frame (row + 1) = omega arith in
          subst (λ (k : ℕ). bytes ++ line ≡ concat (lines_from frame convert sources more 0 k)) all
          (lines-after frame convert sources h.planes more first rest bytes line
          (stay row (arrays_in o.blocks.items) h.planes sources lt count sized e) (h.lines sources e)
          (subst (λ (c : ColorConvert). line ≡ concat (lines_from frame c sources more first rest)) same
          (subst (λ (r : ℕ). line
          ≡ concat (lines_from frame o.convert sources more (lines_decided frame r) (left_by r))) taken made)))

      pub given-next : IsReady frame s.codings convert (row + 1) p → GivesRow frame s.codings o p
          → HasGiven frame s n f convert start a old (row + 1) p (on_arrays [] next) d new (bytes ++ p.lines.items)
      given-next ready gives =
          let here = ends h.planes h.ends in
          record {
            ready = ready;
            planes = more;
            ends = gives.ends h.planes here;
            left = more-read;
            lines = λ sources e. more-lines sources p.lines.items e (gives.all h.planes sources here e);
          }

      -- memory ran out after it was read
      pub given-lacking : {X : Type 0} (v : X → List (List ℕ)) (e : Error) (high : ℕ) → row < high → e ≡ OutOfMemory
          → Takes v (rows_to s n f start high) a old (Err e) d new
      given-lacking v e high lt out = memory-out s n f start a d old new (row + 1) more (on_arrays [] next) more-read v e
          high (omega arith) out
