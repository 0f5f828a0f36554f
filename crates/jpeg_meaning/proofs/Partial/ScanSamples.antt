-- A lossless scan gives each of its components its samples: where it is read all of them, which hide those before it.
use Rattle.std.proofs.Common.{rules, ◌≡◌, ℕ, zero, suc, ◌*◌, ◌-◌, ◌^◌, ◌≤◌, Bool, true, false, List, [], ◌∷◌, ◌++◌}
use Rattle.std.proofs.Common.{length, map, take, Option, Some, None, Result, Ok, Err, refl}
use Rattle.std.proofs.Common.{ap, ap₂, ◌∙◌, subst, arith, append-nil, length-append, slice_get}
use Rattle.std.specs.Prelude.{slice_index_or, slice_set, unwrap_or, zip, if◌then◌else◌}
use Rattle.std.specs.List.{AllByRecursion, concat, flat_map}
use Rattle.std.proofs.Math.Nat.{add-mul, mul-le-mul_right, mul_comm}
use Rattle.std.proofs.lemmas.List.{drop_all, length-map, length-replicate}
use Rattle.std.proofs.lemmas.Grind.{flat_map-append}
use Rattle.jpeg_bits.specs.Reading.{Fault, Malformed, ◌>>=◌}
use Rattle.jpeg_bits.specs.Codes.{Table}
use Rattle.jpeg_bits.specs.Entropy.{Text}
use Rattle.jpeg_bits.specs.Intervals.{first_group, interval, intervals, other_groups}
use Rattle.jpeg_bits.specs.Readers.{each}
use Rattle.jpeg_bits.specs.declared.marker.Marker.{Marker}
use Rattle.jpeg_bits.proofs.ReadIntervals.{Holds, each-holds, each-long, intervals-hold}
use Rattle.jpeg_bits.proofs.WrittenIntervals.{all-groups, first-all, others-all}
use Rattle.jpeg_segments.specs.Checks.{gathered, needed}
use Rattle.jpeg_segments.specs.Frame.{Component, Frame}
use Rattle.jpeg_segments.proofs.Codecs.{err-ok, ok-same, bind-ok}
use Rattle.jpeg_lossless.specs.Codings.{AreWholeSamples, IsCovered}
use Rattle.jpeg_lossless.specs.Differences.{Part, interval_rows, sample_difference}
use Rattle.jpeg_lossless.specs.SampleDifferences.{AreLines}
use Rattle.jpeg_lossless.specs.Scans.{Way, is_of_rows, lines_by_component, planes_of, rows_of_interval}
use Rattle.jpeg_lossless.specs.Scans.{samples_an_mcu, scan_at, scan_tables, shifted}
use Rattle.jpeg_lossless.proofs.LineSums.{AreLong, Grid, Grids}
use Rattle.jpeg_lossless.proofs.Sizes.{covered-within}
use Rattle.jpeg_lossless.proofs.WholeScans.{HaveLines, all-whole, lines-there, tables_in}
use Rattle.jpeg_meaning.specs.Brought.{grey_samples, samples_over}
use Rattle.jpeg_meaning.specs.Found.{Found}
use Rattle.jpeg_meaning.specs.LosslessScans.{LosslessCoding, lossless_coding, lossless_codings, part_of, parts_of}
use Rattle.jpeg_meaning.specs.LosslessScans.{with_samples}
use Rattle.jpeg_meaning.specs.Sound.{AreSampled, IsSampled}
use Rattle.jpeg_meaning.proofs.Pictures.LosslessSizes.{all-at}

-- ---- how many rows are read

abbrev joined : Grids → Grid
joined intervals = flat_map (λ (rows : Grid). rows) intervals

-- the tables of the rows of some intervals
abbrev all_tables : List (List Table) → List (List (List Table)) → List (List Table)
all_tables rows more = rows ++ flat_map (λ (g : List (List Table)). g) more

interval-counted : (rows : List (List Table)) (t : Text)
    → Holds (λ (s : Grids). length (joined s) ≡ length rows) (interval_rows rows t)
unfolding interval_rows
interval-counted rows t = let long = each-long (each sample_difference) rows t in search (rules, append-nil)

rows-counted : (k : ℕ) (rows : List (List Table)) (more : List (List (List Table))) (bytes : List ℕ)
    → Holds (λ (s : Grids × Option Marker). length (joined s.0) ≡ length (all_tables rows more))
    (intervals interval_rows k rows more bytes)
unfolding interval intervals
rows-counted k rows [] bytes = search (rules, interval-counted, append-nil)
rows-counted k rows (next ∷ more) bytes =
    search (rules, interval-counted, flat_map-append, length-append, rows-counted (suc k) next more)

-- ---- how long planes are

narrow-long : (w h : ℕ) (lines : Grid) → AreLines w (map (take w) lines) → h ≤ length lines
    → length (concat (map (take w) (take h lines))) ≡ h * w
narrow-long w zero lines all le = omega arith
narrow-long w (suc h) [] all le = absurd (omega arith)
narrow-long w (suc h) (l ∷ lines) all le =
    let one = all.0.0 in
    let more = narrow-long w h lines all.1 (omega arith) in
    omega (arith, add-mul 1 h w, one, more, length-append (take w l) (concat (map (take w) (take h lines))))

planes-whole : (wide high n point : ℕ) (parts : List Part) (lines : Grids) → high ≤ n
    → AllByRecursion (IsCovered wide high) parts → HaveLines n parts lines
    → AreWholeSamples parts (planes_of point parts lines)
unfolding planes_of AreWholeSamples
planes-whole wide high n point [] [] le all h = tt
planes-whole wide high n point (p ∷ parts) (x ∷ lines) le all h =
    let down : p.height ≤ n * p.down = omega (arith, all.0.down, mul-le-mul_right p.down le) in
    let own = narrow-long p.width p.height x h.0.own (omega (arith, h.0.count)) in (
      length-map (concat (map (take p.width) (take p.height x))) (shifted point) ∙ own ∙ mul_comm p.height p.width,
      planes-whole wide high n point parts lines le all.1 h.1,
    )
planes-whole wide high n point _ _ le all h = absurd h

held : {A S : Type 0} (P : A → Type 0) (o : Result (A × S) Fault) (x : A × S) → Holds P o → o ≡ Ok x → P x.0
held P o x h e = subst (λ (q : Result _ Fault). Holds P q) e h

module _ (w : Way) (high : ℕ) (all : AllByRecursion (IsCovered w.wide high) w.parts) where
  rows-long : (rows : List (List Table)) (t : Text) → AllByRecursion (λ ts. length ts ≡ w.wide * samples_an_mcu w) rows
      → Holds (λ (s : Grids). AllByRecursion (AreLong (w.wide * samples_an_mcu w)) s) (interval_rows rows t)
  unfolding interval_rows
  rows-long rows t h =
      let n = w.wide * samples_an_mcu w in
      let long = each-holds (λ ts. length ts ≡ n) (λ (row : List ℕ). length row ≡ n) (each sample_difference)
      (λ ts u e. subst (λ (k : ℕ). Holds (λ (row : List ℕ). length row ≡ k) (each sample_difference ts u)) e
      (each-long sample_difference ts u)) rows t h in
      search rules

  -- the planes of intervals that are read
  pub intervals-whole : (n point : ℕ) (bytes : List ℕ) (s : (Grids × Option Marker) × List ℕ)
      → intervals interval_rows 0 (first_group n (scan_tables w high)) (other_groups n (scan_tables w high)) bytes
      ≡ Ok s → AreWholeSamples w.parts (planes_of point w.parts (lines_by_component w 0 w.parts s.0.0))
  intervals-whole n point bytes s e =
      let rows = scan_tables w high in
      let within = covered-within w.wide high w.parts all in
      let tables = all-whole w within high in
      let long = held (λ (q : Grids × Option Marker). AllByRecursion (AreLong (w.wide * samples_an_mcu w)) q.0) _ s
      (intervals-hold _ (AreLong (w.wide * samples_an_mcu w)) interval_rows rows-long 0 (first_group n rows)
      (other_groups n rows) bytes (first-all _ n rows tables) (others-all _ n rows tables)) e in
      let counted = held (λ (q : Grids × Option Marker). length (joined q.0)
      ≡ length (all_tables (first_group n rows) (other_groups n rows))) _ s
      (rows-counted 0 (first_group n rows) (other_groups n rows) bytes) e in
      let count : length (joined s.0.0) ≡ high = counted ∙ ap (λ (l : List (List Table)). length l) (all-groups n rows)
      ∙ length-replicate high (tables_in w) in
      planes-whole w.wide high (length (joined s.0.0)) point w.parts (lines_by_component w 0 w.parts s.0.0)
      (omega (arith, count)) all (lines-there w within s.0.0 long)

  pub scan-whole : (restart point : ℕ) (bytes : List ℕ) (x : (Grid × Option Marker) × List ℕ)
      → scan_at w high restart point bytes ≡ Ok x → AreWholeSamples w.parts x.0.0
  unfolding scan_at
  scan-whole restart point bytes x e = go (is_of_rows w.wide high restart) e
    where
      go : (b : Bool) → (if b then (intervals interval_rows 0 (first_group (rows_of_interval w.wide high restart)
          (scan_tables w high)) (other_groups (rows_of_interval w.wide high restart) (scan_tables w high)) bytes
          >>= λ r. Ok ((planes_of point w.parts (lines_by_component w 0 w.parts r.0.0), r.0.1), r.1))
          else Err Malformed) ≡ Ok x → AreWholeSamples w.parts x.0.0
      go false e = absurd (err-ok Malformed x e)
      go true e =
          let s = bind-ok (intervals interval_rows 0 (first_group (rows_of_interval w.wide high restart)
          (scan_tables w high)) (other_groups (rows_of_interval w.wide high restart) (scan_tables w high)) bytes) _
          x e in
          subst (λ (y : (Grid × Option Marker) × List ℕ). AreWholeSamples w.parts y.0.0) (ok-same _ x s.2)
          (intervals-whole (rows_of_interval w.wide high restart) point bytes s.0 s.1)

-- ---- the components of a scan

-- each plane has the samples of the component
abbrev pub AreOwn : List LosslessCoding → List (List ℕ) → Type 0
AreOwn [] [] = Unit {0}
AreOwn (k ∷ codings) (plane ∷ planes) =
    (length plane ≡ k.component.width * k.component.height) × AreOwn codings planes
AreOwn _ _ = ⊥

several-own : (codings : List LosslessCoding) (planes : List (List ℕ))
    → AreWholeSamples (map (λ k. part_of k.component.factors.horizontal k.component.factors.vertical k) codings) planes
    → AreOwn codings planes
unfolding AreWholeSamples
several-own [] [] h = tt
several-own [] (plane ∷ planes) h = absurd h
several-own (k ∷ codings) [] h = absurd h
several-own (k ∷ codings) (plane ∷ planes) h = (h.0, several-own codings planes h.1)

pub parts-own : (codings : List LosslessCoding) (planes : List (List ℕ)) → AreWholeSamples (parts_of codings) planes
    → AreOwn codings planes
unfolding parts_of AreWholeSamples
parts-own [] planes h = several-own [] planes h
parts-own (k ∷ []) [] h = absurd h
parts-own (k ∷ []) (plane ∷ []) h = (h.0, tt)
parts-own (k ∷ []) (plane ∷ q ∷ planes) h = absurd h.1
parts-own (k ∷ l ∷ codings) planes h = several-own (k ∷ l ∷ codings) planes h

-- A coding is of the component at its index.
abbrev pub IsAt : List Component → LosslessCoding → Type 0
IsAt cs k = slice_get cs k.index ≡ Some k.component

coding-at : (tables : List (Option Table)) (frame : Frame) (index d : ℕ) (k : LosslessCoding)
    → lossless_coding tables frame index d ≡ Ok k → IsAt frame.components k
unfolding lossless_coding
coding-at tables frame index d k e =
    let c = bind-ok (needed (slice_get frame.components index)) _ k e in
    let t = bind-ok (needed (slice_index_or tables d None)) _ k c.2 in
    subst (IsAt frame.components) (ok-same _ k t.2) (there (slice_get frame.components index) c.0 c.1)
  where
    there : (o : Option Component) (c : Component) → needed o ≡ Ok c → o ≡ Some c
    there None c e = absurd (err-ok Malformed c e)
    there (Some x) c e = ap Some (ok-same x c e)

codings-gathered : (tables : List (Option Table)) (frame : Frame) (at : List (ℕ × ℕ)) (codings : List LosslessCoding)
    → gathered (λ (s : ℕ × ℕ). lossless_coding tables frame s.0 s.1) at ≡ Ok codings
    → AllByRecursion (IsAt frame.components) codings
unfolding gathered
codings-gathered tables frame [] codings e =
    subst (AllByRecursion (IsAt frame.components)) (ok-same [] codings e) tt
codings-gathered tables frame (s ∷ at) codings e =
    let k = bind-ok (lossless_coding tables frame s.0 s.1) _ codings e in
    let ks = bind-ok (gathered (λ (s : ℕ × ℕ). lossless_coding tables frame s.0 s.1) at) _ codings k.2 in
    subst (AllByRecursion (IsAt frame.components)) (ok-same (k.0 ∷ ks.0) codings ks.2)
    (coding-at tables frame s.0 s.1 k.0 k.1, codings-gathered tables frame at ks.0 ks.1)

pub codings-at : (tables : List (Option Table)) (frame : Frame) (indices ds : List ℕ) (codings : List LosslessCoding)
    → lossless_codings tables frame indices ds ≡ Ok codings → AllByRecursion (IsAt frame.components) codings
unfolding lossless_codings
codings-at tables frame indices ds codings e = codings-gathered tables frame (zip indices ds) codings e

pub codings-all : (P : Component → Type 0) (cs : List Component) (codings : List LosslessCoding)
    → AllByRecursion P cs → AllByRecursion (IsAt cs) codings → AllByRecursion (λ k. P k.component) codings
codings-all P cs [] all at = tt
codings-all P cs (k ∷ codings) all at = (all-at P k.index cs k.component all at.0, codings-all P cs codings all at.1)

-- ---- the samples that were there

pub sampled-at : (cs : List Component) (samples : List (Option (List ℕ))) (i : ℕ) (c : Component)
    → AreSampled cs samples → slice_get cs i ≡ Some c → IsSampled c (slice_index_or samples i None)
unfolding AreSampled
sampled-at [] samples i c h e = absurd (let n : ⊥ = cc in n)
sampled-at (d ∷ cs) [] i c h e = absurd h
sampled-at (d ∷ cs) (x ∷ samples) zero c h e = subst (λ (y : Component). IsSampled y x) (let s : d ≡ c = cc in s) h.0
sampled-at (d ∷ cs) (x ∷ samples) (suc i) c h e = sampled-at cs samples i c h.1 e

-- those that are there, or grey
held-long : (frame : Frame) (c : Component) (o : Option (List ℕ)) → IsSampled c o
    → length (unwrap_or o (grey_samples frame c)) ≡ c.width * c.height
held-long frame c None s = length-replicate (c.width * c.height) (2 ^ (frame.precision - 1))
held-long frame c (Some samples) s = s

-- As many samples as a component has hide those before them.
one-over : (found : Found) (frame : Frame) (k : LosslessCoding) (plane : List ℕ)
    → length plane ≡ k.component.width * k.component.height
    → IsSampled k.component (slice_index_or found.samples k.index None)
    → samples_over found frame (k, plane) ≡ plane
one-over found frame k plane l s =
    ap (λ (r : List ℕ). plane ++ r) (drop_all (length plane) _
    (omega (arith, l, held-long frame k.component (slice_index_or found.samples k.index None) s)))
    ∙ append-nil plane

pub all-over : (found : Found) (frame : Frame) (codings : List LosslessCoding) (planes : List (List ℕ))
    → AllByRecursion (IsAt frame.components) codings → AreSampled frame.components found.samples
    → AreOwn codings planes → map (samples_over found frame) (zip codings planes) ≡ planes
all-over found frame [] [] at s own = refl
all-over found frame (k ∷ codings) (plane ∷ planes) at s own =
    ap₂ (λ (p : List ℕ) (ps : List (List ℕ)). p ∷ ps)
    (one-over found frame k plane own.0 (sampled-at frame.components found.samples k.index k.component s at.0))
    (all-over found frame codings planes at.1 s own.1)
all-over found frame _ _ at s own = absurd own

-- ---- the samples that are there then

set-sampled : (cs : List Component) (samples : List (Option (List ℕ))) (i : ℕ) (c : Component) (plane : List ℕ)
    → length plane ≡ c.width * c.height → slice_get cs i ≡ Some c → AreSampled cs samples
    → AreSampled cs (slice_set samples i (Some plane))
unfolding AreSampled
set-sampled [] samples i c plane l e h = tt
set-sampled (d ∷ cs) [] i c plane l e h = absurd h
set-sampled (d ∷ cs) (x ∷ samples) zero c plane l e h =
    (subst (λ (y : Component). IsSampled y (Some plane)) (let s : c ≡ d = cc in s) l, h.1)
set-sampled (d ∷ cs) (x ∷ samples) (suc i) c plane l e h = (h.0, set-sampled cs samples i c plane l e h.1)

pub with-sampled : (cs : List Component) (codings : List LosslessCoding) (planes : List (List ℕ))
    (samples : List (Option (List ℕ))) → AllByRecursion (IsAt cs) codings → AreOwn codings planes
    → AreSampled cs samples → AreSampled cs (with_samples (map (λ k. k.index) codings) planes samples)
unfolding with_samples
with-sampled cs [] [] samples at own h = h
with-sampled cs (k ∷ codings) (plane ∷ planes) samples at own h =
    with-sampled cs codings planes (slice_set samples k.index (Some plane)) at.1 own.1
    (set-sampled cs samples k.index k.component plane own.0 at.0 h)
with-sampled cs _ _ samples at own h = absurd own
