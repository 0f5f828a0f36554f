-- The rows above the first block that shorter data of a scan lack stay as they are in longer data.
use Rattle.std.proofs.Common.{◌≡◌, ◌≢◌, inl, inr, ℕ, zero, suc, ◌*◌, ◌/◌, ◌<◌, ◌≤◌, List, [], ◌∷◌, ◌++◌, length}
use Rattle.std.proofs.Common.{get_or, min, slice_get, Option, Some, None, Ok, refl, sym, ap, ◌∙◌, subst, arith}
use Rattle.std.proofs.Common.{length-set, ◌⊎◌, take}
use Rattle.std.proofs.Math.Nat.{zero-mul}
use Rattle.std.proofs.lemmas.List.{length-map}
use Rattle.std.specs.List.{AllByRecursion}
use Rattle.jpeg_segments.specs.Frame.{Component, Frame}
use Rattle.jpeg_segments.specs.Scales.{IsSizedFrame}
use Rattle.jpeg_segments.specs.ScanHeader.{Scan}
use Rattle.jpeg_segments.specs.declared.frame.CodingProcess.TheVariants.{Lossless}
use Rattle.jpeg_segments.proofs.Codecs.{ok-same}
use Rattle.jpeg_meaning.specs.declared.settings.Settings.{Settings}
use Rattle.jpeg_meaning.specs.Found.{Found}
use Rattle.jpeg_meaning.specs.InTurn.{Fits}
use Rattle.jpeg_meaning.specs.Order.{Spot, spots_of}
use Rattle.jpeg_meaning.specs.Pixels.{samples_shown}
use Rattle.jpeg_meaning.specs.Scans.{Arrays}
use Rattle.jpeg_meaning.specs.ScanSegments.{Coding, after_scan, codings_of, components_of}
use Rattle.jpeg_meaning.specs.Shown.{picture_shown}
use Rattle.jpeg_meaning.specs.WholeRows.{rows_above, rows_above_line, rows_apart}
use Rattle.jpeg_meaning.proofs.Order.Apart.{At, at-all}
use Rattle.jpeg_meaning.proofs.Order.FrameShapes.{at-mapped, is-sized, most_h, most_v, scaled-frames-fit}
use Rattle.jpeg_meaning.proofs.Order.FrameShapes.{scaled_component}
use Rattle.jpeg_meaning.proofs.Order.McuRows.{AllOf, IsOf, codings-are-of, fits-of}
use Rattle.jpeg_meaning.proofs.Written.BroughtLevels.{Made}
use Rattle.jpeg_evidence.specs.CompleteRows.{first_rows}
use Rattle.jpeg_evidence.specs.CutImages.{rows_before}
use Rattle.jpeg_meaning.specs.LongerStreams.{Puts, PutsFirst, ReadsOn, ScanGoesOn, arrays_of}
use Rattle.jpeg_meaning.specs.LongerStreams.Puts.{finished, put}
use Rattle.jpeg_evidence.proofs.Rows.AlikePictures.{shown-first}
use Rattle.jpeg_evidence.proofs.Rows.AlikeStates.{Alike, BlocksBegin, Coded, blocks-begin, scan-alike}
use Rattle.jpeg_evidence.proofs.Rows.FirstBlockRows.{in-lines}
use Rattle.jpeg_evidence.proofs.Rows.FirstRows.{made-sized}
use Rattle.jpeg_evidence.proofs.Rows.NeededLines.{OneScale, apart-few, block_rows, scan-enough}
use Rattle.jpeg_evidence.proofs.Rows.UnreadRows.{blocks-above, mcu-at, row_of}

-- ---- frames

made-fits : (f : Frame) → Made f → AllByRecursion (Fits f) f.components
made-fits f m =
    subst (λ (g : Frame). AllByRecursion (Fits g) g.components) (sym m.is)
    (scaled-frames-fit m.scale m.number m.precision m.width m.height m.factors m.some_scale m.in_range)

scale-at : (f : Frame) (m : Made f) (k : ℕ) (c : Component) → At k f.components c → c.scale ≡ m.scale
scale-at f m k c t =
    let z = is-sized f m in
    let x = at-mapped (scaled_component m.scale m.width m.height (most_h m.factors) (most_v m.factors)) k m.factors c
    (subst (λ (l : List Component). At k l c) z.components t) in
    ap (λ (d : Component). d.scale) (sym x.2)

scales-at : (f : Frame) (m : Made f) (codings : List Coding) → AllByRecursion (IsOf f) codings
    → OneScale m.scale (components_of codings)
scales-at f m [] of = tt
scales-at f m (k ∷ codings) of = (scale-at f m k.index k.component of.0.here, scales-at f m codings of.1)

-- ---- blocks

puts-length : (spots : List Spot) (before after : Arrays) → Puts spots before after → length after ≡ length before
puts-length spots before after (finished arrays) = refl
puts-length spots before after (put s rest b old new p) = puts-length rest _ new p ∙ length-set old s.slot _

row-below : (cs : List Component) (t : Spot) (d : Component) (rows : ℕ) → At t.slot cs d → 0 < d.factors.vertical
    → t.index < block_rows cs d rows * d.blocks_wide → row_of cs t < rows
row-below [] t d rows at some lt = absurd at
row-below (c ∷ []) t d rows at some lt = alone t.slot at
  where
    alone : (i : ℕ) → At i (c ∷ []) d → t.index / c.blocks_wide < rows
    alone zero e = subst (λ (x : Component). t.index / x.blocks_wide < rows) (sym e)
        (in-lines t.index rows d.blocks_wide lt).1
    alone (suc i) e = absurd e
row-below (c ∷ e ∷ cs) t d rows at some lt =
    let line = (in-lines t.index (rows * d.factors.vertical) d.blocks_wide lt).1 in
    let mcu = (in-lines (t.index / d.blocks_wide) rows d.factors.vertical line).1 in
    subst (λ (n : ℕ). n < rows) (sym (mcu-at (c ∷ e ∷ cs) t d at)) mcu

at-component : (codings : List Coding) (j : ℕ) (k : Coding) → At j codings k → At j (components_of codings) k.component
at-component [] j k t = absurd t
at-component (c ∷ codings) zero k t = ap (λ (x : Coding). x.component) t
at-component (c ∷ codings) (suc j) k t = at-component codings j k t

module _ (frame : Frame) (rows : ℕ) where
  coded-from : (codings : List Coding) (us vs : Arrays) → length us ≡ length codings → length vs ≡ length codings
      → AllByRecursion (IsOf frame) codings
      → ((j : ℕ) (k : Coding) → At j codings k → BlocksBegin frame rows k.component (get_or us j []) (get_or vs j []))
      → Coded frame rows codings us vs
  coded-from [] [] [] a b of each = tt
  coded-from (k ∷ codings) (u ∷ us) (v ∷ vs) a b of each =
      (of.0, each 0 k refl, coded-from codings us vs (omega arith) (omega arith) of.1 (λ j d t. each (suc j) d t))
  coded-from [] [] (v ∷ vs) a b of each = absurd (omega arith)
  coded-from [] (u ∷ us) vs a b of each = absurd (omega arith)
  coded-from (k ∷ codings) [] vs a b of each = absurd (omega arith)
  coded-from (k ∷ codings) (u ∷ us) [] a b of each = absurd (omega arith)

-- Blocks of a scan, where longer data go on, as far as the complete rows need them.
blocks-coded : (frame : Frame) (m : Made frame) (codings : List Coding) (before shorter longer : Arrays)
    (r : ReadsOn (spots_of frame (components_of codings)) before shorter longer) (s : Spot) (others : List Spot)
    → length before ≡ length codings → AllByRecursion (IsOf frame) codings → r.others ≡ s ∷ others
    → 0 < rows_above frame (components_of codings) s
    → Coded frame (rows_above frame (components_of codings) s) codings shorter longer
blocks-coded frame m codings before shorter longer r s others count of e some =
    let cs = components_of codings in
    let rows = rows_above frame cs s in
    let short = puts-length r.done before shorter r.puts in
    let long = puts-length r.further.done shorter longer r.further.puts in
    let fits = fits-of frame codings (made-fits frame m) of in
    coded-from frame rows codings shorter longer (short ∙ count) (long ∙ short ∙ count) of (λ j k t.
    let d = k.component in
    let at = at-component codings j k t in
    let high = block_rows cs d (row_of cs s) in
    blocks-begin frame rows d high (get_or shorter j []) (get_or longer j [])
    (λ i lt.
    blocks-above frame cs before shorter longer r s others (record { slot = j; index = i }) fits e
    (row-below cs (record { slot = j; index = i }) d (row_of cs s) at (at-all (Fits frame) j cs d fits at).vertical lt))
    (scan-enough frame cs s d j m.scale fits (scales-at frame m codings of) at some))

above-few : (frame : Frame) (cs : List Component) (s : Spot) → rows_above frame cs s ≤ frame.output_height
above-few frame cs s = go (slice_get cs s.slot)
  where
    go : (o : Option Component) → (elim o as (λ _. ℕ) [
      | Some c ↦ rows_apart frame cs
          (min frame.output_height (rows_above_line frame cs c (s.index / c.blocks_wide)))
      | None ↦ 0
    ]) ≤ frame.output_height
    go None = omega arith
    go (Some c) =
        let few = apart-few frame cs (min frame.output_height (rows_above_line frame cs c (s.index / c.blocks_wide))) in
        omega arith

-- ---- a scan

none-put : (shorter longer : Arrays) (spots : List Spot) → spots ≡ [] → PutsFirst spots shorter longer
    → longer ≡ shorter
none-put shorter longer spots e p = go p.done p.others shorter longer (sym e ∙ p.parts) p.puts
  where
    go : (done others : List Spot) (a b : Arrays) → [] ≡ done ++ others → Puts done a b → b ≡ a
    go [] others a b e (finished arrays) = refl
    go (s ∷ done) others a b e puts = absurd cc

-- What is found with shorter data and with longer ones is the same as far as the complete rows need it.
pub scans-alike : (before : Found) (frame : Frame) (scan : Scan) (codings : List Coding) (shorter longer : Arrays)
    (r : ReadsOn (spots_of frame (components_of codings)) (arrays_of before frame codings) shorter longer)
    → IsSizedFrame frame → before.said.frame ≡ Some frame → AllByRecursion (IsOf frame) codings
    → 0 < rows_before frame (components_of codings) r.others
    → ((longer ≡ shorter) ⊎ Alike frame (rows_before frame (components_of codings) r.others)
    (after_scan before frame scan codings shorter) (after_scan before frame scan codings longer))
    × (rows_before frame (components_of codings) r.others ≤ frame.output_height)
scans-alike before frame scan codings shorter longer r z framed of some = go r.others refl some
  where
    go : (others : List Spot) → r.others ≡ others → 0 < rows_before frame (components_of codings) others
        → ((longer ≡ shorter) ⊎ Alike frame (rows_before frame (components_of codings) others)
        (after_scan before frame scan codings shorter) (after_scan before frame scan codings longer))
        × (rows_before frame (components_of codings) others ≤ frame.output_height)
    go [] is some = (inl (none-put shorter longer r.others is r.further), omega arith)
    go (s ∷ others) is some =
        let rows = rows_above frame (components_of codings) s in
        let coded = blocks-coded frame (made-sized frame z) codings (arrays_of before frame codings) shorter longer r s
        others (length-map codings _) of is some in (
          inr (scan-alike frame rows before scan codings shorter longer framed coded),
          above-few frame (components_of codings) s,
        )

pub no-rows : (settings : Settings) (frame : Frame) (x y : List ℕ) → first_rows settings frame 0 x ≡ first_rows settings frame 0 y
no-rows settings frame x y =
    let start : 0 * (frame.output_width * samples_shown settings frame) ≡ 0 =
    zero-mul (frame.output_width * samples_shown settings frame) in
    ap (λ (n : ℕ). take n x) start ∙ ap (λ (n : ℕ). take n y) (sym start)

-- The complete rows of the picture that is shown stay.
scan-rows-stay : (settings : Settings) (before : Found) (frame : Frame) (scan : Scan) (codings : List Coding)
    (shorter longer : Arrays)
    (r : ReadsOn (spots_of frame (components_of codings)) (arrays_of before frame codings) shorter longer)
    (x y : List ℕ) → IsSizedFrame frame → frame.process ≢ Lossless → before.said.frame ≡ Some frame
    → AllByRecursion (IsOf frame) codings
    → picture_shown settings (after_scan before frame scan codings shorter) ≡ Ok x
    → picture_shown settings (after_scan before frame scan codings longer) ≡ Ok y
    → first_rows settings frame (rows_before frame (components_of codings) r.others) x
    ≡ first_rows settings frame (rows_before frame (components_of codings) r.others) y
scan-rows-stay settings before frame scan codings shorter longer r x y z lossy framed of d e =
    go (rows_before frame (components_of codings) r.others) refl
  where
    all : ℕ
    all = rows_before frame (components_of codings) r.others

    by : (longer ≡ shorter) ⊎ Alike frame all (after_scan before frame scan codings shorter)
        (after_scan before frame scan codings longer) → all ≤ frame.output_height
        → first_rows settings frame all x ≡ first_rows settings frame all y
    by (inl same) few = ap (first_rows settings frame all) (ok-same x y (sym d
        ∙ ap (λ (l : Arrays). picture_shown settings (after_scan before frame scan codings l)) (sym same) ∙ e))
    by (inr a) few = shown-first frame all settings _ _ x y z lossy few a d e

    go : (rows : ℕ) → all ≡ rows → first_rows settings frame rows x ≡ first_rows settings frame rows y
    go zero is = no-rows settings frame x y
    go (suc rows) is =
        let some : 0 < all = omega arith in
        let same = scans-alike before frame scan codings shorter longer r z framed of some in
        subst (λ (n : ℕ). first_rows settings frame n x ≡ first_rows settings frame n y) is (by same.0 same.1)

pub codings-of : (before : Found) (frame : Frame) (scan : Scan) (codings : List Coding)
    → codings_of before.said frame scan ≡ Ok codings → AllByRecursion (IsOf frame) codings
codings-of before frame scan codings e = subst (AllOf frame) e (codings-are-of before frame scan)

-- The complete rows stay where a scan goes on.
pub rows_of_scans_stay : (settings : Settings) (before shorter longer : Found) (g : ScanGoesOn before shorter longer)
    (x y : List ℕ) → IsSizedFrame g.frame → (g.frame.process ≡ Lossless → ⊥) → before.said.frame ≡ Some g.frame
    → codings_of before.said g.frame g.scan ≡ Ok g.codings
    → picture_shown settings shorter ≡ Ok x → picture_shown settings longer ≡ Ok y
    → first_rows settings g.frame (rows_before g.frame (components_of g.codings) g.reads_on.others) x
    ≡ first_rows settings g.frame (rows_before g.frame (components_of g.codings) g.reads_on.others) y
rows_of_scans_stay settings before shorter longer g x y z lossy framed coded d e =
    scan-rows-stay settings before g.frame g.scan g.codings g.blocks g.more_blocks g.reads_on x y z lossy framed
    (codings-of before g.frame g.scan g.codings coded)
    (ap (picture_shown settings) (sym g.shorter_is) ∙ d) (ap (picture_shown settings) (sym g.longer_is) ∙ e)
