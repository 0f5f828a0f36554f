-- Where rows of MCUs go on, the samples of each component do.
use Rattle.std.proofs.Common.{◌≡◌, ℕ, zero, suc, ◌+◌, ◌*◌, List, [], ◌∷◌, ◌++◌, map, take, refl, sym, ap, ◌∙◌}
use Rattle.std.proofs.Common.{append_assoc, append-nil, Ok, Option}
use Rattle.std.proofs.lemmas.Grind.{flat_map-append}
use Rattle.std.proofs.lemmas.List.{map-append}
use Rattle.std.proofs.lemmas.List.Folds.{concat-append}
use Rattle.std.specs.List.{concat, flat_map}
use Rattle.jpeg_bits.specs.Codes.{Table}
use Rattle.jpeg_bits.specs.Intervals.{intervals}
use Rattle.jpeg_bits.specs.declared.marker.Marker.{Marker}
use Rattle.jpeg_bits.specs.declared.scan.Predictor.{Predictor}
use Rattle.jpeg_lossless.specs.Differences.{Part, interval_rows, lines_in, strands}
use Rattle.jpeg_lossless.specs.Prediction.{line_below, lines_below, predicted_lines}
use Rattle.jpeg_lossless.specs.Scans.{Way, lines_by_component, own_samples, planes_of, samples_an_mcu, shifted}
use Rattle.jpeg_segments.specs.Frame.{Frame}
use Rattle.jpeg_segments.specs.ScanHeader.{Scan}
use Rattle.jpeg_meaning.specs.Brought.{scan_rows_reached}
use Rattle.jpeg_meaning.specs.LosslessScans.{LosslessCoding, way_of}
use Rattle.jpeg_meaning.proofs.Partial.RowIntervals.{scan-rows-read}
use Rattle.jpeg_meaning.specs.LongerStreams.{PlanesGoOn, RowsGoOn, planes_after}
use Rattle.jpeg_meaning.proofs.Longer.LongerRows.{GoOn}

-- ---- lists that begin with others

take-on : {A : Type 0} (n : ℕ) (xs ys : List A) → GoOn xs ys → GoOn (take n xs) (take n ys)
take-on zero xs ys g = ([], refl)
take-on (suc n) [] ys g = (take (suc n) ys, refl)
take-on (suc n) (x ∷ xs) ys g =
    let t = take-on n xs (xs ++ g.0) (g.0, refl) in
    (t.0, ap (take (suc n)) g.1 ∙ ap (λ (l : List _). x ∷ l) t.1)

map-on : {A B : Type 0} (f : A → B) (xs ys : List A) → GoOn xs ys → GoOn (map f xs) (map f ys)
map-on f xs ys g = (map f g.0, ap (map f) g.1 ∙ map-append f xs g.0)

concat-on : (xs ys : List (List ℕ)) → GoOn xs ys → GoOn (concat xs) (concat ys)
concat-on xs ys g = (concat g.0, ap (λ (l : List (List ℕ)). concat l) g.1 ∙ concat-append xs g.0)

-- ---- lines

lines-after : (p : Part) (n size from : ℕ) (rows more : List (List ℕ))
    → lines_in p n size from (rows ++ more) ≡ lines_in p n size from rows ++ lines_in p n size from more
unfolding lines_in
lines-after p n size from [] more = refl
lines-after p n size from (row ∷ rows) more =
    ap (λ (l : List (List ℕ)). strands p.down n size from p.across row ++ l) (lines-after p n size from rows more)
    ∙ sym (append_assoc (strands p.down n size from p.across row) (lines_in p n size from rows)
    (lines_in p n size from more))

below-on : (selection : Predictor) (start : ℕ) (above : List ℕ) (ds es : List (List ℕ))
    → GoOn (lines_below selection start above ds) (lines_below selection start above (ds ++ es))
unfolding lines_below
below-on selection start above [] es = (lines_below selection start above es, refl)
below-on selection start above (d ∷ ds) es =
    let line = line_below selection start above d in
    let g = below-on selection start line ds es in
    (g.0, ap (λ (l : List (List ℕ)). line ∷ l) g.1)

-- the lines of a component in some rows of an interval
abbrev lines_of : Way → ℕ → Part → List (List ℕ) → List (List ℕ)
lines_of w from p rows = predicted_lines w.selection w.start (lines_in p w.wide (samples_an_mcu w) from rows)

interval-on : (w : Way) (from : ℕ) (p : Part) (rows more : List (List ℕ))
    → GoOn (lines_of w from p rows) (lines_of w from p (rows ++ more))
interval-on w from p rows more =
    let n = samples_an_mcu w in
    let g = below-on w.selection w.start [] (lines_in p w.wide n from rows) (lines_in p w.wide n from more) in
    (g.0, ap (lines_below w.selection w.start []) (lines-after p w.wide n from rows more) ∙ g.1)

component-on : (w : Way) (from : ℕ) (p : Part) (shorter longer : List (List (List ℕ))) → RowsGoOn shorter longer
    → GoOn (flat_map (lines_of w from p) shorter) (flat_map (lines_of w from p) longer)
component-on w from p shorter longer r =
    let f = lines_of w from p in
    let front = flat_map f r.front in
    let g = interval-on w from p r.last r.more in
    let rest = g.0 ++ flat_map f r.others in (
      rest,
      ap (flat_map f) r.longer_is ∙ flat_map-append f r.front ((r.last ++ r.more) ∷ r.others)
          ∙ ap (λ (l : List (List ℕ)). front ++ (l ++ flat_map f r.others)) g.1
          ∙ ap (λ (l : List (List ℕ)). front ++ l) (append_assoc (f r.last) g.0 (flat_map f r.others))
          ∙ sym (append_assoc front (f r.last) rest)
          ∙ ap (λ (l : List (List ℕ)). l ++ rest) (sym (ap (flat_map f) r.shorter_is
          ∙ flat_map-append f r.front (r.last ∷ []) ∙ ap (λ (l : List (List ℕ)). front ++ l) (append-nil (f r.last)))),
    )

-- ---- samples

own-on : (point : ℕ) (p : Part) (xs ys : List (List ℕ)) → GoOn xs ys
    → GoOn (own_samples point p xs) (own_samples point p ys)
own-on point p xs ys g =
    map-on (shifted point) _ _ (concat-on _ _ (map-on (take p.width) _ _ (take-on p.height xs ys g)))

parts-on : (w : Way) (point from : ℕ) (parts : List Part) (shorter longer : List (List (List ℕ)))
    → RowsGoOn shorter longer
    → PlanesGoOn (planes_of point parts (lines_by_component w from parts shorter))
    (planes_of point parts (lines_by_component w from parts longer))
unfolding planes_of lines_by_component PlanesGoOn
parts-on w point from [] shorter longer r = tt
parts-on w point from (p ∷ parts) shorter longer r = (
  own-on point p _ _ (component-on w from p shorter longer r),
  parts-on w point (from + p.down * p.across) parts shorter longer r,
)

-- The samples of the first rows are the first samples.
pub samples_go_on : (frame : Frame) (scan : Scan) (codings : List LosslessCoding)
    (shorter longer : List (List (List ℕ))) → RowsGoOn shorter longer
    → PlanesGoOn (planes_after frame scan codings shorter) (planes_after frame scan codings longer)
samples_go_on frame scan codings shorter longer r =
    let w = way_of frame scan.predictor scan.point_transform codings in
    parts-on w scan.point_transform 0 w.parts shorter longer r

-- Rows that are reached up to the marker after a scan are read as the same rows.
pub reached_rows_are_read : (k : ℕ) (rows : List (List Table)) (groups : List (List (List Table))) (bytes : List ℕ)
    (x : Option Marker × List ℕ) → (scan_rows_reached k rows groups bytes).1 ≡ Ok x
    → (m : Option Marker) × (rest : List ℕ)
    × (intervals interval_rows k rows groups bytes ≡ Ok (((scan_rows_reached k rows groups bytes).0, m), rest))
reached_rows_are_read k rows groups bytes x h =
    let r = scan-rows-read k rows groups bytes x h in
    (r.0.0, r.0.1, r.1)
