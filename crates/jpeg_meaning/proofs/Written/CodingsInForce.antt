-- The codings of a scan that a writer has are those that are found, and none else are found.
use Rattle.std.proofs.Common.{◌≡◌, ℕ, refl, ap, sym, subst, List, [], ◌∷◌, Bool, true, false, Option, Some, None, Ok}
use Rattle.std.specs.Prelude.{nat_lt, ◌==◌, slice_get, slice_index_or, zip}
use Rattle.jpeg_bits.specs.Codes.{Table}
use Rattle.jpeg_bits.specs.Passes.{Pass}
use Rattle.jpeg_bits.specs.declared.huffman.codes.HuffmanTableClass.{HuffmanTableClass}
use Rattle.jpeg_bits.specs.declared.huffman.codes.HuffmanTableClass.TheVariants.{DC, AC}
use Rattle.jpeg_segments.specs.Checks.{gathered, needed}
use Rattle.jpeg_segments.specs.Frame.{Frame}
use Rattle.jpeg_segments.specs.HuffmanTables.{Tables}
use Rattle.jpeg_segments.specs.ScanHeader.{Scan}
use Rattle.jpeg_meaning.specs.Found.{Said}
use Rattle.jpeg_meaning.specs.LosslessScans.{LosslessCoding, lossless_coding, lossless_codings}
use Rattle.jpeg_meaning.specs.Scans.{no_table}
use Rattle.jpeg_meaning.specs.ScanSegments.{Coding, codings_of, component_coding, needed_if}
use Rattle.jpeg_meaning.specs.WrittenLossless.{AreSampleCodings, IsSampleCoding}
use Rattle.jpeg_meaning.specs.WrittenScans.{AreInForce, HasCodings, IsInForce, IsTableAt}
use Rattle.jpeg_meaning.proofs.Written.ReadTurns.{bind-ok, coding-is, needed-some, ok-same, then-ok}

-- ---- those that a writer has are found

table-found : (b : Bool) (class : HuffmanTableClass) (tables : List (Option Table)) (d : ℕ) (t : Table)
    → IsTableAt b class tables d t → needed_if b class (slice_index_or tables d None) ≡ Ok t
table-found true class tables d t e = ap (λ (o : Option Table). needed o) e
table-found false class tables d t e = ap (λ (t : Table). Ok t) e

coding-found : (w : Said) (frame : Frame) (p : Pass) (tables : Tables) (slot : ℕ × (ℕ × ℕ)) (k : Coding)
    → IsInForce w frame p tables slot k → component_coding w frame p tables slot.0 slot.1.0 slot.1.1 ≡ Ok k
unfolding component_coding
coding-found w frame p tables slot k is =
    then-ok _ _ k.component _ (ap needed is.component)
    (then-ok _ _ k.quantization _ (ap needed is.quantization)
    (then-ok _ _ k.dc _ (table-found (p.ss == 0) DC tables.dc slot.1.0 k.dc is.dc)
    (then-ok _ _ k.ac _ (table-found (nat_lt 0 p.se) AC tables.ac slot.1.1 k.ac is.ac)
    (ap (λ (i : ℕ). Ok (record k { index = i })) is.index))))

all-found : (w : Said) (frame : Frame) (p : Pass) (tables : Tables) (slots : List (ℕ × (ℕ × ℕ)))
    (codings : List Coding) → AreInForce w frame p tables slots codings
    → gathered (λ (s : ℕ × (ℕ × ℕ)). component_coding w frame p tables s.0 s.1.0 s.1.1) slots ≡ Ok codings
unfolding gathered AreInForce
all-found w frame p tables [] [] h = refl
all-found w frame p tables [] (k ∷ codings) h = absurd h
all-found w frame p tables (s ∷ slots) [] h = absurd h
all-found w frame p tables (s ∷ slots) (k ∷ codings) h =
    then-ok _ _ k _ (coding-found w frame p tables s k h.0)
    (then-ok _ _ codings _ (all-found w frame p tables slots codings h.1) refl)

pub codings-found : (w : Said) (frame : Frame) (s : Scan) (codings : List Coding) → HasCodings w frame s codings
    → codings_of w frame s ≡ Ok codings
unfolding codings_of
codings-found w frame s codings h = all-found w frame _ _ _ codings h

-- ---- those that are found a writer has

found-table : (b : Bool) (class : HuffmanTableClass) (tables : List (Option Table)) (d : ℕ) (t : Table)
    → needed_if b class (slice_index_or tables d None) ≡ Ok t → IsTableAt b class tables d t
found-table true class tables d t e = needed-some _ t e
found-table false class tables d t e = ok-same (no_table class) t e

found-coding : (w : Said) (frame : Frame) (p : Pass) (tables : Tables) (slot : ℕ × (ℕ × ℕ)) (k : Coding)
    → component_coding w frame p tables slot.0 slot.1.0 slot.1.1 ≡ Ok k → IsInForce w frame p tables slot k
found-coding w frame p tables slot k e =
    let is = coding-is w frame p tables slot.0 slot.1.0 slot.1.1 k e in
    record {
      index = sym is.stands;
      component = subst (λ (i : ℕ). slice_get frame.components i ≡ Some k.component) is.stands is.component;
      quantization = is.quantization;
      dc = found-table (p.ss == 0) DC tables.dc slot.1.0 k.dc is.dc;
      ac = found-table (nat_lt 0 p.se) AC tables.ac slot.1.1 k.ac is.ac;
    }

found-all : (w : Said) (frame : Frame) (p : Pass) (tables : Tables) (slots : List (ℕ × (ℕ × ℕ)))
    (codings : List Coding)
    → gathered (λ (s : ℕ × (ℕ × ℕ)). component_coding w frame p tables s.0 s.1.0 s.1.1) slots ≡ Ok codings
    → AreInForce w frame p tables slots codings
unfolding gathered AreInForce
found-all w frame p tables [] codings e = subst (AreInForce w frame p tables []) (ok-same [] codings e) tt
found-all w frame p tables (s ∷ slots) codings e =
    let one = bind-ok (component_coding w frame p tables s.0 s.1.0 s.1.1) _ codings e in
    let more = bind-ok (gathered (λ (s : ℕ × (ℕ × ℕ)). component_coding w frame p tables s.0 s.1.0 s.1.1) slots) _
    codings one.2 in
    subst (AreInForce w frame p tables (s ∷ slots)) (ok-same (one.0 ∷ more.0) codings more.2)
    (found-coding w frame p tables s one.0 one.1, found-all w frame p tables slots more.0 more.1)

pub found-codings : (w : Said) (frame : Frame) (s : Scan) (codings : List Coding)
    → codings_of w frame s ≡ Ok codings → HasCodings w frame s codings
unfolding codings_of
found-codings w frame s codings e = found-all w frame _ _ _ codings e

-- ---- and of lossless scans

sample-found : (tables : List (Option Table)) (frame : Frame) (slot : ℕ × ℕ) (k : LosslessCoding)
    → IsSampleCoding tables frame slot k → lossless_coding tables frame slot.0 slot.1 ≡ Ok k
unfolding lossless_coding
sample-found tables frame slot k is =
    then-ok _ _ k.component _ (ap needed is.component)
    (then-ok _ _ k.table _ (ap needed is.table)
    (ap (λ (i : ℕ). Ok (record k { index = i })) is.index))

each-found : (tables : List (Option Table)) (frame : Frame) (slots : List (ℕ × ℕ)) (codings : List LosslessCoding)
    → AreSampleCodings tables frame slots codings
    → gathered (λ (s : ℕ × ℕ). lossless_coding tables frame s.0 s.1) slots ≡ Ok codings
unfolding gathered AreSampleCodings
each-found tables frame [] [] h = refl
each-found tables frame [] (k ∷ codings) h = absurd h
each-found tables frame (s ∷ slots) [] h = absurd h
each-found tables frame (s ∷ slots) (k ∷ codings) h =
    then-ok _ _ k _ (sample-found tables frame s k h.0)
    (then-ok _ _ codings _ (each-found tables frame slots codings h.1) refl)

pub samples-found : (tables : List (Option Table)) (frame : Frame) (indices ds : List ℕ)
    (codings : List LosslessCoding) → AreSampleCodings tables frame (zip indices ds) codings
    → lossless_codings tables frame indices ds ≡ Ok codings
unfolding lossless_codings
samples-found tables frame indices ds codings h = each-found tables frame (zip indices ds) codings h

found-sample : (tables : List (Option Table)) (frame : Frame) (slot : ℕ × ℕ) (k : LosslessCoding)
    → lossless_coding tables frame slot.0 slot.1 ≡ Ok k → IsSampleCoding tables frame slot k
unfolding lossless_coding
found-sample tables frame slot k e =
    let component = bind-ok (needed (slice_get frame.components slot.0)) _ k e in
    let table = bind-ok (needed (slice_index_or tables slot.1 None)) _ k component.2 in
    let made : record { index = slot.0; component = component.0; table = table.0 } ≡ k = ok-same _ k table.2 in
    subst (IsSampleCoding tables frame slot) made (record {
      index = refl;
      component = needed-some _ component.0 component.1;
      table = needed-some _ table.0 table.1;
    })

found-each : (tables : List (Option Table)) (frame : Frame) (slots : List (ℕ × ℕ)) (codings : List LosslessCoding)
    → gathered (λ (s : ℕ × ℕ). lossless_coding tables frame s.0 s.1) slots ≡ Ok codings
    → AreSampleCodings tables frame slots codings
unfolding gathered AreSampleCodings
found-each tables frame [] codings e = subst (AreSampleCodings tables frame []) (ok-same [] codings e) tt
found-each tables frame (s ∷ slots) codings e =
    let one = bind-ok (lossless_coding tables frame s.0 s.1) _ codings e in
    let more = bind-ok (gathered (λ (s : ℕ × ℕ). lossless_coding tables frame s.0 s.1) slots) _ codings one.2 in
    subst (AreSampleCodings tables frame (s ∷ slots)) (ok-same (one.0 ∷ more.0) codings more.2)
    (found-sample tables frame s one.0 one.1, found-each tables frame slots more.0 more.1)

pub found-samples : (tables : List (Option Table)) (frame : Frame) (indices ds : List ℕ)
    (codings : List LosslessCoding) → lossless_codings tables frame indices ds ≡ Ok codings
    → AreSampleCodings tables frame (zip indices ds) codings
unfolding lossless_codings
found-samples tables frame indices ds codings e = found-each tables frame (zip indices ds) codings e
