-- A segment that is read, or breaks a rule, does the same whatever bytes follow it.
use Rattle.std.proofs.Common.{rules, ◌≡◌, ℕ, zero, suc, ◌≤◌, Bool, true, false, List, [], ◌∷◌, ◌++◌}
use Rattle.std.proofs.Common.{ap, arith, length, length-append, refl, Ok, Err, Result, Option, Some, None}
use Rattle.std.specs.Prelude.{if◌then◌else◌}
use Rattle.jpeg_bits.specs.Reading.{End, Fault, Outcome, ◌>>=◌, next_byte, next_u16, length_at, skip_at, times}
use Rattle.jpeg_bits.specs.Marker.{found_or, marker_at, next_marker}
use Rattle.jpeg_bits.specs.declared.marker.Marker.{Marker}
use Rattle.jpeg_bits.specs.declared.marker.Marker.TheVariants.{RST}
use Rattle.jpeg_segments.specs.Application.{adobe_at, app_at, dri_at}
use Rattle.jpeg_segments.specs.Frame.{Factors, Frame, components_from, factors_at, size_at, sof_at}
use Rattle.jpeg_segments.specs.HuffmanTables.{Tables, defined_codes_at, dht_at, tables_from}
use Rattle.jpeg_segments.specs.Quantization.{QuantizationTables, defined_table_at, dqt_at, quantization_from, value_at}
use Rattle.jpeg_segments.specs.ScanHeader.{Selector, band_at, count_at, selector_at, selectors_from, sos_at}
use Rattle.jpeg_meaning.specs.Brought.{after_intervals}
use Rattle.jpeg_meaning.specs.ScanSegments.{after_restarts}
use Rattle.jpeg_segments.proofs.Codecs.{err-ok, ok-same}

-- ---- readers of bytes

-- What is read of some bytes, o, is read of the same bytes with more after them, q; and so is a fault, but that the
-- bytes end.
pub data Stays {A : Type 0} (more : List ℕ) : Outcome A → Outcome A → Type 0 where
  stays-ok : (x : A) (rest : List ℕ) → Stays more (Ok (x, rest)) (Ok (x, rest ++ more))
  stays-err : (g : Fault) → Stays more (Err g) (Err g)
  stays-end : (q : Outcome A) → Stays more (Err End) q

-- what is read alone
abbrev pub StaysRead : {A : Type 0} → List ℕ → Outcome A → Outcome A → Type 0
StaysRead {A} more o q = (x : A × List ℕ) → o ≡ Ok x → q ≡ Ok (x.0, x.1 ++ more)

pub stays-read : {A : Type 0} (more : List ℕ) (o q : Outcome A) → Stays more o q → StaysRead more o q
stays-read more o q (stays-ok x rest) y e = ap (λ (z : _ × List ℕ). Ok (z.0, z.1 ++ more)) (ok-same (x, rest) y e)
stays-read more o q (stays-err g) y e = absurd (err-ok g y e)
stays-read more o q (stays-end q') y e = absurd (err-ok End y e)

pub nothing-left : (l more : List ℕ) → l ++ more ≡ [] → more ≡ []
nothing-left [] more e = e
nothing-left (a ∷ l) more e = absurd (let n : ⊥ = cc in n)

-- Where longer bytes are read to their end, shorter ones end before.
pub short-ends : {A : Type 0} (more : List ℕ) (o q : Outcome A) (x : A) → Stays more o q → q ≡ Ok (x, [])
    → (more ≡ [] → ⊥) → o ≡ Err End
short-ends more o q x (stays-ok y rest) e some =
    absurd (some (nothing-left rest more (ap (λ (z : _ × List ℕ). z.1) (ok-same (y, rest ++ more) (x, []) e))))
short-ends more o q x (stays-err g) e some = absurd (err-ok g (x, []) e)
short-ends more o q x (stays-end q') e some = refl

-- one after the other
pub stays-bind : {A B : Type 0} (more : List ℕ) (o q : Outcome A) (f g : A × List ℕ → Outcome B) → Stays more o q
    → ((x : A × List ℕ) → Stays more (f x) (g (x.0, x.1 ++ more))) → Stays more (o >>= f) (q >>= g)
stays-bind more o q f g (stays-ok x rest) each = each (x, rest)
stays-bind more o q f g (stays-err e) each = stays-err e
stays-bind more o q f g (stays-end q') each = stays-end _

-- after what reads no bytes
pub stays-after : {A B : Type 0} (more : List ℕ) (o : Result A Fault) (f g : A → Outcome B)
    → ((x : A) → Stays more (f x) (g x)) → Stays more (o >>= f) (o >>= g)
stays-after more (Ok x) f g each = each x
stays-after more (Err e) f g each = stays-err e

pub stays-if : {A : Type 0} (more : List ℕ) (b : Bool) (o q u v : Outcome A) → Stays more o q → Stays more u v
    → Stays more (if b then o else u) (if b then q else v)
stays-if more true o q u v h k = h
stays-if more false o q u v h k = k

pub byte-stays : (more bytes : List ℕ) → Stays more (next_byte bytes) (next_byte (bytes ++ more))
byte-stays more [] = stays-end _
byte-stays more (b ∷ bytes) = stays-ok b bytes

pub u16-stays : (more bytes : List ℕ) → Stays more (next_u16 bytes) (next_u16 (bytes ++ more))
unfolding next_u16
u16-stays more bytes = search (rules, stays-bind, byte-stays, stays-ok)

pub length-stays : (more bytes : List ℕ) → Stays more (length_at bytes) (length_at (bytes ++ more))
unfolding length_at
length-stays more bytes = search (rules, stays-bind, u16-stays, stays-if, stays-err, stays-ok)

pub times-stay : {A : Type 0} (more : List ℕ) (n : ℕ) (read : List ℕ → Outcome A) (bytes : List ℕ)
    → ((bytes : List ℕ) → Stays more (read bytes) (read (bytes ++ more)))
    → Stays more (times n read bytes) (times n read (bytes ++ more))
unfolding times
times-stay more zero read bytes h = stays-ok [] bytes
times-stay more (suc n) read bytes h =
    let others : (bytes : List ℕ) → Stays more (times n read bytes) (times n read (bytes ++ more))
    = λ bytes. times-stay more n read bytes h in
    search (rules, stays-bind, stays-ok)

pub skip-stays : (more : List ℕ) (n : ℕ) (bytes : List ℕ) → Stays more (skip_at n bytes) (skip_at n (bytes ++ more))
unfolding skip_at
skip-stays more n bytes = search (rules, stays-bind, times-stay, byte-stays, stays-ok)

-- ---- quantization tables

value-stays : (more : List ℕ) (wide : Bool) (bytes : List ℕ)
    → Stays more (value_at wide bytes) (value_at wide (bytes ++ more))
unfolding value_at
value-stays more wide bytes = search (rules, stays-if, u16-stays, byte-stays)

defined_table-stays : (more : List ℕ) (left : ℕ) (bytes : List ℕ)
    → Stays more (defined_table_at left bytes) (defined_table_at left (bytes ++ more))
unfolding defined_table_at
defined_table-stays more left bytes =
    search (rules, stays-bind, byte-stays, stays-after, times-stay, value-stays, stays-ok) depth 12

quantization-stays : (more : List ℕ) (most left : ℕ) (tables : QuantizationTables) (bytes : List ℕ)
    → Stays more (quantization_from most left tables bytes) (quantization_from most left tables (bytes ++ more))
unfolding quantization_from
quantization-stays more zero left tables bytes = search (rules, stays-if, stays-ok, stays-err)
quantization-stays more (suc most) left tables bytes =
    let others : (left : ℕ) (tables : QuantizationTables) (bytes : List ℕ) → Stays more
    (quantization_from most left tables bytes) (quantization_from most left tables (bytes ++ more))
    = λ left tables bytes. quantization-stays more most left tables bytes in
    search (rules, stays-if, stays-ok, stays-bind, defined_table-stays)

pub dqt-stays : (more bytes : List ℕ) → Stays more (dqt_at bytes) (dqt_at (bytes ++ more))
unfolding dqt_at
dqt-stays more bytes = search (rules, stays-bind, length-stays, quantization-stays)

-- ---- Huffman tables

defined_codes-stay : (more : List ℕ) (greatest left : ℕ) (bytes : List ℕ)
    → Stays more (defined_codes_at greatest left bytes) (defined_codes_at greatest left (bytes ++ more))
unfolding defined_codes_at
defined_codes-stay more greatest left bytes =
    search (rules, stays-bind, byte-stays, stays-after, times-stay, stays-ok) depth 12

tables-stay : (more : List ℕ) (most greatest left : ℕ) (tables : Tables) (bytes : List ℕ)
    → Stays more (tables_from most greatest left tables bytes) (tables_from most greatest left tables (bytes ++ more))
unfolding tables_from
tables-stay more zero greatest left tables bytes = search (rules, stays-if, stays-ok, stays-err)
tables-stay more (suc most) greatest left tables bytes =
    let others : (left : ℕ) (tables : Tables) (bytes : List ℕ) → Stays more
    (tables_from most greatest left tables bytes) (tables_from most greatest left tables (bytes ++ more))
    = λ left tables bytes. tables-stay more most greatest left tables bytes in
    search (rules, stays-if, stays-ok, stays-err, stays-bind, defined_codes-stay)

pub dht-stays : (more : List ℕ) (is_baseline : Option Bool) (bytes : List ℕ)
    → Stays more (dht_at is_baseline bytes) (dht_at is_baseline (bytes ++ more))
unfolding dht_at
dht-stays more is_baseline bytes = search (rules, stays-bind, length-stays, tables-stay)

-- ---- applications and the restart interval

adobe-stays : (more : List ℕ) (left : ℕ) (bytes : List ℕ)
    → Stays more (adobe_at left bytes) (adobe_at left (bytes ++ more))
unfolding adobe_at
adobe-stays more left bytes =
    search (rules, stays-bind, times-stay, byte-stays, stays-if, stays-after, skip-stays, stays-ok) depth 12

pub app-stays : (more : List ℕ) (number : ℕ) (bytes : List ℕ)
    → Stays more (app_at number bytes) (app_at number (bytes ++ more))
unfolding app_at
app-stays more number bytes =
    search (rules, stays-bind, length-stays, stays-if, adobe-stays, times-stay, byte-stays, stays-ok) depth 12

pub dri-stays : (more bytes : List ℕ) → Stays more (dri_at bytes) (dri_at (bytes ++ more))
unfolding dri_at
dri-stays more bytes = search (rules, stays-bind, length-stays, stays-if, u16-stays, stays-err)

-- ---- headers

factors-stay : (more : List ℕ) (lossless : Bool) (front : List Factors) (bytes : List ℕ)
    → Stays more (factors_at lossless front bytes) (factors_at lossless front (bytes ++ more))
unfolding factors_at
factors-stay more lossless front bytes = search (rules, stays-bind, byte-stays, stays-after, stays-ok) depth 14

components-stay : (more : List ℕ) (lossless : Bool) (n : ℕ) (front : List Factors) (bytes : List ℕ)
    → Stays more (components_from lossless n front bytes) (components_from lossless n front (bytes ++ more))
unfolding components_from
components-stay more lossless zero front bytes = stays-ok front bytes
components-stay more lossless (suc n) front bytes =
    let others : (front : List Factors) (bytes : List ℕ) → Stays more (components_from lossless n front bytes)
    (components_from lossless n front (bytes ++ more))
    = λ front bytes. components-stay more lossless n front bytes in
    search (rules, stays-bind, factors-stay)

size-stays : (more bytes : List ℕ) → Stays more (size_at bytes) (size_at (bytes ++ more))
unfolding size_at
size-stays more bytes = search (rules, stays-bind, u16-stays, stays-if, stays-err, stays-ok) depth 12

pub sof-stays : (more : List ℕ) (number : ℕ) (bytes : List ℕ)
    → Stays more (sof_at number bytes) (sof_at number (bytes ++ more))
unfolding sof_at
sof-stays more number bytes =
    search (rules, stays-bind, length-stays, stays-after, byte-stays, size-stays, components-stay, stays-ok) depth 20

selector-stays : (more : List ℕ) (frame : Frame) (least : ℕ) (bytes : List ℕ)
    → Stays more (selector_at frame least bytes) (selector_at frame least (bytes ++ more))
unfolding selector_at
selector-stays more frame least bytes = search (rules, stays-bind, byte-stays, stays-after, stays-ok) depth 14

selectors-stay : (more : List ℕ) (frame : Frame) (n : ℕ) (front : List Selector) (least : ℕ) (bytes : List ℕ)
    → Stays more (selectors_from frame n front least bytes) (selectors_from frame n front least (bytes ++ more))
unfolding selectors_from
selectors-stay more frame zero front least bytes = stays-ok front bytes
selectors-stay more frame (suc n) front least bytes =
    let others : (front : List Selector) (least : ℕ) (bytes : List ℕ) → Stays more
    (selectors_from frame n front least bytes) (selectors_from frame n front least (bytes ++ more))
    = λ front least bytes. selectors-stay more frame n front least bytes in
    search (rules, stays-bind, selector-stays)

band-stays : (more : List ℕ) (frame : Frame) (selectors : List Selector) (bytes : List ℕ)
    → Stays more (band_at frame selectors bytes) (band_at frame selectors (bytes ++ more))
unfolding band_at
band-stays more frame selectors bytes = search (rules, stays-bind, byte-stays, stays-after, stays-ok) depth 14

count-stays : (more bytes : List ℕ) → Stays more (count_at bytes) (count_at (bytes ++ more))
unfolding count_at
count-stays more bytes = search (rules, stays-bind, length-stays, byte-stays, stays-after, stays-ok) depth 14

pub sos-stays : (more : List ℕ) (frame : Frame) (bytes : List ℕ)
    → Stays more (sos_at frame bytes) (sos_at frame (bytes ++ more))
unfolding sos_at
sos-stays more frame bytes =
    search (rules, stays-bind, count-stays, selectors-stay, stays-after, band-stays) depth 12

-- ---- markers

found-stays : (more : List ℕ) (o : Option Marker) (rest : List ℕ) (p q : Outcome Marker) → Stays more p q
    → Stays more (found_or o rest p) (found_or o (rest ++ more) q)
found-stays more None rest p q h = h
found-stays more (Some m) rest p q h = stays-ok m rest

pub next-stays : (more bytes : List ℕ) → Stays more (next_marker bytes) (next_marker (bytes ++ more))
unfolding next_marker
next-stays more [] = stays-end _
next-stays more (a ∷ []) = stays-end _
next-stays more (a ∷ b ∷ rest) =
    found-stays more (marker_at a b) rest (next_marker (b ∷ rest)) (next_marker (b ∷ rest ++ more))
    (next-stays more (b ∷ rest))

-- the marker that is met, or else the next
pub marker-stays : (more : List ℕ) (met : Option Marker) (bytes : List ℕ)
    → Stays more (found_or met bytes (next_marker bytes)) (found_or met (bytes ++ more) (next_marker (bytes ++ more)))
marker-stays more met bytes = found-stays more met bytes _ _ (next-stays more bytes)

-- ---- the marker after a scan

-- where restart markers are passed over, and of more bytes no fewer
pub restarts-stay : (more : List ℕ) (turns others : ℕ) (met : Option Marker) (bytes : List ℕ) → turns ≤ others
    → Stays more (after_restarts turns met bytes) (after_restarts others met (bytes ++ more))
unfolding after_restarts
restarts-stay more zero others met bytes h = stays-end _
restarts-stay more (suc turns) zero met bytes h = absurd (omega arith)
restarts-stay more (suc turns) (suc others) (Some (RST n)) bytes h =
    stays-bind more (next_marker bytes) (next_marker (bytes ++ more))
    (λ (m : Marker × List ℕ). after_restarts turns (Some m.0) m.1)
    (λ (m : Marker × List ℕ). after_restarts others (Some m.0) m.1) (next-stays more bytes)
    (λ m. restarts-stay more turns others (Some m.0) m.1 (omega arith))
restarts-stay more (suc turns) (suc others) met bytes h = stays-ok met bytes

-- after the last interval of a scan
pub after-stays : (more : List ℕ) (m : Option Marker × List ℕ)
    → Stays more (after_intervals m) (after_intervals (m.0, m.1 ++ more))
after-stays more m =
    restarts-stay more (suc (length m.1)) (suc (length (m.1 ++ more))) m.0 m.1 (omega (arith, length-append m.1 more))
