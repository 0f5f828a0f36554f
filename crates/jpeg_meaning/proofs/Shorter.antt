-- What a reading of bytes leaves.
use Rattle.std.proofs.lemmas.Grind.{common_steps}
use Rattle.std.proofs.Common.{rules, ◌≡◌, ◌≤◌, ◌<◌, ℕ, zero, suc, List, [], ◌∷◌, Ok, Err, Bool}
use Rattle.std.proofs.Common.{true, false, Option, Some, None, length, arith}
use Rattle.std.specs.Prelude.{if◌then◌else◌}
use Rattle.jpeg_bits.specs.Reading.{Outcome, Fault, ◌>>=◌, next_byte, next_u16, length_at, skip_at, times}
use Rattle.jpeg_bits.specs.Marker.{next_marker}
use Rattle.jpeg_segments.specs.Checks.{check, needed}
use Rattle.jpeg_segments.specs.Frame.{Frame, Factors, size_at, factors_at, components_from, sof_at}
use Rattle.jpeg_segments.specs.ScanHeader.{Selector, count_at, selector_at, selectors_from, band_at, sos_at}
use Rattle.jpeg_segments.specs.Application.{Application, adobe_at, app_at, dri_at, passed_over}
use Rattle.jpeg_segments.specs.Quantization.{value_at, defined_table_at, dqt_at}
use Rattle.jpeg_segments.specs.HuffmanTables.{defined_codes_at, dht_at}
use Rattle.jpeg_bits.specs.Entropy.{Broken, Ending, Found, Stops, ending_at, text_at}
use Rattle.jpeg_bits.specs.Intervals.{after_bytes, end_after, interval, intervals}
use Rattle.jpeg_bits.specs.Passes.{Pass, Via}
use Rattle.jpeg_bits.specs.Readers.{Reads}
use Rattle.jpeg_meaning.specs.Order.{Spot}
use Rattle.jpeg_meaning.specs.Scans.{Arrays, arrays_at}
use Rattle.jpeg_lossless.specs.Scans.{Way, scan_at}
use Rattle.jpeg_segments.specs.Quantization as quantization
use Rattle.jpeg_segments.specs.HuffmanTables as huffman

-- fewer bytes are left than the limit
unfoldable pub LeavesBelow : {A : Type 0} → ℕ → Outcome A → Type 0
LeavesBelow limit (Ok x) = length x.1 < limit
LeavesBelow limit (Err fault) = Unit {0}

pub below-at : {A : Type 0} (limit : ℕ) (r : Outcome A) (x : A × List ℕ) → LeavesBelow limit r → r ≡ Ok x
    → length x.1 < limit
unfolding LeavesBelow
below-at limit r x h e = rw e at h

pub below-ok : {A : Type 0} (limit : ℕ) (x : A) (rest : List ℕ) → length rest < limit → let X : Type 0 =
    Outcome A in let r : X = Ok (x, rest) in LeavesBelow limit r
unfolding LeavesBelow
below-ok limit x rest h = h

pub below-err : (A : Type 0) (limit : ℕ) (fault : Fault) → let X : Type 0 = Outcome A in let r : X =
    Err fault in LeavesBelow {A = A} limit r
unfolding LeavesBelow
below-err A limit fault = tt

pub below-cond : {A : Type 0} (limit : ℕ) (b : Bool) (x y : Outcome A) → LeavesBelow limit x → LeavesBelow limit y
    → LeavesBelow limit (if b then x else y)
below-cond limit n x y p q = search rules

-- a test that leads to a refusal
pub below-else : {A : Type 0} (limit : ℕ) (b : Bool) (fault : Fault) (x : Outcome A) → LeavesBelow limit x
    → LeavesBelow limit (if b then Err fault else x)
below-else {A} limit b fault x p = below-cond limit b _ x (below-err A limit fault) p

-- a test without which it is refused
pub below-then : {A : Type 0} (limit : ℕ) (b : Bool) (fault : Fault) (x : Outcome A) → LeavesBelow limit x
    → LeavesBelow limit (if b then x else Err fault)
below-then {A} limit b fault x p = below-cond limit b x _ p (below-err A limit fault)

pub below-bind : {A B : Type 0} (limit : ℕ) (first : ℕ) (r : Outcome A) (f : A × List ℕ → Outcome B)
    → LeavesBelow first r → ((x : A × List ℕ) → length x.1 < first → LeavesBelow limit (f x))
    → LeavesBelow limit (r >>= f)
unfolding LeavesBelow
below-bind limit first n f p q = search rules

-- where the first reading leaves fewer bytes than the same limit
pub below-on : {A B : Type 0} (limit : ℕ) (r : Outcome A) (f : A × List ℕ → Outcome B) → LeavesBelow limit r
    → ((x : A × List ℕ) → length x.1 < limit → LeavesBelow limit (f x)) → LeavesBelow limit (r >>= f)
below-on limit r f p q = below-bind limit limit r f p q

pub byte-below : (limit : ℕ) (bytes : List ℕ) → length bytes ≤ limit → LeavesBelow limit (next_byte bytes)
unfolding LeavesBelow
byte-below limit n h = search rules

pub u16-below : (limit : ℕ) (bytes : List ℕ) → length bytes ≤ limit → LeavesBelow limit (next_u16 bytes)
unfolding next_u16
u16-below limit bytes h = search (rules, below-bind, byte-below, below-ok)

pub length-below : (limit : ℕ) (bytes : List ℕ) → length bytes ≤ limit → LeavesBelow limit (length_at bytes)
unfolding length_at
length-below limit bytes h = search (rules, below-bind, u16-below, below-else, below-ok)

pub times-below : {A : Type 0} (limit n : ℕ) (read : List ℕ → Outcome A) (bytes : List ℕ)
    → ((bs : List ℕ) → length bs < limit → LeavesBelow limit (read bs)) → length bytes < limit
    → LeavesBelow limit (times n read bytes)
unfolding times
times-below limit zero read bytes each h = below-ok limit _ bytes h
times-below limit (suc n) read bytes each h =
    search (rules, below-on, below-ok, times-below limit n read)

pub skip-below : (limit n : ℕ) (bytes : List ℕ) → length bytes < limit → LeavesBelow limit (skip_at n bytes)
unfolding skip_at
skip-below limit n bytes h = search (rules, below-on, times-below, byte-below, below-ok)

-- what has to hold, or to be there
pub below-check : {B : Type 0} (limit : ℕ) (b : Bool) (f : Unit {0} → Outcome B) → LeavesBelow limit (f tt)
    → LeavesBelow limit (check b >>= f)
below-check limit true f p = p
below-check {B} limit false f p = below-err B limit _

pub below-needed : {A B : Type 0} (limit : ℕ) (o : Option A) (f : A → Outcome B)
    → ((x : A) → LeavesBelow limit (f x)) → LeavesBelow limit (needed o >>= f)
below-needed limit (Some x) f p = p x
below-needed {A} {B} limit None f p = below-err B limit _

-- the steps of which the readers of segments are made
pub ruleset below_steps = (
  rules,
  below-on,
  below-else,
  below-then,
  below-cond,
  below-check,
  below-needed,
  below-ok,
  below-err,
  byte-below,
  u16-below,
  length-below,
  skip-below,
  times-below,
)

pub below-more : {A : Type 0} (a b : ℕ) (r : Outcome A) → a ≤ b → LeavesBelow a r → LeavesBelow b r
unfolding LeavesBelow
below-more a b (Ok x) h p = omega arith
below-more a b (Err fault) h p = tt

pub marker-below : (bytes : List ℕ) → LeavesBelow (length bytes) (next_marker bytes)
unfolding next_marker LeavesBelow
marker-below (a ∷ b ∷ rest) = grind (arith, common_steps, below-more, marker-below (b ∷ rest))
marker-below bytes = search rules

-- ---- frames

components-below : (limit : ℕ) (lossless : Bool) (n : ℕ) (front : List Factors) (bytes : List ℕ) → length bytes < limit
    → LeavesBelow limit (components_from lossless n front bytes)
unfolding components_from factors_at
components-below limit lossless zero front bytes h = below-ok limit front bytes h
components-below limit lossless (suc n) front bytes h =
    search (below_steps, components-below limit lossless n) depth 14

pub sof-below : (limit number : ℕ) (bytes : List ℕ) → length bytes ≤ limit → LeavesBelow limit (sof_at number bytes)
unfolding sof_at size_at LeavesBelow
sof-below limit number bytes h = search (below_steps, components-below) depth 14

-- ---- quantization tables

quantization-below : (limit most left : ℕ) (tables : quantization.QuantizationTables) (bytes : List
    ℕ) → length bytes < limit
    → LeavesBelow limit (quantization.quantization_from most left tables bytes)
unfolding quantization.quantization_from defined_table_at value_at
quantization-below limit zero left tables bytes h = search (below_steps) depth 12
quantization-below limit (suc most) left tables bytes h =
    search (below_steps, quantization-below limit most) depth 14

pub dqt-below : (limit : ℕ) (bytes : List ℕ) → length bytes ≤ limit → LeavesBelow limit (dqt_at bytes)
unfolding dqt_at
dqt-below limit bytes h = search (below_steps, quantization-below) depth 12

-- ---- Huffman tables

defined_codes-below : (limit greatest left : ℕ) (bytes : List ℕ) → length bytes < limit
    → LeavesBelow limit (defined_codes_at greatest left bytes)
unfolding defined_codes_at
defined_codes-below limit greatest left bytes h =
    below-on limit (next_byte bytes) _ (byte-below limit bytes (omega arith))
    (λ b p. search (below_steps) depth 12)

huffman-below : (limit most greatest left : ℕ) (tables : huffman.Tables) (bytes : List ℕ) → length bytes < limit
    → LeavesBelow limit (huffman.tables_from most greatest left tables bytes)
unfolding huffman.tables_from
huffman-below limit zero greatest left tables bytes h = search (below_steps) depth 12
huffman-below limit (suc most) greatest left tables bytes h =
    search (below_steps, defined_codes-below, huffman-below limit most greatest) depth 12

pub dht-below : (limit : ℕ) (is_baseline : Option Bool) (bytes : List ℕ) → length bytes ≤ limit
    → LeavesBelow limit (dht_at is_baseline bytes)
unfolding dht_at
dht-below limit is_baseline bytes h = search (below_steps, huffman-below) depth 12

-- ---- scan headers

selectors-below : (limit : ℕ) (frame : Frame) (n : ℕ) (front : List Selector) (least : ℕ) (bytes : List ℕ)
    → length bytes < limit → LeavesBelow limit (selectors_from frame n front least bytes)
unfolding selectors_from selector_at
selectors-below limit frame zero front least bytes h = below-ok limit front bytes h
selectors-below limit frame (suc n) front least bytes h =
    search (below_steps, selectors-below limit frame n) depth 14

pub sos-below : (limit : ℕ) (frame : Frame) (bytes : List ℕ) → length bytes ≤ limit
    → LeavesBelow limit (sos_at frame bytes)
unfolding sos_at count_at band_at
sos-below limit frame bytes h = search (below_steps, selectors-below) depth 14

-- ---- application data and restart intervals

passed-below : (limit left : ℕ) (said : Option Application) (bytes : List ℕ) → length bytes < limit
    → LeavesBelow limit (passed_over left said bytes)
passed-below limit left said bytes h = search (below_steps) depth 12

adobe-below : (limit left : ℕ) (bytes : List ℕ) → length bytes < limit → LeavesBelow limit (adobe_at left bytes)
unfolding adobe_at
adobe-below limit left bytes h = search (below_steps, passed-below) depth 12

pub app-below : (limit number : ℕ) (bytes : List ℕ) → length bytes ≤ limit → LeavesBelow limit (app_at number bytes)
unfolding app_at
app-below limit number bytes h = search (below_steps, adobe-below) depth 12

pub dri-below : (limit : ℕ) (bytes : List ℕ) → length bytes ≤ limit → LeavesBelow limit (dri_at bytes)
unfolding dri_at
dri-below limit bytes h = search (below_steps) depth 12

-- fewer bytes stand after the end than the limit
abbrev EndsBelow : ℕ → Ending → Type 0
EndsBelow limit (Found m rest) = length rest < limit
EndsBelow limit (Stops m rest) = length rest < limit
EndsBelow limit (Broken f) = Unit {0}

ending-below : (limit : ℕ) (bytes : List ℕ) → length bytes < limit → EndsBelow limit (ending_at bytes)
unfolding ending_at
ending-below limit [] h = tt
ending-below limit (c ∷ rest) h = search (rules, ending-below limit rest (omega arith))

text-below : (limit : ℕ) (bytes : List ℕ) → length bytes < limit → EndsBelow limit (text_at bytes).ending
unfolding text_at
text-below limit (b ∷ c ∷ rest) h = search (rules, ending-below, text-below limit rest)
text-below limit bytes h = search rules

after-below : (n : ℕ) (bytes : List ℕ) → length (after_bytes n bytes) ≤ length bytes
unfolding after_bytes
after-below (suc n) (b ∷ c ∷ rest) = grind (arith, after-below n rest, after-below n (c ∷ rest))
after-below n bytes = grind arith

end-below : (limit k : ℕ) (bytes : List ℕ) (left : List Bool) (e : Ending) → length bytes < limit → EndsBelow limit e
    → LeavesBelow limit (end_after k bytes left e)
unfolding end_after LeavesBelow
end-below limit k bytes left e h a = grind (arith, after-below)

interval-below : {A : Type 0} (limit : ℕ) (read : Reads A) (bytes : List ℕ) → length bytes < limit
    → LeavesBelow limit (interval read bytes)
unfolding interval LeavesBelow
interval-below limit read bytes h = search (below_steps, end-below, text-below)

pub intervals-below : {A B : Type 0} (limit : ℕ) (read : A → Reads (List B)) (k : ℕ) (now : A) (more : List A)
    (bytes : List ℕ) → length bytes < limit → LeavesBelow limit (intervals read k now more bytes)
unfolding intervals
intervals-below limit read k now [] bytes h = interval-below limit (read now) bytes h
intervals-below limit read k now (next ∷ more) bytes h =
    search (below_steps, interval-below, intervals-below limit read (suc k) next more) depth 12

pub arrays-below : (limit : ℕ) (p : Pass) (n : ℕ) (vias : List Via) (spots : List Spot) (arrays : Arrays)
    (bytes : List ℕ) → length bytes < limit → LeavesBelow limit (arrays_at p n vias spots arrays bytes)
unfolding arrays_at
arrays-below limit p n vias spots arrays bytes h = search (below_steps, intervals-below) depth 12

pub samples-below : (limit : ℕ) (w : Way) (high restart point : ℕ) (bytes : List ℕ) → length bytes < limit
    → LeavesBelow limit (scan_at w high restart point bytes)
unfolding scan_at
samples-below limit w high restart point bytes h = search (below_steps, intervals-below) depth 12
