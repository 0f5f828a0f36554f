-- The coding of the component in a slot of a scan, by the tables in force.
use Rattle.std.proofs.Common.{◌≡◌, ◌<◌, ℕ, zero, suc, List, ◌∷◌, Option, Some, None, Result, Ok}
use Rattle.std.proofs.Common.{Err, Bool, true, refl, ap, ◌∙◌, length, get_or, map, replicate, arith}
use Rattle.std.proofs.Common.{cond, rules, []}
use Rattle.std.specs.Prelude.{◌==◌, nat_lt, option_map, slice_get}
use Rattle.std.proofs.lemmas.Option.{slice_get-get_or, slice_get-map}
use Rattle.std.proofs.lemmas.Bool.Decides.{nat_tests}
use Rattle.jpeg_bits.specs.Reading.{Fault, Malformed, Names, NamesFormat, ◌>>=◌}
use Rattle.jpeg_bits.proofs.Loops.{Names-through}
use Rattle.jpeg_bits.specs.Codes.{Table, is_ac}
use Rattle.jpeg_bits.specs.DefaultTables.{with_defaults}
use Rattle.jpeg_bits.specs.declared.huffman.codes.HuffmanTableClass.{HuffmanTableClass}
use Rattle.jpeg_bits.specs.declared.huffman.codes.HuffmanTableClass.TheVariants as classes
use Rattle.std.proofs.lemmas.Grind.{common_steps}
use Rattle.jpeg_bits.specs.declared.error.Error.{Error}
use Rattle.jpeg_segments.specs.declared.frame.Component as declared
use Rattle.jpeg_segments.specs.declared.frame.FrameInfo.{FrameInfo}
use Rattle.jpeg_segments.specs.Frame.{Component}
use Rattle.jpeg_segments.specs.FrameView.{component_in, frame_in}
use Rattle.jpeg_segments.specs.ScanHeader.{Scan}
use Rattle.jpeg_segments.specs.HuffmanTables.{all_ac, is_ac_or_none}
use Rattle.jpeg_decoder.specs.declared.scan.codings.Spare.{Spare}
use Rattle.jpeg_meaning.specs.Scans.{no_table}
use Rattle.jpeg_segments.specs.Checks.{needed}
use Rattle.jpeg_meaning.specs.ScanSegments.{Coding, component_coding, needed_if, tables_of, pass_of}
use Rattle.jpeg_meaning.specs.Found.{Said}
use Rattle.jpeg_decoder.specs.Steps.{IsRefusal, IsSpareOf, coding_in_slot, in_force, or_spare}
use Rattle.jpeg_decoder.specs.Steps.{table_if}
use Rattle.std.proofs.lemmas.Bool.{and_parts}

-- ---- the tables in force

or-none : (o : Option Table) → or_spare o None ≡ o
or-none o = grind (arith, common_steps)

-- no table, at a type that is written
abbrev none_of : (A : Type 0) → Option A
none_of A = None

none-at : (n destination : ℕ) → get_or (replicate n (none_of Table)) destination (none_of Table) ≡
    none_of Table
none-at (suc n) (suc destination) = none-at n destination
none-at _ _ = refl

forced-by : (b : Bool) (l c : Table) (destinations : List ℕ) (tables : List (Option Table))
    (destination : ℕ) → length tables ≡ 4
    → get_or (cond b (with_defaults l c destinations tables) tables) destination None
    ≡ or_spare (get_or tables destination None) (get_or
    (cond b (with_defaults l c destinations (replicate 4 None)) []) destination None)
forced-by b l c destinations tables destination e = grind (arith, common_steps, none-at, or-none)

-- ---- the class of an AC table in force

abbrev IsAc : Option Table → Type 0
IsAc None = Unit {0}
IsAc (Some t) = t.class ≡ classes.AC

class-ac : (class : HuffmanTableClass) → is_ac class ≡ true → class ≡ classes.AC
class-ac class e = grind (arith, common_steps)

read-ac : (tables : List (Option Table)) (destination : ℕ) → all_ac tables ≡ true → IsAc (get_or
    tables destination None)
read-ac (Some t ∷ more) zero e = class-ac t.class (and_parts (is_ac t.class) (all_ac more) e).0
read-ac (o ∷ more) (suc destination) e = read-ac more destination (and_parts (is_ac_or_none o)
    (all_ac more) e).1
read-ac _ _ e = tt

if-ac : (needs : Bool) (o : Option Table) (t : Table) → IsAc o → table_if needs (no_table classes.AC) o ≡ Ok t
    → t.class ≡ classes.AC
if-ac needs o t h e = grind (arith, common_steps)

pub class-in-force : (said : Said) (scan : Scan) (spare : Spare) (needs : Bool) (destination : ℕ)
    (t : Table) → IsSpareOf said scan spare → all_ac said.huffman.ac ≡ true
    → table_if needs (no_table classes.AC) (in_force said.huffman.ac spare.ac.items destination) ≡ Ok t
    → t.class ≡ classes.AC
class-in-force said scan spare needs destination t s a e = grind (
  arith,
  common_steps,
  if-ac,
  read-ac,
  none-at,
)

-- ---- what a slot gives

needed-either : (needs : Bool) (class : HuffmanTableClass) (o : Option Table)
    → needed_if needs class o ≡ table_if needs (no_table class) o
needed-either needs class o = grind (arith, common_steps)

-- the table that is needed of the component in a slot
abbrev pub dc_of : Said → Scan → ℕ → Result Table Fault
dc_of said scan slot = needed_if ((pass_of scan).ss == 0) classes.DC
    (get_or (tables_of said scan).dc (get_or scan.dc_destinations slot 0) None)

abbrev pub ac_of : Said → Scan → ℕ → Result Table Fault
ac_of said scan slot = needed_if (nat_lt 0 (pass_of scan).se) classes.AC
    (get_or (tables_of said scan).ac (get_or scan.ac_destinations slot 0) None)

-- the component at an index
component-at : {A : Type 0} (f : A → Component) (xs : List A) (i : ℕ) (d : A) → i < length xs
    → slice_get (map f xs) i ≡ Some (f (get_or xs i d))
component-at f xs i d h = slice_get-map f xs i ∙ ap (option_map f) (slice_get-get_or xs i d h)

-- what the tables in force give of the component in a slot
abbrev pub coded_by : Said → Scan → ℕ → ℕ → declared.Component → Result Coding Fault
coded_by said scan slot index c = do
  q ← needed (get_or said.quantization c.quantization_table_index None)
  dc ← dc_of said scan slot
  ac ← ac_of said scan slot
  Ok (record { index = index; component = component_in c; quantization = q; dc = dc; ac = ac })

pub slot-coded : (said : Said) (frame : FrameInfo) (scan : Scan) (slot index : ℕ) (c : declared.Component)
    → index ≡ get_or scan.components slot 0 → index < length frame.components.items
    → c ≡ get_or frame.components.items index c
    → coding_in_slot said (frame_in frame) scan slot ≡ coded_by said scan slot index c
unfolding component_coding
slot-coded said frame scan slot index c p l e = search (rules, arith, component-at)

-- the tables as the code looks them up
pub dc-read : (said : Said) (scan : Scan) (spare : Spare) (slot destination : ℕ) (o : Option Table)
    → IsSpareOf said scan spare → length said.huffman.dc ≡ 4
    → destination ≡ get_or scan.dc_destinations slot 0
    → o ≡ in_force said.huffman.dc spare.dc.items destination
    → dc_of said scan slot ≡ table_if (scan.first == 0) (no_table classes.DC) o
unfolding pass_of tables_of
dc-read said scan spare slot destination o s l p e = grind (arith, common_steps, forced-by, needed-either)

pub ac-read : (said : Said) (scan : Scan) (spare : Spare) (slot destination : ℕ) (o : Option Table)
    → IsSpareOf said scan spare → length said.huffman.ac ≡ 4
    → destination ≡ get_or scan.ac_destinations slot 0
    → o ≡ in_force said.huffman.ac spare.ac.items destination
    → ac_of said scan slot ≡ table_if (nat_lt 1 scan.after) (no_table classes.AC) o
unfolding pass_of tables_of
ac-read said scan spare slot destination o s l p e =
    grind (arith, common_steps, forced-by, needed-either, nat_tests)

-- a step that is refused
pub refused-through : {Y Z : Type 0} (e : Error) (o : Result Y Fault) (whole : Result Z Fault) → IsRefusal e × Names e o
    → ((f : Fault) → o ≡ Err f → whole ≡ Err f) → IsRefusal e × Names e whole
refused-through e o whole h k = (h.0, Names-through e o whole k h.1)

-- a broken rule is a refusal
pub format-refuses : {Y : Type 0} (e : Error) (o : Result Y Fault) → NamesFormat e → o ≡ Err Malformed
    → IsRefusal e × Names e o
format-refuses e o n h = grind (arith, common_steps)
