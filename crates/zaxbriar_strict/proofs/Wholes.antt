-- Blocks of a sequential scan.
use Rattle.std.proofs.Common.{◌≡◌, ◌<◌, Bool, List, [], ◌∷◌, ◌++◌, length, drop, refl, sym}
use Rattle.std.proofs.Common.{subst, arith, ℤ, pos, ◌-ℤ◌}
use Rattle.std.proofs.lemmas.List.{drop_more, take_all}
use Rattle.jpeg_bits.specs.BlockView.{dc_in}
use Rattle.jpeg_bits.specs.Codes.{Table}
use Rattle.jpeg_bits.specs.Passes.{whole_pass}
use Rattle.jpeg_meaning.specs.WrittenData.{WritesAc, WritesBand, WritesDifference}
use Rattle.jpeg_meaning.specs.WrittenData.WritesAc.{first}
use Rattle.jpeg_meaning.specs.WrittenData.WritesDc.{whole}
use Rattle.zaxbriar_strict.specs.Bands.{ReadsAc, block_in}
use Rattle.zaxbriar_strict.specs.Blocks.{WritesWhole}
use Rattle.zaxbriar_strict.specs.Data.{Data, Reads}
use Rattle.zaxbriar_strict.proofs.Taken.{takes-then}

-- a block is DC and the others
pub dc-first : (block : List ℤ) → 0 < length block → block ≡ dc_in block ∷ drop 1 block
dc-first block some = drop_more block 0 (pos 0) some

all-ac : (table : Table) (numbers : List ℤ) (own : List Bool) → 0 < length numbers → WritesBand table numbers own 0
    → WritesAc whole_pass table numbers 0 own 0
all-ac table [] own some w = absurd (omega arith)
all-ac table (u ∷ us) own some w = first u us own 0 refl w

pub whole-written : (dc ac : Table) (u before : ℤ) (numbers : List ℤ) {a b c : Data} → length numbers ≡ 63
    → Reads (WritesDifference dc (u -ℤ before)) a b → Reads (λ own. WritesBand ac numbers own 0) b c
    → Reads (WritesWhole dc ac (block_in (u ∷ numbers)) before) a c
whole-written dc ac u before numbers size d r = record {
  own = d.own ++ r.own;
  taken = takes-then d.taken r.taken;
  holds = record {
    dc_bits = d.own;
    ac_bits = r.own;
    writes_dc = whole u before d.own refl refl d.holds;
    writes_ac = subst (λ (l : List ℤ). WritesAc whole_pass ac l 0 r.own 0) (sym (take_all 63 numbers (omega arith)))
        (all-ac ac numbers r.own (omega arith) r.holds);
    whole = refl;
  };
}

pub block-written : (dc ac : Table) (u before : ℤ) (block : List ℤ) {a b c : Data}
    → Reads (WritesDifference dc (u -ℤ before)) a b → ReadsAc ac u block b c
    → Reads (WritesWhole dc ac (block_in block) before) a c
block-written dc ac u before block {a} {b} {c} d r =
    subst (λ (l : List ℤ). Reads (WritesWhole dc ac (block_in l) before) a c) (sym r.are)
    (whole-written dc ac u before r.numbers r.sized d r.read)
