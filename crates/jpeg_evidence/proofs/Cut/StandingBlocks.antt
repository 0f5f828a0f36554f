-- In the data of a written scan stand all its blocks, and so its first ones, however many.
use Rattle.std.proofs.Common.{◌≡◌, ◌⊎◌, inl, inr, ℕ, zero, suc, ◌+◌, ◌-◌, ◌*◌, ◌%◌, ◌<◌, ◌≤◌, Bool, List, [], ◌∷◌, ◌++◌}
use Rattle.std.proofs.Common.{length, take, refl, sym, ap, ◌∙◌, subst, arith, append_assoc, append-nil, length-append}
use Rattle.std.proofs.Common.{ℤ, set}
use Rattle.std.specs.List.{flat_map}
use Rattle.std.proofs.lemmas.Bool.{cases_lt}
use Rattle.std.proofs.lemmas.List.{length-map}
use Rattle.jpeg_bits.specs.Intervals.{first_group, other_groups}
use Rattle.jpeg_bits.specs.Passes.{Block, Pass, Via, predictors_at_start}
use Rattle.jpeg_bits.specs.Written.{WritesInterval, WritesIntervals, marker}
use Rattle.jpeg_bits.specs.Written.WritesIntervals.{another, last}
use Rattle.jpeg_bits.proofs.WrittenIntervals.{all-groups, marker-append}
use Rattle.jpeg_segments.specs.Frame.{Frame}
use Rattle.jpeg_meaning.specs.Levels.{numbers_at}
use Rattle.jpeg_meaning.specs.Order.{Spot, mcu_size, spots_of}
use Rattle.jpeg_meaning.specs.Scans.{turns_of, via_at}
use Rattle.jpeg_meaning.specs.ScanSegments.{Coding, components_of, vias_from}
use Rattle.jpeg_meaning.specs.WrittenData.{WritesBlocks}
use Rattle.jpeg_meaning.specs.WrittenData.WritesBlocks.{block, done}
use Rattle.jpeg_meaning.specs.WrittenScans.{Coefficients, WritesScan}
use Rattle.jpeg_evidence.specs.FirstBlocks.{BeginsInterval, BeginsIntervals, StandWhole, WritesFirst}
use Rattle.jpeg_evidence.specs.FirstBlocks.BeginsIntervals.{beyond, within}
use Rattle.jpeg_evidence.specs.FirstBlocks.WritesFirst.{next_block, no_more}

abbrev Turns : Type 0
Turns = List (Via × Block)

-- the bits of the first blocks, at the front of those of all
pub record FrontBits (p : Pass) (predictors : List ℤ) (run : ℕ) (turns : Turns) (bits : List Bool) : Type 0 where
  pub first : List Bool
  pub others : List Bool
  pub parts : bits ≡ first ++ others
  pub coded : WritesFirst p predictors run turns first

pub front-bits : (p : Pass) (predictors : List ℤ) (run : ℕ) (turns : Turns) (bits : List Bool) (n : ℕ)
    → WritesBlocks p predictors run turns bits → FrontBits p predictors run (take n turns) bits
front-bits p predictors run turns bits zero w =
    record { first = []; others = bits; parts = refl; coded = no_more predictors run }
front-bits p predictors run turns bits (suc n) (done predictors') =
    record { first = []; others = []; parts = refl; coded = no_more predictors 0 }
front-bits p predictors run turns bits (suc n)
    (block predictors' run' after via u more dc ac left next wd wa w) =
    let f = front-bits p (set predictors via.component next) after more left n w in
    record {
      first = dc ++ (ac ++ f.first);
      others = f.others;
      parts = ap (λ (l : List Bool). dc ++ (ac ++ l)) f.parts
          ∙ ap (λ (l : List Bool). dc ++ l) (sym (append_assoc ac f.first f.others))
          ∙ sym (append_assoc dc (ac ++ f.first) f.others);
      coded = next_block predictors run after via u (take n more) dc ac f.first next wd wa f.coded;
    }

interval-begins : (p : Pass) (one : Turns) (bytes rest : List ℕ) (count : ℕ) → count ≤ length one
    → WritesInterval (WritesBlocks p predictors_at_start 0 one) bytes → BeginsInterval p one count (bytes ++ rest)
interval-begins p one bytes rest count le w =
    let f = front-bits p predictors_at_start 0 one w.bits count w.coded in
    record {
      bits = f.first;
      more_bits = f.others ++ w.filling;
      data_bytes = w.data_bytes;
      more_bytes = rest;
      are_there = le;
      coded = f.coded;
      whole = w.whole ∙ ap (λ (l : List Bool). l ++ w.filling) f.parts ∙ append_assoc f.first f.others w.filling;
      begins = ap (λ (l : List ℕ). l ++ rest) (sym w.has_bytes);
    }

abbrev all_turns : Turns → List Turns → Turns
all_turns one more = one ++ flat_map (λ (l : Turns). l) more

intervals-begin : (p : Pass) (k : ℕ) (one : Turns) (more : List Turns) (bytes rest : List ℕ) (count : ℕ)
    → count ≤ length (all_turns one more) → WritesIntervals (WritesBlocks p predictors_at_start 0) k one more bytes
    → BeginsIntervals p k one more count (bytes ++ rest)
intervals-begin p k one more bytes rest count le (last k' one' bytes' w) =
    let n = ap (λ (l : Turns). length l) (append-nil one) in
    within k one [] count (bytes ++ rest) (interval-begins p one bytes rest count (omega arith) w)
intervals-begin p k one more bytes rest count le (another k' fill one' next others first after w ws) =
    let code = 0xD0 + k % 8 in
    let parts : (first ++ marker fill code after) ++ rest ≡ first ++ marker fill code (after ++ rest)
    = append_assoc first (marker fill code after) rest
    ∙ ap (λ (l : List ℕ). first ++ l) (marker-append fill code after rest) in
    go (cases_lt (length one) count) (λ c few. intervals-begin p (suc k) next others after rest c few ws) parts
  where
    go : (length one < count) ⊎ (count ≤ length one)
        → ((c : ℕ) → c ≤ length (all_turns next others) → BeginsIntervals p (suc k) next others c (after ++ rest))
        → (first ++ marker fill (0xD0 + k % 8) after) ++ rest ≡ first ++ marker fill (0xD0 + k % 8) (after ++ rest)
        → BeginsIntervals p k one (next ∷ others) count ((first ++ marker fill (0xD0 + k % 8) after) ++ rest)
    go (inr few) on parts =
        within k one (next ∷ others) count _ (subst (BeginsInterval p one count) (sym (append_assoc first _ rest))
        (interval-begins p one first (marker fill (0xD0 + k % 8) after ++ rest) count few w))
    go (inl many) on parts =
        let l = length-append one (all_turns next others) in
        let c = count - length one in
        let sum : length one + c ≡ count = omega arith in
        subst (λ (b : List ℕ). BeginsIntervals p k one (next ∷ others) count b) (sym parts)
        (subst (λ (n : ℕ). BeginsIntervals p k one (next ∷ others) n
        (first ++ marker fill (0xD0 + k % 8) (after ++ rest))) sum
        (beyond k fill one next others c first (after ++ rest) w
        (on c (omega arith))))

pub turns-length : (vias : List Via) (spots : List Spot) (u : Spot → Block)
    → length (turns_of vias spots u) ≡ length spots
unfolding turns_of
turns-length vias spots u = length-map spots (λ (s : Spot). (via_at vias s.slot, u s))

-- The first blocks of a written scan stand whole in its data, however many, whatever comes after these.
pub whole_data_have_all_blocks : (frame : Frame) (restart : ℕ) (p : Pass) (codings : List Coding)
    (array : Coefficients) (bytes more : List ℕ) (count : ℕ) (w : WritesScan frame restart p codings array bytes)
    → count ≤ length (spots_of frame (components_of codings))
    → StandWhole frame restart p codings w.sent count (bytes ++ more)
whole_data_have_all_blocks frame restart p codings array bytes more count w le =
    let n = restart * mcu_size (components_of codings) in
    let vias = vias_from 0 codings in
    let spots = spots_of frame (components_of codings) in
    let u : Spot → Block = λ s. numbers_at p.al (w.sent s) in
    let turns = turns_of vias spots u in
    let size : length (all_turns (first_group n turns) (other_groups n turns)) ≡ length spots
    = ap (λ (l : Turns). length l) (all-groups n turns) ∙ turns-length vias spots u in
    intervals-begin p 0 (first_group n turns) (other_groups n turns) bytes more count (omega arith) w.coded
