-- Blocks and intervals that are read one after the other.
use Rattle.std.proofs.Common.{◌≡◌, ℕ, ◌≤◌, Bool, true, List, [], ◌∷◌, ◌++◌, length, get_or, set, refl, sym, ap, ◌∙◌, subst}
use Rattle.std.proofs.Common.{ℤ, pos, append_assoc, append-nil}
use Rattle.std.proofs.lemmas.List.{length-replicate}
use Rattle.jpeg_bits.specs.Codes.{Table}
use Rattle.jpeg_bits.specs.Passes.{Block, Pass, Via, band_of, predictors_at_start, whole_pass}
use Rattle.jpeg_bits.specs.Written.{WritesInterval, stuffed}
use Rattle.jpeg_meaning.specs.WrittenData.{WritesAc, WritesBlocks, WritesDc}
use Rattle.jpeg_meaning.specs.WrittenData.WritesBlocks.{block, done}
use Rattle.zaxbriar_strict.specs.Blocks.{WritesTurns, WritesWhole}
use Rattle.zaxbriar_strict.specs.Data.{Data, IsFilling, Reads, data_at}
use Rattle.zaxbriar_strict.proofs.Taken.{takes-then}

-- ---- blocks

pub turns-none : (p : Pass) (predictors : List ℤ) (run : ℕ) → WritesTurns p predictors run predictors run [] []
turns-none p predictors run more bits w = w

pub turns-then : {p : Pass} {a b c : List ℤ} {k m n : ℕ} (first second : List (Via × Block)) (own more : List Bool)
    → WritesTurns p a k b m first own → WritesTurns p b m c n second more
    → WritesTurns p a k c n (first ++ second) (own ++ more)
turns-then first second own more f g rest bits w =
    rw (append_assoc first second rest, append_assoc own more bits) (f (second ++ rest) (more ++ bits) (g rest bits w))

-- one block
pub turn-by : (p : Pass) (via : Via) (u : Block) (predictors : List ℤ) (run left : ℕ) (next : ℤ) (dc ac : List Bool)
    → WritesDc p via.dc u.dc (get_or predictors via.component (pos 0)) dc next
    → WritesAc p via.ac (band_of p u.acs) run ac left
    → WritesTurns p predictors run (set predictors via.component next) left ((via, u) ∷ []) (dc ++ ac)
turn-by p via u predictors run left next dc ac d a more bits rest =
    subst (λ (l : List Bool). WritesBlocks p predictors run ((via, u) ∷ more) l) (sym (append_assoc dc ac bits))
    (block predictors run left via u more dc ac bits next d a rest)

-- the block of the component at a slot of a sequential scan
pub turn-one : (slot : ℕ) (dc ac : Table) (u : Block) (predictors : List ℤ) (own : List Bool)
    → WritesWhole dc ac u (get_or predictors slot (pos 0)) own
    → WritesTurns whole_pass predictors 0 (set predictors slot u.dc) 0
    ((record { component = slot; dc = dc; ac = ac }, u) ∷ []) own
turn-one slot dc ac u predictors own w =
    let via : Via = record { component = slot; dc = dc; ac = ac } in
    subst (λ (l : List Bool). WritesTurns whole_pass predictors 0 (set predictors slot u.dc) 0 ((via, u) ∷ []) l) w.whole
    (turn-by whole_pass via u predictors 0 0 u.dc w.dc_bits w.ac_bits w.writes_dc w.writes_ac)

-- blocks up to the last
pub turns-all : (p : Pass) (before after : List ℤ) (turns : List (Via × Block)) (own : List Bool)
    → WritesTurns p before 0 after 0 turns own → WritesBlocks p before 0 turns own
turns-all p before after turns own f = rw (append-nil turns, append-nil own) at (f [] [] (done after))

-- ---- an interval

-- Bytes that begin with an interval that is written, and go on with the rest.
pub record IsInterval (writes : List Bool → Type 0) (bytes rest : List ℕ) : Type 0 where
  pub front : List ℕ
  pub parts : bytes ≡ front ++ rest
  pub written : WritesInterval writes front

-- What was read of the data from their beginning on, up to what fills a last byte.
pub interval-written : (writes : List Bool → Type 0) (bytes rest : List ℕ) (d : Data)
    → Reads writes (data_at bytes) d → Reads IsFilling d (data_at rest) → IsInterval writes bytes rest
interval-written writes bytes rest d r f =
    let t = takes-then r.taken f.taken in
    record {
      front = stuffed t.data_bytes;
      parts = t.parts;
      written = record {
        bits = r.own;
        filling = f.own;
        data_bytes = t.data_bytes;
        coded = r.holds;
        is_short = subst (λ (n : ℕ). n ≤ 7) (sym (length-replicate f.holds.count true) ∙ ap length f.holds.are) f.holds.few;
        whole = t.has_bits ∙ append-nil (r.own ++ f.own);
        has_bytes = refl;
      };
    }

-- Blocks that were read so.
pub blocks-written : (p : Pass) (after : List ℤ) (turns : List (Via × Block)) (bytes rest : List ℕ) (d : Data)
    → Reads (WritesTurns p predictors_at_start 0 after 0 turns) (data_at bytes) d → Reads IsFilling d (data_at rest)
    → IsInterval (WritesBlocks p predictors_at_start 0 turns) bytes rest
blocks-written p after turns bytes rest d r f =
    interval-written (WritesBlocks p predictors_at_start 0 turns) bytes rest d
    (record { own = r.own; taken = r.taken; holds = turns-all p predictors_at_start after turns r.own r.holds }) f
