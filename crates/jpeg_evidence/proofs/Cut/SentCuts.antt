-- The beginning of the data of a written scan has the coefficients that were sent, of all blocks whole in it.
use Rattle.std.proofs.Common.{◌≡◌, ◌⊎◌, inl, inr, ◌*◌, ℕ, List, [], ◌++◌, length, refl, sym, ap, ◌∙◌, subst, Some}
use Rattle.std.proofs.Common.{append_assoc}
use Rattle.std.specs.List.{AllByRecursion}
use Rattle.jpeg_bits.specs.Codes.{IsTable}
use Rattle.jpeg_bits.specs.Passes.{Block, Pass, whole_pass, zero_block}
use Rattle.jpeg_bits.specs.Written.{marker}
use Rattle.jpeg_segments.specs.Frame.{Frame}
use Rattle.jpeg_meaning.specs.Brought.{scan_reached}
use Rattle.jpeg_meaning.specs.InTurn.{AreArrays, Fits, IsIn}
use Rattle.jpeg_meaning.specs.Levels.{Is8Bit, Levels, cut, nothing_sent, numbers_at, sent_after}
use Rattle.jpeg_meaning.specs.Order.{Spot, mcu_size, spots_of}
use Rattle.jpeg_meaning.specs.Scans.{Arrays, block_at}
use Rattle.jpeg_meaning.specs.ScanSegments.{Coding, components_of, vias_from}
use Rattle.jpeg_meaning.specs.WrittenScans.{Coefficients, IsComplete, WritesScan}
use Rattle.jpeg_meaning.proofs.Order.Apart.{spots-apart, spots-inside}
use Rattle.jpeg_meaning.proofs.Written.BroughtLevels.{all-good}
use Rattle.jpeg_meaning.proofs.Written.CutLevels.{all-same, cut-after, suits-cut}
use Rattle.jpeg_meaning.proofs.Pictures.WholeImages.{cut-whole}
use Rattle.jpeg_meaning.proofs.Order.CountedScans.{in-front, reaches}
use Rattle.jpeg_meaning.proofs.Written.SentBlocks.{Suits, after_pass}
use Rattle.jpeg_meaning.proofs.Written.WrittenFrameScans.{IsReadyAt, cut-nothing, suits-dc, via-good, whole-legal}
use Rattle.jpeg_meaning.specs.LongerStreams.{HoldsSent, IsDcAlone, IsKeptBefore}
use Rattle.jpeg_evidence.specs.FirstBlocks.{StandWhole}
use Rattle.jpeg_meaning.specs.LongerStreams.{IsMost}
use Rattle.jpeg_evidence.proofs.Cut.FirstWritten.{first_blocks_are_written}
use Rattle.jpeg_meaning.proofs.Longer.LongerBlocks.{brought-stay, others-stay}
use Rattle.jpeg_meaning.proofs.Longer.LongerScans.{longer_data_read_most}
use Rattle.jpeg_evidence.proofs.Cut.ReachedFirst.{first_blocks_are_reached}
use Rattle.jpeg_evidence.proofs.Cut.WrittenCuts.{whole-reached}

-- what is kept of a block suits the pass
suits-kept : (p : Pass) (l : Levels) (c b : Block) → Is8Bit c → IsKeptBefore p l c b ⊎ IsDcAlone p
    → Suits p b (numbers_at p.al c)
suits-kept p l c b range (inl k) =
    subst (λ (x : Block). Suits p x (numbers_at p.al c)) (sym k.kept_is)
    (suits-cut p l c range (range.count ∙ sym k.sized) k.legal)
suits-kept p l c b range (inr d) = suits-dc p b c d.first d.end d.low range

-- a block that is kept is ready for the pass
pub kept-ready : (p : Pass) (codings : List Coding) (levels : Spot → Levels) (sent : Spot → Block) (before : Arrays)
    (s : Spot) → AllByRecursion (λ k. IsTable k.dc × IsTable k.ac) codings → Is8Bit (sent s)
    → IsKeptBefore p (levels s) (sent s) (block_at before s) ⊎ IsDcAlone p
    → IsReadyAt p (vias_from 0 codings) before (λ s. numbers_at p.al (sent s)) s
kept-ready p codings levels sent before s tables range kept =
    let v = via-good codings s.slot (all-good codings tables) in
    record {
      at = record {
        dc_good = v.dc;
        ac_good = v.ac;
        suits = suits-kept p (levels s) (sent s) (block_at before s) range kept;
      };
    }

-- What the beginning of the data of a scan has of what was sent: as many blocks as this allows.
pub record SentMost (P : ℕ → Type 0) (p : Pass) (spots : List Spot) (levels : Spot → Levels) (sent : Spot → Block)
    (before reached : Arrays) : Type 0 where
  pub holds : HoldsSent p spots levels sent before reached
  pub most : IsMost P (length holds.done)

-- The beginning of the data of a written scan has the coefficients that were sent, of all blocks whole in it.
pub cut_scans_have_what_was_sent : (frame : Frame) (restart : ℕ) (p : Pass) (codings : List Coding)
    (array : Coefficients) (bytes : List ℕ) (w : WritesScan frame restart p codings array bytes)
    (levels : Spot → Levels) (before : Arrays) (front more : List ℕ)
    → AllByRecursion (Fits frame) (components_of codings) → AreArrays (components_of codings) before
    → AllByRecursion (λ k. IsTable k.dc × IsTable k.ac) codings
    → ((s : Spot) → IsIn s (spots_of frame (components_of codings))
    → IsKeptBefore p (levels s) (w.sent s) (block_at before s) ⊎ IsDcAlone p)
    → bytes ≡ front ++ more
    → SentMost (λ count. StandWhole frame restart p codings w.sent count front) p
    (spots_of frame (components_of codings)) levels w.sent before
    (scan_reached p (restart * mcu_size (components_of codings)) (vias_from 0 codings)
    (spots_of frame (components_of codings)) before front).reached
cut_scans_have_what_was_sent frame restart p codings array bytes w levels before front more fits sized tables kept
    parts =
    let n = restart * mcu_size (components_of codings) in
    let vias = vias_from 0 codings in
    let spots = spots_of frame (components_of codings) in
    let u : Spot → Block = λ s. numbers_at p.al (w.sent s) in
    let apart = spots-apart frame (components_of codings) fits in
    let ready : (s : Spot) → IsIn s spots → IsReadyAt p vias before u s
    = λ s t. kept-ready p codings levels w.sent before s tables (w.in_range s) (kept s t) in
    let f : Spot → Block = λ s. after_pass p (block_at before s) (u s) in
    let all = whole-reached p n vias u spots before bytes apart ready w.coded in
    let end = more ++ marker 0 217 [] in
    let shorter = (scan_reached p n vias spots before front).reached in
    let longer = (scan_reached p n vias spots before (front ++ end)).reached in
    let most = longer_data_read_most p n vias spots before front end in
    let on = most.on in
    let same : front ++ end ≡ bytes ++ marker 0 217 []
    = sym (append_assoc front more (marker 0 217 [])) ∙ ap (λ (l : List ℕ). l ++ marker 0 217 []) (sym parts) in
    record {
      holds = record {
        done = on.done;
        others = on.others;
        parts = on.parts;
        first = λ s t k.
            let within : IsIn s spots = subst (λ (l : List Spot). IsIn s l) (sym on.parts)
            (in-front s on.done on.others t) in
            brought-stay spots before shorter longer apart on s t
            ∙ ap (λ (l : List ℕ). block_at (scan_reached p n vias spots before l).reached s) same
            ∙ ap (λ (a : Arrays). block_at a s) all
            ∙ reaches f s spots before (spots-inside frame (components_of codings) before s fits sized within) within
            ∙ ap (λ (b : Block). after_pass p b (u s)) k.kept_is
            ∙ cut-after p (levels s) (w.sent s) ((w.in_range s).count ∙ sym k.sized) k.legal;
        kept = others-stay spots before shorter longer on;
      };
      most = record {
        holds = first_blocks_are_written p n vias u spots before bytes front more (length on.done) apart ready w.coded
            parts most.can;
        most = λ count b. most.most count (first_blocks_are_reached p n vias u spots before front count apart ready b);
      };
    }

-- Before a sequential scan zeros are kept, and after it the coefficients.
pub complete-after : IsComplete (sent_after whole_pass nothing_sent)
complete-after = record { dc = refl; acs = all-same (Some 0) 63 }

pub sequential_levels : (c : Block) → Is8Bit c
    → IsKeptBefore whole_pass nothing_sent c zero_block × (cut (sent_after whole_pass nothing_sent) c ≡ c)
sequential_levels c range = (
  record { legal = whole-legal; sized = refl; kept_is = sym (cut-nothing c range.count) },
  cut-whole (sent_after whole_pass nothing_sent) c complete-after range.count,
)
