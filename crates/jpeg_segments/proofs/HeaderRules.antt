-- A scan header that is written keeps the rules of scans.
use Rattle.std.proofs.lemmas.List.{length-map}
use Rattle.std.proofs.Common.{ℕ, ◌+◌, List, [], ◌∷◌, map, All, arith, rules}
use Rattle.std.proofs.lemmas.Bool.{ltb-true}
use Rattle.std.proofs.lemmas.List.Elements.{All-nil}
use Rattle.std.proofs.lemmas.List.Quantifiers.{position-Some}
use Rattle.jpeg_segments.specs.Frame.{Frame}
use Rattle.jpeg_segments.specs.ScanHeader.{IsRising, IsSelectorOf, Selector, IsScanOf}
use Rattle.jpeg_segments.proofs.ScanLemmas.{is-scan}
use Rattle.jpeg_segments.specs.ScanHeaders.{ScanHeader, IsChoice, AreChoices, IsScan, scan_written}
use Rattle.jpeg_segments.proofs.Fields.{nibbles-high, nibbles-low}
use Rattle.std.proofs.lemmas.Grind.{common_steps}

choice-selects : (frame : Frame) (least : ℕ) (c : ℕ × Selector) → IsChoice frame least c → IsSelectorOf frame c.1
choice-selects frame least c is = grind (arith, common_steps, position-Some)

all-select : (frame : Frame) (least : ℕ) (cs : List (ℕ × Selector)) → AreChoices frame least cs
    → All (IsSelectorOf frame) (map (λ c. c.1) cs)
unfolding AreChoices
all-select frame least [] all = All-nil (IsSelectorOf frame)
all-select frame least (c ∷ cs) all = search (rules, choice-selects, all-select frame (c.1.component + 1) cs all.1)

all-rise : (frame : Frame) (least : ℕ) (cs : List (ℕ × Selector)) → AreChoices frame least cs
    → IsRising least (map (λ s. s.component) (map (λ c. c.1) cs))
unfolding AreChoices IsRising
all-rise frame least [] all = tt
all-rise frame least (c ∷ cs) all = search (rules, all-rise frame (c.1.component + 1) cs all.1)

pub header-rules : (frame : Frame) (h : ScanHeader) → IsScan frame h → IsScanOf frame (scan_written frame h)
header-rules frame h is =
    search (rules, length-map, nibbles-high, nibbles-low, is-scan, all-select, all-rise, ltb-true)
