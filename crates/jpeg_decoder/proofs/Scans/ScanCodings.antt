-- The codings of a scan, slot after slot.
use Rattle.std.proofs.Common.{◌≡◌, ◌<◌, ◌≤◌, ◌+◌, ℕ, List, [], ◌∷◌, ◌++◌, Result, Ok, Err, refl}
use Rattle.std.proofs.Common.{length, get_or, drop, arith, rules}
use Rattle.std.specs.Prelude.{zip}
use Rattle.std.proofs.lemmas.List.{append-nil, append_assoc, drop_all, drop_more}
use Rattle.std.proofs.lemmas.Slice.Zip.{get_or-zip, length-zip}
use Rattle.jpeg_bits.specs.Reading.{Fault, ◌>>=◌}
use Rattle.jpeg_segments.specs.Frame.{Frame}
use Rattle.jpeg_segments.specs.Checks.{gathered}
use Rattle.jpeg_segments.specs.ScanHeader.{IsScanOf, Scan}
use Rattle.jpeg_meaning.specs.ScanSegments.{codings_of, component_coding, Coding, tables_of}
use Rattle.jpeg_meaning.specs.ScanSegments.{pass_of}
use Rattle.jpeg_meaning.specs.Found.{Said}
use Rattle.jpeg_decoder.specs.Steps.{coding_in_slot}
use Rattle.std.proofs.lemmas.Grind.{common_steps}

-- codings after those in front
abbrev pub front : List Coding → Result (List Coding) Fault → Result (List Coding) Fault
front xs (Ok ys) = Ok (xs ++ ys)
front xs (Err e) = Err e

-- what a scan names in its slots, and what that gives
abbrev pub named : Scan → List (ℕ × (ℕ × ℕ))
named scan = zip scan.components (zip scan.dc_destinations scan.ac_destinations)

abbrev pub coding_by : Said → Frame → Scan → ℕ × (ℕ × ℕ) → Result Coding Fault
coding_by said frame scan s = component_coding said frame (pass_of scan) (tables_of said scan) s.0 s.1.0 s.1.1

-- those of the slots that are left
abbrev pub codings_left : Said → Frame → Scan → ℕ → Result (List Coding) Fault
codings_left said frame scan slot =
    gathered (coding_by said frame scan) (drop slot (named scan))

one-more : (said : Said) (frame : Frame) (scan : Scan) (slot : ℕ)
    → slot < length scan.components → length scan.dc_destinations ≡ length scan.components
    → length scan.ac_destinations ≡ length scan.components
    → codings_left said frame scan slot
    ≡ (coding_in_slot said frame scan slot >>= (λ c.
    codings_left said frame scan (slot + 1) >>= (λ others. Ok (c ∷ others))))
unfolding gathered
one-more said frame scan slot h d a =
    let ds = zip scan.dc_destinations scan.ac_destinations in
    let two : slot < length ds = omega (arith, length-zip scan.dc_destinations scan.ac_destinations) in
    let all : slot < length (named scan) = omega (arith, length-zip scan.components ds) in
    let at : get_or (named scan) slot (0, (0, 0))
    ≡ (get_or scan.components slot 0, (get_or scan.dc_destinations slot 0, get_or scan.ac_destinations slot 0))
    = search (rules, arith, get_or-zip) in
    rw (drop_more {X = ℕ × (ℕ × ℕ)} (named scan) slot (0, (0, 0)) all, at) refl

-- a slot more
pub codings-more : (said : Said) (frame : Frame) (scan : Scan) (slot : ℕ) (xs : List Coding)
    (c : Coding) → slot < length scan.components → IsScanOf frame scan
    → codings_of said frame scan ≡ front xs (codings_left said frame scan slot)
    → coding_in_slot said frame scan slot ≡ Ok c → codings_of said frame scan
    ≡ front (xs ++ c ∷ []) (codings_left said frame scan (slot + 1))
codings-more said frame scan slot xs c h legal w e =
    grind (arith, common_steps, one-more, append_assoc, legal.dc_length, legal.ac_length)

-- before the first slot
pub codings-none : (said : Said) (frame : Frame) (scan : Scan)
    → codings_of said frame scan ≡ front [] (codings_left said frame scan 0)
unfolding codings_of
codings-none said frame scan = alone (codings_left said frame scan 0)
  where
    alone : (o : Result (List Coding) Fault) → o ≡ front [] o
    alone (Ok ys) = refl
    alone (Err f) = refl

-- a slot that is refused
pub codings-fail : (said : Said) (frame : Frame) (scan : Scan) (slot : ℕ) (xs : List Coding)
    (f : Fault) → slot < length scan.components → IsScanOf frame scan
    → codings_of said frame scan ≡ front xs (codings_left said frame scan slot)
    → coding_in_slot said frame scan slot ≡ Err f → codings_of said frame scan ≡ Err f
codings-fail said frame scan slot xs f h legal w e =
    grind (arith, common_steps, one-more, legal.dc_length, legal.ac_length)

-- all slots
pub codings-all : (said : Said) (frame : Frame) (scan : Scan) (slot : ℕ) (xs : List Coding)
    → length scan.components ≤ slot → codings_of said frame scan ≡ front xs
    (codings_left said frame scan slot) → codings_of said frame scan ≡ Ok xs
unfolding gathered
codings-all said frame scan slot xs h w = grind (arith, common_steps, length-zip, drop_all, append-nil)
