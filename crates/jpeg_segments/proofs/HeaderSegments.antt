-- Frame headers and scan headers: exactly what is written is read.
use Rattle.std.proofs.lemmas.Bool.Decides.{nat_tests}
use Rattle.std.proofs.lemmas.List.{length-map}
use Rattle.std.proofs.Common.{◌≡◌, ℕ, zero, suc, ◌≤◌, ◌<◌, ◌+◌, ◌*◌, ◌/◌, ◌%◌, false, List, [], ◌∷◌, ◌++◌, map}
use Rattle.std.proofs.Common.{length, length-append, append-nil, append_assoc, Some, Ok, refl, sym, ap, ap₂, ◌∙◌, arith}
use Rattle.std.proofs.Common.{eqb, leb, ltb, rules}
use Rattle.std.proofs.lemmas.Bool.{ne_eqb, eqb-false}
use Rattle.std.specs.Prelude.{flat_map, not, ◌&&◌}
use Rattle.jpeg_bits.specs.Reading.{Malformed, Lacks, ◌>>=◌}
use Rattle.jpeg_bits.specs.declared.error.UnsupportedFeature.TheVariants.{DNL}
use Rattle.jpeg_segments.specs.Frame.{Factors, Frame, frame_of, is_factor, is_destination, is_lossless_number, is_taken}
use Rattle.jpeg_segments.specs.Frame.{is_precision, is_count, factors_at, components_from, size_at, sof_at}
use Rattle.jpeg_segments.specs.Checks.{check}
use Rattle.jpeg_segments.specs.HuffmanTables.{greatest_destination}
use Rattle.jpeg_segments.specs.ScanHeader.{Selector, index_of, selector_at, selectors_from, is_mcu, is_band, scan_of}
use Rattle.jpeg_segments.specs.ScanHeader.{band_at, count_at, sos_at}
use Rattle.jpeg_segments.specs.WrittenSegments.{u16_bytes, with_length, nibbles, FrameHeader, factors_bytes}
use Rattle.jpeg_segments.specs.WrittenSegments.{frame_payload, IsComponent, AreComponents, IsFrameHeader, frame_written}
use Rattle.jpeg_segments.specs.ScanHeaders.{ScanHeader, choice_bytes, scan_payload, selectors_in, IsChoice, AreChoices}
use Rattle.jpeg_segments.specs.ScanHeaders.{IsScan, scan_written}
use Rattle.jpeg_segments.proofs.Fields.{nibbles-high, nibbles-low}
use Rattle.jpeg_segments.proofs.Codecs.{Codec, bind, ends, check-unless, checked, present, done, remap, namely, nil}
use Rattle.jpeg_segments.proofs.Codecs.{cons, byte, u16, length-field}
use Rattle.jpeg_segments.proofs.TableSegments.{greatest-small}
use Rattle.std.proofs.lemmas.Grind.{common_steps}

-- ---- frame headers

abbrev factors : ℕ → ℕ → ℕ → ℕ → Factors
factors identifier horizontal vertical quantization = record {
  identifier = identifier;
  horizontal = horizontal;
  vertical = vertical;
  quantization = quantization;
}

component : (number : ℕ) (front : List Factors) → Codec (factors_at (is_lossless_number number) front)
    (λ (c : Factors). c) factors_bytes (IsComponent number front)
unfolding factors_at
component number front = remap (bind _ byte (λ (i : ℕ). checked (not (is_taken front i))
    (bind _ byte (λ (n : ℕ). checked (is_factor (n / 16) && is_factor (n % 16))
    (ends _ byte (λ (p : ℕ). checked (is_destination (is_lossless_number number) p)
    (done (factors i (n / 16) (n % 16) p))))))))
    (λ x is. namely (factors x.0 (x.1.0 / 16) (x.1.0 % 16) x.1.1)
    (grind (arith, common_steps, nat_tests)) refl
    (ap (λ (k : ℕ). x.0 ∷ k ∷ x.1.1 ∷ []) (omega arith)))
    (λ c is.
    namely (c.identifier, (nibbles c.horizontal c.vertical, c.quantization))
    (grind (arith, common_steps, nat_tests)) (grind (arith, common_steps)) refl)

-- n components after those in `front`
abbrev Follow : ℕ → ℕ → List Factors → List Factors → Type 0
Follow number n front cs = (length cs ≡ n) × AreComponents number front cs

components : (number n : ℕ) (front : List Factors) → Codec (components_from (is_lossless_number number) n front)
    (λ (cs : List Factors). front ++ cs) (flat_map factors_bytes) (Follow number n front)
unfolding components_from AreComponents
components number zero front = grind (arith, common_steps, nil, append-nil)
components number (suc n) front = cons factors_bytes _ _
    (bind _ (component number front) (λ (c : Factors). components number n (front ++ c ∷ [])))
    (λ c cs. append_assoc front (c ∷ []) cs) (λ c cs is. (ap suc is.1.0, (is.0, is.1.1)))
    (λ is. omega (arith, is.0)) (λ c cs is. (is.1.0, (omega (arith, is.0), is.1.1)))

some-number : (n : ℕ) → eqb n 0 ≡ false → 0 < n
some-number n e = let m = eqb-false n 0 e in grind (arith, m)

-- the width and the height
size : Codec size_at (λ (s : ℕ × ℕ). s) (λ (s : ℕ × ℕ). u16_bytes s.1 ++ u16_bytes s.0)
    (λ (s : ℕ × ℕ). (0 < s.0) × (0 < s.1))
unfolding size_at
size = remap (bind _ u16 (λ (height : ℕ). ends _ u16 (λ (width : ℕ).
    check-unless (eqb height 0) (Lacks DNL) (check-unless (eqb width 0) Malformed
    (done (width, height))))))
    (λ x is. namely (x.1, x.0) (some-number x.1 is.1.1.1.0, some-number x.0 is.1.1.0) refl refl)
    (λ s is.
    let high = ne_eqb s.1 0 (λ e. omega (arith, is.1, e)) in
    let wide = ne_eqb s.0 0 (λ e. omega (arith, is.0, e)) in
    namely (s.1, s.0) (tt, (tt, (high, (wide, tt)))) refl refl)

factors-length : (cs : List Factors) → length (flat_map factors_bytes cs) ≡ 3 * length cs
factors-length [] = omega arith
factors-length (c ∷ cs) = search (rules, length-append, factors-length cs)

-- what stands between the length and the components
abbrev fields : ℕ → ℕ × ℕ → ℕ → List ℕ
fields precision s count = precision ∷ (u16_bytes s.1 ++ (u16_bytes s.0 ++ (count ∷ [])))

payload-length : (precision n : ℕ) (s : ℕ × ℕ) (cs : List Factors) → length cs ≡ n
    → length (fields precision s n ++ flat_map factors_bytes cs) ≡ 6 + 3 * n
payload-length precision n s cs e = omega (arith, e, factors-length cs)

pub sof : (number : ℕ) → number ≤ 3
    → Codec (sof_at number) (frame_written number) (λ (h : FrameHeader). with_length (frame_payload
    h))
    (IsFrameHeader number)
unfolding sof_at frame_payload
sof number few = remap (bind _ length-field (λ (left : ℕ). checked (leb 7 left)
    (bind _ byte (λ (precision : ℕ). checked (is_precision number precision)
    (bind _ size (λ (s : ℕ × ℕ). bind _ byte (λ (n : ℕ).
    checked (is_count number n && eqb left (6 + 3 * n))
    (ends _ (components number n []) (λ (cs : List Factors).
    done (frame_of number precision s.0 s.1 cs))))))))))
    (λ x is.
    let precision : ℕ = x.1.0 in
    let s : ℕ × ℕ = x.1.1.0 in
    let n : ℕ = x.1.1.1.0 in
    let cs : List Factors = x.1.1.1.1 in
    let many : length cs ≡ n = omega arith in
    let long : x.0 ≡ 6 + 3 * n = grind (arith, common_steps, nat_tests) in
    namely (record { precision = precision; width = s.0; height = s.1; components = cs })
    (grind (arith, common_steps)) refl
    (ap (λ (m : ℕ). u16_bytes (m + 2) ++ (fields precision s n ++ flat_map factors_bytes cs))
    (long ∙ sym (payload-length precision n s cs many))
    ∙ ap (λ (c : ℕ). with_length (fields precision s c ++ flat_map factors_bytes cs)) (sym many)))
    (λ h is.
    let n : ℕ = length h.components in
    namely (6 + 3 * n, (h.precision, ((h.width, h.height), (n, h.components))))
    (grind (arith, common_steps, nat_tests)) refl
    (ap (λ (m : ℕ). u16_bytes (m + 2)
    ++ (fields h.precision (h.width, h.height) n ++ flat_map factors_bytes h.components))
    (payload-length h.precision n (h.width, h.height) h.components refl)))

pub sof-read : (number : ℕ) (h : FrameHeader) (rest : List ℕ) → IsFrameHeader number h
    → sof_at number (with_length (frame_payload h) ++ rest)
    ≡ Ok (frame_of number h.precision h.width h.height h.components, rest)
sof-read number h rest is = (sof number is.numbered).reads h rest is

-- ---- scan headers

abbrev selector : ℕ → ℕ → ℕ → Selector
selector index dc ac = record { component = index; dc = dc; ac = ac }

choice : (frame : Frame) (least : ℕ)
    → Codec (selector_at frame least) (λ (c : ℕ × Selector). c.1) choice_bytes (IsChoice frame least)
unfolding selector_at
choice frame least = remap (bind _ byte (λ (i : ℕ).
    present (index_of frame.components i) (λ (index : ℕ). checked (leb least index)
    (ends _ byte (λ (n : ℕ). checked
    (leb (n / 16) (greatest_destination (Some frame.is_baseline))
    && leb (n % 16) (greatest_destination (Some frame.is_baseline)))
    (done (selector index (n / 16) (n % 16))))))))
    (λ x is. namely (x.0, selector x.1.0 (x.1.1 / 16) (x.1.1 % 16))
    (grind (arith, common_steps, nat_tests)) refl (ap (λ (k : ℕ). x.0 ∷ k ∷ []) (omega arith)))
    (λ c is.
    let small = greatest-small (Some frame.is_baseline) in
    namely (c.0, (c.1.component, nibbles c.1.dc c.1.ac))
    (grind (arith, common_steps, nat_tests)) (grind (arith, common_steps)) refl)

-- n components, the first of which stands at least at this index
abbrev Choose : Frame → ℕ → ℕ → List (ℕ × Selector) → Type 0
Choose frame n least cs = (length cs ≡ n) × AreChoices frame least cs

choices : (frame : Frame) (n : ℕ) (front : List Selector) (least : ℕ) → Codec (selectors_from frame n front least)
    (λ (cs : List (ℕ × Selector)). front ++ map (λ c. c.1) cs) (flat_map choice_bytes) (Choose frame n least)
unfolding selectors_from AreChoices
choices frame zero front least = grind (arith, common_steps, nil, append-nil)
choices frame (suc n) front least = cons choice_bytes _ _ (bind (λ (s : Selector).
    selectors_from frame n (front ++ s ∷ []) (s.component + 1)) (choice frame least) (λ (c : ℕ × Selector).
    choices frame n (front ++ c.1 ∷ []) (c.1.component + 1)))
    (λ c cs. append_assoc front (c.1 ∷ []) (map (λ c. c.1) cs))
    (λ c cs is. (ap suc is.1.0, (is.0, is.1.1))) (λ is. omega (arith, is.0))
    (λ c cs is. (is.1.0, (omega (arith, is.0), is.1.1)))

-- the length and the number of components
count : Codec count_at (λ (n : ℕ). n) (λ (n : ℕ). u16_bytes (4 + 2 * n + 2) ++ (n ∷ [])) (λ (n : ℕ). (1 ≤ n) × (n ≤ 4))
unfolding count_at
count = remap (bind _ length-field (λ (left : ℕ). checked (ltb 0 left)
    (ends _ byte (λ (n : ℕ). checked (ltb 0 n && (leb n 4 && eqb left (4 + 2 * n))) (done n)))))
    (λ x is.
    let long : x.0 ≡ 4 + 2 * x.1 = grind (arith, common_steps, nat_tests) in
    namely x.1 (grind (arith, common_steps, nat_tests)) refl (ap (λ (l : ℕ). u16_bytes (l + 2) ++ (x.1 ∷ [])) long))
    (λ n is. namely (4 + 2 * n, n) (grind (arith, common_steps, nat_tests)) refl refl)

choices-length : (cs : List (ℕ × Selector)) → length (flat_map choice_bytes cs) ≡ 2 * length cs
choices-length [] = omega arith
choices-length (c ∷ cs) = search (rules, length-append, choices-length cs)

-- the coefficients and the levels
abbrev levels_bytes : ScanHeader → List ℕ
levels_bytes h = h.first ∷ h.last ∷ nibbles h.high h.low ∷ []

scan-length : (h : ScanHeader) → length (length h.choices ∷ (flat_map choice_bytes h.choices ++ levels_bytes h))
    ≡ 4 + 2 * length h.choices
scan-length h = search (rules, choices-length, length-append)

pub sos : (frame : Frame)
    → Codec (sos_at frame) (scan_written frame) (λ (h : ScanHeader). with_length (scan_payload h))
    (IsScan frame)
unfolding sos_at band_at scan_payload
sos frame = remap (bind _ count (λ (n : ℕ). bind (λ (ss : List Selector) (bytes : List ℕ).
    check (is_mcu frame ss) >>= λ (u : Unit {0}). band_at frame ss bytes) (choices frame n [] 0)
    (λ (cs : List (ℕ × Selector)). checked (is_mcu frame (map (λ c. c.1) cs))
    (bind _ byte (λ (first : ℕ). bind _ byte (λ (last : ℕ). ends _ byte (λ (levels : ℕ).
    checked (ltb (levels % 16) frame.precision
    && is_band frame.process (length (map (λ (c : ℕ × Selector). c.1) cs)) first last (levels / 16) (levels % 16))
    (done (scan_of frame (map (λ c. c.1) cs) first last levels)))))))))
    (λ x is.
    let cs : List (ℕ × Selector) = x.1.0 in
    let first : ℕ = x.1.1.0 in
    let last : ℕ = x.1.1.1.0 in
    let l : ℕ = x.1.1.1.1 in
    let code : l ≡ nibbles (l / 16) (l % 16) = omega arith in
    let h : ScanHeader =
    record { choices = cs; first = first; last = last; high = l / 16; low = l % 16 } in
    let n : length cs ≡ x.0 = is.1.0.0 in
    namely h (grind (arith, common_steps, length-map))
    (ap (scan_of frame (selectors_in h) first last) code)
    (ap₂ (λ (k m : ℕ). (u16_bytes (4 + 2 * k + 2) ++ (k ∷ []))
    ++ (flat_map choice_bytes cs ++ (first ∷ last ∷ m ∷ []))) (sym n) code
    ∙ ap (λ (k : ℕ). u16_bytes (k + 2) ++ (length cs ∷ (flat_map choice_bytes cs ++ levels_bytes h)))
    (sym (scan-length h))))
    (λ h is.
    let cs : List (ℕ × Selector) = h.choices in
    let high : nibbles h.high h.low / 16 ≡ h.high = nibbles-high h.high h.low is.narrow in
    let low : nibbles h.high h.low % 16 ≡ h.low = nibbles-low h.high h.low is.narrow in
    let counted = length-map cs (λ c. c.1) in
    namely (length cs, (cs, (h.first, (h.last, nibbles h.high h.low))))
    (rw (high, low) (grind (arith, common_steps)))
    refl
    (ap (λ (k : ℕ). u16_bytes (k + 2) ++ (length cs ∷ (flat_map choice_bytes cs ++ levels_bytes h)))
    (scan-length h)))

pub sos-read : (frame : Frame) (h : ScanHeader) (rest : List ℕ) → IsScan frame h
    → sos_at frame (with_length (scan_payload h) ++ rest) ≡ Ok (scan_written frame h, rest)
sos-read frame = (sos frame).reads
