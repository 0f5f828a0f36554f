-- The lines that the first rows of MCUs decide are those that were given before a stream is refused.
use Rattle.std.proofs.Common.{◌≡◌, ◌∙◌, ◌+◌, ◌≤◌, ℕ, Bool, true, false, List, [], Option, Some, Result, Ok, Err}
use Rattle.std.proofs.Common.{ap, inl, inr, refl, subst, sym}
use Rattle.std.proofs.lemmas.Bool.{le-leb}
use Rattle.std.specs.List.{concat}
use Rattle.std.specs.Prelude.{◌&&◌, ◌⊎◌, IfErr, IfOk, nat_le}
use Rattle.jpeg_bits.specs.Entropy.{Text}
use Rattle.jpeg_bits.specs.Reading.{Fault, Malformed, Names, ◌>>=◌}
use Rattle.jpeg_bits.specs.declared.error.Error.{Error}
use Rattle.jpeg_bits.specs.declared.error.Error.TheVariants as errors
use Rattle.jpeg_segments.specs.Checks.{check, needed}
use Rattle.jpeg_segments.specs.Frame.{Frame}
use Rattle.jpeg_segments.specs.ScanHeader as headers
use Rattle.jpeg_pixels.specs.Pictures.{Source, sources_of}
use Rattle.jpeg_pixels.specs.declared.color_convert.ColorConvert.{ColorConvert}
use Rattle.jpeg_meaning.specs.Found.{Found}
use Rattle.jpeg_meaning.specs.ScanSegments.{Coding, codings_of}
use Rattle.jpeg_meaning.specs.declared.settings.Settings.{Settings}
use Rattle.jpeg_decoder.specs.ByRows.{ToScan, comes_by_rows, conversion_in, lines_decided, lines_from, scan_ahead, to_scan_of}
use Rattle.jpeg_decoder.specs.ByRows.{transform_said}
use Rattle.jpeg_decoder.specs.FirstLines.{GivesFirst, GivesFirstIf, first_lines, lines_after, lines_at_scan, planes_to}
use Rattle.jpeg_decoder.specs.Steps.{header_within}

-- ---- an error

-- There is no such value.
abbrev pub IsNone : {Y : Type 0} → Result Y Fault → Type 0
IsNone o = IfOk o (λ _. ⊥)

-- an error that names what isn't there, where memory isn't to blame
abbrev pub IsOutOrNone : {Y : Type 0} → Error → Result Y Fault → Type 0
IsOutOrNone e o = (e ≡ errors.OutOfMemory) ⊎ IsNone o

pub lacks-named : {Y : Type 0} (e : Error) (o : Result Y Fault) → Names e o → IsOutOrNone e o
lacks-named {Y} (errors.Format text) o n = inr (subst (λ (o : Result Y Fault). IsNone o) (sym n) tt)
lacks-named {Y} (errors.Unsupported feature) o n = inr (subst (λ (o : Result Y Fault). IsNone o) (sym n) tt)
lacks-named {Y} (errors.Io io) o n = inr (subst (λ (o : Result Y Fault). IsNone o) (sym n.0) tt)
lacks-named (errors.Internal text) o n = absurd n
lacks-named errors.OutOfMemory o n = inl refl

-- what isn't there isn't there of what comes of it
pub lacks-then : {Y Z : Type 0} (e : Error) (o : Result Y Fault) (f : Y → Result Z Fault) → IsOutOrNone e o
    → IsOutOrNone e (o >>= f)
lacks-then e o f (inl out) = inl out
lacks-then {Y} e (Ok y) f (inr none) = absurd none
lacks-then {Y} e (Err fault) f (inr none) = inr tt

pub lacks-ok : {Y Z : Type 0} (e : Error) (o : Result Y Fault) (y : Y) (f : Y → Result Z Fault) → o ≡ Ok y
    → IsOutOrNone e (f y) → IsOutOrNone e (o >>= f)
lacks-ok {Y} e o y f is h = subst (λ (o : Result Y Fault). IsOutOrNone e (o >>= f)) (sym is) h

-- ---- no row was given

pub none-first : (lines : ℕ → Result (List ℕ) Fault) (e : Error) (known : Bool)
    → (known ≡ true → IsOutOrNone e (lines 1)) → GivesFirst lines e known []
none-first lines e known h = record {
  rows = 0;
  are = inl (refl, refl);
  no_more = h;
}

-- of a call that may end with an error
pub none-first-if : (lines : ℕ → Result (List ℕ) Fault) (r : Result (Unit {0}) Error) (known : Bool) (given : List ℕ)
    → IfErr r (λ _. given ≡ []) → ((e : Error) → known ≡ true → IsOutOrNone e (lines 1))
    → GivesFirstIf lines r known given
none-first-if lines (Ok u) known given none h = tt
none-first-if lines (Err e) known given none h =
    subst (λ (l : List ℕ). GivesFirst lines e known l) (sym none) (none-first lines e known (h e))

-- of lines that are the same
pub same-first : (lines more : ℕ → Result (List ℕ) Fault) (r : Result (Unit {0}) Error) (known : Bool) (given : List ℕ)
    → ((n : ℕ) → more n ≡ lines n) → GivesFirstIf lines r known given → GivesFirstIf more r known given
same-first lines more (Ok u) known given same g = tt
same-first lines more (Err e) known given same g = record {
  rows = g.rows;
  are = go g.are;
  no_more = λ k. subst (λ (o : Result (List ℕ) Fault). IsOutOrNone e o) (sym (same (g.rows + 1))) (g.no_more k);
}
  where
    go : ((g.rows ≡ 0) × (given ≡ [])) ⊎ (lines g.rows ≡ Ok given) → ((g.rows ≡ 0) × (given ≡ [])) ⊎ (more g.rows ≡ Ok given)
    go (inl h) = inl h
    go (inr h) = inr (same g.rows ∙ h)

-- ---- the rest of a stream

pub first-at-scan : (settings : Settings) (found now : Found) (bytes rest : List ℕ) (n : ℕ)
    → scan_ahead found bytes ≡ Ok (to_scan_of now true, rest)
    → first_lines n settings found bytes ≡ lines_at_scan n settings now rest
unfolding first_lines
first-at-scan settings found now bytes rest n e =
    ap (λ (o : Result (ToScan × List ℕ) Fault). o >>= lines_after n settings) e

-- a segment before the scan is refused, or there is no scan
pub first-refused : (settings : Settings) (found : Found) (bytes : List ℕ) (n : ℕ) (e : Error)
    → Names e (scan_ahead found bytes) → IsOutOrNone e (first_lines n settings found bytes)
unfolding first_lines
first-refused settings found bytes n e h =
    lacks-then e (scan_ahead found bytes) (lines_after n settings) (lacks-named e (scan_ahead found bytes) h)

pub first-ended : (settings : Settings) (found now : Found) (bytes rest : List ℕ) (n : ℕ) (e : Error)
    → scan_ahead found bytes ≡ Ok (to_scan_of now false, rest) → IsOutOrNone e (first_lines n settings found bytes)
unfolding first_lines
first-ended settings found now bytes rest n e is =
    lacks-ok e (scan_ahead found bytes) (to_scan_of now false, rest) (lines_after n settings) is (inr tt)

-- ---- at a scan

-- what comes after each step of what lines are made of
module _ (rows : ℕ) (settings : Settings) (found : Found) where
  abbrev of_sources : Frame → List (List ℕ) → ColorConvert → List Source → Result (List ℕ) Fault
  of_sources frame planes convert sources =
      Ok (concat (lines_from frame convert sources planes 0 (lines_decided frame rows)))

  abbrev of_convert : Frame → List (List ℕ) → ColorConvert → Result (List ℕ) Fault
  of_convert frame planes convert =
      sources_of frame.components frame.output_width frame.output_height >>= of_sources frame planes convert

  abbrev of_planes : Frame → List (List ℕ) × Text → Result (List ℕ) Fault
  of_planes frame planes =
      conversion_in frame.components (transform_said settings found.said frame) >>= of_convert frame planes.0

  abbrev of_codings : headers.Scan × List ℕ → Frame → List Coding → Result (List ℕ) Fault
  of_codings scan frame codings =
      planes_to rows found.said frame scan.0 codings scan.1 >>= of_planes frame

  abbrev checked : headers.Scan × List ℕ → Frame → Unit {0} → Result (List ℕ) Fault
  checked scan frame u = codings_of found.said frame scan.0 >>= of_codings scan frame

  abbrev framed : headers.Scan × List ℕ → Frame → Result (List ℕ) Fault
  framed scan frame =
      check (comes_by_rows settings found.said frame scan.0 && nat_le rows frame.mcus_high) >>= checked scan frame

  abbrev headed : headers.Scan × List ℕ → Result (List ℕ) Fault
  headed scan = needed found.said.frame >>= framed scan

  in-steps : (bytes : List ℕ)
      → lines_at_scan rows settings found bytes ≡ (header_within settings.max_blocks found bytes >>= headed)
  unfolding lines_at_scan
  in-steps bytes = refl

  -- the header is refused
  pub header-lacks : (bytes : List ℕ) (e : Error) → Names e (header_within settings.max_blocks found bytes)
      → IsOutOrNone e (lines_at_scan rows settings found bytes)
  header-lacks bytes e n =
      subst (λ (o : Result (List ℕ) Fault). IsOutOrNone e o) (sym (in-steps bytes))
      (lacks-then e (header_within settings.max_blocks found bytes) headed
      (lacks-named e (header_within settings.max_blocks found bytes) n))

  -- It was read.
  module _ (scan : headers.Scan) (frame : Frame) (bytes rest : List ℕ)
      (header : header_within settings.max_blocks found bytes ≡ Ok (scan, rest))
      (is : found.said.frame ≡ Some frame) where
    from-check : (o : Result (Unit {0}) Fault)
        → check (comes_by_rows settings found.said frame scan && nat_le rows frame.mcus_high) ≡ o
        → lines_at_scan rows settings found bytes ≡ (o >>= checked (scan, rest) frame)
    from-check o e =
        in-steps bytes ∙ ap (λ (h : Result (headers.Scan × List ℕ) Fault). h >>= headed) header
        ∙ ap (λ (f : Option Frame). needed f >>= framed (scan, rest)) is
        ∙ ap (λ (o : Result (Unit {0}) Fault). o >>= checked (scan, rest) frame) e

    not-checked : (a b : Bool) → (a ≡ false) ⊎ (b ≡ false) → check (a && b) ≡ Err Malformed
    not-checked true true (inl e) = absurd cc
    not-checked true true (inr e) = absurd cc
    not-checked false b h = refl
    not-checked true false h = refl

    both-checked : (a b : Bool) → a ≡ true → b ≡ true → check (a && b) ≡ Ok tt
    both-checked true true p q = refl
    both-checked true false p q = absurd cc
    both-checked false b p q = absurd cc

    -- its picture doesn't come by rows, or it has no more
    pub unchecked-lacks : (e : Error)
        → (comes_by_rows settings found.said frame scan ≡ false) ⊎ (nat_le rows frame.mcus_high ≡ false)
        → IsOutOrNone e (lines_at_scan rows settings found bytes)
    unchecked-lacks e h =
        subst (λ (o : Result (List ℕ) Fault). IsOutOrNone e o)
        (sym (from-check (Err Malformed)
        (not-checked (comes_by_rows settings found.said frame scan) (nat_le rows frame.mcus_high) h))) (inr tt)

    -- what comes after the check
    after-check : (e : Error) (b : Bool) → IsOutOrNone e (checked (scan, rest) frame tt)
        → IsOutOrNone e (check b >>= checked (scan, rest) frame)
    after-check e true h = h
    after-check e false h = inr tt

    by-check : (e : Error) → IsOutOrNone e (checked (scan, rest) frame tt)
        → IsOutOrNone e (lines_at_scan rows settings found bytes)
    by-check e h =
        let b = comes_by_rows settings found.said frame scan && nat_le rows frame.mcus_high in
        subst (λ (o : Result (List ℕ) Fault). IsOutOrNone e o) (sym (from-check (check b) refl)) (after-check e b h)

    -- a table isn't set
    pub codings-lack : (e : Error) → Names e (codings_of found.said frame scan)
        → IsOutOrNone e (lines_at_scan rows settings found bytes)
    codings-lack e n =
        by-check e (lacks-then e (codings_of found.said frame scan) (of_codings (scan, rest) frame)
        (lacks-named e (codings_of found.said frame scan) n))

    module _ (codings : List Coding) (coded : codings_of found.said frame scan ≡ Ok codings) where
      -- a row can't be read
      pub planes-lack : (e : Error) → Names e (planes_to rows found.said frame scan codings rest)
          → IsOutOrNone e (lines_at_scan rows settings found bytes)
      planes-lack e n =
          by-check e (lacks-ok e (codings_of found.said frame scan) codings (of_codings (scan, rest) frame) coded
          (lacks-then e (planes_to rows found.said frame scan codings rest) (of_planes frame)
          (lacks-named e (planes_to rows found.said frame scan codings rest) n)))

      -- They are read.
      pub planes-lines : (planes : List (List ℕ)) (text : Text) (convert : ColorConvert) (sources : List Source)
          → comes_by_rows settings found.said frame scan ≡ true → rows ≤ frame.mcus_high
          → planes_to rows found.said frame scan codings rest ≡ Ok (planes, text)
          → conversion_in frame.components (transform_said settings found.said frame) ≡ Ok convert
          → sources_of frame.components frame.output_width frame.output_height ≡ Ok sources
          → lines_at_scan rows settings found bytes
          ≡ Ok (concat (lines_from frame convert sources planes 0 (lines_decided frame rows)))
      planes-lines planes text convert sources comes within read converted made =
          from-check (Ok tt) (both-checked (comes_by_rows settings found.said frame scan) (nat_le rows frame.mcus_high)
          comes (le-leb rows frame.mcus_high within))
          ∙ ap (λ (o : Result (List Coding) Fault). o >>= of_codings (scan, rest) frame) coded
          ∙ ap (λ (o : Result (List (List ℕ) × Text) Fault). o >>= of_planes frame) read
          ∙ ap (λ (o : Result ColorConvert Fault). o >>= of_convert frame planes) converted
          ∙ ap (λ (o : Result (List Source) Fault). o >>= of_sources frame planes convert) made
