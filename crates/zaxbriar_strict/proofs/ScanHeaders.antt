-- Whole scan headers.
use Rattle.std.proofs.Common.{◌≡◌, ◌≢◌, ◌==◌, ◌&&◌, Bool, ℕ, zero, suc, ◌/◌, ◌%◌, ◌<◌, ◌≤◌, true, List, [], ◌∷◌, ◌++◌}
use Rattle.std.proofs.Common.{length, take, refl, sym, ap, ap₂, ◌∙◌, subst, arith, length-take}
use Rattle.std.specs.List.{flat_map}
use Rattle.std.specs.Prelude.{slice_index_or}
use Rattle.std.proofs.lemmas.Bool.{eq-eqb, false≢true, le-leb, leb-true, lt-ltb, ne_eqb}
use Rattle.std.proofs.Common.{◌+◌, ◌||◌, false, not}
use Rattle.jpeg_bits.specs.Passes.{Pass}
use Rattle.std.proofs.lemmas.List.{length-map}
use Rattle.jpeg_segments.specs.Frame.{frame_of, is_precision, process_of}
use Rattle.jpeg_segments.specs.ScanHeader.{is_band, is_lossless_band, is_progressive_band, is_sequential_band}
use Rattle.jpeg_segments.specs.ScanHeaders.{IsScan, choice_bytes, scan_payload}
use Rattle.jpeg_segments.specs.WrittenSegments.{nibbles}
use Rattle.zaxbriar_strict.specs.Heads.{IsMade, IsSentOnce, ReadsHeader, choice_of, header_of, members_of, number_of}
use Rattle.zaxbriar_strict.specs.Heads.{SendsPart, is_progressive_process, pass_in, scan_header_of, written_frame}
use Rattle.zaxbriar_strict.specs.Sent.{IsBand}
use Rattle.zaxbriar_strict.specs.Sent.IsBand.{of_acs, of_dc}
use Rattle.zaxbriar_strict.specs.Members.{AreMembers, NotesScan, Predicts, SendsAll, TakesScan, choices_of}
use Rattle.zaxbriar_strict.specs.declared.frame.Frame.{Frame}
use Rattle.zaxbriar_strict.specs.declared.frame.Process.{Process}
use Rattle.zaxbriar_strict.specs.declared.frame.Process.TheVariants.{Baseline, Extended, Lossless, Progressive}
use Rattle.zaxbriar_strict.specs.declared.scan.Scan.{Scan}

-- ---- what is taken

counted-members : (s : Scan) → s.count ≤ 4 → length s.members ≡ 4 → length (members_of s) ≡ s.count
counted-members s most sized = let l = length-take s.count s.members in omega (arith, l, most, sized)

-- three bytes by their places
pub three-are : (xs : List ℕ) → 3 ≤ length xs → length xs < 4
    → xs ≡ slice_index_or xs 0 0 ∷ (slice_index_or xs 1 0 ∷ (slice_index_or xs 2 0 ∷ []))
three-are [] some few = absurd (omega arith)
three-are (x ∷ []) some few = absurd (omega arith)
three-are (x ∷ (y ∷ [])) some few = absurd (omega arith)
three-are (x ∷ (y ∷ (z ∷ []))) some few = refl
three-are (x ∷ (y ∷ (z ∷ (u ∷ us)))) some few = absurd (omega arith)

pub takes-scan : (f : Frame) (s : Scan) (count approximation : ℕ) (bytes middle after : List ℕ) → s.count ≡ count
    → 1 ≤ count → count ≤ 4 → length s.members ≡ 4 → bytes ≡ count ∷ middle
    → middle ≡ flat_map choice_bytes (choices_of f (take count s.members)) ++ after
    → after ≡ s.first ∷ (s.last ∷ (approximation ∷ [])) → s.high ≡ approximation / 16 → s.low ≡ approximation % 16
    → AreMembers f (take count s.members) → TakesScan f s bytes
unfolding scan_payload
takes-scan f s count approximation bytes middle after counted some most sized e parts rest high low members =
    let same : take count s.members ≡ members_of s = ap (λ (k : ℕ). take k s.members) (sym counted) in
    let many : length (choices_of f (members_of s)) ≡ s.count =
    length-map (members_of s) (choice_of (header_of f).components)
    ∙ counted-members s (omega (arith, counted, most)) sized in
    let code : approximation ≡ nibbles s.high s.low = omega (arith, high, low) in
    record {
      are = e
          ∙ ap₂ (λ (k : ℕ) (l : List ℕ). k ∷ l) (sym counted ∙ sym many)
          (parts ∙ ap (λ (l : List ℕ). flat_map choice_bytes (choices_of f (take count s.members)) ++ l) rest
          ∙ ap (λ (k : ℕ). flat_map choice_bytes (choices_of f (take k s.members))
          ++ (s.first ∷ (s.last ∷ (approximation ∷ [])))) (sym counted)
          ∙ ap (λ (k : ℕ). flat_map choice_bytes (choices_of f (members_of s))
          ++ (s.first ∷ (s.last ∷ (k ∷ [])))) code);
      some = omega (arith, counted, some);
      most = omega (arith, counted, most);
      sized = sized;
      members = subst (λ l. AreMembers f l) same members;
    }

-- ---- what is read

precise-some : (p : Process) (precision : ℕ) → number_of p ≤ 1 → is_precision (number_of p) precision ≡ true
    → 0 < precision
precise-some p (suc n) few e = omega arith
precise-some Baseline zero few e = cc
precise-some Extended zero few e = cc
precise-some Progressive zero few e = absurd (omega arith)
precise-some Lossless zero few e = absurd (omega arith)

band-whole : (first last high low : ℕ) → first ≡ 0 → last ≡ 63 → high ≡ 0 → low ≡ 0
    → is_sequential_band first last high low ≡ true
band-whole first last high low a b c d =
    ap (λ (k : ℕ). is_sequential_band k last high low) a ∙ ap (λ (k : ℕ). is_sequential_band 0 k high low) b
    ∙ ap (λ (k : ℕ). is_sequential_band 0 63 k low) c ∙ ap (λ (k : ℕ). is_sequential_band 0 63 0 k) d

band-predicted : (first last high : ℕ) → first ≤ 7 → last ≡ 0 → high ≡ 0 → is_lossless_band first last high ≡ true
band-predicted first last high a b c =
    ap (λ (t : Bool). t && (last == 0 && high == 0)) (le-leb first 7 a)
    ∙ ap₂ (λ (k l : ℕ). k == 0 && l == 0) b c

-- the band and the point transform of a scan are ones that the process codes
record IsCodedBand (p : Process) (count precision : ℕ) (s : Scan) : Type 0 where
  narrow : s.low < 16
  below : s.low < precision
  band : is_band (process_of (number_of p)) count s.first s.last s.high s.low ≡ true

sequential-band : (p : Process) (count precision : ℕ) (s : Scan) → number_of p ≤ 1
    → is_precision (number_of p) precision ≡ true → SendsAll s
    → (is_sequential_band s.first s.last s.high s.low ≡ true
    → is_band (process_of (number_of p)) count s.first s.last s.high s.low ≡ true) → IsCodedBand p count precision s
sequential-band p count precision s few precise all same =
    let some = precise-some p precision few precise in
    let low = all.low in
    record {
      narrow = omega (arith, low);
      below = omega (arith, low, some);
      band = same (band-whole s.first s.last s.high s.low all.first all.last all.high all.low);
    }

coded-band : (p : Process) (count precision : ℕ) (s : Scan) → number_of p ≢ 2
    → is_precision (number_of p) precision ≡ true → (number_of p ≤ 1 → SendsAll s)
    → (number_of p ≡ 3 → Predicts precision s) → IsCodedBand p count precision s
coded-band Baseline count precision s once precise whole predicted =
    sequential-band Baseline count precision s (omega arith) precise (whole (omega arith)) (λ e. e)
coded-band Extended count precision s once precise whole predicted =
    sequential-band Extended count precision s (omega arith) precise (whole (omega arith)) (λ e. e)
coded-band Progressive count precision s once precise whole predicted = absurd (once refl)
coded-band Lossless count precision s once precise whole predicted =
    let h = predicted refl in
    let most : precision ≤ 16 = leb-true precision 16 precise in
    let below = h.below in
    record {
      narrow = omega (arith, below, most);
      below = below;
      band = band-predicted s.first s.last s.high h.most h.last h.high;
    }

legal-scan : (f : Frame) (s : Scan) (bytes : List ℕ) (next : Frame) → TakesScan f s bytes → NotesScan s f next → IsMade f
    → IsSentOnce f → IsScan (written_frame f) (scan_header_of f s)
unfolding frame_of
legal-scan f s bytes next t n made once =
    let many : length (choices_of f (members_of s)) ≡ s.count =
    length-map (members_of s) (choice_of (header_of f).components) ∙ counted-members s t.most t.sized in
    let coded = coded-band f.process (length (choices_of f (members_of s))) f.precision s once made.legal.precise n.whole
    n.predicted in
    let some = t.some in
    let most = t.most in
    record {
      some = omega (arith, many, some);
      most = omega (arith, many, most);
      choices = t.members.choices n.tables;
      fits = t.members.fits;
      narrow = coded.narrow;
      precise = lt-ltb s.low f.precision coded.below;
      band = coded.band;
    }

-- ---- a scan of a progressive frame

either-high : (high low : ℕ) → (high ≢ 0 → high ≡ low + 1) → (high == 0 || high == low + 1) ≡ true
either-high high low next = go (high == 0) refl
  where
    go : (b : Bool) → (high == 0) ≡ b → (b || high == low + 1) ≡ true
    go true e = refl
    go false e = eq-eqb high (low + 1) (next (λ z. false≢true (sym e ∙ eq-eqb high 0 z)))

first-last : (p : Pass) → IsBand p → (p.ss ≤ p.se) × ((not (p.ss == 0) || p.se == 0) ≡ true)
first-last p (of_dc s e) = (
  omega (arith, s, e),
  ap₂ (λ (a b : Bool). not a || b) (eq-eqb p.ss 0 s) (eq-eqb p.se 0 e),
)
first-last p (of_acs some within most) = (
  within,
  ap (λ (a : Bool). not a || p.se == 0) (ne_eqb p.ss 0 (λ z. omega (arith, some, z))),
)

alone-or-first : (first count : ℕ) → 1 ≤ count → (first ≢ 0 → count ≤ 1) → (first == 0 || count == 1) ≡ true
alone-or-first first count some alone = go (first == 0) refl
  where
    go : (b : Bool) → (first == 0) ≡ b → (b || count == 1) ≡ true
    go true e = refl
    go false e =
        let one = alone (λ z. false≢true (sym e ∙ eq-eqb first 0 z)) in
        eq-eqb count 1 (omega (arith, one, some))

and-all : (a b c d e f g : Bool) → a ≡ true → b ≡ true → c ≡ true → d ≡ true → e ≡ true → f ≡ true → g ≡ true
    → (a && (b && (c && (d && (e && (f && g)))))) ≡ true
and-all a b c d e f g x y z u v w t =
    ap (λ (q : Bool). q && (b && (c && (d && (e && (f && g)))))) x
    ∙ ap (λ (q : Bool). q && (c && (d && (e && (f && g))))) y ∙ ap (λ (q : Bool). q && (d && (e && (f && g)))) z
    ∙ ap (λ (q : Bool). q && (e && (f && g))) u ∙ ap (λ (q : Bool). q && (f && g)) v
    ∙ ap (λ (q : Bool). q && g) w ∙ t

progressive-band : (s : Scan) (count : ℕ) → 1 ≤ count → count ≡ s.count → SendsPart s
    → is_progressive_band count s.first s.last s.high s.low ≡ true
progressive-band s count some same part =
    let ends = first-last (pass_in s) part.banded in
    let low = part.low in
    and-all _ _ _ _ _ _ _ (le-leb s.first s.last ends.0) (le-leb s.last 63 part.last) ends.1
    (alone-or-first s.first count some (λ ne. (let a = part.alone ne in omega (arith, a, same))))
    (le-leb s.high 13 part.high_most) (le-leb s.low 13 low) (either-high s.high s.low part.high)

legal-part : (f : Frame) (s : Scan) (bytes : List ℕ) (next : Frame) → TakesScan f s bytes → NotesScan s f next
    → is_progressive_process f.process ≡ true → s.low < f.precision → IsScan (written_frame f) (scan_header_of f s)
unfolding frame_of
legal-part f s bytes next t n progressive below =
    let many : length (choices_of f (members_of s)) ≡ s.count =
    length-map (members_of s) (choice_of (header_of f).components) ∙ counted-members s t.most t.sized in
    let part = n.part progressive in
    let low = part.low in
    let some = t.some in
    let most = t.most in
    let least : 1 ≤ length (choices_of f (members_of s)) = omega (arith, many, some) in
    record {
      some = least;
      most = omega (arith, many, most);
      choices = t.members.choices n.tables;
      fits = t.members.fits;
      narrow = omega (arith, low);
      precise = lt-ltb s.low f.precision below;
      band = go f.process progressive (progressive-band s _ least many part);
    }
  where
    go : (p : Process) → is_progressive_process p ≡ true
        → is_progressive_band (length (choices_of f (members_of s))) s.first s.last s.high s.low ≡ true
        → is_band (process_of (number_of p)) (length (choices_of f (members_of s))) s.first s.last s.high s.low ≡ true
    go Progressive e h = h
    go Baseline e h = absurd (false≢true e)
    go Extended e h = absurd (false≢true e)
    go Lossless e h = absurd (false≢true e)

pub reads-header : (bytes : List ℕ) (s : Scan) (old new : Frame) → TakesScan old s bytes → NotesScan s old new
    → IsMade old → ReadsHeader bytes s old new
reads-header bytes s old new t n made = record {
  are = t.are;
  counted = t.most;
  some = t.some;
  choices = t.members.choices n.tables;
  legal = legal-scan old s bytes new t n made;
  last = λ few. (n.whole few).last;
  part = n.part;
  legal_part = legal-part old s bytes new t n;
  noted = n.noted;
  kept = n.kept;
  same = n.same;
  unsent = n.unsent;
  sent = n.sent;
}
