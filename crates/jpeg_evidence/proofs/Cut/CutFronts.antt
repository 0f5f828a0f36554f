-- Each beginning of a written image holds an image of which each block was sent at levels of its own.
use Rattle.std.proofs.Common.{◌≡◌, ◌⊎◌, inl, inr, ℕ, zero, suc, true, false, List, [], ◌∷◌, ◌++◌, replicate, Some, None, ◌<◌, length}
use Rattle.std.proofs.Common.{Err, refl, sym, ap, ap₂, ◌∙◌, subst, true≢false}
use Rattle.jpeg_bits.specs.Marker.{marker_of, next_marker}
use Rattle.jpeg_bits.specs.Reading.{End}
use Rattle.jpeg_bits.specs.Written.{marker}
use Rattle.jpeg_segments.specs.Frame.{Frame}
use Rattle.jpeg_segments.specs.ScanHeaders.{IsScan, ScanHeader, scan_written}
use Rattle.jpeg_segments.specs.WrittenSegments.{Header, Segment, frame_written}
use Rattle.jpeg_meaning.specs.Brought.{Brought, unbrought}
use Rattle.jpeg_meaning.specs.Found.{Found, Said, nothing_said}
use Rattle.jpeg_meaning.specs.Levels.{Levels, nothing_sent}
use Rattle.jpeg_meaning.specs.SaidSegments.{Stands, said_after}
use Rattle.jpeg_meaning.specs.ScanSegments.{is_progressive, pass_of}
use Rattle.jpeg_meaning.specs.WrittenImages.{MayStandInImage, WritesImageScan}
use Rattle.jpeg_meaning.specs.WrittenScans.{Coefficients, levels_after}
use Rattle.jpeg_meaning.specs.WrittenStreams.{Writes, end, scan, segment}
use Rattle.jpeg_meaning.specs.declared.before.Before.{Before}
use Rattle.jpeg_meaning.proofs.Written.BroughtLevels.{PassSo, indices_of, is_whole, progressive, scan-apart, sequential}
use Rattle.jpeg_meaning.proofs.Written.CodingsInForce.{codings-found}
use Rattle.jpeg_meaning.proofs.Pictures.DecodedHeaders.{decoded-accepted}
use Rattle.jpeg_meaning.proofs.Order.FrameShapes.{accepted-facts, count-few}
use Rattle.jpeg_meaning.proofs.Order.OwnSpots.{AreApart}
use Rattle.jpeg_meaning.proofs.Written.ReadTurns.{refused_walk, same-frame, same-turn, some-none, walk-refused}
use Rattle.jpeg_meaning.proofs.Written.ReadTurns.{walked}
use Rattle.jpeg_meaning.proofs.Written.WalkedStreams.{IsSaid, nothing-said, segment-said}
use Rattle.jpeg_meaning.proofs.Written.WrittenPictures.{IsDrawn, drawn-said, header-facts}
use Rattle.jpeg_evidence.specs.CutImages.{WritesFront}
use Rattle.jpeg_evidence.proofs.Cut.CutBlocks.{NoneOrAll, all_sent, whole-after}
use Rattle.jpeg_evidence.proofs.Cut.CutPictures.{AllOrNone}
use Rattle.jpeg_meaning.proofs.Longer.FrontNumbers.{some-is}
use Rattle.jpeg_meaning.specs.Stream.{turn_at, walk}
use Rattle.jpeg_bits.specs.declared.beyond.Beyond.TheVariants.{Nothing}

-- ---- beginnings of bytes

-- A beginning of a list ends inside the first part of it, or after that.
abbrev pub AfterFirst : List ℕ → List ℕ → List ℕ → List ℕ → Type 0
AfterFirst xs ys front more = (left : List ℕ) × (front ≡ xs ++ left) × (ys ≡ left ++ more)

abbrev pub InFirst : List ℕ → List ℕ → Type 0
InFirst xs front = (left : List ℕ) × (xs ≡ front ++ left) × (left ≡ [] → ⊥)

pub split-append : (xs ys front more : List ℕ) → xs ++ ys ≡ front ++ more → AfterFirst xs ys front more ⊎ InFirst xs front
split-append [] ys front more e = inl (front, refl, e)
split-append (x ∷ xs) ys [] more e = inr (x ∷ xs, refl, λ n. absurd (let z : ⊥ = cc in z))
split-append (x ∷ xs) ys (y ∷ front) more e = go (split-append xs ys front more (let z : xs ++ ys ≡ front ++ more = cc in z))
  where
    same : x ≡ y
    same = cc

    go : AfterFirst xs ys front more ⊎ InFirst xs front → AfterFirst (x ∷ xs) ys (y ∷ front) more ⊎ InFirst (x ∷ xs) (y ∷ front)
    go (inl r) = inl (r.0, ap₂ (λ (a : ℕ) (l : List ℕ). a ∷ l) (sym same) r.1, r.2)
    go (inr r) = inr (r.0, ap₂ (λ (a : ℕ) (l : List ℕ). a ∷ l) same r.1, r.2)

-- A beginning of a marker and bytes after it is bytes FF, or it has the marker.
abbrev pub IsFilled : List ℕ → Type 0
IsFilled front = (j : ℕ) × (front ≡ replicate j 255)

abbrev HasCode : ℕ → ℕ → List ℕ → List ℕ → List ℕ → Type 0
HasCode fill code rest front more =
    (part : List ℕ) × (front ≡ replicate fill 255 ++ code ∷ part) × (rest ≡ part ++ more)

split-fill : (fill code : ℕ) (rest front more : List ℕ) → replicate fill 255 ++ code ∷ rest ≡ front ++ more
    → IsFilled front ⊎ HasCode fill code rest front more
split-fill fill code rest [] more e = inl (0, refl)
split-fill zero code rest (a ∷ front) more e =
    inr (front, (let z : a ∷ front ≡ code ∷ front = cc in z), (let z : rest ≡ front ++ more = cc in z))
split-fill (suc fill) code rest (a ∷ front) more e =
    go (split-fill fill code rest front more (let z : replicate fill 255 ++ code ∷ rest ≡ front ++ more = cc in z))
  where
    first : a ≡ 255
    first = cc

    go : IsFilled front ⊎ HasCode fill code rest front more
        → IsFilled (a ∷ front) ⊎ HasCode (suc fill) code rest (a ∷ front) more
    go (inl r) = inl (suc r.0, ap₂ (λ (b : ℕ) (l : List ℕ). b ∷ l) first r.1)
    go (inr r) = inr (r.0, ap₂ (λ (b : ℕ) (l : List ℕ). b ∷ l) first r.1, r.2)

abbrev pub HasMarker : ℕ → ℕ → List ℕ → List ℕ → List ℕ → Type 0
HasMarker fill code rest front more =
    (part : List ℕ) × (front ≡ marker fill code part) × (rest ≡ part ++ more)

pub split-marker : (fill code : ℕ) (rest front more : List ℕ) → marker fill code rest ≡ front ++ more
    → IsFilled front ⊎ HasMarker fill code rest front more
split-marker fill code rest front more e = split-fill (suc fill) code rest front more e

-- ---- a walk at bytes FF

none-filled : (j : ℕ) → next_marker (replicate j 255) ≡ Err End
unfolding next_marker marker_of
none-filled zero = refl
none-filled (suc zero) = refl
none-filled (suc (suc j)) = none-filled (suc j)

turn-filled : (before : Before) (found : Found) (j : ℕ)
    → turn_at Nothing before found None (replicate j 255) ≡ unbrought found (Err End)
unfolding turn_at
turn-filled before found j = rw (none-filled j, turn_at) refl

pub walk-filled : (turns : ℕ) (before : Before) (found : Found) (j : ℕ)
    → walk None Nothing turns false before found None (replicate j 255) ≡ walked found (Err End)
unfolding walk
walk-filled zero before found j = refl
walk-filled (suc turns) before found j =
    let e = turn-filled before found j in
    walk-refused None Nothing turns false before found None (replicate j 255) End refl (same-turn _ _ e)
    ∙ ap (λ (b : Brought). refused_walk false b End) e

-- ---- the levels of a sequential frame

-- Nothing was sent before the frame and its first scan, and of a sequential one all of a component or nothing. A frame
-- has a component.
pub record Unmixed (said : Said) (levels : ℕ → Levels) : Type 0 where
  pub fresh : said.frame ≡ None → (k : ℕ) → levels k ≡ nothing_sent
  pub whole : (f : Frame) → said.frame ≡ Some f → is_progressive f.process ≡ false → (k : ℕ) → NoneOrAll (levels k)
  pub unsent : said.scanned ≡ false → (k : ℕ) → levels k ≡ nothing_sent
  pub some : (f : Frame) → said.frame ≡ Some f → 0 < length f.components

unmixed-segment : (said : Said) (levels : ℕ → Levels) (s : Segment) → Stands said s → Unmixed said levels
    → Unmixed (said_after said s) levels
unmixed-segment said levels (Header number h) stands u = record {
  fresh = λ e. absurd (let z : ⊥ = cc in z);
  whole = λ f e q k. inl (u.fresh stands.0.0 k);
  unsent = u.unsent;
  some = λ f e.
      let facts = accepted-facts (frame_written number h) (frame_written number h) (decoded-accepted number h stands.1) in
      subst (λ (g : Frame). 0 < length g.components) (some-is (frame_written number h) f e)
      (count-few (length (frame_written number h).components) facts.0).0;
}
unmixed-segment said levels s stands u =
    record { fresh = u.fresh; whole = u.whole; unsent = u.unsent; some = u.some }

pub unmixed-scan : (array : Coefficients) (said : Said) (levels next : ℕ → Levels) (f : Frame) (h : ScanHeader)
    (bytes : List ℕ) → IsSaid IsDrawn said → said.frame ≡ Some f → IsScan f h
    → WritesImageScan array said levels f h bytes next → Unmixed said levels
    → Unmixed (record said { scanned = true }) next
unmixed-scan array said levels next f h bytes is e written w u = record {
  fresh = λ n. some-none f said.frame e n;
  whole = λ g o q k.
      let shape = (is.shaped f e).0 in
      let same : g ≡ f = same-frame g f said.frame o e in
      let s = scan_written f h in
      let facts = header-facts f h written shape.lossy in
      let apart = scan-apart said f s w.codings facts (codings-found said f s w.codings w.legal.are_in_force) in
      subst (λ (l : ℕ → Levels). NoneOrAll (l k)) w.sent
      (by facts.so (subst (λ (x : Frame). is_progressive x.process ≡ false) same q) apart k);
  unsent = λ n. absurd (true≢false n);
  some = u.some;
}
  where
    by : PassSo f (scan_written f h) → is_progressive f.process ≡ false → AreApart (indices_of w.codings) → (k : ℕ)
        → NoneOrAll (levels_after (pass_of (scan_written f h)) (indices_of w.codings) levels k)
    by (sequential p q) n apart k =
        whole-after (pass_of (scan_written f h)) w.codings levels q apart w.legal.legal (u.whole f e n) k
    by (progressive p d a lt le) n apart k = absurd (true≢false (sym p ∙ n))

unmixed : (array : Coefficients) (said final : Said) (levels last : ℕ → Levels) (bytes : List ℕ)
    → Writes MayStandInImage (WritesImageScan array) (λ said sent left. left ≡ []) said levels bytes final last
    → IsSaid IsDrawn said → Unmixed said levels → Unmixed final last
unmixed array said final levels last bytes (end said' sent' bytes' none) is u = u
unmixed array said final levels last bytes (segment said' final' sent' last' fill s more stands allowed w) is u =
    unmixed array (said_after said s) final levels last more w
    (segment-said MayStandInImage IsDrawn drawn-said said s stands allowed is)
    (unmixed-segment said levels s stands u)
unmixed array said final levels last bytes
    (scan said' final' sent' next last' f fill h data_bytes more framed written sends w) is u =
    unmixed array (record said { scanned = true }) final next last more w
    (record { tables = is.tables; shaped = is.shaped })
    (unmixed-scan array said levels next f h data_bytes is framed written sends u)

no-frame : (f : Frame) → nothing_said.frame ≡ Some f → ⊥
unfolding nothing_said
no-frame f e = absurd (let z : ⊥ = cc in z)

pub front-unmixed : (array : Coefficients) (said : Said) (levels : ℕ → Levels) (first : List ℕ)
    → WritesFront array said levels first → Unmixed said levels
front-unmixed array said levels first w =
    unmixed array nothing_said said (λ k. nothing_sent) levels first w (nothing-said IsDrawn)
    (record {
      fresh = λ e k. refl;
      whole = λ f e q k. absurd (no-frame f e);
      unsent = λ e k. refl;
      some = λ f e. absurd (no-frame f e);
    })

pub all-whole : is_whole all_sent ≡ true
all-whole = refl

pub all-or-none : (said : Said) (levels : ℕ → Levels) (f : Frame) → Unmixed said levels → said.frame ≡ Some f
    → AllOrNone f levels
all-or-none said levels f u e q k lacks = go (u.whole f e q k)
  where
    go : NoneOrAll (levels k) → levels k ≡ nothing_sent
    go (inl n) = n
    go (inr a) = absurd (true≢false (sym all-whole ∙ sym (ap is_whole a) ∙ lacks))
