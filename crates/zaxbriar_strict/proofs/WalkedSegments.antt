-- Segments that a walk took are those that a writer emits: tables and applications.
use Rattle.std.proofs.Common.{◌≡◌, ℕ, ◌-◌, ◌≤◌, ◌⊎◌, inl, inr, ⊎_elim, Bool, true, false, List, ◌++◌}
use Rattle.std.proofs.Common.{Option, Some, option_map, refl, sym, ap, ap₂, ◌∙◌, subst, arith}
use Rattle.std.specs.List.{AllByRecursion}
use Rattle.std.proofs.lemmas.Option.{none-some}
use Rattle.jpeg_bits.proofs.PieceWalks.{by_bool}
use Rattle.jpeg_bits.specs.Written.{marker}
use Rattle.jpeg_segments.specs.HuffmanTables.{Tables as CodeTables, greatest_destination}
use Rattle.jpeg_segments.specs.Frame.{Frame as WrittenFrame}
use Rattle.jpeg_segments.specs.WrittenSegments.{Application, Comment, Header, Huffman, Interval, IsHuffmanTable, Quantization}
use Rattle.jpeg_segments.specs.WrittenSegments.{Segment, huffman_tables, marker_code, payload_of, quantization_tables}
use Rattle.jpeg_segments.specs.WrittenSegments.{with_length}
use Rattle.jpeg_segments.proofs.ApplicationParts.{IsOf}
use Rattle.jpeg_segments.proofs.Codecs.{AreBytes}
use Rattle.jpeg_meaning.specs.Found.{Said}
use Rattle.jpeg_meaning.specs.SaidSegments.{Stands, said_after}
use Rattle.jpeg_meaning.specs.Segments.{updated, with_huffman}
use Rattle.jpeg_meaning.specs.WrittenImages.{MayStandInImage}
use Rattle.jpeg_meaning.specs.WrittenLossless.{IsLossless}
use Rattle.zaxbriar_strict.specs.Heads.{is_baseline_of}
use Rattle.zaxbriar_strict.specs.Installed.{InstallsCodes, InstallsSteps, codes_of, steps_of}
use Rattle.zaxbriar_strict.specs.Markers.{BeginsMarker}
use Rattle.zaxbriar_strict.specs.Walks.{InstallsInterval, IsOther, IsSilent, WalksOther}
use Rattle.zaxbriar_strict.specs.declared.frame.Frame.{Frame}
use Rattle.zaxbriar_strict.specs.declared.tables.Tables.{Tables}
use Rattle.zaxbriar_strict.specs.declared.walk.Walk.{Walk}
use Rattle.zaxbriar_strict.proofs.Applications.{IsOtherAdobe, application}

-- The tables are those that were said, and the frame is.
pub record Knows (t : Tables) (frame : Option Frame) (said : Said) : Type 0 where
  pub steps : steps_of t ≡ said.quantization
  pub codes : codes_of t ≡ said.huffman
  pub interval : t.interval ≡ said.restart
  pub baseline : option_map is_baseline_of frame ≡ option_map (λ f. f.is_baseline) said.frame

-- Bytes that begin with a segment that a writer may emit where so much was said, and go on with the
-- rest: it says neither a frame nor a scan, and tables of quantization before a scan alone.
pub record Follows (at rest : List ℕ) (t : Tables) (frame : Option Frame) (old : Said) : Type 0 where
  pub s : Segment
  pub fill : ℕ
  pub parts : at ≡ marker fill (marker_code s) (with_length (payload_of s) ++ rest)
  pub stands : Stands old s
  pub may : MayStandInImage old s
  pub known : Knows t frame (said_after old s)
  pub framed : (said_after old s).frame ≡ old.frame
  pub scanned : (said_after old s).scanned ≡ old.scanned
  pub tables : ((said_after old s).quantization ≡ old.quantization) ⊎ (old.scanned ≡ false)

-- it defines quantization tables, and a scan was before
abbrev pub IsLater : ℕ → Said → Type 0
IsLater code said = (code ≡ 219) × (said.scanned ≡ true)

knows-same : (t new : Tables) (frame : Option Frame) (said : Said) → new ≡ t → Knows t frame said
    → Knows new frame said
knows-same t new frame said e k = subst (λ (u : Tables). Knows u frame said) (sym e) k

module _ (at middle rest payload : List ℕ) (code : ℕ) (begins : BeginsMarker code at middle)
    (parts : middle ≡ with_length payload ++ rest) where
  -- the bytes of the segment, with what follows it
  pub segment-bytes : (k : ℕ) (bytes : List ℕ) → k ≡ code → bytes ≡ payload
      → at ≡ marker begins.fill k (with_length bytes ++ rest)
  segment-bytes k bytes coded is =
      begins.parts ∙ ap (λ (l : List ℕ). marker begins.fill code l) parts
      ∙ ap₂ (λ (n : ℕ) (l : List ℕ). marker begins.fill n (with_length l ++ rest)) (sym coded) (sym is)

-- what is known after quantization tables
pub knows-steps : (t new : Tables) (frame : Option Frame) (said : Said) (payload : List ℕ)
    (i : InstallsSteps payload t new) → Knows t frame said → Knows new frame (said_after said (Quantization i.tables))
knows-steps t new frame said payload i k = record {
  steps = i.installed ∙ ap (λ (l : List (Option (List ℕ))). updated l (quantization_tables i.tables)) k.steps;
  codes = i.codes ∙ k.codes;
  interval = i.interval ∙ k.interval;
  baseline = k.baseline;
}

module _ (at middle rest payload : List ℕ) (code : ℕ) (said : Said) (begins : BeginsMarker code at middle)
    (parts : middle ≡ with_length payload ++ rest) where
  after-codes : (t new : Tables) (frame : Option Frame) → code ≡ 196 → InstallsCodes frame payload t new
      → Knows t frame said → Follows at rest new frame said
  after-codes t new frame coded i k = record {
    s = Huffman i.tables;
    fill = begins.fill;
    parts = segment-bytes at middle rest payload code begins parts 196 (payload_of (Huffman i.tables)) (sym coded)
        (sym i.are);
    stands = (
      subst (λ (b : Option Bool). AllByRecursion (IsHuffmanTable (greatest_destination b)) i.tables) k.baseline i.legal,
      tt,
    );
    may = tt;
    known = record {
      steps = i.steps ∙ k.steps;
      codes = i.installed ∙ ap (λ (c : CodeTables). with_huffman c (huffman_tables i.tables)) k.codes;
      interval = i.interval ∙ k.interval;
      baseline = k.baseline;
    };
    framed = refl;
    scanned = refl;
    tables = inl refl;
  }

  after-steps : (t new : Tables) (frame : Option Frame) → code ≡ 219 → InstallsSteps payload t new
      → said.scanned ≡ false → Knows t frame said → Follows at rest new frame said
  after-steps t new frame coded i unscanned k = record {
    s = Quantization i.tables;
    fill = begins.fill;
    parts = segment-bytes at middle rest payload code begins parts 219 (payload_of (Quantization i.tables)) (sym coded)
        (sym i.are);
    stands = (i.legal, tt);
    may = unscanned;
    known = knows-steps t new frame said payload i k;
    framed = refl;
    scanned = refl;
    tables = inr unscanned;
  }

  after-interval : (t new : Tables) (frame : Option Frame) → code ≡ 221 → InstallsInterval payload t new
      → Knows t frame said → Follows at rest new frame said
  after-interval t new frame coded i k = record {
    s = Interval new.interval;
    fill = begins.fill;
    parts = segment-bytes at middle rest payload code begins parts 221 (payload_of (Interval new.interval)) (sym coded)
        (sym i.are);
    stands = (tt, tt);
    may = tt;
    known = record {
      steps = i.steps ∙ k.steps;
      codes = i.codes ∙ k.codes;
      interval = refl;
      baseline = k.baseline;
    };
    framed = refl;
    scanned = refl;
    tables = inl refl;
  }

  after-comment : (t new : Tables) (frame : Option Frame) → code ≡ 254 → new ≡ t → Knows t frame said
      → Follows at rest new frame said
  after-comment t new frame coded e k = record {
    s = Comment payload;
    fill = begins.fill;
    parts = segment-bytes at middle rest payload code begins parts 254 payload (sym coded) refl;
    stands = (tt, tt);
    may = tt;
    known = knows-same t new frame said e k;
    framed = refl;
    scanned = refl;
    tables = inl refl;
  }

  after-data : (t new : Tables) (frame : Option Frame) → 224 ≤ code → new ≡ t → IsOf (code - 224) payload
      → Knows t frame said → Follows at rest new frame said
  after-data t new frame low e d k =
      let numbered = d.numbered in
      record {
        s = Application d.value;
        fill = begins.fill;
        parts = segment-bytes at middle rest payload code begins parts (marker_code (Application d.value))
            (payload_of (Application d.value)) (omega (arith, numbered)) d.written;
        stands = (d.valid, tt);
        may = tt;
        known = record {
          steps = ap (λ (u : Tables). steps_of u) e ∙ k.steps;
          codes = ap (λ (u : Tables). codes_of u) e ∙ k.codes;
          interval = ap (λ (u : Tables). u.interval) e ∙ k.interval;
          baseline = k.baseline;
        };
        framed = refl;
        scanned = refl;
        tables = inl refl;
      }

  pub after-other : (old new : Walk) → IsOther code → WalksOther code payload old new
      → Knows old.tables old.frame said → AreBytes (with_length payload)
      → Follows at rest new.tables old.frame said ⊎ (IsOtherAdobe (code - 224) payload ⊎ IsLater code said)
  after-other old new kind o k all =
      ⊎_elim (λ (c : code ≡ 196). inl (after-codes old.tables new.tables old.frame c (o.codes c) k))
      (λ (others : (code ≡ 219) ⊎ ((code ≡ 221) ⊎ IsSilent code)).
      ⊎_elim steps
      (λ (fewer : (code ≡ 221) ⊎ IsSilent code).
      ⊎_elim (λ (c : code ≡ 221). inl (after-interval old.tables new.tables old.frame c (o.interval c) k))
      silent fewer) others) kind
    where
      steps : code ≡ 219
          → Follows at rest new.tables old.frame said ⊎ (IsOtherAdobe (code - 224) payload ⊎ IsLater code said)
      steps c = by_bool said.scanned (λ later. inr (inr (c, later)))
          (λ unscanned. inl (after-steps old.tables new.tables old.frame c (o.steps c) unscanned k))

      silent : IsSilent code
          → Follows at rest new.tables old.frame said ⊎ (IsOtherAdobe (code - 224) payload ⊎ IsLater code said)
      silent s = ⊎_elim
          (λ (a : (224 ≤ code) × (code ≤ 239)).
          let same = o.others (λ e. absurd (omega (arith, e, a.0))) (λ e. absurd (omega (arith, e, a.0)))
          (λ e. absurd (omega (arith, e, a.0))) in
          ⊎_elim
          (λ (d : IsOf (code - 224) payload).
          inl (after-data old.tables new.tables old.frame a.0 same d k))
          (λ (x : IsOtherAdobe (code - 224) payload). inr (inl x))
          (application (code - 224) payload (omega (arith, a.1)) all))
          (λ (c : code ≡ 254). inl (after-comment old.tables new.tables old.frame c
          (o.others (λ e. absurd (omega (arith, e, c))) (λ e. absurd (omega (arith, e, c)))
          (λ e. absurd (omega (arith, e, c)))) k)) s

-- ---- where scans were before, too

knows-as : (t : Tables) (frame : Option Frame) (a b : Said) → a.quantization ≡ b.quantization
    → a.huffman ≡ b.huffman → a.restart ≡ b.restart → a.frame ≡ b.frame → Knows t frame a → Knows t frame b
knows-as t frame a b q h r f k = record {
  steps = k.steps ∙ q;
  codes = k.codes ∙ h;
  interval = k.interval ∙ r;
  baseline = k.baseline ∙ ap (λ (o : Option WrittenFrame). option_map (λ f. f.is_baseline) o) f;
}

-- whether there was a scan is not asked
pub knows-unscanned : (t : Tables) (frame : Option Frame) (said : Said) → Knows t frame said
    → Knows t frame (record said { scanned = false })
knows-unscanned t frame said k = knows-as t frame said (record said { scanned = false }) refl refl refl refl k

pub known-after : (t : Tables) (frame : Option Frame) (said : Said) (s : Segment)
    → Knows t frame (said_after (record said { scanned = false }) s) → Knows t frame (said_after said s)
known-after t frame said (Quantization ts) k = knows-as t frame _ _ refl refl refl refl k
known-after t frame said (Huffman ts) k = knows-as t frame _ _ refl refl refl refl k
known-after t frame said (Interval n) k = knows-as t frame _ _ refl refl refl refl k
known-after t frame said (Application d) k = knows-as t frame _ _ refl refl refl refl k
known-after t frame said (Comment payload) k = knows-as t frame _ _ refl refl refl refl k
known-after t frame said (Header number h) k = knows-as t frame _ _ refl refl refl refl k

pub frame-after : (said : Said) (s : Segment)
    → (said_after said s).frame ≡ (said_after (record said { scanned = false }) s).frame
frame-after said (Quantization ts) = refl
frame-after said (Huffman ts) = refl
frame-after said (Interval n) = refl
frame-after said (Application d) = refl
frame-after said (Comment payload) = refl
frame-after said (Header number h) = refl

-- where there is a frame, no other one is said
pub lossless-segment : (said : Said) (frame : WrittenFrame) (s : Segment) → said.frame ≡ Some frame → Stands said s
    → IsLossless s
lossless-segment said frame (Header number h) e stands = absurd (none-some frame (sym stands.0.0 ∙ e))
lossless-segment said frame s e stands = tt
