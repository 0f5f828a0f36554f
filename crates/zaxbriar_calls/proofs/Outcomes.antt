-- What the functions behind the calls say of their outcomes, by the outcome of each of their steps.
use Rattle.std.proofs.Common.{arith, ◌≡◌, ◌⊎◌, ◌∙◌, ◌+◌, ◌<◌, ◌≤◌, ℕ, Bool, List, None, Some, Result, Ok, Err, false, true}
use Rattle.std.proofs.Common.{ap, inl, inr, length, refl, subst, sym}
use Rattle.std.specs.Prelude.{IfErr, IfOk, IsErrAnd, OnOk, option_map}
use Rattle.jpeg_bits.specs.Reading.{Fault}
use Rattle.jpeg_bits.specs.Stream.{Stream}
use Rattle.jpeg_meaning.specs.Found.{Found}
use Rattle.jpeg_meaning.specs.Pixels.{info_by}
use Rattle.jpeg_meaning.specs.States.{Decoding}
use Rattle.jpeg_meaning.specs.Stream.{header_at}
use Rattle.zaxbriar_calls.proofs.Exceeded.{exceeds-given, header-known}
use Rattle.zaxbriar_calls.proofs.Fails.{if-err, not-own, own-large}
use Rattle.zaxbriar_calls.proofs.Headers.{described-same, only-room}
use Rattle.zaxbriar_calls.proofs.Means.{after-header}
use Rattle.zaxbriar_calls.proofs.Parts.{brought-given, gives-rest, header-lacks, no-part, no-rows, none-named, reached-err}
use Rattle.zaxbriar_calls.proofs.Parts.{reached-ok, rows-given}
use Rattle.zaxbriar_calls.proofs.Rests.{header-counted, image-counted}
use Rattle.zaxbriar_calls.specs.Faults.{IsArgument, IsFault, IsOfCall, IsOfReading, IsPart}
use Rattle.zaxbriar_calls.specs.Crops.{part_rows}
use Rattle.zaxbriar_calls.specs.Given.{Gives, HasRows, bytes_needed, rows_by, rows_rest}
use Rattle.zaxbriar_calls.specs.Limits.{are_known, are_known_for, bytes_beside, exceeds_limits}
use Rattle.zaxbriar_calls.specs.Lines.{HasLines, described_picture, part_given}
use Rattle.zaxbriar_calls.specs.Meanings.{Describes, IsMisfit, IsTooLarge, IsWithin, ReadsHeader, StandsAfter, found_at}
use Rattle.zaxbriar_calls.specs.Meanings.{orientation_by, settings_at, settings_of, uncounted}
use Rattle.zaxbriar_calls.specs.Outcomes.{Continues, DecodesInto, DecodesLines, DescribesStream, LacksRoom, room_of}
use Rattle.zaxbriar_calls.specs.declared.answers.Refusal.{Refusal}
use Rattle.zaxbriar_calls.specs.declared.answers.Refusal.TheVariants as refusals
use Rattle.zaxbriar_calls.specs.declared.density.Density.{Density}
use Rattle.zaxbriar_calls.specs.declared.extents.Extent.{Extent}
use Rattle.zaxbriar_calls.specs.declared.header.Header.{Header}
use Rattle.zaxbriar_calls.specs.declared.lines.Lines.{Lines}
use Rattle.zaxbriar_calls.specs.declared.options.Options.{Options}
use Rattle.zaxbriar_calls.specs.declared.picture.Picture.{Picture}

-- What is known of a header that was described, or refused.
pub record HeaderDescribed (o : Options) (bytes : List ℕ) (density : Density) (first second : Decoding)
    (old new : Picture) (r : Result (Header × Lines) Refusal) : Type 0 where
  pub source_known : first.source.known ≡ true
  pub source_bytes : first.source.bytes ≡ bytes
  pub reads : OnOk r (ReadsHeader o first second)
  pub unexceeded : second.exceeded ≡ false
  pub info : IfOk r (λ a. option_map (info_by second.settings) second.found.said.frame ≡ Some a.0.info)
  pub precision : IfOk r (λ a. option_map (λ f. f.precision) second.found.said.frame ≡ Some a.0.precision)
  pub oriented : IfOk r (λ a. a.0.orientation ≡ orientation_by second.found.said.metadata.exif)
  pub lines : IfOk r (λ a. HasLines o a.0.info a.0.precision a.0.orientation a.1)
  pub told : IfOk r (λ a. new ≡ described_picture o.layout a.0.info a.0.precision a.1
      (bytes_beside a.0.decoding_bytes) a.0.orientation a.0.sampling a.0.planes a.0.transform density 0)
  pub within : OnOk r (IsWithin o bytes new)
  pub large : IfErr r (λ x. x ≡ refusals.TooLarge → IsTooLarge o bytes new)
  pub stands : IfErr r (λ x. x ≡ refusals.TooLarge → StandsAfter (header_at bytes) second.source)
  pub limited : (size : Picture) → IsTooLarge o bytes size → IsErrAnd r IsOfCall
  pub named : IfErr r (IsFault (header_at bytes))
  pub misfit : IfErr r (λ x. IsArgument x → IsMisfit o bytes)
  pub other : IfErr r (λ x. x ≡ refusals.NoRoom → ⊥)
  pub whole : IfErr r (λ x. IsPart x → ⊥)
  pub kept : IfErr r (λ x. (x ≡ refusals.TooLarge → ⊥) → new ≡ old)

-- The bytes that a source has taken of a stream are counted.
pub record Counted (bytes : List ℕ) (source : Stream) (count : ℕ) : Type 0 where
  pub most : count ≤ length bytes
  pub counts : source.known ≡ true → length source.bytes ≤ length bytes
      → count + length source.bytes ≡ length bytes

-- a picture with a number of bytes that were read
abbrev pub counting : Picture → ℕ → Picture
counting picture count = record picture { stream_bytes = count }

-- ---- facts that exclude each other

is-known : {P : Type 0} (b : Bool) → b ≡ true → b ≡ false → P
is-known b p q = absurd cc

ok-err : {X : Type 0} (read : Result X Fault) (x : X) (fault : Fault) → read ≡ Ok x → read ≡ Err fault → ⊥
ok-err read x fault p q = cc

room-large : refusals.NoRoom ≡ refusals.TooLarge → ⊥
room-large e = cc

reading-room : (r : Refusal) → IsOfReading r → r ≡ refusals.NoRoom → ⊥
reading-room r a e = grind arith

reading-large : (r : Refusal) → IsOfReading r → r ≡ refusals.TooLarge → ⊥
reading-large r a e = grind arith

reading-argument : (r : Refusal) → IsOfReading r → IsArgument r → ⊥
reading-argument r a e = grind arith

-- ---- pictures that are described

always : {X E : Type 0} (r : Result X E) (P : Type 0) → P → OnOk r P
always (Ok x) P p = p
always (Err e) P p = tt

-- one counts no bytes
uncounted-same : (o : Options) (bytes : List ℕ) (picture : Picture) → Describes o bytes picture
    → uncounted picture ≡ picture
uncounted-same o bytes picture d = ap (λ (p : Picture). uncounted p) d.picture_is ∙ sym d.picture_is

counted-within : (o : Options) (bytes : List ℕ) (picture : Picture) (over : Bool)
    → Describes o bytes picture × (exceeds_limits o picture ≡ over)
    → Describes o bytes (uncounted picture) × (exceeds_limits o (uncounted picture) ≡ over)
counted-within o bytes picture over w =
    subst (λ (p : Picture). Describes o bytes p × (exceeds_limits o p ≡ over))
    (sym (uncounted-same o bytes picture w.0)) w

-- the decoder of one stands after its header
header-stands : (o : Options) (bytes : List ℕ) (first second : Decoding) → ReadsHeader o first second
    → first.source.known ≡ true → first.source.bytes ≡ bytes → StandsAfter (header_at bytes) second.source
header-stands o bytes first second read known same =
    subst (λ (b : List ℕ). StandsAfter (header_at b) second.source) same (after-header o first second read known)

-- ---- a description

pub stream-described : (o : Options) (bytes : List ℕ) (density : Density) (first second : Decoding) (old picture : Picture)
    (count : ℕ) (r : Result (Header × Lines) Refusal)
    → are_known o ≡ true → HeaderDescribed o bytes density first second old picture r
    → (old.whole_rows ≡ 0 → picture.whole_rows ≡ 0) → Counted bytes second.source count
    → DescribesStream o bytes old (counting picture count) r
stream-described o bytes density first second old picture count (Ok a) known d rowless c = record {
  within = counted-within o bytes picture false d.within;
  large = tt;
  counts = header-counted bytes second.source count
      (header-stands o bytes first second d.reads d.source_known d.source_bytes) c.counts;
  header = tt;
  most = λ z. c.most;
  rowless = rowless;
  limited = d.limited;
  roomless = tt;
  named = tt;
  whole = tt;
  known = λ n. is-known (are_known o) known n;
  wrong = tt;
  unasked = λ n. is-known (are_known o) known n;
  kept = tt;
}
stream-described o bytes density first second old picture count (Err r) known d rowless c = record {
  within = tt;
  large = λ e. counted-within o bytes picture true (d.large e);
  counts = tt;
  header = λ e. header-counted bytes second.source count (d.stands e) c.counts;
  most = λ z. c.most;
  rowless = rowless;
  limited = d.limited;
  roomless = d.other;
  named = d.named;
  whole = d.whole;
  known = λ n. is-known (are_known o) known n;
  wrong = λ a. inr (d.misfit a);
  unasked = λ n. is-known (are_known o) known n;
  kept = λ n. ap (λ (p : Picture). uncounted p) (d.kept n);
}

-- ---- a picture in the caller's memory

-- the header was refused
refused-decoded : (extent : Extent) (o : Options) (bytes pixels : List ℕ) (density : Density) (first second : Decoding)
    (old picture : Picture) (count : ℕ) (r : Refusal)
    → are_known_for extent o ≡ true → HeaderDescribed o bytes density first second old picture (Err r)
    → Counted bytes second.source count
    → DecodesInto extent o bytes pixels pixels old (counting picture count) (Err r) second.exceeded
refused-decoded extent o bytes pixels density first second old picture count r known d c = record {
  given = tt;
  part = no-part extent o bytes pixels pixels (counting picture count) r d.whole;
  rows = no-rows _ r d.whole;
  counts = tt;
  header = λ own. own-large r _ own d.other (λ e. header-counted bytes second.source count (d.stands e) c.counts);
  most = λ z. c.most;
  named = header-lacks extent o bytes r d.named;
  passes = header-known ℕ extent o bytes r second.exceeded d.unexceeded d.named d.whole;
  kept = λ n. refl;
  within = tt;
  described = λ p. absurd (d.whole p);
  room = λ e. absurd (d.other e);
  large = λ e. counted-within o bytes picture true (d.large e);
  short = λ size w s. only-room o bytes picture size r w d.named d.large d.other d.whole;
  limited = d.limited;
  known = λ n. is-known (are_known_for extent o) known n;
  wrong = λ a. inr (d.misfit a);
  unasked = λ n. is-known (are_known_for extent o) known n;
  undescribed = λ fault h. ap (λ (p : Picture). uncounted p)
      (d.kept (λ e. ok-err (header_at bytes) _ fault (d.large e).0.reads h));
}

-- there was no room
roomless-decoded : (extent : Extent) (o : Options) (bytes pixels : List ℕ) (density : Density) (first second : Decoding)
    (old picture : Picture) (count : ℕ) (a : Header × Lines) (exceeded : Bool)
    → are_known_for extent o ≡ true → HeaderDescribed o bytes density first second old picture (Ok a)
    → length pixels < bytes_needed extent picture → Counted bytes second.source count
    → DecodesInto extent o bytes pixels pixels old (counting picture count) (Err refusals.NoRoom) exceeded
roomless-decoded extent o bytes pixels density first second old picture count a exceeded known d short c = record {
  given = tt;
  part = tt;
  rows = tt;
  counts = tt;
  header = λ own. header-counted bytes second.source count
      (header-stands o bytes first second d.reads d.source_known d.source_bytes) c.counts;
  most = λ z. c.most;
  named = tt;
  passes = tt;
  kept = λ n. refl;
  within = tt;
  described = λ p. absurd p;
  room = λ e. (counted-within o bytes picture false d.within, short);
  large = λ e. absurd (room-large e);
  short = λ size w s. tt;
  limited = λ size l. absurd (d.limited size l);
  known = λ n. is-known (are_known_for extent o) known n;
  wrong = λ n. absurd n;
  unasked = λ n. is-known (are_known_for extent o) known n;
  undescribed = λ fault h. absurd (ok-err (header_at bytes) _ fault d.within.0.reads h);
}

-- the rows of a part that are complete
rows-read : (extent : Extent) (o : Options) (bytes : List ℕ) (read : Decoding) (header : Found) (h : Header)
    (lines : Lines) → header_at bytes ≡ Ok (header, read.source.bytes) → read.settings ≡ settings_at o read.found
    → read.found ≡ found_at o header
    → option_map (info_by read.settings) read.found.said.frame ≡ Some h.info
    → h.orientation ≡ orientation_by read.found.said.metadata.exif
    → HasLines o h.info h.precision h.orientation lines
    → rows_by extent o bytes
    ≡ part_rows lines.part (rows_rest extent read.settings read.found read.source.bytes)
rows-read extent o bytes read header h lines is settings found info oriented l =
    rows-given extent o bytes read.source.bytes header h.info h.orientation is
    ((λ i. option_map (info_by (settings_of o)) (sym found i).said.frame)
    ∙ (λ i. option_map (info_by (sym settings i)) read.found.said.frame) ∙ info)
    (oriented ∙ ap (λ (f : Found). orientation_by f.said.metadata.exif) found)
    ∙ (λ i. part_rows (part_given o h.info h.orientation)
    (rows_rest extent (settings_at o (sym found i)) (sym found i) read.source.bytes))
    ∙ (λ i. part_rows (sym part i) (rows_rest extent (sym settings i) read.found read.source.bytes))
  where
    part : lines.part ≡ part_given o h.info h.orientation
    part = ap (λ (x : Lines). x.part) l.lines_are

-- the room for what is asked for
needed-is : (extent : Extent) (o : Options) (density : Density) (picture : Picture) (a : Header × Lines)
    → picture ≡ described_picture o.layout a.0.info a.0.precision a.1 (bytes_beside a.0.decoding_bytes) a.0.orientation
    a.0.sampling a.0.planes a.0.transform density 0
    → bytes_needed extent picture ≡ room_of extent a.0 a.1
needed-is extent o density picture a told = ap (λ (p : Picture). bytes_needed extent p) told

-- the lines were decoded
lines-decoded : (extent : Extent) (o : Options) (bytes before after : List ℕ) (density : Density)
    (first second third : Decoding) (old picture : Picture) (count : ℕ) (a : Header × Lines) (outcome : Result ℕ Refusal)
    → are_known_for extent o ≡ true → HeaderDescribed o bytes density first second old picture (Ok a)
    → (needed : ℕ) → bytes_needed extent picture ≤ length before
    → DecodesLines extent needed a.1 outcome second third before after
    → Counted bytes third.source count
    → DecodesInto extent o bytes before after old (counting picture count) outcome third.exceeded
lines-decoded extent o bytes before after density first second third old picture count a outcome known d needed fits l c =
    let facts = d.reads.reads d.source_known in
    let header_is = ap header_at (sym d.source_bytes) ∙ facts.1.1 in
    let told = ap (λ (p : Picture). counting p count) d.told in
    let within = counted-within o bytes picture false d.within in
    record {
      given = reached-ok extent a.1 outcome second third before after _ (l.reaches facts.0)
          (λ b. none-named b.brings.named (λ n. Gives extent o bytes before after n (counting picture count))
          b.brings.fault_is
          (brought-given extent o bytes facts.1.0 a.0.info a.0.precision a.1 None second third before after
          (counting picture count) (bytes_beside a.0.decoding_bytes) a.0.orientation count a.0.sampling
          a.0.planes a.0.transform density header_is d.reads.settings facts.1.2 d.info d.precision d.lines told b));
      part = reached-err extent a.1 outcome second third before after o bytes (counting picture count)
          (l.reaches facts.0)
          (λ e b. brought-given extent o bytes facts.1.0 a.0.info a.0.precision a.1 (Some e) second third before after
          (counting picture count) (bytes_beside a.0.decoding_bytes) a.0.orientation count a.0.sampling
          a.0.planes a.0.transform density header_is d.reads.settings facts.1.2 d.info d.precision d.lines told b);
      rows = subst (λ n. HasRows n outcome) (sym (rows-read extent o bytes second facts.1.0 a.0 a.1 header_is
          d.reads.settings facts.1.2 d.info d.oriented d.lines)) (l.rows facts.0);
      counts = reached-ok extent a.1 outcome second third before after _ (l.reaches facts.0)
          (λ b. image-counted extent o bytes second third facts.1.0 count header_is d.reads.settings facts.1.2 b.ends
          c.counts);
      header = if-err outcome _ _ l.own (λ r own is. absurd (not-own r own is));
      most = λ z. c.most;
      named = rw (gives-rest extent o bytes second.source.bytes facts.1.0 header_is)
          (rw (d.reads.settings, facts.1.2) at (l.named facts.0));
      passes = rw (exceeds-given extent o bytes second.source.bytes facts.1.0 header_is)
          (rw (d.reads.settings, facts.1.2) at (l.exceeded facts.0));
      kept = l.kept;
      within = always outcome _ within;
      described = if-err outcome _ _ l.own (λ r own is. within);
      room = if-err outcome _ _ l.own (λ r own is. absurd (reading-room r own is));
      large = if-err outcome _ _ l.own (λ r own is. absurd (reading-large r own is));
      short = λ size w s.
          let same = described-same o bytes size picture w.0 d.within.0 in
          let long : bytes_needed extent size ≡ bytes_needed extent picture =
          ap (λ (p : Picture). bytes_needed extent p) same in
          absurd (omega (arith, long, s, fits));
      limited = λ size e. absurd (d.limited size e);
      known = λ n. is-known (are_known_for extent o) known n;
      wrong = if-err outcome _ _ l.own (λ r own is. absurd (reading-argument r own is));
      unasked = λ n. is-known (are_known_for extent o) known n;
      undescribed = λ fault h. absurd (ok-err (header_at bytes) _ fault d.within.0.reads h);
    }

described-decoded : (extent : Extent) (o : Options) (bytes before after : List ℕ) (density : Density)
    (first second third : Decoding) (old picture : Picture) (count : ℕ) (a : Header × Lines) (outcome : Result ℕ Refusal)
    → are_known_for extent o ≡ true → HeaderDescribed o bytes density first second old picture (Ok a)
    → LacksRoom (room_of extent a.0 a.1) outcome second third before after
    ⊎ DecodesLines extent (room_of extent a.0 a.1) a.1 outcome second third before after
    → Counted bytes third.source count
    → DecodesInto extent o bytes before after old (counting picture count) outcome third.exceeded
described-decoded extent o bytes before after density first second third old picture count a outcome known d (inl l) c =
    let needed = needed-is extent o density picture a d.told in
    subst (λ (r : Result ℕ Refusal). DecodesInto extent o bytes before after old (counting picture count) r third.exceeded)
    (sym l.refused)
    (subst (λ (pixels : List ℕ). DecodesInto extent o bytes before pixels old (counting picture count) (Err refusals.NoRoom)
    third.exceeded)
    (sym l.unwritten)
    (roomless-decoded extent o bytes before density first second old picture count a third.exceeded known d
    (subst (λ (n : ℕ). length before < n) (sym needed) l.short)
    (subst (λ (x : Decoding). Counted bytes x.source count) l.unread c)))
described-decoded extent o bytes before after density first second third old picture count a outcome known d (inr l) c =
    let needed = needed-is extent o density picture a d.told in
    lines-decoded extent o bytes before after density first second third old picture count a outcome known d
    (room_of extent a.0 a.1) (subst (λ (n : ℕ). n ≤ length before) (sym needed) l.fits) l c

pub stream-decoded : (extent : Extent) (o : Options) (bytes before after : List ℕ) (density : Density)
    (first second third : Decoding) (old picture : Picture) (count : ℕ) (r : Result (Header × Lines) Refusal)
    (outcome : Result ℕ Refusal)
    → are_known_for extent o ≡ true → HeaderDescribed o bytes density first second old picture r
    → Continues extent r outcome second third before after → Counted bytes third.source count
    → DecodesInto extent o bytes before after old (counting picture count) outcome third.exceeded
stream-decoded extent o bytes before after density first second third old picture count (Ok a) outcome known d l c =
    described-decoded extent o bytes before after density first second third old picture count a outcome known d l c
stream-decoded extent o bytes before after density first second third old picture count (Err r) outcome known d l c =
    subst (λ (x : Result ℕ Refusal). DecodesInto extent o bytes before after old (counting picture count) x third.exceeded)
    (sym l.0)
    (subst (λ (pixels : List ℕ). DecodesInto extent o bytes before pixels old (counting picture count) (Err r) third.exceeded)
    (sym l.2)
    (subst (λ (x : Decoding). DecodesInto extent o bytes before before old (counting picture count) (Err r) x.exceeded)
    (sym l.1)
    (refused-decoded extent o bytes before density first second old picture count r known d
    (subst (λ (x : Decoding). Counted bytes x.source count) l.1 c))))
