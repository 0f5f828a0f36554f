-- What is read of a stream whose header was read: the whole of its picture, a part of it, or its planes, and its lines.
use Rattle.std.proofs.Common.{arith, ◌≡◌, ◌⊎◌, ◌∙◌, ℕ, List, Option, Some, None, Result, Ok, Err, Bool, true, false}
use Rattle.std.proofs.Common.{ap, refl, subst, sym}
use Rattle.std.specs.Prelude.{IfErr, IfOk, OnOk, option_map}
use Rattle.std.proofs.lemmas.Grind.{common_steps}
use Rattle.jpeg_bits.specs.Reading.{◌>>=◌, Answers, Fault, IsGivenUp, Names, Outcome}
use Rattle.jpeg_bits.specs.declared.error.Error.{Error}
use Rattle.jpeg_decoder.specs.Reaching.{NamesFault}
use Rattle.jpeg_decoder.specs.Shows.{Shows, ShowsJust}
use Rattle.jpeg_meaning.proofs.Written.ReadTurns.{then-ok}
use Rattle.jpeg_meaning.specs.Found.{Found, Said}
use Rattle.jpeg_meaning.specs.Pixels.{info_by}
use Rattle.jpeg_meaning.specs.Shown.{Shown, shown_ahead, shown_rest_within}
use Rattle.jpeg_meaning.specs.States.{Decoding, IfRefused, IsReading}
use Rattle.jpeg_meaning.specs.Stream.{header_at, rest_by, told_of}
use Rattle.jpeg_meaning.specs.declared.images.ImageInfo.{ImageInfo}
use Rattle.jpeg_meaning.specs.declared.progress.Progress.{Progress}
use Rattle.jpeg_meaning.specs.declared.progress.Progress.TheVariants.{HeaderRead}
use Rattle.zaxbriar_calls.proofs.Cropped.{no-part-rows}
use Rattle.zaxbriar_calls.proofs.Told.{arranged-of}
use Rattle.zaxbriar_calls.specs.Faults.{IsFault, IsPart, StandsFor}
use Rattle.zaxbriar_calls.specs.Given.{Brings, BringsLines, EndsImage, Gives, GivesPart, HasRows, Reaches, faultless}
use Rattle.zaxbriar_calls.specs.Given.{as_picture, given_by, given_rest, outcome_of, part_found, rows_by, rows_rest}
use Rattle.zaxbriar_calls.specs.Crops.{part_rows}
use Rattle.zaxbriar_calls.specs.Lines.{HasLines, described_picture, part_given}
use Rattle.zaxbriar_calls.specs.Meanings.{found_at, orientation_by, planes_rest, settings_at, settings_of}
use Rattle.zaxbriar_calls.specs.Passes.{is_whole}
use Rattle.zaxbriar_calls.specs.declared.answers.Refusal.{Refusal}
use Rattle.zaxbriar_calls.specs.declared.answers.Refusal.TheVariants as refusals
use Rattle.zaxbriar_calls.specs.declared.crops.StoredPart.{StoredPart}
use Rattle.zaxbriar_calls.specs.declared.density.Density.{Density}
use Rattle.zaxbriar_calls.specs.declared.extents.Extent.{Extent}
use Rattle.zaxbriar_calls.specs.declared.extents.Extent.TheVariants.{Whole, Partial, Planes}
use Rattle.zaxbriar_calls.specs.declared.lines.Lines.{Lines}
use Rattle.zaxbriar_calls.specs.declared.options.Options.{Options}
use Rattle.zaxbriar_calls.specs.declared.picture.Picture.{Picture}
use Rattle.zaxbriar_calls.specs.declared.planes.PlaneSizes.{PlaneSizes}

-- ---- why a decoder brings nothing

-- an error of a reader that hasn't failed names why nothing is shown
refused-known : (e : Error) (failed : Bool) (expected : Result Shown Fault) → failed ≡ false → (IsGivenUp e failed → ⊥)
    → IfRefused e ((failed ≡ true) ⊎ IsGivenUp e failed) → Names e expected
refused-known e failed expected n g h = grind (arith, common_steps)

lacks : (known failed : Bool) (e : Error) (r : Refusal) (expected : Result Shown Fault) → failed ≡ false
    → StandsFor e failed r → (known ≡ true → Names e expected)
    → (known ≡ false → IfRefused e ((failed ≡ true) ⊎ IsGivenUp e failed)) → IsFault expected r
lacks true failed e (refusals.Stream x) expected n s k g = subst (λ (x : Error). Names x expected) (sym s.0) (k refl)
lacks false failed e (refusals.Stream x) expected n s k g =
    subst (λ (x : Error). Names x expected) (sym s.0) (refused-known e failed expected n s.1 (g refl))
lacks known failed e (refusals.Part x rows) expected n s k g = tt
lacks known failed e refusals.Reader expected n s k g = tt
lacks known failed e (refusals.Argument t) expected n s k g = tt
lacks known failed e refusals.NoRoom expected n s k g = tt
lacks known failed e refusals.TooLarge expected n s k g = tt

pub lacks-rest : {X : Type 0} (bytes_of : X → List ℕ) (fault_of : X → Option Error) (old new : Decoding) (e : Error)
    (r : Refusal) → old.stage ≡ HeaderRead → new.source.failed ≡ false → StandsFor e new.source.failed r
    → Shows {X = X} bytes_of fault_of old (Err e) new
    → (IsReading old.stage → old.source.known ≡ true → new.source.known ≡ false
    → IfRefused e ((new.source.failed ≡ true) ⊎ IsGivenUp e new.source.failed))
    → old.source.known ≡ true → IsFault (shown_rest_within old.settings.max_blocks old.settings old.found old.source.bytes) r
lacks-rest {X = X} bytes_of fault_of old new e r s f for h given known =
    lacks new.source.known new.source.failed e r (shown_rest_within old.settings.max_blocks old.settings old.found old.source.bytes) f for
    (λ k. (subst (λ (t : Progress). IsReading t → ShowsJust {X = X} (shown_ahead t old.settings old.found) bytes_of
    fault_of old.source (Err e) new.source (told_of new.found.said)) s h.shown tt) known k)
    (λ k. (subst (λ (t : Progress). IsReading t → old.source.known ≡ true → new.source.known ≡ false
    → IfRefused e ((new.source.failed ≡ true) ⊎ IsGivenUp e new.source.failed)) s given tt) known k)

-- ---- the whole of a picture

-- what was read is what is given
whole-brings : (bytes : List ℕ) (fault : Option Error) (old new : Decoding)
    → Answers {X = Unit {0}} (λ u. (told_of new.found.said, bytes)) (rest_by old.settings old.found) old.source (Ok tt)
    new.source
    → fault ≡ None → old.source.known ≡ true
    → Brings (given_rest Whole old.settings old.found old.source.bytes) bytes fault (told_of new.found.said)
whole-brings bytes fault old new reads none known = record {
  named = None;
  shown = then-ok (rest_by old.settings old.found old.source.bytes) _ ((told_of new.found.said, bytes), new.source.bytes) _
      (reads.1 known).1 refl;
  fault_is = subst (λ (f : Option Error). NamesFault f None) (sym none) tt;
  memory = λ some. no-fault (sym none ∙ some);
}
  where
    no-fault : {e : Error} → None ≡ Some e → ⊥
    no-fault h = cc

pub lines-brought : {X : Type 0} (bytes_of : X → List ℕ) (fault_of : X → Option Error) (r : Result X Refusal)
    (old new : Decoding)
    → IfOk r (λ x. Answers {X = Unit {0}} (λ u. (told_of new.found.said, bytes_of x)) (rest_by old.settings old.found)
    old.source (Ok tt) new.source)
    → IfOk r (λ x. fault_of x ≡ None) → old.source.known ≡ true
    → IfOk r (λ x. Brings (given_rest Whole old.settings old.found old.source.bytes) (bytes_of x) (fault_of x)
    (told_of new.found.said))
lines-brought bytes_of fault_of (Ok x) old new reads none known =
    whole-brings (bytes_of x) (fault_of x) old new reads none known
lines-brought bytes_of fault_of (Err r) old new reads none known = tt

whole-ends : (bytes : List ℕ) (old new : Decoding)
    → Answers {X = Unit {0}} (λ u. (told_of new.found.said, bytes)) (rest_by old.settings old.found) old.source (Ok tt)
    new.source
    → old.source.known ≡ true → EndsImage Whole old new
whole-ends bytes old new reads known = record {
  known = (reads.1 known).0;
  value = (told_of new.found.said, bytes);
  reads = (reads.1 known).1;
}

pub lines-end : {X : Type 0} (bytes_of : X → List ℕ) (r : Result X Refusal) (old new : Decoding)
    → IfOk r (λ x. Answers {X = Unit {0}} (λ u. (told_of new.found.said, bytes_of x)) (rest_by old.settings old.found)
    old.source (Ok tt) new.source)
    → old.source.known ≡ true → OnOk r (EndsImage Whole old new)
lines-end bytes_of (Ok x) old new reads known = whole-ends (bytes_of x) old new reads known
lines-end bytes_of (Err r) old new reads known = tt

whole-refused : {Y : Type 0} (e : Error) (read : Outcome Y) (shown : Y → Shown) → Names e read
    → Names e (read >>= (λ m. Ok (shown m.0)))
whole-refused e (Ok m) shown h = grind (arith, common_steps)
whole-refused e (Err f) shown h = grind (arith, common_steps)

-- the fault is the same
pub whole-lacks : {Y : Type 0} (r : Refusal) (read : Outcome Y) (shown : Y → Shown) → IsFault read r
    → IsFault (read >>= (λ m. Ok (shown m.0))) r
whole-lacks (refusals.Stream e) read shown h = whole-refused e read shown h
whole-lacks (refusals.Part e rows) read shown h = tt
whole-lacks refusals.Reader read shown h = tt
whole-lacks (refusals.Argument t) read shown h = tt
whole-lacks refusals.NoRoom read shown h = tt
whole-lacks refusals.TooLarge read shown h = tt

pub lines-refused : {X : Type 0} (r : Result X Refusal) (old : Decoding)
    → IfErr r (IsFault (rest_by old.settings old.found old.source.bytes))
    → IfErr r (IsFault (given_rest Whole old.settings old.found old.source.bytes))
lines-refused (Ok x) old h = tt
lines-refused (Err r) old h = whole-lacks r (rest_by old.settings old.found old.source.bytes) (λ m. faultless m) h

-- ---- what a stream gives

pub given-refused : (extent : Extent) (o : Options) (bytes : List ℕ) (f : Fault) → header_at bytes ≡ Err f
    → given_by extent o bytes ≡ Err f
unfolding given_by
given-refused extent o bytes f h = rw h refl

given-names : (extent : Extent) (o : Options) (bytes : List ℕ) (e : Error) → Names e (header_at bytes)
    → Names e (given_by extent o bytes)
given-names extent o bytes x h = grind (arith, given-refused)

pub header-lacks : (extent : Extent) (o : Options) (bytes : List ℕ) (r : Refusal) → IsFault (header_at bytes) r
    → IsFault (given_by extent o bytes) r
header-lacks extent o bytes (refusals.Stream e) h = given-names extent o bytes e h
header-lacks extent o bytes (refusals.Part e rows) h = tt
header-lacks extent o bytes refusals.Reader h = tt
header-lacks extent o bytes (refusals.Argument text) h = tt
header-lacks extent o bytes refusals.NoRoom h = tt
header-lacks extent o bytes refusals.TooLarge h = tt

pub gives-rest : (extent : Extent) (o : Options) (bytes rest : List ℕ) (header : Found) → header_at bytes ≡ Ok (header, rest)
    → given_by extent o bytes ≡ given_rest extent (settings_at o (found_at o header)) (found_at o header) rest
unfolding given_by
gives-rest extent o bytes rest header h = then-ok (header_at bytes) _ (header, rest) _ h refl

-- a whole picture has no fault
whole-entire : {Y : Type 0} (read : Outcome Y) (shown : Y → Shown) (s : Shown) → ((m : Y) → (shown m).fault ≡ None)
    → (read >>= (λ m. Ok (shown m.0))) ≡ Ok s → s.fault ≡ None
whole-entire (Ok m) shown s none e = ap (λ (r : Result Shown Fault). fault_in r) (sym e) ∙ none m.0
  where
    fault_in : Result Shown Fault → Option Fault
    fault_in (Ok s) = s.fault
    fault_in (Err f) = None
whole-entire (Err f) shown s none e = absurd cc

read-entire : (extent : Extent) (o : Options) (header : Outcome Found) (s : Shown) → is_whole extent ≡ true
    → (header >>= (λ h. given_rest extent (settings_at o (found_at o h.0)) (found_at o h.0) h.1)) ≡ Ok s
    → s.fault ≡ None
read-entire Whole o (Ok h) s w e =
    whole-entire (rest_by (settings_at o (found_at o h.0)) (found_at o h.0) h.1) (λ m. faultless m) s (λ m. refl) e
read-entire Planes o (Ok h) s w e =
    whole-entire (planes_rest (settings_at o (found_at o h.0)) (found_at o h.0) h.1) (λ m. faultless (as_picture m)) s
    (λ m. refl) e
read-entire Partial o (Ok h) s w e = absurd cc
read-entire extent o (Err f) s w e = absurd cc

pub given-entire : (extent : Extent) (o : Options) (bytes : List ℕ) (s : Shown) → is_whole extent ≡ true
    → given_by extent o bytes ≡ Ok s → s.fault ≡ None
unfolding given_by
given-entire extent o bytes s w e = read-entire extent o (header_at bytes) s w e

-- ---- the lines of it

pub brought-given : (extent : Extent) (o : Options) (bytes : List ℕ) (header : Found) (info : ImageInfo) (precision : ℕ)
    (lines : Lines) (fault : Option Error) (old new : Decoding) (before after : List ℕ) (picture : Picture)
    (decoding orientation stream : ℕ) (sampling : List ℕ) (planes : PlaneSizes) (transform : ℕ) (density : Density)
    → header_at bytes ≡ Ok (header, old.source.bytes) → old.settings ≡ settings_at o old.found
    → old.found ≡ found_at o header
    → option_map (info_by old.settings) old.found.said.frame ≡ Some info
    → option_map (λ f. f.precision) old.found.said.frame ≡ Some precision
    → HasLines o info precision orientation lines
    → picture ≡ described_picture o.layout info precision lines decoding orientation sampling planes transform density
    stream
    → (b : BringsLines extent lines fault old new before after)
    → Gives extent o bytes before after b.brings.named picture
brought-given extent o bytes header info precision lines fault old new before after picture decoding orientation stream
    sampling planes transform density h s f i p l d b = record {
      told = told_of new.found.said;
      samples = b.samples;
      info = info;
      precision = precision;
      are = gives-rest extent o bytes old.source.bytes header h
          ∙ (λ i. given_rest extent (settings_at o (sym f i)) (sym f i) old.source.bytes)
          ∙ (λ i. given_rest extent (sym s i) old.found old.source.bytes) ∙ b.brings.shown;
      info_is = ap (λ f. option_map (info_by (settings_of o)) f) b.frame
          ∙ (λ j. option_map (info_by (sym s j)) old.found.said.frame) ∙ i;
      precision_is = ap (λ f. option_map (λ f. f.precision) f) b.frame ∙ p;
      arranged = arranged-of extent o info precision b.samples before after picture lines decoding orientation stream
          sampling planes transform density l b.pixels d;
    }

pub none-named : (named : Option Fault) (P : Option Fault → Type 0) → NamesFault None named → P named → P None
none-named None P n p = p
none-named (Some f) P n p = absurd n

some-named : (e : Error) (named : Option Fault) (P : Option Fault → Type 0) → NamesFault (Some e) named → P named
    → (fault : Fault) × Names {Y = Unit {0}} e (Err fault) × P (Some fault)
some-named e None P n p = absurd n
some-named e (Some f) P n p = (f, n, p)

-- its lines were brought, with its fault or without one
pub lines-reached : (extent : Extent) (lines : Lines) (rows : ℕ) (fault : Option Error) (r : Result ℕ Refusal)
    (old new : Decoding) (before after : List ℕ) → r ≡ outcome_of rows fault
    → BringsLines extent lines fault old new before after → Reaches extent lines r old new before after
lines-reached extent lines rows None r old new before after is b =
    subst (λ (x : Result ℕ Refusal). Reaches extent lines x old new before after) (sym is) b
lines-reached extent lines rows (Some e) r old new before after is b =
    subst (λ (x : Result ℕ Refusal). Reaches extent lines x old new before after) (sym is) b

-- its rows are counted
pub rows-counted : (complete rows : ℕ) (fault : Option Error) (r : Result ℕ Refusal) → r ≡ outcome_of rows fault
    → rows ≡ complete → HasRows complete r
rows-counted complete rows None r is e = subst (λ (x : Result ℕ Refusal). HasRows complete x) (sym is) e
rows-counted complete rows (Some f) r is e = subst (λ (x : Result ℕ Refusal). HasRows complete x) (sym is) e

-- if it is refused, then it is a part
pub part-outcome : (P : Refusal → Type 0) (rows : ℕ) (fault : Option Error) (r : Result ℕ Refusal)
    → r ≡ outcome_of rows fault → ((e : Error) → P (refusals.Part e rows)) → IfErr r P
part-outcome P rows None r is h = subst (λ (x : Result ℕ Refusal). IfErr x P) (sym is) tt
part-outcome P rows (Some e) r is h = subst (λ (x : Result ℕ Refusal). IfErr x P) (sym is) (h e)

pub reached-ok : (extent : Extent) (lines : Lines) (r : Result ℕ Refusal) (old new : Decoding) (before after : List ℕ)
    (P : Type 0)
    → Reaches extent lines r old new before after → (BringsLines extent lines None old new before after → P) → OnOk r P
reached-ok extent lines (Ok x) old new before after P h f = f h
reached-ok extent lines (Err r) old new before after P h f = tt

pub reached-err : (extent : Extent) (lines : Lines) (r : Result ℕ Refusal) (old new : Decoding) (before after : List ℕ)
    (o : Options) (bytes : List ℕ) (picture : Picture)
    → Reaches extent lines r old new before after
    → ((e : Error) (b : BringsLines extent lines (Some e) old new before after)
    → Gives extent o bytes before after b.brings.named picture)
    → IfErr r (GivesPart extent o bytes before after picture)
reached-err extent lines (Ok x) old new before after o bytes picture h f = tt
reached-err extent lines (Err (refusals.Part e rows)) old new before after o bytes picture h f =
    let s = some-named e h.brings.named (λ n. Gives extent o bytes before after n picture) h.brings.fault_is (f e h) in
    (s.0, s.1, (λ is. h.brings.memory (ap Some is)), s.2)
reached-err extent lines (Err (refusals.Stream e)) old new before after o bytes picture h f = tt
reached-err extent lines (Err refusals.Reader) old new before after o bytes picture h f = tt
reached-err extent lines (Err (refusals.Argument t)) old new before after o bytes picture h f = tt
reached-err extent lines (Err refusals.NoRoom) old new before after o bytes picture h f = tt
reached-err extent lines (Err refusals.TooLarge) old new before after o bytes picture h f = tt

pub no-part : (extent : Extent) (o : Options) (bytes before after : List ℕ) (picture : Picture) (r : Refusal)
    → (IsPart r → ⊥) → GivesPart extent o bytes before after picture r
no-part extent o bytes before after picture r n = grind (arith, common_steps)

-- ---- rows that are complete

-- the part of the picture of a header
part-found : (o : Options) (said : Said) (info : ImageInfo) (orientation : ℕ)
    → option_map (info_by (settings_of o)) said.frame ≡ Some info → orientation ≡ orientation_by said.metadata.exif
    → part_found o said ≡ part_given o info orientation
part-found o said info orientation i e = rw (i, part_found) (ap (λ n. part_given o info n) (sym e))

pub rows-given : (extent : Extent) (o : Options) (bytes rest : List ℕ) (header : Found) (info : ImageInfo)
    (orientation : ℕ) → header_at bytes ≡ Ok (header, rest)
    → option_map (info_by (settings_of o)) (found_at o header).said.frame ≡ Some info
    → orientation ≡ orientation_by (found_at o header).said.metadata.exif
    → rows_by extent o bytes ≡ part_rows (part_given o info orientation)
    (rows_rest extent (settings_at o (found_at o header)) (found_at o header) rest)
unfolding rows_by
rows-given Whole o bytes rest header info orientation h i e = sym (no-part-rows (part_given o info orientation))
rows-given Planes o bytes rest header info orientation h i e = sym (no-part-rows (part_given o info orientation))
rows-given Partial o bytes rest header info orientation h i e =
    rw (h, rows_by) (ap (λ (p : Option StoredPart). part_rows p
    (rows_rest Partial (settings_at o (found_at o header)) (found_at o header) rest))
    (part-found o (found_at o header).said info orientation i e))

pub no-rows : (complete : ℕ) (r : Refusal) → (IsPart r → ⊥) → HasRows complete (Err r)
no-rows complete r n = grind (arith, common_steps)
