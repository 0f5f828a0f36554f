-- Application data by their parameters: what is read of them, and which data they are.
use Rattle.std.proofs.Common.{rules, ◌≡◌, ℕ, zero, suc, ◌+◌, ◌≤◌, ◌<◌, Bool, true, false, List, [], ◌∷◌, ◌++◌}
use Rattle.std.proofs.Common.{length, take, drop, get_or, Option, None, Some, Ok, refl, sym, ap, ap₂, ◌∙◌, arith}
use Rattle.std.proofs.Common.{eqb, ltb, ◌||◌, cond, ◌&&◌, take-append-drop, length-drop, length-take}
use Rattle.std.proofs.lemmas.Bool.{lt-ltb, and_parts, eqb-true, ltb-true, false≢true}
use Rattle.std.proofs.lemmas.Bool.Decides.{Decides-eqb, nat_tests}
use Rattle.std.proofs.lemmas.List.{drop_more, drop-drop}
use Rattle.std.proofs.lemmas.Slice.Eq.{starts_is}
use Rattle.std.proofs.lemmas.Grind.{common_steps}
use Rattle.std.specs.Prelude.{is_some}
use Rattle.jpeg_segments.specs.Application.{Application, application_by, begins_with, chunk_of, adobe_name}
use Rattle.jpeg_segments.specs.Application.{transform_by, app_at, jfif_name, avi1_name, exif_name, xmp_name}
use Rattle.jpeg_segments.specs.Application.{icc_name, photoshop_name}
use Rattle.jpeg_segments.specs.WrittenSegments.{ApplicationData, OfJfif, OfAvi1, OfExif, OfXmp, OfIcc, OfPhotoshop}
use Rattle.jpeg_segments.specs.WrittenSegments.{OfAdobe, OfOther, application_parts, IsApplicationData, is_known}
use Rattle.jpeg_segments.specs.WrittenSegments.{transform_byte, with_length}
use Rattle.jpeg_segments.specs.declared.application.AdobeColorTransform.{AdobeColorTransform}
use Rattle.jpeg_segments.specs.declared.application.AdobeColorTransform.TheVariants as transforms
use Rattle.jpeg_segments.proofs.Codecs.{AreBytes}
use Rattle.jpeg_segments.proofs.OtherSegments.{Names, app, is_adobe, said_by}
use Rattle.jpeg_bits.proofs.PieceWalks.{by_bool}

-- ---- what is read of them

transform-read : (t : AdobeColorTransform) → transform_by (transform_byte t) ≡ Some t
transform-read t = grind arith

-- other data are not Adobe's, and say nothing
record IsUnknown (number : ℕ) (bytes : List ℕ) : Type 0 where
  other : is_adobe number bytes ≡ false
  says : application_by number bytes ≡ None

none-by : (p q r s t k j l m n o : Bool) (a b c d e f : Application)
    → ((p && (k || j)) || ((q && (l || m)) || ((r && n) || ((s && o) || t)))) ≡ false
    → cond (p && k) (Some a) (cond (p && j) (Some b) (cond (q && l) (Some c) (cond (q && m) (Some d)
    (cond (r && n) (Some e) (cond (s && o) (Some f) None))))) ≡ None
none-by p q r s t k j l m n o a b c d e f h = grind arith

unknown : (number : ℕ) (bytes : List ℕ) → is_known number bytes ≡ false → IsUnknown number bytes
unfolding application_by
unknown number bytes none = record {
  other = grind (arith, common_steps);
  says = none-by (eqb number 0) (eqb number 1) (eqb number 2) (eqb number 13) (is_adobe number bytes)
      (begins_with bytes jfif_name) (begins_with bytes avi1_name) (begins_with bytes exif_name)
      (begins_with bytes xmp_name) (ltb 14 (length bytes) && begins_with bytes icc_name)
      (begins_with bytes photoshop_name) _ _ _ _ _ _ none;
}

-- what data by their parameters say, as a reader finds it
record IsSaid (d : ApplicationData) : Type 0 where
  named : Names (application_parts d).0 (application_parts d).1
  says : said_by (application_parts d).0 (application_parts d).1 ≡ (application_parts d).2

is-said : (d : ApplicationData) → IsApplicationData d → IsSaid d
unfolding application_by
is-said (OfJfif more) is = record { named = λ e. absurd (let n : ⊥ = cc in n); says = refl }
is-said (OfAvi1 more) is = record { named = λ e. absurd (let n : ⊥ = cc in n); says = refl }
is-said (OfExif bytes) is = record { named = λ e. absurd (let n : ⊥ = cc in n); says = refl }
is-said (OfXmp bytes) is = record { named = λ e. absurd (let n : ⊥ = cc in n); says = refl }
is-said (OfPhotoshop bytes) is = record { named = λ e. absurd (let n : ⊥ = cc in n); says = refl }
is-said (OfIcc chunk) is = search (rules, lt-ltb)
is-said (OfAdobe [] t more) is = absurd (let n : ⊥ = cc in n)
is-said (OfAdobe (a ∷ []) t more) is = absurd (let n : ⊥ = cc in n)
is-said (OfAdobe (a ∷ b ∷ []) t more) is = absurd (let n : ⊥ = cc in n)
is-said (OfAdobe (a ∷ b ∷ c ∷ []) t more) is = absurd (let n : ⊥ = cc in n)
is-said (OfAdobe (a ∷ b ∷ c ∷ d ∷ []) t more) is = absurd (let n : ⊥ = cc in n)
is-said (OfAdobe (a ∷ b ∷ c ∷ d ∷ e ∷ f ∷ flags) t more) is = absurd (omega (arith, is))
is-said (OfAdobe (a ∷ b ∷ c ∷ d ∷ e ∷ []) t more) is = search (rules, transform-read, lt-ltb)
is-said (OfOther number bytes) is = search (rules, unknown, false≢true)

pub app-read : (d : ApplicationData) (rest : List ℕ) → IsApplicationData d
    → app_at (application_parts d).0 (with_length (application_parts d).1 ++ rest) ≡ Ok ((application_parts d).2, rest)
app-read d rest is =
    let said = is-said d is in
    (app (application_parts d).0).reads (application_parts d).1 rest said.named
    ∙ ap (λ (x : Option Application). Ok (x, rest)) said.says

-- ---- which data they are

-- the data with this number and these bytes
pub record IsOf (number : ℕ) (bytes : List ℕ) : Type 0 where
  pub value : ApplicationData
  pub valid : IsApplicationData value
  pub numbered : (application_parts value).0 ≡ number
  pub written : (application_parts value).1 ≡ bytes

-- what a payload goes on with after its name
named-as : (bytes name : List ℕ) → begins_with bytes name ≡ true → name ++ drop (length name) bytes ≡ bytes
named-as bytes name h = sym ((starts_is Decides-eqb bytes name (begins_with bytes name) refl).0 h)

-- the bytes from one on are that one and those after it
next-byte : (bytes : List ℕ) (n : ℕ) → n < length bytes → get_or bytes n 0 ∷ drop (n + 1) bytes ≡ drop n bytes
next-byte bytes n h = sym (drop_more bytes n 0 h)

-- the transform that a byte names
transform-of : (n : ℕ) → is_some (transform_by n) ≡ true → (t : AdobeColorTransform) × (transform_byte t ≡ n)
transform-of zero h = (transforms.Unknown, refl)
transform-of (suc zero) h = (transforms.YCbCr, refl)
transform-of (suc (suc zero)) h = (transforms.YCCK, refl)
transform-of (suc (suc (suc n))) h = absurd (false≢true h)

icc-written : (bytes : List ℕ) → 14 < length bytes → begins_with bytes icc_name ≡ true
    → icc_name ++ get_or bytes 12 0 ∷ get_or bytes 13 0 ∷ drop 14 bytes ≡ bytes
icc-written bytes long f = grind (arith, common_steps, next-byte, named-as, icc_name)

adobe-written : (bytes : List ℕ) → 11 < length bytes → begins_with bytes adobe_name ≡ true
    → adobe_name ++ (take 5 (drop 6 bytes) ++ get_or bytes 11 0 ∷ drop 12 bytes) ≡ bytes
adobe-written bytes long f = search (rules, next-byte, drop-drop, take-append-drop, named-as)

of-number : (number : ℕ) (bytes : List ℕ) → number ≤ 15 → Names number bytes → IsOf number bytes
of-number number bytes few named =
    by_bool (eqb number 0 && begins_with bytes jfif_name)
    (as-named 0 jfif_name (OfJfif (drop 5 bytes)) tt refl refl) (λ a.
    by_bool (eqb number 0 && begins_with bytes avi1_name)
    (as-named 0 avi1_name (OfAvi1 (drop 5 bytes)) tt refl refl) (λ b.
    by_bool (eqb number 1 && begins_with bytes exif_name)
    (as-named 1 exif_name (OfExif (drop 6 bytes)) tt refl refl) (λ c.
    by_bool (eqb number 1 && begins_with bytes xmp_name)
    (as-named 1 xmp_name (OfXmp (drop 29 bytes)) tt refl refl) (λ d.
    by_bool (eqb number 13 && begins_with bytes photoshop_name)
    (as-named 13 photoshop_name (OfPhotoshop (drop 14 bytes)) tt refl refl) (λ e.
    by_bool (eqb number 2 && (ltb 14 (length bytes) && begins_with bytes icc_name)) of-icc (λ f.
    by_bool (is_adobe number bytes) of-adobe (λ g. record {
      value = OfOther number bytes;
      valid = (few, grind (arith, common_steps, nat_tests));
      numbered = refl;
      written = refl;
    })))))))
  where
    as-named : (n : ℕ) (name : List ℕ) (d : ApplicationData) → IsApplicationData d
        → (application_parts d).0 ≡ n → (application_parts d).1 ≡ name ++ drop (length name) bytes
        → (eqb number n && begins_with bytes name) ≡ true → IsOf number bytes
    as-named n name d valid numbered written h =
        let p = and_parts _ _ h in
        record {
          value = d;
          valid = valid;
          numbered = numbered ∙ sym (eqb-true number n p.0);
          written = written ∙ named-as bytes name p.1;
        }

    of-icc : (eqb number 2 && (ltb 14 (length bytes) && begins_with bytes icc_name)) ≡ true
        → IsOf number bytes
    of-icc h =
        let p = and_parts _ _ h in
        let q = and_parts _ _ p.1 in
        let long : 14 < length bytes = ltb-true 14 (length bytes) q.0 in
        record {
          value = OfIcc (chunk_of bytes);
          valid = omega (arith, long, length-drop 14 bytes);
          numbered = sym (eqb-true number 2 p.0);
          written = icc-written bytes long q.1;
        }

    of-adobe : is_adobe number bytes ≡ true → IsOf number bytes
    of-adobe h =
        let p = and_parts _ _ h in
        let q = and_parts _ _ p.1 in
        let long : 11 < length bytes = ltb-true 11 (length bytes) q.0 in
        let t = transform-of (get_or bytes 11 0) (named h) in
        record {
          value = OfAdobe (take 5 (drop 6 bytes)) t.0 (drop 12 bytes);
          valid = omega (arith, long, length-drop 6 bytes, length-take 5 (drop 6 bytes));
          numbered = sym (eqb-true number 14 p.0);
          written = ap (λ (n : ℕ). adobe_name ++ (take 5 (drop 6 bytes) ++ n ∷ drop 12 bytes)) t.1
              ∙ adobe-written bytes long q.1;
        }

pub app-only : (number : ℕ) (bytes rest : List ℕ) (said : Option Application) → number ≤ 15
    → AreBytes bytes → app_at number bytes ≡ Ok (said, rest)
    → (d : ApplicationData) × IsApplicationData d × ((application_parts d).0 ≡ number)
    × (said ≡ (application_parts d).2) × (bytes ≡ with_length (application_parts d).1 ++ rest)
app-only number bytes rest said few all e =
    let s = (app number).only bytes rest said all e in
    let d = of-number number s.value few s.valid in (
      d.value,
      d.valid,
      d.numbered,
      s.made ∙ sym (ap₂ said_by d.numbered d.written) ∙ (is-said d.value d.valid).says,
      s.is ∙ ap (λ (l : List ℕ). with_length l ++ rest) (sym d.written),
    )

-- there are sixteen markers APPn
pub few-numbers : (d : ApplicationData) → IsApplicationData d → (application_parts d).0 ≤ 15
few-numbers d is = grind arith
