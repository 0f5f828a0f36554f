-- Restart intervals and application data: exactly what is written is read.
use Rattle.std.proofs.Common.{◌≡◌, ℕ, ◌≤◌, ◌+◌, ◌-◌, Bool, true, false, cond, List, ◌++◌, ◌&&◌, length, take, drop}
use Rattle.std.proofs.Common.{get_or, length-take, length-drop, length-append, take-append-drop, Option, Some, None, Ok}
use Rattle.std.proofs.Common.{refl, sym, ap, ◌∙◌, arith, eqb, leb, ltb, rules}
use Rattle.std.proofs.lemmas.Bool.{lt-ltb, eqb-true, false≢true}
use Rattle.std.proofs.lemmas.Bool.Decides.{nat_tests}
use Rattle.std.proofs.lemmas.List.{take-append-le, take_all, get_or_append_left}
use Rattle.std.specs.Prelude.{is_some, option_map}
use Rattle.jpeg_bits.specs.Reading.{Malformed, ◌>>=◌}
use Rattle.jpeg_segments.specs.declared.application.AdobeColorTransform.{AdobeColorTransform}
use Rattle.jpeg_segments.specs.Application.{Application, Adobe, adobe_at, adobe_name, app_at, application_by}
use Rattle.jpeg_segments.specs.Application.{begins_with, dri_at, passed_over, transform_by}
use Rattle.jpeg_segments.specs.Checks.{needed}
use Rattle.jpeg_segments.specs.WrittenSegments.{u16_bytes, with_length}
use Rattle.jpeg_segments.proofs.ApplicationLemmas.{read-skipped}
use Rattle.jpeg_segments.proofs.Codecs.{Codec, bind, ends, check-if, choose, done, remap, namely, same, refused, u16}
use Rattle.jpeg_segments.proofs.Codecs.{many, segment, length-field}

pub dri : Codec dri_at (λ (n : ℕ). n) (λ (n : ℕ). with_length (u16_bytes n)) (λ (n : ℕ). Unit {0})
unfolding dri_at
dri = remap (bind _ length-field (λ (left : ℕ). check-if (eqb left 2) Malformed u16))
    (λ x is. namely x.1 tt refl
    (ap (λ (k : ℕ). u16_bytes (k + 2) ++ u16_bytes x.1) (eqb-true x.0 2 is.1.0)))
    (λ n is. namely (2, n) (tt, (refl, tt)) refl refl)

pub dri-read : (n : ℕ) (rest : List ℕ) → dri_at (with_length (u16_bytes n) ++ rest) ≡ Ok (n, rest)
dri-read n rest = dri.reads n rest tt

-- ---- application data

-- bytes that are passed over
passed : (left : ℕ) (said : Option Application) → Codec (passed_over left said) (λ (xs : List ℕ). said)
    (λ (xs : List ℕ). xs) (λ (xs : List ℕ). length xs ≡ left)
passed left said = remap (same (passed_over left said) (λ bytes. sym (read-skipped left said bytes))
    (ends _ (many left) (λ (xs : List ℕ). done said)))
    (λ xs is. namely xs is.0 refl refl)
    (λ xs is. namely xs (is, tt) refl refl)

-- bytes after a transform
transformed : (left : ℕ) (transform : Option AdobeColorTransform) → Codec (λ (bytes : List ℕ).
    needed transform >>= λ (t : AdobeColorTransform). passed_over left (Some (Adobe t)) bytes)
    (λ (xs : List ℕ). option_map Adobe transform)
    (λ (xs : List ℕ). xs) (λ (xs : List ℕ). (is_some transform ≡ true) × (length xs ≡ left))
transformed left None = refused Malformed (λ xs is. false≢true is.0)
transformed left (Some t) = remap (passed left (Some (Adobe t)))
    (λ xs is. namely xs (refl, is) refl refl)
    (λ xs is. namely xs is.1 refl refl)

-- the transform in the data of APP14
abbrev pub transform_in : List ℕ → Option AdobeColorTransform
transform_in payload = transform_by (get_or payload 11 0)

-- what data say where they are Adobe's or not, and the rule that they keep
abbrev pub says : Bool → ℕ → List ℕ → Option Application
says b number payload = cond b (option_map Adobe (transform_in payload)) (application_by number payload)

abbrev pub names : Bool → List ℕ → Type 0
names b payload = b ≡ true → is_some (transform_in payload) ≡ true

-- whether the data of an APPn segment are Adobe's
abbrev pub is_adobe : ℕ → List ℕ → Bool
is_adobe number payload = eqb number 14 && (ltb 11 (length payload) && begins_with payload adobe_name)

abbrev pub said_by : ℕ → List ℕ → Option Application
said_by number payload = says (is_adobe number payload) number payload

abbrev pub Names : ℕ → List ℕ → Type 0
Names number payload = names (is_adobe number payload) payload

-- the first twelve bytes, and the others
halves : (left : ℕ) → Codec (adobe_at left) (λ (x : List ℕ × List ℕ). says (begins_with x.0 adobe_name) 14 x.0)
    (λ (x : List ℕ × List ℕ). x.0 ++ x.1)
    (λ (x : List ℕ × List ℕ). (length x.0 ≡ 12) × (names (begins_with x.0 adobe_name) x.0 × (length x.1 ≡ left - 12)))
unfolding adobe_at application_by
halves left = bind _ (many 12) (λ (head : List ℕ). choose (begins_with head adobe_name)
    (λ t. remap (transformed (left - 12) (transform_in head))
    (λ xs is. namely xs ((λ q. is.0), is.1) (rw t refl) refl)
    (λ xs is. namely xs (is.0 t, is.1) (rw t refl) refl))
    (λ f. remap (passed (left - 12) None)
    (λ xs is. namely xs ((λ q. absurd (false≢true (sym f ∙ q))), is) (rw f refl) refl)
    (λ xs is. namely xs is.1 (rw f refl) refl)))

-- what begins a payload of at least twelve bytes is its first twelve
record Begun (head tail : List ℕ) : Type 0 where
  test : is_adobe 14 (head ++ tail) ≡ begins_with head adobe_name
  twelfth : get_or (head ++ tail) 11 0 ≡ get_or head 11 0

begun : (head tail : List ℕ) → length head ≡ 12 → Begun head tail
begun head tail h = search (rules, lt-ltb, length-append, take-append-le, take_all, get_or_append_left)

-- a payload of this many bytes, of which Adobe's names a transform
abbrev IsPayload : ℕ → ℕ → List ℕ → Type 0
IsPayload number left payload = Names number payload × (length payload ≡ left)

adobe : (left : ℕ) → 12 ≤ left
    → Codec (adobe_at left) (said_by 14) (λ (payload : List ℕ). payload) (IsPayload 14 left)
unfolding application_by
adobe left enough = remap (halves left)
    (λ x is.
    let b = begun x.0 x.1 is.0 in
    namely (x.0 ++ x.1) (rw (b.test, b.twelfth) is.1.0, omega (arith, enough, is.0, is.1.1, length-append x.0 x.1))
    (rw (b.test, b.twelfth) refl) refl)
    (λ payload is.
    let parts : take 12 payload ++ drop 12 payload ≡ payload = take-append-drop 12 payload in
    let head : length (take 12 payload) ≡ 12 = omega (arith, enough, is.1, length-take 12 payload) in
    let b = begun (take 12 payload) (drop 12 payload) head in
    let test : is_adobe 14 payload ≡ begins_with (take 12 payload) adobe_name =
    sym (ap (λ (l : List ℕ). is_adobe 14 l) parts) ∙ b.test in
    let twelfth : get_or payload 11 0 ≡ get_or (take 12 payload) 11 0 =
    sym (ap (λ (l : List ℕ). get_or l 11 0) parts) ∙ b.twelfth in
    namely (take 12 payload, drop 12 payload)
    (head, (rw (test, twelfth) at is.0, omega (arith, is.1, length-drop 12 payload)))
    (rw (test, twelfth) refl) (sym parts))

other : (number left : ℕ) (payload : List ℕ) → (eqb number 14 && leb 12 left) ≡ false → length payload ≡ left
    → is_adobe number payload ≡ false
other number left payload f e = grind (arith, nat_tests)

pub app : (number : ℕ) → Codec (app_at number) (said_by number) with_length (Names number)
unfolding app_at
app number = segment _ (λ (left : ℕ). choose (eqb number 14 && leb 12 left)
    (λ t.
    let e : number ≡ 14 = grind (arith, nat_tests) in
    let enough : 12 ≤ left = grind (arith, nat_tests) in
    rw e (adobe left enough))
    (λ f. remap (ends _ (many left) (λ (xs : List ℕ). done (application_by number xs)))
    (λ xs is.
    let none = other number left xs f is.0 in
    namely xs ((λ q. absurd (false≢true (sym none ∙ q))), is.0) (rw none refl) refl)
    (λ xs is. namely xs (is.1, tt) (rw (other number left xs f is.1) refl) refl)))
