-- What stands before some bytes of a stream.
use Rattle.std.proofs.Common.{◌≡◌, ℕ, ◌-◌, List, [], ◌∷◌, ◌++◌, replicate, refl, sym, ap, ◌∙◌, subst, append_assoc}
use Rattle.jpeg_bits.specs.Written.{marker}
use Rattle.jpeg_segments.specs.WrittenSegments.{marker_code, payload_of, with_length}
use Rattle.jpeg_segments.proofs.Codecs.{AreBytes}
use Rattle.jpeg_meaning.specs.Found.{Said}
use Rattle.zaxbriar_strict.specs.Exact.{HasOtherAdobe, WritesSegments}
use Rattle.zaxbriar_strict.specs.Exact.WritesSegments.{more, none}
use Rattle.zaxbriar_strict.proofs.Applications.{IsOtherAdobe}

-- these bytes stand at the end
pub record EndsWith (bytes rest : List ℕ) : Type 0 where
  pub front : List ℕ
  pub parts : bytes ≡ front ++ rest

pub after-marker : (fill code : ℕ) (front rest : List ℕ)
    → marker fill code (front ++ rest) ≡ marker fill code front ++ rest
after-marker fill code front rest =
    ap (λ (l : List ℕ). 255 ∷ l) (sym (append_assoc (replicate fill 255) (code ∷ front) rest))

pub segments-front : (start : Said) (bytes : List ℕ) {said : Said} {at : List ℕ} → WritesSegments start bytes said at
    → EndsWith bytes at
segments-front start bytes none = record { front = []; parts = refl }
segments-front start bytes (more said fill s rest w stands may) =
    let f = segments-front start bytes w in
    let own = marker fill (marker_code s) (with_length (payload_of s)) in
    record {
      front = f.front ++ own;
      parts = f.parts
          ∙ ap (λ (l : List ℕ). f.front ++ l) (after-marker fill (marker_code s) (with_length (payload_of s)) rest)
          ∙ sym (append_assoc f.front own rest);
    }

-- ---- bytes

all-parts : (front rest : List ℕ) → AreBytes (front ++ rest) → AreBytes front × AreBytes rest
all-parts [] rest all = (tt, all)
all-parts (b ∷ front) rest all = let p = all-parts front rest all.1 in ((all.0, p.0), p.1)

marker-bytes : (fill code : ℕ) (rest : List ℕ) → AreBytes (marker fill code rest) → AreBytes rest
marker-bytes fill code rest all = (all-parts (replicate fill 255) (code ∷ rest) all.1).1.1

module _ (stream after at : List ℕ) (before : ℕ) (front : List ℕ) (starts : stream ≡ marker before 216 after)
    (parts : after ≡ front ++ at) where
  pub payload-bytes : (fill code : ℕ) (payload rest : List ℕ) → AreBytes stream
      → at ≡ marker fill code (with_length payload ++ rest) → AreBytes (with_length payload)
  payload-bytes fill code payload rest all is =
      let later = marker-bytes before 216 after (subst (λ (l : List ℕ). AreBytes l) starts all) in
      let here = (all-parts front at (subst (λ (l : List ℕ). AreBytes l) parts later)).1 in
      (all-parts (with_length payload) rest
      (marker-bytes fill code (with_length payload ++ rest) (subst (λ (l : List ℕ). AreBytes l) is here))).0

  pub other-adobe : (fill code : ℕ) (payload rest : List ℕ) → IsOtherAdobe (code - 224) payload
      → at ≡ marker fill 238 (with_length payload ++ rest) → HasOtherAdobe stream
  other-adobe fill code payload rest x is = record {
    front = marker before 216 front;
    fill = fill;
    payload = payload;
    after = rest;
    are = starts ∙ ap (λ (l : List ℕ). marker before 216 l) parts ∙ after-marker before 216 front at
        ∙ ap (λ (l : List ℕ). marker before 216 front ++ l) is;
    adobe = x.adobe;
    other = x.other;
  }
