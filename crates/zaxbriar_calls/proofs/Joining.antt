-- What the applications of a stream bring, as its segments are walked; and what a call says that
-- copies it.
use Rattle.std.proofs.Common.{arith, ◌≡◌, ◌∙◌, ℕ, zero, suc, ◌+◌, ◌-◌, ◌<◌, ◌≤◌, List, [], Ok}
use Rattle.std.proofs.Common.{Option, None, Some, true, false, ap, length, refl, sym}
use Rattle.std.specs.Prelude.{IsErr, fold}
use Rattle.std.specs.List.{cons_option}
use Rattle.std.proofs.lemmas.Grind.{common_steps}
use Rattle.jpeg_bits.specs.declared.marker.Marker.{Marker}
use Rattle.zaxbriar_metadata.specs.Collected.{Collection, with_segment}
use Rattle.zaxbriar_calls.proofs.FoundPlaces.{segments-last, segments-next}
use Rattle.zaxbriar_calls.specs.CopiesJoined.{CopiesJoined}
use Rattle.zaxbriar_calls.specs.Joined.{application_of, applications_in, applications_of, is_joined_kind, joined_of}
use Rattle.zaxbriar_calls.specs.Joined.{with_application}
use Rattle.zaxbriar_calls.specs.Metadata.{Copies, IsCopied, IsLonger}
use Rattle.zaxbriar_calls.specs.Places.{ends_image, segments_of}
use Rattle.zaxbriar_calls.specs.StreamSegments.{next_segment}

-- what this many segments more bring
pub brought_from : ℕ → Collection → List ℕ → Collection
brought_from n c rest = fold with_segment c (applications_of (segments_of n rest))

pub brought-all : (stream : List ℕ) (c : Collection)
    → fold with_segment c (applications_in stream) ≡ brought_from (length stream) c stream
unfolding brought_from
brought-all stream c = refl

no-segments : (n : ℕ) (rest : List ℕ) → IsErr (next_segment rest) → segments_of n rest ≡ []
unfolding segments_of
no-segments zero rest h = refl
no-segments (suc n) rest h = grind (arith, common_steps)

pub brought-none : (n : ℕ) (c : Collection) (rest : List ℕ) → IsErr (next_segment rest)
    → brought_from n c rest ≡ c
unfolding brought_from
brought-none n c rest h =
    ap (λ (l : List ((Marker × List ℕ) × List ℕ)). fold with_segment c (applications_of l)) (no-segments n rest h)

-- one more application, if there is one
folded : (c : Collection) (o : Option (ℕ × List ℕ)) (more : List (ℕ × List ℕ))
    → fold with_segment c (cons_option o more) ≡ fold with_segment (with_application c o) more
folded c None more = refl
folded c (Some segment) more = refl

pub brought-later : (count place : ℕ) (c after : Collection) (rest payload others : List ℕ) (m : Marker)
    → place < count → next_segment rest ≡ Ok ((m, payload), others) → ends_image m ≡ false
    → after ≡ with_application c (application_of m payload)
    → brought_from (count - place) c rest ≡ brought_from (count - (place + 1)) after others
unfolding brought_from
brought-later count place c after rest payload others m some h e is =
    let more : count - place ≡ suc (count - (place + 1)) = omega (arith, some) in
    let n = count - (place + 1) in
    ap (λ k. fold with_segment c (applications_of (segments_of k rest))) more
    ∙ ap (λ (l : List ((Marker × List ℕ) × List ℕ)). fold with_segment c (applications_of l))
    (segments-next n rest payload others m h e)
    ∙ folded c (application_of m payload) (applications_of (segments_of n others))
    ∙ ap (λ (d : Collection). fold with_segment d (applications_of (segments_of n others))) (sym is)

pub brought-ended : (count place : ℕ) (c after : Collection) (rest payload others : List ℕ) (m : Marker)
    → place < count → next_segment rest ≡ Ok ((m, payload), others) → ends_image m ≡ true
    → after ≡ with_application c (application_of m payload)
    → brought_from (count - place) c rest ≡ after
unfolding brought_from
brought-ended count place c after rest payload others m some h e is =
    let more : count - place ≡ suc (count - (place + 1)) = omega (arith, some) in
    let n = count - (place + 1) in
    ap (λ k. fold with_segment c (applications_of (segments_of k rest))) more
    ∙ ap (λ (l : List ((Marker × List ℕ) × List ℕ)). fold with_segment c (applications_of l))
    (segments-last n rest payload others m h e)
    ∙ folded c (application_of m payload) []
    ∙ sym is

pub brought-past : (count place : ℕ) (c : Collection) (rest : List ℕ) → count ≤ place
    → brought_from (count - place) c rest ≡ c
unfolding brought_from segments_of
brought-past count place c rest past =
    let none : count - place ≡ 0 = omega (arith, past) in
    ap (λ n. fold with_segment c (applications_of (segments_of n rest))) none

-- ---- a copy

pub data-copied : (found : Option (List ℕ)) (old new : List ℕ) (before count code : ℕ)
    → (code ≡ 0 → IsCopied found old new count) → (code ≡ 7 → found ≡ None)
    → (code ≡ 5 → IsLonger found (length old) count) → (code < 4 → code ≡ 0) → (code ≡ 6 → ⊥) → code ≤ 7
    → ((code ≡ 0 → ⊥) → (code ≡ 5 → ⊥) → count ≡ before)
    → ((code ≡ 0 → ⊥) → new ≡ old) → Copies found old new before count code
data-copied found old new before count code copied none room own known most uncounted kept = record {
  copied = copied;
  none = none;
  room = room;
  own = own;
  known = known;
  most = most;
  uncounted = uncounted;
  kept = kept;
}

pub none-copied : (found : Option (List ℕ)) (old : List ℕ) (count : ℕ) → found ≡ None
    → Copies found old old count count 7
none-copied found old count none = record {
  copied = λ z. absurd (omega (arith, z));
  none = λ z. none;
  room = λ z. absurd (omega (arith, z));
  own = λ z. absurd (omega (arith, z));
  known = λ z. absurd (omega (arith, z));
  most = omega arith;
  uncounted = λ n m. refl;
  kept = λ z. refl;
}

-- ---- the call

pub no-kind-joined : (bytes : List ℕ) (kind : ℕ) (old : List ℕ) (count : ℕ) → is_joined_kind kind ≡ false
    → count ≡ 0 → CopiesJoined bytes kind old old count 6
no-kind-joined bytes kind old count none counted = record {
  copies = λ z. absurd (omega (arith, z));
  none = λ z. absurd (omega (arith, z));
  room = λ z. absurd (omega (arith, z));
  uncounted = λ n m. counted;
  known = λ k. refl;
  wrong = λ z. none;
  number = λ z. absurd (omega (arith, z));
  most = omega arith;
  kept = λ z. refl;
}

-- memory that is refused
pub no-memory-joined : (bytes : List ℕ) (kind : ℕ) (old new : List ℕ) (count : ℕ) → is_joined_kind kind ≡ true
    → new ≡ old → count ≡ 0 → CopiesJoined bytes kind old new count 4
no-memory-joined bytes kind old new count some same counted = record {
  copies = λ z. absurd (omega (arith, z));
  none = λ z. absurd (omega (arith, z));
  room = λ z. absurd (omega (arith, z));
  uncounted = λ n m. counted;
  known = λ k. absurd (let no : ⊥ = cc in no);
  wrong = λ z. absurd (omega (arith, z));
  number = λ z. absurd (omega (arith, z));
  most = omega arith;
  kept = λ z. same;
}

pub found-joined : (bytes : List ℕ) (kind : ℕ) (old new : List ℕ) (count code : ℕ) → is_joined_kind kind ≡ true
    → Copies (joined_of kind bytes) old new 0 count code → CopiesJoined bytes kind old new count code
found-joined bytes kind old new count code some done = record {
  copies = done.copied;
  none = done.none;
  room = done.room;
  uncounted = done.uncounted;
  known = λ k. absurd (let no : ⊥ = cc in no);
  wrong = λ z. absurd (done.known z);
  number = done.own;
  most = done.most;
  kept = done.kept;
}
