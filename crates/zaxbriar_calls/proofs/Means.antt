-- A header that was read, and then the rest of its stream, are what the stream means by some options.
use Rattle.std.proofs.Common.{arith, ◌≡◌, ℕ, List, Ok, Err, Result, ap, refl, true}
use Rattle.jpeg_bits.specs.Reading.{◌>>=◌, Fault, Outcome}
use Rattle.jpeg_meaning.specs.DecodedImages.{Size, at_size, HasLeft}
use Rattle.jpeg_meaning.specs.Found.{Found, with_said}
use Rattle.jpeg_meaning.specs.Shown.{Shown}
use Rattle.jpeg_meaning.specs.States.{Decoding}
use Rattle.jpeg_meaning.specs.Stream.{Told, header_at, rest_by}
use Rattle.jpeg_meaning.specs.declared.progress.Progress.TheVariants.{HeaderRead}
use Rattle.jpeg_meaning.proofs.Written.ReadTurns.{then-ok}
use Rattle.zaxbriar_calls.specs.Given.{as_picture, faultless, given_by, given_rest}
use Rattle.zaxbriar_calls.specs.Meanings.{ReadsHeader, StandsAfter, found_at, meaning_by, planes_by, planes_rest, settings_at}
use Rattle.zaxbriar_calls.specs.declared.extents.Extent.TheVariants.{Whole, Planes}
use Rattle.zaxbriar_calls.specs.declared.options.Options.{Options}

pub has-left : (size : Size) (bytes left : List ℕ) (found header : Found)
    → header_at bytes ≡ Ok (header, left) → found ≡ with_said (at_size size) header → HasLeft size bytes HeaderRead found left
has-left x bytes left found header h s = grind arith

-- a decoder that has read a header stands after it
pub after-header : (o : Options) (old new : Decoding) → ReadsHeader o old new → old.source.known ≡ true
    → StandsAfter (header_at old.source.bytes) new.source
after-header o old new h known =
    let facts = h.reads known in
    record { known = facts.0; value = facts.1.0; reads = facts.1.1 }

-- ---- images

rest-means : {Y : Type 0} (read : Outcome Y) (shown : Y → Shown) (m : Y) (rest : List ℕ) → read ≡ Ok (m, rest)
    → (read >>= (λ m. Ok (shown m.0))) ≡ Ok (shown m)
rest-means read shown m rest e = then-ok read _ (m, rest) _ e refl

read-means : (o : Options) (header : Outcome Found) (m : Told × List ℕ) (rest : List ℕ)
    → (header >>= (λ h. rest_by (settings_at o (found_at o h.0)) (found_at o h.0) h.1)) ≡ Ok (m, rest)
    → (header >>= (λ h. given_rest Whole (settings_at o (found_at o h.0)) (found_at o h.0) h.1)) ≡ Ok (faultless m)
read-means o (Ok h) m rest e =
    rest-means (rest_by (settings_at o (found_at o h.0)) (found_at o h.0) h.1) (λ m. faultless m) m rest e
read-means o (Err f) m rest e = absurd cc

-- the whole of what a stream gives is its meaning
pub given-means : (o : Options) (bytes : List ℕ) (m : Told × List ℕ) (rest : List ℕ) → meaning_by o bytes ≡ Ok (m, rest)
    → given_by Whole o bytes ≡ Ok (faultless m)
unfolding given_by meaning_by
given-means o bytes m rest e = read-means o (header_at bytes) m rest e

read-planes : (o : Options) (header : Outcome Found) (m : Told × List (List ℕ)) (rest : List ℕ)
    → (header >>= (λ h. planes_rest (settings_at o (found_at o h.0)) (found_at o h.0) h.1)) ≡ Ok (m, rest)
    → (header >>= (λ h. given_rest Planes (settings_at o (found_at o h.0)) (found_at o h.0) h.1))
    ≡ Ok (faultless (as_picture m))
read-planes o (Ok h) m rest e =
    rest-means (planes_rest (settings_at o (found_at o h.0)) (found_at o h.0) h.1) (λ m. faultless (as_picture m)) m rest e
read-planes o (Err f) m rest e = absurd cc

-- and so are its planes
pub given-planes : (o : Options) (bytes : List ℕ) (m : Told × List (List ℕ)) (rest : List ℕ)
    → planes_by o bytes ≡ Ok (m, rest) → given_by Planes o bytes ≡ Ok (faultless (as_picture m))
unfolding given_by planes_by
given-planes o bytes m rest e = read-planes o (header_at bytes) m rest e

rest-fails : (read : Outcome (Told × List ℕ)) (f : Fault) → read ≡ Err f → (read >>= (λ m. Ok (faultless m.0))) ≡ Err f
rest-fails read f e = rw e refl

read-fails : (o : Options) (header : Outcome Found) (f : Fault)
    → (header >>= (λ h. rest_by (settings_at o (found_at o h.0)) (found_at o h.0) h.1)) ≡ Err f
    → (header >>= (λ h. given_rest Whole (settings_at o (found_at o h.0)) (found_at o h.0) h.1)) ≡ Err f
read-fails o (Ok h) f e = rest-fails (rest_by (settings_at o (found_at o h.0)) (found_at o h.0) h.1) f e
read-fails o (Err g) f e = ap (λ (r : Outcome (Told × List ℕ)). refused r) e
  where
    refused : Outcome (Told × List ℕ) → Result Shown Fault
    refused (Ok m) = Ok (faultless m.0)
    refused (Err g) = Err g

-- and where it means nothing it gives nothing
pub given-fails : (o : Options) (bytes : List ℕ) (f : Fault) → meaning_by o bytes ≡ Err f → given_by Whole o bytes ≡ Err f
unfolding given_by meaning_by
given-fails o bytes f e = read-fails o (header_at bytes) f e
