-- What is told after a refusal to show a stream.
use Rattle.std.proofs.Common.{◌≡◌, ◌∙◌, Result, Ok, Err, ap, false, true}
use Rattle.jpeg_bits.specs.Stream.{Stream}
use Rattle.jpeg_bits.specs.declared.error.Error.{Error}
use Rattle.jpeg_meaning.specs.Found.{Found}
use Rattle.jpeg_meaning.specs.States.{OnTold, OnToldRefusal}
use Rattle.jpeg_meaning.specs.Stream.{Told, Walked, told_of}
use Rattle.jpeg_decoder.specs.Reaching.{is_out_of_memory, without_tables}
use Rattle.jpeg_decoder.proofs.Partial.Refused.{if-refused}
use Rattle.jpeg_decoder.proofs.Partial.ShownFaults.{told-holds}

refusal-any : {X P : Type 0} (s n : Stream) (r : Result X Error) → (s.known ≡ true → n.known ≡ true → P)
    → OnToldRefusal s n r P
refusal-any s n (Ok x) h = tt
refusal-any s n (Err e) h = λ k l. if-refused e (h k l)

-- ---- the rest of a stream

-- Tables aren't told.
pub rest-told : {X : Type 0} (w : Walked) (f g : Found) (s n : Stream) (ended : Result (Unit {0}) Error)
    (r : Result X Error) → is_out_of_memory ended ≡ false
    → OnTold s n ended (without_tables f ≡ without_tables w.found) → g ≡ f
    → OnToldRefusal s n r (told_of g.said ≡ told_of w.found.said)
rest-told w f g s n ended r m found same =
    let told : Found → Told = λ x. told_of x.said in
    refusal-any s n r (λ k l. ap told same ∙ ap told (told-holds s n ended _ m found k l))
