use Rattle.std.proofs.Common.{◌≡◌, List, ℕ, Result, Ok, Err, Some, refl, true, false, ◌∙◌}
use Rattle.std.specs.Prelude.{IfOk, IsOk, MatchResult}
use Rattle.jpeg_bits.specs.Reading.{Answers, Fault, Outcome}
use Rattle.jpeg_bits.specs.Stream.{Stream, stream_of}
use Rattle.jpeg_bits.specs.declared.error.Error.{Error}
use Rattle.jpeg_meaning.specs.DecodedImages.{FailsOutside, FullSize, GivesPicture}
use Rattle.jpeg_meaning.specs.Output.{Tells, default_settings}
use Rattle.jpeg_meaning.specs.States.{Decoding}
use Rattle.jpeg_meaning.specs.Stream.{Told, meaning, told_of}
use Rattle.jpeg_meaning.specs.Found.{Said}
use Rattle.jpeg_decoder.proofs.Callers.{bytes_are_known, known_bytes_are_told}
use Rattle.test_example_caller.proofs.picture_of.Goals as goal

read-whole : {X : Type 0} (told : Told) (bytes_of : X → List ℕ) (read : List ℕ → Outcome (Told × List ℕ))
    (old new : Stream) (r : Result X Error)
    → Answers (λ x. (told, bytes_of x)) read old r new → old.known ≡ true
    → IfOk r (λ x. (t : Told) × (rest : List ℕ) × (read old.bytes ≡ Ok ((t, bytes_of x), rest)))
read-whole told bytes_of read old new (Ok x) a k = (told, new.bytes, (a.1 k).1)
read-whole told bytes_of read old new (Err e) a k = tt

given : {X : Type 0} (bytes_of : X → List ℕ) (picture : Result (List ℕ) Fault) (rest : List ℕ) (final : Said)
    (new : Decoding) (r : Result X Error)
    → MatchResult r (λ x. GivesPicture picture rest final (bytes_of x) new)
    (λ e. IsOk picture → FailsOutside e new.source)
    → IfOk r (λ x. picture ≡ Ok (bytes_of x))
given bytes_of picture rest final new (Ok x) h = h.pixels
given bytes_of picture rest final new (Err e) h = tt

pub returns-clause-means : goal.returns-clause-means
returns-clause-means c few =
    let bytes = c.args.bytes.now in
    let tells : Tells (Some bytes) bytes = record { told = refl; few = few } in
    let reads = rw (c.in_ok-decoder.ensures.ok, c.new.ensures) at c.decode.ensures.decodes.reads in
    let known = bytes_are_known (Some bytes) bytes tells in
    let same = known_bytes_are_told (Some bytes) bytes tells in
    let whole : IfOk c.decode.result (λ x. (t : Told) × (rest : List ℕ)
    × (meaning default_settings (stream_of (Some bytes) false false).bytes ≡ Ok ((t, x.items), rest)))
    = read-whole (told_of c.decode.new.self.found.said) (λ v. v.items) (meaning default_settings)
    (stream_of (Some bytes) false false)
    c.decode.new.self.source c.decode.result (reads tt) known in
    rw same at whole

pub returns-clause-images : goal.returns-clause-images
returns-clause-images c array image rest final last range w is few =
    let bytes = c.args.bytes.now in
    let tells : Tells (Some bytes) bytes = record { told = refl; few = few } in
    let images = rw (c.in_ok-decoder.ensures.ok, c.new.ensures) at c.decode.ensures.decodes.images in
    let known = bytes_are_known (Some bytes) bytes tells in
    let same = known_bytes_are_told (Some bytes) bytes tells in
    given (λ v. v.items) _ rest final _ c.decode.result
    (images FullSize array image rest final last range w (same ∙ is) tt known)
