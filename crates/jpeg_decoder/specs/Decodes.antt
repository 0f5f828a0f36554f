-- What a call does that decodes what its decoder has left: `decode`, `decode_lines`, and
-- `decode_into` where there is room for the picture; and `decode_planes`.
use Rattle.std.specs.Prelude.{◌≡◌, ℕ, List, [], Result, replicate, None, true, false}
use Rattle.jpeg_bits.specs.Reading.{Answers}
use Rattle.jpeg_bits.specs.declared.error.Error.{Error}
use Rattle.jpeg_meaning.specs.DecodedImages.{DecodesCoefficients, DecodesImages}
use Rattle.jpeg_meaning.specs.DecodedSamples.{DecodesLossless, DecodesSamples}
use Rattle.jpeg_meaning.specs.FoundPlanes.{planes_of}
use Rattle.jpeg_meaning.specs.Limits.{exceeded_ahead}
use Rattle.jpeg_bits.specs.declared.beyond.Beyond.TheVariants.{Zeros}
use Rattle.jpeg_meaning.specs.Reported.{IsOfTurns}
use Rattle.jpeg_meaning.specs.States.{Decoding, IsReading, MovesToEnd, OnTold}
use Rattle.jpeg_meaning.specs.States.{ahead, ahead_showing, told_ahead, turns_ahead}
use Rattle.jpeg_meaning.specs.Stream.{told_of}
use Rattle.jpeg_meaning.specs.WrittenPlanes.{planes_of_blocks, planes_of_samples}

-- ---- beside what is given

-- A caller is then given what the segments up to the end or the fault have said.
abbrev pub IsTold : {X : Type 0} → Decoding → Result X Error → Decoding → Type 0
IsTold old result new = IsReading old.stage → OnTold old.source new.source result
    (told_of new.found.said
    ≡ told_ahead old.settings.max_blocks false old.stage old.found old.source.bytes)

-- The same after `OutOfMemory` or a failed read, of some first segments, each whole.
abbrev pub IsToldInTurns : Decoding → Decoding → Type 0
IsToldInTurns old new = IsReading old.stage → old.source.known ≡ true
    → IsOfTurns (λ n. turns_ahead old.settings.max_blocks n false old.stage old.found
    old.source.bytes) (told_of new.found.said)

-- The decoder knows whether a scan was refused since it codes more blocks than the limit leaves.
abbrev pub KnowsExceeded : {X : Type 0} → Decoding → Result X Error → Decoding → Type 0
KnowsExceeded old result new = IsReading old.stage
    → OnTold old.source new.source result (new.exceeded
    ≡ exceeded_ahead old.settings.max_blocks Zeros old.stage old.found old.source.bytes)

-- No blocks, planes or samples are kept.
abbrev pub KeepsNothing : Decoding → Decoding → Type 0
KeepsNothing old new = IsReading old.stage → (new.found.kept ≡ [])
    × (new.found.planes ≡ replicate 4 None) × (new.found.samples ≡ replicate 4 None)

-- ---- pictures and planes

pub record Decodes {X : Type 0} (bytes_of : X → List ℕ) (old : Decoding) (result : Result X Error)
    (new : Decoding) : Type 0 where
  -- The state table: an Ok finishes the decoder, a refusal fails it.
  pub stage : MovesToEnd old.stage new.stage result
  -- For any bytes, the answer is what they mean by T.81, or the name of their fault.
  pub reads : IsReading old.stage → Answers (λ x. (told_of new.found.said, bytes_of x))
      (ahead old.stage old.settings old.found) old.source result new.source
  -- Where the bytes are written for the coefficients of an image, it is their picture.
  pub images : DecodesImages bytes_of old result new
  -- Where they are written for the samples of a lossless image, it is these samples.
  pub samples : DecodesSamples bytes_of old result new
  pub told : IsTold old result new
  pub turns : IsToldInTurns old new
  pub exceeded : KnowsExceeded old result new
  pub emptied : KeepsNothing old new

-- The same for the planes of the components, each at its own size: neither the colour transform nor
-- the luma that is set makes a difference.
pub record DecodesPlanes {X : Type 0} (view : X → List (List ℕ)) (old : Decoding)
    (result : Result X Error) (new : Decoding) : Type 0 where
  pub stage : MovesToEnd old.stage new.stage result
  -- For any bytes, the answer is the planes of what they mean by T.81, or the name of their fault.
  pub reads : IsReading old.stage → Answers (λ x. (told_of new.found.said, view x))
      (ahead_showing old.settings.max_blocks (planes_of old.settings.limit) old.stage old.found)
      old.source result new.source
  -- Where the bytes are written for the coefficients of an image, the answer is its planes.
  pub images : DecodesCoefficients (planes_of_blocks old.settings.limit) view old result new
  -- Where they are written for the samples of a lossless image, it is these samples.
  pub samples : DecodesLossless (planes_of_samples old.settings.limit) view old result new
  pub told : IsTold old result new
  pub turns : IsToldInTurns old new
  pub exceeded : KnowsExceeded old result new
  pub emptied : KeepsNothing old new
