-- What is needed of the lines that were read of a picture, and what writing them does.
use Rattle.std.specs.Prelude.{◌≡◌, ◌⊎◌, ◌*◌, ℕ, List, Err, Ok, Result, length, true}
use Rattle.std.specs.List.{concat}
use Rattle.jpeg_bits.specs.declared.error.Error.TheVariants.{OutOfMemory}
use Rattle.jpeg_decoder.specs.Bytes.{HaveBytes}
use Rattle.jpeg_decoder.specs.declared.picture.partial.PartialLines.{PartialLines}
use Rattle.jpeg_meaning.specs.States.{Decoding}
use Rattle.jpeg_meaning.specs.Stream.{header_at}
use Rattle.jpeg_meaning.specs.declared.images.ImageInfo.{ImageInfo}
use Rattle.zaxbriar_calls.specs.Crops.{part_rows}
use Rattle.zaxbriar_calls.specs.Given.{outcome_of}
use Rattle.zaxbriar_calls.specs.Lines.{HasLines}
use Rattle.zaxbriar_calls.specs.Upright.{arranged_part}
use Rattle.zaxbriar_calls.specs.declared.answers.Refusal.{Refusal}
use Rattle.zaxbriar_calls.specs.declared.answers.Refusal.TheVariants.{Stream}
use Rattle.zaxbriar_calls.specs.declared.lines.Lines.{Lines}
use Rattle.zaxbriar_calls.specs.declared.options.Options.{Options}

-- A decoder has read the header of these bytes, and nothing else.
abbrev pub IsHeaderOf : List ℕ → Decoding → Type 0
IsHeaderOf bytes d = (d.source.known ≡ true) × (header_at bytes ≡ Ok (d.found, d.source.bytes))

-- The lines of a picture are those of which some options ask for others.
pub record AreLinesFor (lines : Lines) (picture : List (List ℕ)) : Type 0 where
  pub options : Options
  pub info : ImageInfo
  pub precision : ℕ
  pub orientation : ℕ
  pub asked : HasLines options info precision orientation lines
  pub height : length picture ≡ info.height
  pub bytes : HaveBytes (info.width * lines.stored) picture

-- They were written to their places, and their rows counted; or there was no memory for that, and
-- nothing was written.
abbrev pub WritesLines : Lines → PartialLines → Result ℕ Refusal → List ℕ → List ℕ → Type 0
WritesLines lines decoded outcome before after =
    ((outcome ≡ outcome_of (part_rows lines.part decoded.whole_rows) decoded.fault)
    × (after ≡ arranged_part lines (concat decoded.lines) before))
    ⊎ ((outcome ≡ Err (Stream OutOfMemory)) × (after ≡ before))
