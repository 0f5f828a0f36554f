-- A decoder of which no byte is read.
use Rattle.std.specs.Prelude.{ℕ, List, Option, false}
use Rattle.jpeg_bits.specs.Stream.{stream_of}
use Rattle.jpeg_meaning.specs.Found.{nothing_found}
use Rattle.jpeg_meaning.specs.Output.{default_settings}
use Rattle.jpeg_meaning.specs.States.{Decoding}
use Rattle.jpeg_meaning.specs.declared.progress.Progress.TheVariants.{Fresh}

-- a new decoder over what a reader has to give, where that is known
abbrev pub begun : Option (List ℕ) → Decoding
begun remaining = record {
  source = stream_of remaining false false;
  stage = Fresh;
  found = nothing_found;
  settings = default_settings;
  exceeded = false;
}
