-- An error of a writer is one of the reader, the writer or memory.
use Rattle.std.proofs.Common.{Result, Ok, Err}
use Rattle.std.specs.Prelude.{IfErr}
use Rattle.jpeg_bits.specs.declared.error.Error.{Error}
use Rattle.jpeg_bits.specs.declared.error.Error.TheVariants as errors
use Rattle.jpeg_meaning.specs.Output.{IsOutsideOrMemory}
use Rattle.zaxbriar_samples.specs.Refusals.{IsOfWriter}

pub of-writer : (e : Error) → IsOfWriter e → IsOutsideOrMemory e
of-writer (errors.Io error) h = tt
of-writer errors.OutOfMemory h = tt
of-writer (errors.Format text) h = absurd h
of-writer (errors.Unsupported feature) h = absurd h
of-writer (errors.Internal text) h = absurd h

pub refused-of-writer : {X : Type 0} (r : Result X Error) → IfErr r IsOfWriter → IfErr r IsOutsideOrMemory
refused-of-writer (Ok x) h = tt
refused-of-writer (Err e) h = of-writer e h
