-- A decoder that is fed: what it has, and what it says of the bytes that it was given.
use Rattle.std.specs.Prelude.{◌≡◌, ◌≤◌, ◌+◌, ℕ, suc, List, [], ◌++◌, length, take, Option, None, false}
use Rattle.std.specs.Prelude.{Result, Ok, Err, IfOk, option_map}
use Rattle.jpeg_bits.specs.declared.beyond.Beyond.TheVariants.{Nothing}
use Rattle.jpeg_bits.specs.declared.error.Error.{Error}
use Rattle.jpeg_segments.specs.Frame.{Frame}
use Rattle.jpeg_meaning.specs.Shown.{shown_within, whole_rows_within}
use Rattle.jpeg_meaning.specs.Sound.{IsSound}
use Rattle.jpeg_meaning.specs.States.{Decoding}
use Rattle.jpeg_meaning.specs.Stream.{Told, Walked, header_at, start_at, walk}
use Rattle.jpeg_meaning.specs.Found.{Found, nothing_found}
use Rattle.jpeg_meaning.specs.declared.before.Before.TheVariants.{Elsewhere}
use Rattle.jpeg_meaning.specs.declared.settings.Settings.{Settings}
use Rattle.jpeg_decoder.specs.Bytes.{IsWhole, Shape, shape_of}
use Rattle.jpeg_decoder.specs.Shows.{IsShown}
use Rattle.jpeg_decoder.specs.declared.fed.checkpoint.Checkpoint.{Checkpoint}
use Rattle.jpeg_decoder.specs.declared.stream.state.Step.{Step}

-- what was set, and the bytes that were fed, one piece after the other
pub record FedState : Type 0 where
  pub settings : Settings
  pub bytes : List ℕ

-- those that a new decoder has
abbrev pub fed_by : Decoding → FedState
fed_by d = record { settings = d.settings; bytes = d.source.bytes }

-- the frame of a stream whose header can be read
abbrev pub frame_of : List ℕ → Option Frame
frame_of bytes = elim (header_at bytes) [ Ok header ↦ header.0.said.frame | Err fault ↦ None ]

-- the shape of its picture by the settings
abbrev pub shape_fed : FedState → Option Shape
shape_fed d = option_map (shape_of d.settings) (frame_of d.bytes)

-- A call gave what a decoder shows that has all these bytes: their picture up to their first fault,
-- that fault, and how many rows are complete; or it named why there is no picture.
pub record ShowsFed {X : Type 0} (bytes_of : X → List ℕ) (fault_of : X → Option Error)
    (rows_of : X → ℕ) (d : FedState) (result : Result X Error) : Type 0 where
  pub told : Told
  pub shown : IsShown (shown_within d.settings.max_blocks d.settings d.bytes) bytes_of fault_of
      result told
  pub rows : IfOk result (λ x. rows_of x ≡ whole_rows_within d.settings.max_blocks d.bytes)
  -- The picture is of the size that `info` says.
  pub size : IfOk result (λ x. IsWhole (shape_fed d) (bytes_of x))

-- ---- a checkpoint

-- A stream that begins with these bytes is walked from a checkpoint on, whatever bytes follow: what
-- was found there, the step before it, the blocks that are left of the limit, and the bytes of
-- these that come after it.
pub record IsCheckpoint (limit : Option ℕ) (bytes : List ℕ) (left : Option ℕ) (step : Step)
    (found : Found) (rest : List ℕ) : Type 0 where
  pub turns : ℕ
  pub front : List ℕ
  pub started : (more : List ℕ) → start_at (bytes ++ more) ≡ Ok (tt, front ++ more)
  pub walks : (more : List ℕ) (n : ℕ)
      → walk limit Nothing (turns + n) false Elsewhere nothing_found None (front ++ more)
      ≡ walk left Nothing n false step.before found step.met (rest ++ more)
  pub few : length rest ≤ length front

-- A checkpoint of a decoder that has these bytes and such a limit: it has read the first of them.
pub record IsAt (limit : Option ℕ) (bytes : List ℕ) (c : Checkpoint) : Type 0 where
  pub begun : 2 ≤ c.offset
  pub within : c.offset ≤ length bytes
  pub sound : IsSound c.state
  pub reads : IsCheckpoint limit (take c.offset bytes) c.left c.step c.state []
