-- What a decoder of bytes in memory shows.
use Rattle.std.proofs.Common.{◌≡◌, ◌≤◌, ◌+◌, ◌∙◌, ap, arith, subst, sym, refl, ℕ, List, [], ◌∷◌, ◌++◌, Option}
use Rattle.std.proofs.Common.{None, Some, Result, Ok, Err, option_map, is_some, true, length, length-append, take, drop}
use Rattle.std.proofs.Common.{get_or, take-append-drop}
use Rattle.std.proofs.Math.Seq.{take-add}
use Rattle.std.proofs.lemmas.List.{take-append-le}
use Rattle.std.proofs.lemmas.Result.{IfOk-weaker}
use Rattle.std.specs.Prelude.{IfOk, IfSome}
use Rattle.jpeg_bits.specs.Reading.{Fault, Names}
use Rattle.jpeg_bits.specs.declared.beyond.Beyond.TheVariants.{Nothing}
use Rattle.jpeg_bits.specs.declared.error.Error.{Error}
use Rattle.jpeg_bits.specs.declared.error.Error.TheVariants.{OutOfMemory}
use Rattle.jpeg_bits.proofs.Loops.{Names-through}
use Rattle.jpeg_segments.specs.Frame.{Frame}
use Rattle.jpeg_meaning.specs.Found.{Found, nothing_found, nothing_said}
use Rattle.jpeg_meaning.specs.Shown.{Shown, shown_rest_within, shown_within, whole_rows_rest}
use Rattle.jpeg_meaning.specs.Sound.{IsSound}
use Rattle.jpeg_meaning.specs.Stream.{Told, all_brought, header_at, start_at, told_of}
use Rattle.jpeg_meaning.proofs.Soundness.{sound-nothing}
use Rattle.jpeg_decoder.specs.Bytes.{IsWhole, shape_of}
use Rattle.jpeg_decoder.specs.Fed.{FedState, IsAt, IsCheckpoint, ShowsFed, frame_of}
use Rattle.jpeg_decoder.specs.Shows.{IsShown}
use Rattle.jpeg_decoder.specs.Walks.{steps_over}
use Rattle.jpeg_decoder.specs.declared.fed.checkpoint.Checkpoint.{Checkpoint}
use Rattle.jpeg_decoder.proofs.Checkpoints.{checkpoint-fed, checkpoint-frames, checkpoint-start, checkpoint-walks}
use Rattle.jpeg_decoder.proofs.Segments.HeaderThenRest.{header-counts, header-shows, header-shows_none}
use Rattle.jpeg_decoder.proofs.Segments.TurnLoops.{onward_step}

-- the frame is that of the header
pub frame-read : (bytes rest : List ℕ) (found : Found) → header_at bytes ≡ Ok (found, rest)
    → frame_of bytes ≡ found.said.frame
frame-read bytes rest found e = rw (e, frame_of) refl

fed-none : {X : Type 0} (bytes_of : X → List ℕ) (fault_of : X → Option Error) (rows_of : X → ℕ) (d : FedState)
    (e : Error) → Names e (shown_within d.settings.max_blocks d.settings d.bytes)
    → ShowsFed bytes_of fault_of rows_of d (Err e)
fed-none bytes_of fault_of rows_of d e h =
    record { told = told_of nothing_said; shown = h; rows = tt; size = tt }

-- where memory runs out
pub fed-refused : {X : Type 0} (bytes_of : X → List ℕ) (fault_of : X → Option Error) (rows_of : X → ℕ) (d : FedState)
    (e : Error) → e ≡ OutOfMemory → ShowsFed bytes_of fault_of rows_of d (Err e)
fed-refused bytes_of fault_of rows_of d e is =
    subst (λ (e : Error). ShowsFed bytes_of fault_of rows_of d (Err e)) (sym is)
    (fed-none bytes_of fault_of rows_of d OutOfMemory tt)

-- where the header can't be read
pub fed-unread : {X : Type 0} (bytes_of : X → List ℕ) (fault_of : X → Option Error) (rows_of : X → ℕ) (d : FedState)
    (e : Error) → Names e (header_at d.bytes) → ShowsFed bytes_of fault_of rows_of d (Err e)
fed-unread bytes_of fault_of rows_of d e h =
    fed-none bytes_of fault_of rows_of d e
    (Names-through e (header_at d.bytes) (shown_within d.settings.max_blocks d.settings d.bytes)
    (λ fault is. header-shows_none d.settings d.bytes fault is) h)

-- where it is read, and then the rest is shown
pub fed-shown : {X : Type 0} (bytes_of : X → List ℕ) (fault_of : X → Option Error) (rows_of : X → ℕ) (d : FedState)
    (found : Found) (rest : List ℕ) (told : Told) (r : Result X Error) → header_at d.bytes ≡ Ok (found, rest)
    → IsShown (shown_rest_within d.settings.max_blocks d.settings found rest) bytes_of fault_of r told
    → IfOk r (λ x. rows_of x ≡ whole_rows_rest d.settings.max_blocks found rest)
    → IfOk r (λ x. IsWhole (option_map (shape_of d.settings) found.said.frame) (bytes_of x))
    → ShowsFed bytes_of fault_of rows_of d r
fed-shown bytes_of fault_of rows_of d found rest told r e shown rows size = record {
  told = told;
  shown = subst (λ (o : Result Shown Fault). IsShown o bytes_of fault_of r told)
      (sym (header-shows d.settings found d.bytes rest e)) shown;
  rows = IfOk-weaker r _ _ (λ x is. is ∙ sym (header-counts d.settings.max_blocks found d.bytes rest e)) rows;
  size = IfOk-weaker r _ _ (λ x is. subst (λ (f : Option Frame). IsWhole (option_map (shape_of d.settings) f) (bytes_of x))
      (sym (frame-read d.bytes rest found e)) is) size;
}

-- ---- what follows a checkpoint

-- it goes on with the bytes after it
pub at-reads : (limit : Option ℕ) (bytes : List ℕ) (c : Checkpoint) → IsAt limit bytes c
    → IsCheckpoint limit bytes c.left c.step c.state (drop c.offset bytes)
at-reads limit bytes c h =
    subst (λ (l : List ℕ). IsCheckpoint limit l c.left c.step c.state (drop c.offset bytes))
    (take-append-drop c.offset bytes)
    (checkpoint-fed limit (take c.offset bytes) (drop c.offset bytes) c.left c.step c.state [] h.reads)

-- as what follows a header does
pub at-walks : (limit : Option ℕ) (bytes : List ℕ) (c : Checkpoint) (header : Found) (after : List ℕ)
    → IsAt limit bytes c → header_at bytes ≡ Ok (header, after)
    → all_brought limit header after ≡ steps_over c.left Nothing c.state c.step (drop c.offset bytes)
at-walks limit bytes c header after h e =
    checkpoint-walks limit bytes c.left c.step c.state (drop c.offset bytes) header after (at-reads limit bytes c h) e

-- with the frame of that, if it has one
pub at-frames : (limit : Option ℕ) (bytes : List ℕ) (c : Checkpoint) (header : Found) (after : List ℕ)
    → IsAt limit bytes c → header_at bytes ≡ Ok (header, after) → is_some c.state.said.frame ≡ true
    → c.state.said.frame ≡ header.said.frame
at-frames limit bytes c header after h e some =
    checkpoint-frames limit bytes c.left c.step c.state (drop c.offset bytes) header after (at-reads limit bytes c h) e some

-- ---- a checkpoint

-- that of a stream's start
starts : (bytes : List ℕ) → 2 ≤ length bytes → get_or bytes 0 0 ≡ 255 → get_or bytes 1 0 ≡ 216
    → start_at (take 2 bytes) ≡ Ok (tt, [])
unfolding start_at
starts (a ∷ b ∷ more) most first second = rw (first, second) refl
starts (a ∷ []) most first second = absurd (omega arith)
starts [] most first second = absurd (omega arith)

pub at-start : (limit : Option ℕ) (bytes : List ℕ) (c : Checkpoint) → 2 ≤ length bytes → get_or bytes 0 0 ≡ 255
    → get_or bytes 1 0 ≡ 216 → c.offset ≡ 2 → c.left ≡ limit → c.step ≡ onward_step → c.state ≡ nothing_found
    → IsAt limit bytes c
at-start limit bytes c most first second offset left step state = record {
  begun = omega (arith, offset);
  within = subst (λ (n : ℕ). n ≤ length bytes) (sym offset) most;
  sound = sound-nothing c.state state;
  reads = rw (offset, left, step, state)
      (checkpoint-start limit (take 2 bytes) [] (starts bytes most first second));
}

-- more bytes
pub at-fed : (limit : Option ℕ) (bytes piece : List ℕ) (c : Checkpoint) → IsAt limit bytes c
    → IsAt limit (bytes ++ piece) c
at-fed limit bytes piece c h = record {
  begun = h.begun;
  within = omega (arith, h.within, length-append bytes piece);
  sound = h.sound;
  reads = subst (λ (l : List ℕ). IsCheckpoint limit l c.left c.step c.state [])
      (sym (take-append-le c.offset bytes piece h.within)) h.reads;
}

pub kept-fed : (limit : Option ℕ) (bytes piece : List ℕ) (o : Option Checkpoint)
    → IfSome o (λ c. IsAt limit bytes c) → IfSome o (λ c. IsAt limit (bytes ++ piece) c)
kept-fed limit bytes piece None h = h
kept-fed limit bytes piece (Some c) h = at-fed limit bytes piece c h

-- it is moved over the next of them
pub at-moved : (limit : Option ℕ) (bytes piece : List ℕ) (offset : ℕ) (c : Checkpoint) → 2 ≤ offset
    → offset ≤ length bytes → c.offset ≡ offset + length piece → piece ≡ take (length piece) (drop offset bytes) → length piece + offset ≤ length bytes
    → IsSound c.state → IsCheckpoint limit (take offset bytes ++ piece) c.left c.step c.state []
    → IsAt limit bytes c
at-moved limit bytes piece offset c begun within at is most sound reads = record {
  begun = omega (arith, begun, at);
  within = omega (arith, at, most);
  sound = sound;
  reads = subst (λ (l : List ℕ). IsCheckpoint limit l c.left c.step c.state [])
      (ap (λ (l : List ℕ). take offset bytes ++ l) is
      ∙ sym (take-add offset (length piece) bytes) ∙ ap (λ (n : ℕ). take n bytes) (sym at)) reads;
}
