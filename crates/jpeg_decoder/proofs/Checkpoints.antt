-- A stream that is walked from a checkpoint on, whatever bytes follow.
use Rattle.std.proofs.Common.{◌≡◌, ◌∙◌, ◌++◌, ◌+◌, ap, refl, sym, ℕ, suc, true, false}
use Rattle.std.proofs.Common.{List, [], Option, None, Ok, arith, length, length-append, append-nil}
use Rattle.std.proofs.Common.{Some, append_assoc, is_some, le_refl, rules}
use Rattle.std.proofs.lemmas.Bool.{true≢false}
use Rattle.jpeg_bits.specs.declared.beyond.Beyond.TheVariants.{Nothing}
use Rattle.jpeg_segments.specs.Frame.{Frame}
use Rattle.jpeg_meaning.specs.declared.before.Before.TheVariants.{Elsewhere}
use Rattle.jpeg_meaning.specs.Found.{Found, nothing_found}
use Rattle.jpeg_meaning.specs.Stream.{Walked, all_brought, header_at, start_at, turn_within, walk}
use Rattle.jpeg_meaning.specs.Work.{left_after, work_of_turn}
use Rattle.jpeg_meaning.proofs.Longer.LongerSegments.{Stays, byte-stays, stays-bind, stays-err, stays-if, stays-ok, stays-read}
use Rattle.jpeg_meaning.proofs.Longer.LongerSteps.{turn-stays}
use Rattle.jpeg_meaning.proofs.Written.ReadTurns.{ok-same, walk-on}
use Rattle.jpeg_decoder.specs.Fed.{IsCheckpoint}
use Rattle.jpeg_decoder.specs.Steps.{turn_of}
use Rattle.jpeg_decoder.specs.Walks.{steps_over}
use Rattle.jpeg_decoder.specs.declared.stream.state.Step.{Step}
use Rattle.jpeg_decoder.proofs.Partial.FramesStay.{longer-frames, walk-frames}
use Rattle.jpeg_decoder.proofs.Segments.HeaderThenRest.{GoesOn, goes-on, header-framed}
use Rattle.jpeg_decoder.proofs.Segments.LeftBytes.{left-most}
use Rattle.jpeg_decoder.proofs.Segments.TurnLoops.{onward_step}
use Rattle.jpeg_decoder.proofs.Segments.Turns.{turn-takes, turns-enough}

-- ---- the start

pub start-stays : (more bytes : List ℕ) → Stays more (start_at bytes) (start_at (bytes ++ more))
unfolding start_at
start-stays more bytes = search (rules, stays-bind, byte-stays, stays-if, stays-err, stays-ok) depth 14

pub checkpoint-start : (limit : Option ℕ) (bytes front : List ℕ) → start_at bytes ≡ Ok (tt, front)
    → IsCheckpoint limit bytes limit onward_step nothing_found front
checkpoint-start limit bytes front e = record {
  turns = 0;
  front = front;
  started = λ more. stays-read more _ _ (start-stays more bytes) (tt, front) e;
  walks = λ more n. let none : 0 + n ≡ n = omega arith in
      ap (λ (k : ℕ). walk limit Nothing k false Elsewhere nothing_found None (front ++ more)) none;
  few = le_refl (length front);
}

-- ---- one more turn

pub checkpoint-on : (limit : Option ℕ) (bytes : List ℕ) (left : Option ℕ) (step : Step) (found : Found)
    (rest : List ℕ) (next : Step) (after : Found) (new : List ℕ) → IsCheckpoint limit bytes left step found rest
    → (turn_within left Nothing step.before found step.met rest).turn ≡ Ok (turn_of after next, new)
    → next.ended ≡ false
    → IsCheckpoint limit bytes (left_after left (work_of_turn found step.met rest)) next after new
checkpoint-on limit bytes left step found rest next after new h e on =
    let less = turn-takes left Nothing step.before found step.met rest (turn_of after next, new) e on in
    let most = left-most step.met rest in
    record {
      turns = h.turns + 1;
      front = h.front;
      started = h.started;
      walks = λ more n.
          let one : h.turns + 1 + n ≡ h.turns + suc n = omega arith in
          let stays = turn-stays more left step.before found step.met rest (turn_of after next, new) e in
          ap (λ (k : ℕ). walk limit Nothing k false Elsewhere nothing_found None (h.front ++ more)) one
          ∙ h.walks more (suc n)
          ∙ walk-on left Nothing n false step.before found step.met (rest ++ more) (new ++ more) (turn_of after next) refl
          stays.turn on
          ∙ ap (λ (k : ℕ). walk (left_after left k) Nothing n false next.before after next.met (new ++ more)) stays.work;
      few = omega (arith, less, most, h.few);
    }

-- ---- more bytes

pub checkpoint-fed : (limit : Option ℕ) (bytes piece : List ℕ) (left : Option ℕ) (step : Step) (found : Found)
    (rest : List ℕ) → IsCheckpoint limit bytes left step found rest
    → IsCheckpoint limit (bytes ++ piece) left step found (rest ++ piece)
checkpoint-fed limit bytes piece left step found rest h = record {
  turns = h.turns;
  front = h.front ++ piece;
  started = λ more.
      ap start_at (append_assoc bytes piece more) ∙ h.started (piece ++ more)
      ∙ ap (λ (l : List ℕ). Ok (tt, l)) (sym (append_assoc h.front piece more));
  walks = λ more n.
      ap (λ (l : List ℕ). walk limit Nothing (h.turns + n) false Elsewhere nothing_found None l)
      (append_assoc h.front piece more)
      ∙ h.walks (piece ++ more) n
      ∙ ap (λ (l : List ℕ). walk left Nothing n false step.before found step.met l) (sym (append_assoc rest piece more));
  few = omega (arith, h.few, length-append h.front piece, length-append rest piece);
}

-- ---- the whole

walk-whole : {limit : Option ℕ} {bytes : List ℕ} {left : Option ℕ} {step : Step} {found : Found} {rest : List ℕ}
    → (h : IsCheckpoint limit bytes left step found rest)
    → walk limit Nothing (suc (length h.front)) false Elsewhere nothing_found None h.front
    ≡ steps_over left Nothing found step rest
walk-whole {limit} {bytes} {left} {step} {found} {rest} h =
    let n = suc (suc (length h.front)) in
    let most = left-most step.met rest in
    let first = left-most None h.front in
    turns-enough limit Nothing (suc (length h.front)) (h.turns + n) false Elsewhere nothing_found None h.front
    (omega arith) (omega (arith, first))
    ∙ ap (λ (l : List ℕ). walk limit Nothing (h.turns + n) false Elsewhere nothing_found None l) (sym (append-nil h.front))
    ∙ h.walks [] n
    ∙ ap (λ (l : List ℕ). walk left Nothing n false step.before found step.met l) (append-nil rest)
    ∙ turns-enough left Nothing n (suc (suc (length rest))) false step.before found step.met rest
    (omega (arith, most, h.few)) most

starts : {limit : Option ℕ} {bytes : List ℕ} {left : Option ℕ} {step : Step} {found : Found} {rest : List ℕ}
    → (h : IsCheckpoint limit bytes left step found rest) → start_at bytes ≡ Ok (tt, h.front)
starts {bytes = bytes} h =
    ap start_at (sym (append-nil bytes)) ∙ h.started [] ∙ ap (λ (l : List ℕ). Ok (tt, l)) (append-nil h.front)

same-start : {limit : Option ℕ} {bytes : List ℕ} {left : Option ℕ} {step : Step} {found : Found} {rest start : List ℕ}
    → (h : IsCheckpoint limit bytes left step found rest) → start_at bytes ≡ Ok (tt, start) → start ≡ h.front
same-start h e = ap (λ (p : Unit {0} × List ℕ). p.1) (ok-same _ _ (sym e ∙ starts h))

-- ---- after a header

-- the rest of the stream after its header is walked as what follows the checkpoint
pub checkpoint-walks : (limit : Option ℕ) (bytes : List ℕ) (left : Option ℕ) (step : Step) (found : Found)
    (rest : List ℕ) (header : Found) (after : List ℕ) → IsCheckpoint limit bytes left step found rest
    → header_at bytes ≡ Ok (header, after)
    → all_brought limit header after ≡ steps_over left Nothing found step rest
checkpoint-walks limit bytes left step found rest header after h e =
    let g = goes-on limit Nothing header bytes after e in
    sym g.whole
    ∙ ap (λ (l : List ℕ). walk limit Nothing (suc (length l)) false Elsewhere nothing_found None l) (same-start h g.starts)
    ∙ walk-whole h

-- what is found by the turns before it
turns-found : {limit : Option ℕ} {bytes : List ℕ} {left : Option ℕ} {step : Step} {found : Found} {rest : List ℕ}
    → (h : IsCheckpoint limit bytes left step found rest)
    → (walk limit Nothing (h.turns + 0) false Elsewhere nothing_found None h.front).found ≡ found
unfolding walk
turns-found h =
    ap (λ (l : List ℕ). (walk _ Nothing (h.turns + 0) false Elsewhere nothing_found None l).found)
    (sym (append-nil h.front))
    ∙ ap (λ (w : Walked). w.found) (h.walks [] 0)

-- and if a frame was found, it is that of the header
pub checkpoint-frames : (limit : Option ℕ) (bytes : List ℕ) (left : Option ℕ) (step : Step) (found : Found)
    (rest : List ℕ) (header : Found) (after : List ℕ) → IsCheckpoint limit bytes left step found rest
    → header_at bytes ≡ Ok (header, after) → is_some found.said.frame ≡ true
    → found.said.frame ≡ header.said.frame
checkpoint-frames limit bytes left step found rest header after h e some =
    go found.said.frame header.said.frame refl refl some (header-framed header bytes after e)
  where
    g : GoesOn limit Nothing header bytes after
    g = goes-on limit Nothing header bytes after e

    whole : ℕ → List ℕ → Option Frame
    whole k l = (walk limit Nothing k false Elsewhere nothing_found None l).found.said.frame

    at : (own next : Frame) → found.said.frame ≡ Some own → header.said.frame ≡ Some next → Some own ≡ Some next
    at own next is also =
        let swap : h.turns + 0 + g.turns ≡ g.turns + h.turns = omega arith in
        sym (longer-frames (h.turns + 0) g.turns limit Elsewhere own nothing_found None h.front
        (ap (λ (f : Found). f.said.frame) (turns-found h) ∙ is))
        ∙ ap (λ (k : ℕ). whole k h.front) swap
        ∙ ap (whole (g.turns + h.turns)) (sym (same-start h g.starts))
        ∙ ap (λ (w : Walked). w.found.said.frame) (g.after h.turns)
        ∙ walk-frames h.turns limit Elsewhere next header None after also

    go : (o p : Option Frame) → found.said.frame ≡ o → header.said.frame ≡ p → is_some o ≡ true → is_some p ≡ true
        → found.said.frame ≡ header.said.frame
    go (Some own) (Some next) is also a b = is ∙ at own next is also ∙ sym also
    go None p is also a b = absurd (true≢false (sym a))
    go (Some own) None is also a b = absurd (true≢false (sym b))
