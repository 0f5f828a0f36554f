-- The complete rows of what is shown.
use Rattle.std.proofs.Common.{◌≡◌, ◌∙◌, ℕ, List, Option, Some, None, Result, Ok, Err, ap, refl, sym, true, false}
use Rattle.std.specs.Prelude.{IfOk, is_some, option_map, unwrap_or}
use Rattle.std.proofs.lemmas.Result.{IfOk-weaker}
use Rattle.jpeg_bits.specs.Reading.{Fault}
use Rattle.jpeg_bits.specs.Stream.{Stream}
use Rattle.jpeg_bits.specs.declared.error.Error.{Error}
use Rattle.jpeg_segments.specs.Frame.{Frame}
use Rattle.jpeg_meaning.specs.Found.{Found}
use Rattle.jpeg_meaning.specs.Shown.{fault_in, planes_by, rows_of_found, rows_of_frame}
use Rattle.jpeg_meaning.specs.States.{OnTold}
use Rattle.jpeg_meaning.specs.Stream.{Walked}
use Rattle.jpeg_decoder.specs.Reaching.{NamesFault, is_out_of_memory, without_tables}
use Rattle.jpeg_decoder.specs.Shows.{CountsRows}
use Rattle.jpeg_decoder.proofs.Partial.ShownFaults.{planes-tables, told-holds}

-- ---- what was found

-- all rows, or none, by whether a component is missing
abbrev rows_by : Option ℕ → Frame → Result (List (List ℕ)) Fault → ℕ
rows_by rows frame o = elim o as (λ _. ℕ) [ Ok planes ↦ unwrap_or rows frame.output_height | Err fault ↦ 0 ]

by-missing : (rows : Option ℕ) (frame : Frame) (o : Result (List (List ℕ)) Fault) (missing : Option Error) (n : ℕ)
    → NamesFault missing (fault_in o) → (is_some missing ≡ false → n ≡ unwrap_or rows frame.output_height)
    → (is_some missing ≡ true → n ≡ 0) → n ≡ rows_by rows frame o
by-missing rows frame (Ok planes) None n names all none = all refl
by-missing rows frame (Ok planes) (Some e) n names all none = absurd names
by-missing rows frame (Err fault) None n names all none = absurd names
by-missing rows frame (Err fault) (Some e) n names all none = none refl

pub found-counted : (rows : Option ℕ) (found : Found) (frame : Frame) (missing : Option Error) (n : ℕ)
    → found.said.frame ≡ Some frame → NamesFault missing (fault_in (planes_by frame.process found frame))
    → (is_some missing ≡ false → n ≡ unwrap_or rows frame.output_height) → (is_some missing ≡ true → n ≡ 0)
    → n ≡ rows_of_found rows found
found-counted rows found frame missing n framed names all none =
    by-missing rows frame (planes_by frame.process found frame) missing n names all none
    ∙ sym (ap (λ (o : Option Frame). unwrap_or (option_map (rows_of_frame rows found) o) 0) framed)

-- ---- tables are not seen

found-tables : (rows : Option ℕ) (f : Found) → rows_of_found rows (without_tables f) ≡ rows_of_found rows f
found-tables rows f = go f.said.frame
  where
    go : (o : Option Frame) → unwrap_or (option_map (rows_of_frame rows (without_tables f)) o) 0
        ≡ unwrap_or (option_map (rows_of_frame rows f) o) 0
    go None = refl
    go (Some frame) = ap (rows_by rows frame) (planes-tables frame.process f frame)

found-same : (rows : Option ℕ) (f g : Found) → without_tables f ≡ without_tables g
    → rows_of_found rows f ≡ rows_of_found rows g
found-same rows f g e =
    sym (found-tables rows f) ∙ ap (rows_of_found rows) e ∙ found-tables rows g

-- ---- the rest of a stream, and a whole one

-- by a walk
pub rest-counted : {X : Type 0} (rows_of : X → ℕ) (walk : List ℕ → Walked) (f g : Found) (s n : Stream)
    (ended : Result (Unit {0}) Error) (rows : Option ℕ) (r : Result X Error) → is_out_of_memory ended ≡ false
    → OnTold s n ended (without_tables f ≡ without_tables (walk s.bytes).found)
    → OnTold s n ended (rows ≡ (walk s.bytes).rows) → g ≡ f
    → IfOk r (λ x. rows_of x ≡ rows_of_found rows g)
    → CountsRows rows_of (λ bytes. rows_of_found (walk bytes).rows (walk bytes).found) s r n
rest-counted rows_of walk f g s n ended rows r m found counted same h = λ k l.
    let all = (walk s.bytes).found in
    IfOk-weaker r _ _ (λ x is. is ∙ ap (rows_of_found rows) same
    ∙ found-same rows f all (told-holds s n ended _ m found k l)
    ∙ ap (λ (rows : Option ℕ). rows_of_found rows all) (told-holds s n ended _ m counted k l)) h
