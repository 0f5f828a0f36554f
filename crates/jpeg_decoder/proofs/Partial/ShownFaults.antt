-- What a stream shows of what was found, and its first fault.
use Rattle.std.proofs.Common.{◌≡◌, ◌∙◌, ℕ, List, [], ◌∷◌, Option, Some, None, Result, Ok, Err, ap, arith, refl, subst}
use Rattle.std.proofs.Common.{◌⊎◌, sym, true, false}
use Rattle.std.specs.Prelude.{Bool, IfErr, IfOk, IfSome, IsSomeAnd}
use Rattle.std.specs.Option.{option_or}
use Rattle.std.specs.Result.{result_err}
use Rattle.std.proofs.lemmas.Bool.{true≢false}
use Rattle.std.specs.List.{enumerate_from, fold}
use Rattle.std.proofs.lemmas.Grind.{common_steps}
use Rattle.jpeg_bits.proofs.Loops.{Names-through}
use Rattle.jpeg_bits.specs.Reading.{Answers, Fault, IsGivenUp, Malformed, MayFail, Names, NamesFormat, Outcome, ◌>>=◌}
use Rattle.jpeg_bits.specs.Stream.{Stream}
use Rattle.jpeg_bits.specs.declared.error.Error.{Error}
use Rattle.jpeg_bits.specs.declared.error.Error.TheVariants as errors
use Rattle.jpeg_segments.specs.Checks.{needed}
use Rattle.jpeg_segments.specs.Frame.{Component, Frame}
use Rattle.jpeg_segments.specs.declared.frame.CodingProcess.{CodingProcess}
use Rattle.jpeg_segments.specs.declared.frame.CodingProcess.TheVariants.{DctProgressive, DctSequential, Lossless}
use Rattle.jpeg_meaning.specs.Found.{Found}
use Rattle.jpeg_meaning.specs.FoundPictures.{blocks_picture, limited, picture_by_process, picture_of, plane_at_end}
use Rattle.jpeg_meaning.specs.FoundPictures.{samples_picture}
use Rattle.jpeg_meaning.specs.Shown.{Shown, completed, fault_in, fault_shown, framed_or, picture_shown, planes_by}
use Rattle.jpeg_meaning.specs.Shown.{shown_by, shown_of, with_plane_shown, with_samples_shown}
use Rattle.jpeg_meaning.specs.States.{IfRefused, IsOfBytes, OnTold}
use Rattle.jpeg_meaning.specs.Stream.{Told, Walked, told_of}
use Rattle.jpeg_meaning.specs.declared.settings.Settings.{Settings}
use Rattle.jpeg_decoder.specs.Reaching.{NamesFault, UnlessRefused, is_out_of_memory, walk_end, without_tables}
use Rattle.jpeg_decoder.specs.Walks.{walked_to}
use Rattle.jpeg_decoder.proofs.Partial.Refused.{if-there}
use Rattle.jpeg_decoder.specs.Shows.{GivesUp, IsShown, ShowsJust}

-- ---- tables are not seen

one-tables : (p : CodingProcess) (frame : Frame) (f : Found) (c : ℕ × Component)
    → shown_by p frame (without_tables f) c ≡ without_tables (shown_by p frame f c)
unfolding with_plane_shown with_samples_shown
one-tables Lossless frame f c = refl
one-tables DctSequential frame f c = refl
one-tables DctProgressive frame f c = refl

all-tables : (p : CodingProcess) (frame : Frame) (f : Found) (cs : List (ℕ × Component))
    → fold (shown_by p frame) (without_tables f) cs ≡ without_tables (fold (shown_by p frame) f cs)
all-tables p frame f [] = refl
all-tables p frame f (c ∷ cs) =
    ap (λ (x : Found). fold (shown_by p frame) x cs) (one-tables p frame f c)
    ∙ all-tables p frame (shown_by p frame f c) cs

process-tables : (p : CodingProcess) (settings : Settings) (f : Found) (frame : Frame)
    → picture_by_process p settings (without_tables f) frame ≡ picture_by_process p settings f frame
unfolding blocks_picture samples_picture plane_at_end
process-tables Lossless settings f frame = refl
process-tables DctSequential settings f frame = refl
process-tables DctProgressive settings f frame = refl

picture-tables : (settings : Settings) (f : Found) → picture_of settings (without_tables f) ≡ picture_of settings f
unfolding picture_of limited
picture-tables settings f =
    ap (λ (picture : Frame → Result (List ℕ) Fault). limited settings f.said picture)
    (λ i frame. process-tables frame.process settings f frame i)

shown-picture : (settings : Settings) (f : Found) → picture_shown settings (without_tables f) ≡ picture_shown settings f
unfolding picture_shown completed
shown-picture settings f =
    ap (λ (picture : Frame → Result (List ℕ) Fault). needed f.said.frame >>= picture)
    (λ i frame.
    (ap (picture_of settings) (all-tables frame.process frame f (enumerate_from 0 frame.components))
    ∙ picture-tables settings (completed f frame)) i)

pub planes-tables : (p : CodingProcess) (f : Found) (frame : Frame)
    → planes_by p (without_tables f) frame ≡ planes_by p f frame
unfolding plane_at_end
planes-tables Lossless f frame = refl
planes-tables DctSequential f frame = refl
planes-tables DctProgressive f frame = refl

fault-tables : (f : Found) (ended : Result (List ℕ) Fault) → fault_shown (without_tables f) ended ≡ fault_shown f ended
unfolding fault_shown
fault-tables f (Err fault) = refl
fault-tables f (Ok rest) =
    ap (λ (planes : Frame → Result (List (List ℕ)) Fault). fault_in (needed f.said.frame >>= planes))
    (λ i frame. planes-tables frame.process f frame i)

shown-tables : (settings : Settings) (f : Found) (ended : Result (List ℕ) Fault)
    → shown_of settings (without_tables f) ended ≡ shown_of settings f ended
unfolding shown_of
shown-tables settings f ended i =
    framed_or f.said.frame ended >>= (λ (u : Unit {0}). shown-picture settings f i >>= (λ (picture : List ℕ).
    Ok (record { told = told_of f.said; picture = picture; fault = fault-tables f ended i })))

-- What differs in tables alone shows the same.
pub shown-same : (settings : Settings) (f g : Found) (ended : Result (List ℕ) Fault)
    → without_tables f ≡ without_tables g
    → shown_of settings f ended ≡ shown_of settings g ended
shown-same settings f g ended e =
    sym (shown-tables settings f ended) ∙ ap (λ (x : Found). shown_of settings x ended) e
    ∙ shown-tables settings g ended

-- ---- what was found is shown

framed-none : (settings : Settings) (f : Found) (o : Option Frame) (ended : Result (List ℕ) Fault) → f.said.frame ≡ o
    → shown_of settings f ended ≡ (framed_or o ended >>= (λ (u : Unit {0}). picture_shown settings f
    >>= (λ (picture : List ℕ). Ok (record { told = told_of f.said; picture = picture; fault = fault_shown f ended }))))
unfolding shown_of
framed-none settings f o ended e = ap (λ (o : Option Frame). framed_or o ended >>= (λ (u : Unit
    {0}). picture_shown settings f
    >>= (λ (picture : List ℕ). Ok (record
    { told = told_of f.said; picture = picture; fault = fault_shown f ended })))) e

-- without a frame the fault is that of the segments
fault-unframed : (settings : Settings) (f : Found) (e : Error) (ended : Result (List ℕ) Fault) → f.said.frame ≡ None
    → NamesFault (Some e) (fault_in ended) → Names e (shown_of settings f ended)
fault-unframed settings f e (Ok rest) none n = absurd n
fault-unframed settings f e (Err fault) none n =
    subst (Names e) (sym (framed-none settings f None (Err fault) none))
    (Names-through e (Err fault) (Err fault) (λ g p. ap (λ (r : Result (Unit {0}) Fault). r >>= (λ u. Err g)) p) n)

pub unframed-fault : (settings : Settings) (f : Found) (e : Error) (fault : Option Error) (ended : Result
    (List ℕ) Fault)
    → f.said.frame ≡ None → fault ≡ Some e → NamesFault fault (fault_in ended) → Names e (shown_of settings f ended)
unframed-fault settings f e fault ended none is n =
    fault-unframed settings f e ended none (subst (λ (o : Option Error). NamesFault o (fault_in ended)) is n)

-- or that there is none
end-unframed : (settings : Settings) (f : Found) (e : Error) (ended : Result (List ℕ) Fault) → f.said.frame ≡ None
    → NamesFault None (fault_in ended) → NamesFormat e → Names e (shown_of settings f ended)
end-unframed settings f e (Err fault) none n k = absurd n
end-unframed settings f e (Ok rest) none n k =
    subst (Names e) (sym (framed-none settings f None (Ok rest) none)) (malformed e k)
  where
    malformed : (e : Error) → NamesFormat e → Names {Y = Shown} e (Err Malformed)
    malformed e k = grind (arith, common_steps)

pub unframed-end : (settings : Settings) (f : Found) (e : Error) (fault : Option Error) (ended : Result (List ℕ) Fault)
    → f.said.frame ≡ None → fault ≡ None → NamesFault fault (fault_in ended) → NamesFormat e
    → Names e (shown_of settings f ended)
unframed-end settings f e fault ended none is n k =
    end-unframed settings f e ended none (subst (λ (o : Option Error). NamesFault o (fault_in ended)) is n) k

-- with one the picture is that of what was found, with what it lacks
framed-some : (settings : Settings) (f : Found) (frame : Frame) (ended : Result (List ℕ) Fault)
    → f.said.frame ≡ Some frame
    → shown_of settings f ended ≡ (picture_of settings (completed f frame)
    >>= (λ (picture : List ℕ). Ok (record { told = told_of f.said; picture = picture; fault = fault_shown f ended })))
unfolding picture_shown
framed-some settings f frame ended e =
    framed-none settings f (Some frame) ended e
    ∙ ap (λ (o : Option Frame). (needed o >>= (λ (x : Frame). picture_of settings (completed f x)))
    >>= (λ (picture : List ℕ). Ok (record { told = told_of f.said; picture = picture; fault = fault_shown f ended }))) e

pub framed-lacks : (settings : Settings) (f g : Found) (frame : Frame) (e : Error) (ended : Result (List ℕ) Fault)
    → f.said.frame ≡ Some frame → g ≡ completed f frame → Names e (picture_of settings g)
    → Names e (shown_of settings f ended)
framed-lacks settings f g frame e ended some is n =
    Names-through e (picture_of settings g) (shown_of settings f ended)
    (λ fault p. framed-some settings f frame ended some
    ∙ ap (λ (o : Result (List ℕ) Fault). o >>= (λ (picture : List ℕ).
    Ok (record { told = told_of f.said; picture = picture; fault = fault_shown f ended })))
    (ap (picture_of settings) (sym is) ∙ p)) n

-- the first fault
fault-first : (f : Found) (frame : Frame) (fault missing : Option Error) (ended : Result (List ℕ) Fault)
    → f.said.frame ≡ Some frame → NamesFault missing (fault_in (planes_by frame.process f frame))
    → NamesFault fault (fault_in ended) → NamesFault (option_or fault missing) (fault_shown f ended)
unfolding fault_shown
fault-first f frame None missing (Ok rest) some m n =
    subst (λ (o : Option Frame). NamesFault missing (fault_in (needed o >>= (λ (x : Frame). planes_by x.process f x))))
    (sym some) m
fault-first f frame None missing (Err fault) some m n = absurd n
fault-first f frame (Some e) missing (Ok rest) some m n = absurd n
fault-first f frame (Some e) missing (Err fault) some m n = n

pub framed-shown : (settings : Settings) (f g : Found) (frame : Frame) (fault missing first : Option Error)
    (picture : List ℕ) (ended : Result (List ℕ) Fault)
    → f.said.frame ≡ Some frame → g ≡ completed f frame → picture_of settings g ≡ Ok picture
    → first ≡ option_or fault missing → NamesFault missing (fault_in (planes_by frame.process f frame))
    → NamesFault fault (fault_in ended)
    → (s : Shown) × (shown_of settings f ended ≡ Ok s) × (picture ≡ s.picture) × (told_of f.said ≡ s.told)
    × NamesFault first s.fault
framed-shown settings f g frame fault missing first picture ended some is made e m n = (
  record { told = told_of f.said; picture = picture; fault = fault_shown f ended },
  framed-some settings f frame ended some
      ∙ ap (λ (o : Result (List ℕ) Fault). o >>= (λ (picture : List ℕ).
      Ok (record { told = told_of f.said; picture = picture; fault = fault_shown f ended })))
      (ap (picture_of settings) (sym is) ∙ made),
  refl,
  refl,
  subst (λ (o : Option Error). NamesFault o (fault_shown f ended)) (sym e)
      (fault-first f frame fault missing ended some m n),
)

-- ---- the rest of a stream

ok-end : (end : Result (List ℕ) Fault) (x : Unit {0} × List ℕ)
    → (end >>= λ (rest : List ℕ). Ok (tt, rest)) ≡ Ok x → NamesFault None (fault_in end)
ok-end (Ok rest) x e = tt
ok-end (Err fault) x e = let b : ⊥ = cc in b

err-end : (e : Error) (end : Result (List ℕ) Fault) → (e ≡ errors.OutOfMemory → ⊥)
    → Names {Y = Unit {0} × List ℕ} e (end >>= λ (rest : List ℕ). Ok (tt, rest))
    → NamesFault (Some e) (fault_in end)
err-end e (Ok rest) other n = grind (arith, common_steps)
err-end e (Err fault) other n =
    Names-through e (Err fault) (Err fault) (λ g p. ap (λ (r : Outcome (Unit {0})). r >>= (λ x. Err g)) p) n

-- what a walk shows
abbrev pub walk_shown : Settings → (List ℕ → Walked) → List ℕ → Result Shown Fault
walk_shown settings walk bytes = shown_of settings (walk bytes).found (walk bytes).rest

shown-through : {X : Type 0} (bytes_of : X → List ℕ) (fault_of : X → Option Error) (settings : Settings) (f : Found)
    (w : Walked) (fault : Option Error) (r : Result X Error) (told : Told)
    → without_tables f ≡ without_tables w.found → NamesFault fault (fault_in w.rest)
    → ((ended : Result (List ℕ) Fault) → NamesFault fault (fault_in ended)
    → IsShown (shown_of settings f ended) bytes_of fault_of r told)
    → IsShown (shown_of settings w.found w.rest) bytes_of fault_of r told
shown-through bytes_of fault_of settings f w fault r told same n h =
    subst (λ (o : Result Shown Fault). IsShown o bytes_of fault_of r told)
    (shown-same settings f w.found w.rest same) (h w.rest n)

pub rest-ok : {X : Type 0} (bytes_of : X → List ℕ) (fault_of : X → Option Error) (settings : Settings)
    (walk : List ℕ → Walked) (f : Found) (s n : Stream) (r : Result X Error) (told : Told)
    → Answers (λ (u : Unit {0}). tt) (λ bytes. walk_end (walk bytes)) s (Ok tt) n
    → (s.known ≡ true → without_tables f ≡ without_tables (walk s.bytes).found)
    → ((ended : Result (List ℕ) Fault) → NamesFault None (fault_in ended)
    → IsShown (shown_of settings f ended) bytes_of fault_of r told)
    → ShowsJust (walk_shown settings walk) bytes_of fault_of s r n told
rest-ok bytes_of fault_of settings walk f s n r told a found h k l =
    shown-through bytes_of fault_of settings f (walk s.bytes) None r told (found k)
    (ok-end (walk s.bytes).rest _ (a.1 k).1) h

pub rest-err : {X : Type 0} (bytes_of : X → List ℕ) (fault_of : X → Option Error) (settings : Settings)
    (walk : List ℕ → Walked) (f : Found) (s n : Stream) (e : Error) (r : Result X Error) (told : Told)
    → (e ≡ errors.OutOfMemory → ⊥)
    → IfRefused e (Answers (λ (u : Unit {0}). tt) (λ bytes. walk_end (walk bytes)) s (Err e) n)
    → (s.known ≡ true → n.known ≡ true → IfRefused e (without_tables f ≡ without_tables (walk s.bytes).found))
    → ((ended : Result (List ℕ) Fault) → NamesFault (Some e) (fault_in ended)
    → IsShown (shown_of settings f ended) bytes_of fault_of r told)
    → ShowsJust (walk_shown settings walk) bytes_of fault_of s r n told
rest-err bytes_of fault_of settings walk f s n e r told other a found h k l =
    shown-through bytes_of fault_of settings f (walk s.bytes) (Some e) r told (if-there e _ other (found k l))
    (err-end e (walk s.bytes).rest other ((if-there e _ other a).1 k l)) h

not-memory : (e : Error) → is_out_of_memory {X = Unit {0}} (Err e) ≡ false → e ≡ errors.OutOfMemory → ⊥
not-memory e h is = true≢false (sym (ap (λ (e : Error). is_out_of_memory {X = Unit {0}} (Err e)) is) ∙ h)

pub rest-shown : {X : Type 0} (bytes_of : X → List ℕ) (fault_of : X → Option Error) (settings : Settings)
    (walk : List ℕ → Walked) (f g : Found)
    (s n : Stream) (ended : Result (Unit {0}) Error) (fault : Option Error) (r : Result X Error) (told : Told)
    → is_out_of_memory ended ≡ false
    → UnlessRefused ended (Answers (λ (u : Unit {0}). tt) (λ bytes. walk_end (walk bytes)) s ended n)
    → OnTold s n ended (without_tables f ≡ without_tables (walk s.bytes).found)
    → fault ≡ result_err ended → g ≡ f
    → ((w : Result (List ℕ) Fault) → NamesFault fault (fault_in w)
    → IsShown (shown_of settings g w) bytes_of fault_of r told)
    → ShowsJust (walk_shown settings walk) bytes_of fault_of s r n told
rest-shown bytes_of fault_of settings walk f g s n (Ok u) fault r told m a found is e h =
    rest-ok bytes_of fault_of settings walk f s n r told a found
    (λ w p. subst (λ (x : Found). IsShown (shown_of settings x w) bytes_of fault_of r told) e
    (h w (subst (λ (o : Option Error). NamesFault o (fault_in w)) (sym is) p)))
rest-shown bytes_of fault_of settings walk f g s n (Err x) fault r told m a found is e h =
    rest-err bytes_of fault_of settings walk f s n x r told (not-memory x m) a found
    (λ w p. subst (λ (x : Found). IsShown (shown_of settings x w) bytes_of fault_of r told) e
    (h w (subst (λ (o : Option Error). NamesFault o (fault_in w)) (sym is) p)))

-- what holds, unless memory ran out
pub then-holds : (ended : Result (Unit {0}) Error) (P : Type 0) → is_out_of_memory ended ≡ false
    → UnlessRefused ended P → P
then-holds (Ok u) P m p = p
then-holds (Err e) P m p = if-there e P (not-memory e m) p

pub told-holds : (s n : Stream) (ended : Result (Unit {0}) Error) (P : Type 0) → is_out_of_memory ended ≡ false
    → OnTold s n ended P → s.known ≡ true → n.known ≡ true → P
told-holds s n (Ok u) P m p k l = p k
told-holds s n (Err e) P m p k l = if-there e P (not-memory e m) (p k l)

-- an error of a call on a source is one of bytes
pub of-bytes : (e : Error) (a b : Bool) → MayFail e a b → IsOfBytes e
of-bytes errors.OutOfMemory a b h = tt
of-bytes (errors.Format t) a b h = tt
of-bytes (errors.Unsupported t) a b h = tt
of-bytes (errors.Io t) a b h = tt
of-bytes (errors.Internal t) a b h = h

-- where segments were read to their end, or refused, whatever was found
ended-alone : (f g : Found) (o : Result (List ℕ) Fault) (rest : List ℕ)
    → ◌>>=◌ {B = Found × List ℕ} o (λ (rest : List ℕ). Ok (f, rest)) ≡ Ok (g, rest)
    → ◌>>=◌ {B = Unit {0} × List ℕ} o (λ (rest : List ℕ). Ok (tt, rest)) ≡ Ok (tt, rest)
ended-alone f g (Ok x) rest e = grind arith
ended-alone f g (Err fault) rest e = grind arith

fault-alone : (f : Found) (o : Result (List ℕ) Fault) (fault : Fault)
    → ◌>>=◌ {B = Found × List ℕ} o (λ (rest : List ℕ). Ok (f, rest)) ≡ Err fault
    → ◌>>=◌ {B = Unit {0} × List ℕ} o (λ (rest : List ℕ). Ok (tt, rest)) ≡ Err fault
fault-alone f (Ok x) fault e = grind arith
fault-alone f (Err g) fault e = grind arith

pub end-alone : (v : Unit {0} → Found) (walk : List ℕ → Walked) (old new : Stream) (r : Result (Unit {0}) Error)
    → Answers v (λ bytes. walked_to (walk bytes)) old r new
    → Answers (λ (u : Unit {0}). tt) (λ bytes. walk_end (walk bytes)) old r new
end-alone v walk old new (Ok u) a =
    (a.0, λ k. let p = a.1 k in (p.0, ended-alone (walk old.bytes).found (v u) (walk old.bytes).rest new.bytes p.1))
end-alone v walk old new (Err e) a = (
  a.0,
  (λ k l. Names-through e (walked_to (walk old.bytes)) (walk_end (walk old.bytes))
      (fault-alone (walk old.bytes).found (walk old.bytes).rest) (a.1 k l)),
  a.2,
)

pub ended-bytes : (ended : Result (Unit {0}) Error) (fault : Option Error) (view : Unit {0} → Unit {0})
    (read : List ℕ → Outcome (Unit {0})) (s n : Stream) → is_out_of_memory ended ≡ false
    → UnlessRefused ended (Answers view read s ended n) → fault ≡ result_err ended → IfSome fault IsOfBytes
ended-bytes (Ok u) fault view read s n m a is = subst (λ (o : Option Error). IfSome o IsOfBytes) (sym is) tt
ended-bytes (Err e) fault view read s n m a is =
    subst (λ (o : Option Error). IfSome o IsOfBytes) (sym is)
    (of-bytes e s.failed n.failed (if-there e _ (not-memory e m) a).0)

-- ---- a reader that gives up

-- the first fault is that of the segments, where they have one
pub first-stays : (fault missing first : Option Error) → first ≡ option_or fault missing
    → IfSome fault (λ (e : Error). first ≡ Some e)
first-stays None missing first is = tt
first-stays (Some e) missing first is = is

failed-read : (e : Error) (failed : Bool) → IsGivenUp e failed → (IsGivenUp e false → ⊥) → failed ≡ true
failed-read e true g other = refl
failed-read e false g other = absurd (other g)

refused-or : (e : Error) (failed : Bool) → failed ≡ true → IfRefused e ((failed ≡ true) ⊎ IsGivenUp e failed)
refused-or e failed h = grind (arith, common_steps)

pub refused-given : (e : Error) (failed : Bool) → IsGivenUp e failed → IfRefused e ((failed ≡ true) ⊎ IsGivenUp e failed)
refused-given e failed h = grind (arith, common_steps)

pub rest-given-up : {X : Type 0} (fault_of : X → Option Error) (view : Unit {0} → Unit {0})
    (read : List ℕ → Outcome (Unit {0})) (s n : Stream) (ended : Result (Unit {0}) Error) (fault : Option Error)
    (r : Result X Error) → is_out_of_memory ended ≡ false → IfErr ended (λ e. IsGivenUp e false → ⊥)
    → UnlessRefused ended (Answers view read s ended n)
    → fault ≡ result_err ended → IfOk r (λ (x : X). IfSome fault (λ (e : Error). fault_of x ≡ Some e))
    → GivesUp fault_of s r n
rest-given-up fault_of view read s n (Ok u) fault (Err e) m other a is first = λ k l.
    absurd (true≢false (sym (a.1 k).0 ∙ l))
rest-given-up fault_of view read s n (Err x) fault (Err e) m other a is first = λ k l.
    refused-or e n.failed (failed-read x n.failed ((if-there x _ (not-memory x m) a).2 k l) other)
rest-given-up fault_of view read s n (Ok u) fault (Ok x) m other a is first = λ k l.
    absurd (true≢false (sym (a.1 k).0 ∙ l))
rest-given-up fault_of view read s n (Err e) fault (Ok x) m other a is first = λ k l.
    let same : fault_of x ≡ Some e =
    subst (λ (o : Option Error). IfSome o (λ (e : Error). fault_of x ≡ Some e)) is first in
    subst (λ (o : Option Error). IsSomeAnd o (λ (e : Error). IsGivenUp e n.failed)) (sym same)
    ((if-there e _ (not-memory e m) a).2 k l)
