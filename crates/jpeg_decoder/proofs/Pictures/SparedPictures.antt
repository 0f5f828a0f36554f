-- The luma of a picture is the same where the planes of its other components were there before the scans, and all of
-- them were sent.
use Rattle.std.proofs.Common.{◌≡◌, ℕ, zero, suc, ◌+◌, ◌≤◌, ◌<◌, Bool, true, false, List, [], ◌∷◌, length}
use Rattle.std.proofs.Common.{get_or, replicate, Option, Some, None, Result, Ok, Err, refl, sym, ap, ◌∙◌, subst}
use Rattle.std.proofs.Common.{arith}
use Rattle.std.proofs.Common.{is_some}
use Rattle.std.specs.Prelude.{◌&&◌, ◌||◌, not, ◌*◌, if◌then◌else◌, nat_lt, slice_index_or}
use Rattle.std.specs.List.{enumerate_from, list_all}
use Rattle.jpeg_bits.specs.Reading.{Answers, Fault, Malformed, Outcome, ◌>>=◌}
use Rattle.jpeg_bits.specs.Stream.{Stream}
use Rattle.jpeg_bits.specs.declared.error.Error.{Error}
use Rattle.jpeg_bits.specs.declared.beyond.Beyond.TheVariants.{Zeros}
use Rattle.jpeg_segments.specs.Checks.{check, gathered, needed}
use Rattle.jpeg_segments.specs.Frame.{Component, Frame}
use Rattle.jpeg_segments.specs.declared.frame.CodingProcess.{CodingProcess}
use Rattle.jpeg_segments.specs.declared.frame.CodingProcess.TheVariants.{DctProgressive, DctSequential, Lossless}
use Rattle.jpeg_meaning.specs.EndPlanes.{is_kept}
use Rattle.jpeg_meaning.specs.Found.{Found, Metadata, none_finished}
use Rattle.jpeg_meaning.specs.FoundPictures.{blocks_picture, limited, picture_by, picture_by_process, picture_of}
use Rattle.jpeg_meaning.specs.FoundPictures.{plane_at_end}
use Rattle.jpeg_meaning.specs.Limits.{exceeded_rest}
use Rattle.jpeg_meaning.specs.Pixels.{samples_shown}
use Rattle.jpeg_meaning.specs.Rasters.{plane_by}
use Rattle.jpeg_meaning.specs.Reported.{IsOfTurns, told_in_turns}
use Rattle.jpeg_meaning.specs.States.{OnTold}
use Rattle.jpeg_meaning.specs.Stream.{Told, Walked, rest_within, segments_at, told_of, walk, rest_showing}
use Rattle.jpeg_meaning.specs.declared.before.Before.TheVariants.{Elsewhere}
use Rattle.jpeg_meaning.specs.declared.settings.Settings.{Settings}
use Rattle.jpeg_decoder.specs.Spared.{AreSpared, IfSpared, ShowsLuma, are_sent, beside, is_sent}
use Rattle.jpeg_decoder.specs.Spared.{is_unfinished, sent_picture, shown_rest, three_planes}
use Rattle.jpeg_decoder.specs.Spared.{with_others}
use Rattle.jpeg_meaning.specs.Sound.{IsSound}
use Rattle.jpeg_decoder.proofs.Pictures.PicturesOfPlanes.{decoded-few}
use Rattle.jpeg_decoder.proofs.Pictures.SparedColours.{MarksTell, Tells, walks-beside}

-- ---- results that a test tells

-- A result is there where a test says so; else it is malformed.
abbrev IsTold : {A : Type 0} → Bool → Result A Fault → Type 0
IsTold true (Ok x) = Unit {0}
IsTold false (Err fault) = fault ≡ Malformed
IsTold true (Err fault) = ⊥
IsTold false (Ok x) = ⊥

told-bind : {A B : Type 0} (a b : Bool) (o : Result A Fault) (r : Result B Fault) {C : Type 0} (f : A → B → C)
    → IsTold a o → IsTold b r → IsTold (a && b) (o >>= (λ x. r >>= (λ y. Ok (f x y))))
told-bind true true (Ok x) (Ok y) f p q = tt
told-bind true false (Ok x) (Err fault) f p q = q
told-bind false b (Err fault) r f p q = p
told-bind true true (Ok x) (Err fault) f p q = absurd q
told-bind true false (Ok x) (Ok y) f p q = absurd q
told-bind true b (Err fault) r f p q = absurd p
told-bind false b (Ok x) r f p q = absurd p

told-gathered : {A B : Type 0} (test : A → Bool) (f : A → Result B Fault) (xs : List A)
    → ((x : A) → IsTold (test x) (f x)) → IsTold (list_all test xs) (gathered f xs)
unfolding gathered
told-gathered test f [] each = tt
told-gathered test f (x ∷ xs) each =
    told-bind (test x) (list_all test xs) (f x) (gathered f xs) (λ y ys. y ∷ ys) (each x)
    (told-gathered test f xs each)

-- ---- a plane at the end

marks-at : (planes : List (Option (List ℕ))) (finished : List (List Bool)) (i : ℕ) → MarksTell planes finished
    → is_some (get_or planes i None) ≡ list_all (λ mark. mark) (get_or finished i none_finished)
marks-at [] [] i t = refl
marks-at [] (marks ∷ finished) i t = absurd t
marks-at (o ∷ planes) [] i t = absurd t
marks-at (o ∷ planes) (marks ∷ finished) zero t = t.0
marks-at (o ∷ planes) (marks ∷ finished) (suc i) t = marks-at planes finished i t.1

plane-sent : (found : Found) (frame : Frame) (c : ℕ × Component) → MarksTell found.planes found.finished
    → IsTold (is_sent found frame c) (plane_at_end found frame c)
unfolding plane_at_end
plane-sent found frame c t =
    decide (get_or found.planes c.0 None) (list_all (λ mark. mark) (get_or found.finished c.0 none_finished))
    (marks-at found.planes found.finished c.0 t)
  where
    blocks : (kept : Bool) (table : Option (List ℕ)) → IsTold (kept && is_some table)
        (check kept >>= (λ _. needed table >>= (λ q. Ok (plane_by c.1 q (get_or found.kept c.0 [])))))
    blocks true (Some q) = tt
    blocks true None = refl
    blocks false table = refl

    decide : (o : Option (List ℕ)) (marked : Bool) → is_some o ≡ marked → IsTold (marked || (is_kept found frame
        && is_some (slice_index_or found.said.quantization c.1.factors.quantization None)))
        (elim o as (λ _. Result (List ℕ) Fault) [
          | Some plane ↦ Ok plane
          | None ↦ check (is_kept found frame) >>= (λ _.
              needed (slice_index_or found.said.quantization c.1.factors.quantization None) >>= (λ q.
              Ok (plane_by c.1 q (get_or found.kept c.0 []))))
        ])
    decide (Some plane) true e = tt
    decide None false e = blocks (is_kept found frame)
        (slice_index_or found.said.quantization c.1.factors.quantization None)
    decide (Some plane) false e = absurd cc
    decide None true e = absurd cc

-- ---- the planes that are given

-- what is there, or nothing
abbrev IsThere : {A : Type 0} → Result A Fault → Type 0
IsThere (Ok x) = Unit {0}
IsThere (Err fault) = ⊥

given-at : (second third fourth : List ℕ) (planes : List (Option (List ℕ))) (i : ℕ) → 1 ≤ i → i < 4
    → length planes ≡ 4
    → (plane : List ℕ) × (get_or (with_others (three_planes second third fourth) planes) i None ≡ Some plane)
given-at second third fourth [] i some few count = absurd (omega (arith, count))
given-at second third fourth (o ∷ planes) zero some few count = absurd (omega arith)
given-at second third fourth (o ∷ planes) (suc zero) some few count = (second, refl)
given-at second third fourth (o ∷ planes) (suc (suc zero)) some few count = (third, refl)
given-at second third fourth (o ∷ planes) (suc (suc (suc zero))) some few count = (fourth, refl)
given-at second third fourth (o ∷ planes) (suc (suc (suc (suc i)))) some few count = absurd (omega arith)

plane-there : (found : Found) (frame : Frame) (c : ℕ × Component) (plane : List ℕ)
    → get_or found.planes c.0 None ≡ Some plane → IsThere (plane_at_end found frame c)
unfolding plane_at_end
plane-there found frame c plane e = go (get_or found.planes c.0 None) e
  where
    go : (o : Option (List ℕ)) → o ≡ Some plane → IsThere (elim o as (λ _. Result (List ℕ) Fault) [
      | Some plane ↦ Ok plane
      | None ↦ check (is_kept found frame) >>= (λ _.
          needed (slice_index_or found.said.quantization c.1.factors.quantization None) >>= (λ q.
          Ok (plane_by c.1 q (get_or found.kept c.0 []))))
    ])
    go (Some p) e = tt
    go None e = absurd cc

there-bind : {A B C : Type 0} (o : Result A Fault) (r : Result B Fault) (f : A → B → C) → IsThere o → IsThere r
    → IsThere (o >>= (λ x. r >>= (λ y. Ok (f x y))))
there-bind (Ok x) (Ok y) f p q = tt
there-bind (Err fault) r f p q = absurd p
there-bind (Ok x) (Err fault) f p q = absurd q

module _ (second third fourth : List ℕ) (found : Found) (frame : Frame) where
  abbrev spared : Found
  spared = beside (three_planes second third fourth) found

  others-there : (i : ℕ) (cs : List Component) → 1 ≤ i → i + length cs ≤ 4 → length found.planes ≡ 4
      → IsThere (gathered (plane_at_end spared frame) (enumerate_from i cs))
  unfolding gathered
  others-there i [] some few count = tt
  others-there i (c ∷ cs) some few count =
      let at = given-at second third fourth found.planes i some (omega arith) count in
      there-bind (plane_at_end spared frame (i, c)) (gathered (plane_at_end spared frame) (enumerate_from (i + 1) cs))
      (λ y ys. y ∷ ys) (plane-there spared frame (i, c) at.0 at.1)
      (others-there (i + 1) cs (omega arith) (omega arith) count)

  first-same : (c : Component) → plane_at_end spared frame (0, c) ≡ plane_at_end found frame (0, c)
  unfolding plane_at_end
  first-same c = go found.planes
    where
      ended : Option (List ℕ) → Result (List ℕ) Fault
      ended o = elim o as (λ _. Result (List ℕ) Fault) [
        | Some plane ↦ Ok plane
        | None ↦ check (is_kept found frame) >>= (λ _.
            needed (slice_index_or found.said.quantization c.factors.quantization None) >>= (λ q.
            Ok (plane_by c q (get_or found.kept 0 []))))
      ]

      go : (planes : List (Option (List ℕ)))
          → ended (get_or (with_others (three_planes second third fourth) planes) 0 None)
          ≡ ended (get_or planes 0 None)
      go [] = refl
      go (o ∷ planes) = refl

  -- ---- the picture

  -- Of planes of several components only the first is seen.
  luma-first : (settings : Settings) (m : Metadata) (c d : Component) (cs : List Component) (plane : List ℕ)
      (xs ys : List (List ℕ)) → settings.luma ≡ true
      → picture_by settings m frame (c ∷ d ∷ cs) (plane ∷ xs) ≡ picture_by settings m frame (c ∷ d ∷ cs) (plane ∷ ys)
  unfolding picture_by
  luma-first settings m c d cs plane xs ys e = rw e refl

  -- a picture of planes, of which the others are there or not
  shown-first : {A B C : Type 0} (a b : Bool) (o : Result A Fault) (r s : Result B Fault) (f : A → B → Result C Fault)
      → IsTold a o → IsTold b r → IsThere s → ((x : A) (y z : B) → f x y ≡ f x z)
      → (o >>= (λ x. r >>= (λ y. f x y))) ≡ (check (a && b) >>= (λ _. o >>= (λ x. s >>= (λ y. f x y))))
  shown-first true true (Ok x) (Ok y) (Ok z) f p q w same = same x y z
  shown-first true false (Ok x) (Err fault) (Ok z) f p q w same = ap Err q
  shown-first false b (Err fault) r s f p q w same = ap Err p
  shown-first true true (Ok x) (Err fault) s f p q w same = absurd q
  shown-first true false (Ok x) (Ok y) s f p q w same = absurd q
  shown-first true b (Ok x) r (Err fault) f p q w same = absurd w
  shown-first true b (Err fault) r s f p q w same = absurd p
  shown-first false b (Ok x) r s f p q w same = absurd p

  -- the picture of planes that are gathered, step by step
  steps : {A B C D : Type 0} (o : Result A Fault) (r : Result B Fault) (f : A → B → C) (g : C → Result D Fault)
      → ((o >>= (λ x. r >>= (λ y. Ok (f x y)))) >>= g) ≡ (o >>= (λ x. r >>= (λ y. g (f x y))))
  steps (Err fault) r f g = refl
  steps (Ok x) (Err fault) f g = refl
  steps (Ok x) (Ok y) f g = refl

  -- the blocks of several components
  blocks-of : (settings : Settings) (c d : Component) (cs : List Component) → settings.luma ≡ true
      → length (c ∷ d ∷ cs) ≤ 4 → MarksTell found.planes found.finished → length found.planes ≡ 4
      → (gathered (plane_at_end found frame) (enumerate_from 0 (c ∷ d ∷ cs))
      >>= picture_by settings found.said.metadata frame (c ∷ d ∷ cs))
      ≡ (check (list_all (is_sent found frame) (enumerate_from 0 (c ∷ d ∷ cs))) >>= (λ _.
      gathered (plane_at_end spared frame) (enumerate_from 0 (c ∷ d ∷ cs))
      >>= picture_by settings found.said.metadata frame (c ∷ d ∷ cs)))
  unfolding gathered
  blocks-of settings c d cs luma few t count =
      let shown = picture_by settings found.said.metadata frame (c ∷ d ∷ cs) in
      let first = plane_at_end found frame (0, c) in
      let others = gathered (plane_at_end found frame) (enumerate_from 1 (d ∷ cs)) in
      let there = gathered (plane_at_end spared frame) (enumerate_from 1 (d ∷ cs)) in
      let sent = list_all (is_sent found frame) (enumerate_from 1 (d ∷ cs)) in
      steps first others (λ y ys. y ∷ ys) shown
      ∙ shown-first (is_sent found frame (0, c)) sent first others there (λ y ys. shown (y ∷ ys))
      (plane-sent found frame (0, c) t)
      (told-gathered (is_sent found frame) (plane_at_end found frame) (enumerate_from 1 (d ∷ cs))
      (λ x. plane-sent found frame x t))
      (others-there 1 (d ∷ cs) (omega arith) (omega arith) count)
      (λ x y z. luma-first settings found.said.metadata c d cs x y z luma)
      ∙ ap (λ (r : Result (List ℕ) Fault). check (is_sent found frame (0, c) && sent) >>= (λ _.
      r >>= (λ y. there >>= (λ ys. shown (y ∷ ys))))) (sym (first-same c))
      ∙ ap (λ (r : Result (List ℕ) Fault). check (is_sent found frame (0, c) && sent) >>= (λ _. r))
      (sym (steps (plane_at_end spared frame (0, c)) there (λ y ys. y ∷ ys) shown))

  blocks-shown : (settings : Settings) (cs : List Component) → settings.luma ≡ true → 1 < length cs
      → length cs ≤ 4 → MarksTell found.planes found.finished → length found.planes ≡ 4
      → (gathered (plane_at_end found frame) (enumerate_from 0 cs)
      >>= picture_by settings found.said.metadata frame cs)
      ≡ (check (list_all (is_sent found frame) (enumerate_from 0 cs)) >>= (λ _.
      gathered (plane_at_end spared frame) (enumerate_from 0 cs)
      >>= picture_by settings found.said.metadata frame cs))
  blocks-shown settings [] luma some few t count = absurd (omega arith)
  blocks-shown settings (c ∷ []) luma some few t count = absurd (omega arith)
  blocks-shown settings (c ∷ d ∷ cs) luma some few t count = blocks-of settings c d cs luma few t count

  checked-err : {A : Type 0} (b : Bool) → ◌≡◌ {A = Result A Fault} (Err Malformed) (check b >>= (λ _. Err Malformed))
  checked-err true = refl
  checked-err false = refl

  -- a picture of the frame that was said
  by-frame : (o : Option Frame) → o ≡ Some frame → (f g : Frame → Result (List ℕ) Fault)
      → f frame ≡ (check (are_sent found frame) >>= (λ _. g frame))
      → (needed o >>= f) ≡ (needed o >>= (λ x. check (are_sent found x) >>= (λ _. needed o >>= g)))
  by-frame None e f g h = absurd cc
  by-frame (Some x) e f g h =
      let same : frame ≡ x = cc in
      subst (λ (y : Frame). f y ≡ (check (are_sent found y) >>= (λ _. g y))) same h

  -- within the limit
  abbrev limited_picture : Settings → Found → Frame → Result (List ℕ) Fault
  limited_picture settings f x =
      if nat_lt settings.limit (samples_shown settings x * (x.output_width * x.output_height)) then Err Malformed
      else picture_by_process x.process settings f x

  pub luma-shown : (settings : Settings) → ShowsLuma settings frame → length frame.components ≤ 4
      → Tells frame found → picture_of settings found ≡ sent_picture settings spared
  unfolding picture_of sent_picture limited blocks_picture
  luma-shown settings s few t =
      by-frame found.said.frame t.framed (limited_picture settings found) (limited_picture settings spared)
      (go (nat_lt settings.limit (samples_shown settings frame * (frame.output_width * frame.output_height)))
      frame.process s.blocks)
    where
      blocks : blocks_picture settings found frame
          ≡ (check (are_sent found frame) >>= (λ _. blocks_picture settings spared frame))
      blocks = blocks-shown settings frame.components s.luma s.several few t.marks t.count

      go : (above : Bool) (process : CodingProcess) → (process ≡ Lossless → ⊥) → ◌≡◌ {A = Result (List ℕ) Fault}
          (if above then Err Malformed else picture_by_process process settings found frame)
          (check (are_sent found frame) >>= (λ _.
          if above then Err Malformed else picture_by_process process settings spared frame))
      go true process lossy = checked-err (are_sent found frame)
      go false DctSequential lossy = blocks
      go false DctProgressive lossy = blocks
      go false Lossless lossy = absurd (lossy refl)

-- ---- the start

one-undecided : (b r : Bool) → (not b && r) ≡ true → (false ≡ b) × (r ≡ true)
one-undecided true r h = absurd cc
one-undecided false r h = (refl, h)

undecided-tell : (n : ℕ) (finished : List (List Bool)) → length finished ≡ n → list_all is_unfinished finished ≡ true
    → MarksTell (replicate n None) finished
undecided-tell zero [] e h = tt
undecided-tell zero (marks ∷ finished) e h = absurd cc
undecided-tell (suc n) [] e h = absurd cc
undecided-tell (suc n) (marks ∷ finished) e h =
    let first = one-undecided (list_all (λ mark. mark) marks) (list_all is_unfinished finished) h in
    (first.0, undecided-tell n finished (omega (arith, e)) first.1)

pub spared-tells : (settings : Settings) (old new : Found) (s : AreSpared settings old new) → Tells s.frame old
spared-tells settings old new s = record {
  framed = s.framed;
  marks = subst (λ (planes : List (Option (List ℕ))). MarksTell planes old.finished) (sym s.undecided.none)
      (undecided-tell 4 old.finished s.undecided.count s.undecided.unfinished);
  count = ap length s.undecided.none;
}

-- ---- streams

module _ (settings : Settings) (old new : Found) (s : AreSpared settings old new)
    (few : length s.frame.components ≤ 4) where
  abbrev given : List (Option (List ℕ))
  given = three_planes s.others.second s.others.third s.others.fourth

  made : new ≡ beside given old
  made = s.made ∙ ap (λ (planes : List (Option (List ℕ))). record old { planes = planes }) s.others.made

  beside-walks : (limit : Option ℕ) (turns : ℕ) (bytes : List ℕ)
      → walk limit Zeros turns false Elsewhere new None bytes
      ≡ record (walk limit Zeros turns false Elsewhere old None bytes) {
        found = beside given (walk limit Zeros turns false Elsewhere old None bytes).found;
      }
  beside-walks limit turns bytes =
      ap (λ (f : Found). walk limit Zeros turns false Elsewhere f None bytes) made
      ∙ (walks-beside given tt s.frame limit turns Elsewhere old None bytes (spared-tells settings old new s)).same

  pub spared-told : (limit : Option ℕ) (turns : ℕ) (bytes : List ℕ)
      → told_in_turns limit turns false new bytes ≡ told_in_turns limit turns false old bytes
  spared-told limit turns bytes = ap (λ (w : Walked). told_of w.found.said) (beside-walks limit turns bytes)

  pub spared-exceeded : (limit : Option ℕ) (bytes : List ℕ)
      → exceeded_rest limit Zeros new bytes ≡ exceeded_rest limit Zeros old bytes
  spared-exceeded limit bytes = ap (λ (w : Walked). w.exceeded) (beside-walks limit (suc (length bytes)) bytes)

  -- what is found, where these bytes are left, or the fault
  abbrev left_of : Found → Result (List ℕ) Fault → Outcome Found
  left_of found left = left >>= (λ rest. Ok (found, rest))

  -- what a caller is told, and a picture
  abbrev with_told : Told → List ℕ → Result (List ℕ) Fault → Outcome (Told × List ℕ)
  with_told told rest picture = picture >>= (λ p. Ok ((told, p), rest))

  abbrev rest_of : (Found → Result (List ℕ) Fault) → Found → Result (List ℕ) Fault → Outcome (Told × List ℕ)
  rest_of picture found left = left_of found left >>= (λ x. with_told (told_of x.0.said) x.1 (picture x.0))

  rest-shown : (found : Found) (left : Result (List ℕ) Fault) → Tells s.frame found
      → rest_of (sent_picture settings) (beside given found) left ≡ rest_of (picture_of settings) found left
  rest-shown found (Err fault) t = refl
  rest-shown found (Ok rest) t =
      ap (with_told (told_of found.said) rest)
      (sym (luma-shown s.others.second s.others.third s.others.fourth found s.frame settings s.luma few t))

  pub spared-rest : (bytes : List ℕ)
      → shown_rest true settings new bytes ≡ rest_within settings.max_blocks settings old bytes
  unfolding rest_showing segments_at
  spared-rest bytes =
      let w = walk settings.max_blocks Zeros (suc (length bytes)) false Elsewhere old None bytes in
      ap (λ (v : Walked). rest_of (sent_picture settings) v.found v.rest)
      (beside-walks settings.max_blocks (suc (length bytes)) bytes)
      ∙ rest-shown w.found w.rest (walks-beside given tt s.frame settings.max_blocks (suc (length bytes)) Elsewhere
      old None bytes (spared-tells settings old new s)).tells

-- ---- with the planes or without them

few-components : (old new : Found) (settings : Settings) (s : AreSpared settings old new) → IsSound old
    → length s.frame.components ≤ 4
few-components old new settings s sound = decoded-few s.frame (sound.frames s.frame s.framed)

module _ (spared : Bool) (settings : Settings) (old new : Found) (s : IfSpared spared settings old new)
    (sound : IsSound old) where
  pub rest-same : (bytes : List ℕ)
      → shown_rest spared settings new bytes ≡ rest_within settings.max_blocks settings old bytes
  unfolding rest_showing
  rest-same bytes = go spared s
    where
      go : (b : Bool) → IfSpared b settings old new
          → shown_rest b settings new bytes ≡ rest_within settings.max_blocks settings old bytes
      go true p = spared-rest settings old new p (few-components old new settings p sound) bytes
      go false p = ap (λ (f : Found). rest_within settings.max_blocks settings f bytes) p

  pub told-same : (limit : Option ℕ) (turns : ℕ) (bytes : List ℕ)
      → told_in_turns limit turns false new bytes ≡ told_in_turns limit turns false old bytes
  told-same limit turns bytes = go spared s
    where
      go : (b : Bool) → IfSpared b settings old new
          → told_in_turns limit turns false new bytes ≡ told_in_turns limit turns false old bytes
      go true p = spared-told settings old new p (few-components old new settings p sound) limit turns bytes
      go false p = ap (λ (f : Found). told_in_turns limit turns false f bytes) p

  pub exceeded-same : (limit : Option ℕ) (bytes : List ℕ)
      → exceeded_rest limit Zeros new bytes ≡ exceeded_rest limit Zeros old bytes
  exceeded-same limit bytes = go spared s
    where
      go : (b : Bool) → IfSpared b settings old new
          → exceeded_rest limit Zeros new bytes ≡ exceeded_rest limit Zeros old bytes
      go true p = spared-exceeded settings old new p (few-components old new settings p sound) limit bytes
      go false p = ap (λ (f : Found). exceeded_rest limit Zeros f bytes) p

  -- ---- calls that read

  pub reads-same : {X : Type 0} (view : X → Told × List ℕ) (start end : Stream) (result : Result X Error)
      → Answers view (shown_rest spared settings new) start result end
      → Answers view (rest_within settings.max_blocks settings old) start result end
  reads-same {X} view start end result answers =
      let same : shown_rest spared settings new ≡ rest_within settings.max_blocks settings old = λ i bytes.
      rest-same bytes i in
      subst (λ (read : List ℕ → Outcome (Told × List ℕ)). Answers view read start result end) same answers

  pub tells-same : {X : Type 0} (start end : Stream) (result : Result X Error) (said : Told) (limit : Option ℕ)
      (turns : ℕ) (bytes : List ℕ) → OnTold start end result (said ≡ told_in_turns limit turns false new bytes)
      → OnTold start end result (said ≡ told_in_turns limit turns false old bytes)
  tells-same {X} start end result said limit turns bytes told =
      subst (λ (x : Told). OnTold start end result (said ≡ x)) (told-same limit turns bytes) told

  pub exceeds-same : {X : Type 0} (start end : Stream) (result : Result X Error) (exceeded : Bool) (limit : Option ℕ)
      (bytes : List ℕ) → OnTold start end result (exceeded ≡ exceeded_rest limit Zeros new bytes)
      → OnTold start end result (exceeded ≡ exceeded_rest limit Zeros old bytes)
  exceeds-same {X} start end result exceeded limit bytes told =
      subst (λ (x : Bool). OnTold start end result (exceeded ≡ x)) (exceeded-same limit bytes) told

  pub turns-same : (said : Told) (limit : Option ℕ) (bytes : List ℕ)
      → IsOfTurns (λ n. told_in_turns limit n false new bytes) said
      → IsOfTurns (λ n. told_in_turns limit n false old bytes) said
  unfolding IsOfTurns
  turns-same said limit bytes t = (t.0, t.1 ∙ told-same limit t.0 bytes)

-- where no turn was taken
pub none-read : (limit : Option ℕ) (old new : Found) (said : Told) (bytes : List ℕ) → new.said ≡ old.said
    → said ≡ told_of new.said → IsOfTurns (λ n. told_in_turns limit n false old bytes) said
unfolding IsOfTurns walk
none-read limit old new said bytes e told = (0, told ∙ ap told_of e)
