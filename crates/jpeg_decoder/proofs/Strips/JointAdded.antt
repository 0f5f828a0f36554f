-- What is found after a first scan of all components of a frame, whose planes share one buffer.
use Rattle.std.proofs.Common.{rules, ◌≡◌, ℕ, zero, suc, ◌+◌, ◌<◌, ◌≤◌, Bool, true, Option, Some}
use Rattle.std.proofs.Common.{None, List, [], ◌∷◌, ◌++◌, length, get_or, map, take, drop, replicate}
use Rattle.std.proofs.Common.{arith, refl, sym, ◌∙◌}
use Rattle.std.proofs.lemmas.List.{drop_all, drop_more, length-take-le, take_all, take_more}
use Rattle.std.proofs.lemmas.Grind.{common_steps}
use Rattle.std.specs.List.{list_all}
use Rattle.std.specs.Prelude.{slice_index_or, slice_set}
use Rattle.jpeg_bits.specs.Passes.{Pass, whole_pass}
use Rattle.jpeg_meaning.specs.Found.{Found}
use Rattle.jpeg_meaning.specs.ScanSegments.{finished_by}
use Rattle.jpeg_decoder.specs.declared.scan.coded.Coded.{Coded}
use Rattle.jpeg_decoder.specs.PlanesView.{or_joint}
use Rattle.jpeg_decoder.specs.Steps.{coding_in, marks_after, with_planes}
use Rattle.jpeg_decoder.proofs.Strips.JointDecided.{or-nothing}
use Rattle.jpeg_decoder.proofs.Scans.DecidedPlanes.{its_plane_set}
use Rattle.jpeg_decoder.proofs.PutLoops.{none-left, seen-at}

-- one pass finishes all coefficients
pub all-marked : (p : Pass) (marks new : List Bool) → length marks ≡ 64 → new ≡ finished_by p marks
    → p ≡ whole_pass → list_all (λ mark. mark) new ≡ true
unfolding finished_by
all-marked p marks new e f is = grind (arith, common_steps, drop_all)

-- ---- planes, of which the first ones are there

or-at : (n : ℕ) (planes : List (List ℕ))
    → slice_index_or (or_joint (replicate n None) planes) (length planes) None ≡ None
unfolding or_joint
or-at zero [] = refl
or-at zero (plane ∷ planes) = refl
or-at (suc n) [] = refl
or-at (suc n) (plane ∷ planes) = or-at n planes

or-next : (n : ℕ) (planes : List (List ℕ)) (plane : List ℕ) → length planes < n
    → slice_set (or_joint (replicate n None) planes) (length planes) (Some plane)
    ≡ or_joint (replicate n None) (planes ++ plane ∷ [])
unfolding or_joint
or-next zero planes plane h = absurd (omega arith)
or-next (suc n) [] plane h = grind (arith, common_steps, or-nothing)
or-next (suc n) (x ∷ planes) plane h = search (rules, arith, or-next n planes plane (omega arith))

-- The planes of these components of a scan are added, as many as they are.
module _ (p : Pass) (cs : List Coded) (planes : List (List ℕ))
    (count : length planes ≡ length cs) where
  abbrev laid : ℕ → List (Option (List ℕ))
  laid i = or_joint (replicate 4 None) (take i planes)

  -- one component more, whose coefficients are all finished
  pub joint-step : (i : ℕ) (c : Coded) (found : Found) (marks : List Bool) → length cs ≤ 4
      → i < length cs → c ≡ get_or cs i c → c.index ≡ i
      → marks ≡ marks_after p found.finished c.index → list_all (λ mark. mark) marks ≡ true
      → with_planes p (drop (i + 1) (map coding_in cs)) (drop (i + 1) planes)
      (record found { finished = slice_set found.finished c.index marks; planes = laid (i + 1) })
      ≡ with_planes p (drop i (map coding_in cs)) (drop i planes) (record found { planes = laid i })
  unfolding with_planes
  joint-step i c found marks few h is index marked all =
      let plane = get_or planes i [] in
      let long : length (take i planes) ≡ i = length-take-le i planes (omega (arith, count)) in
      let none : slice_index_or (laid i) c.index None ≡ None = rw (index ∙ sym long) (or-at 4 (take i planes)) in
      let next : laid (i + 1) ≡ slice_set (laid i) c.index (Some plane) =
      rw (index ∙ sym long, or-next 4 (take i planes) plane (omega arith), ← take_more planes i [] (omega (arith, count))) in
      let put = its_plane_set p c.index plane (record found { planes = laid i })
      (slice_set found.finished c.index marks) (laid (i + 1)) in
      grind (arith, common_steps, put, seen-at, drop_more)

  -- all components
  pub joint-done : (i : ℕ) (found : Found) → i ≡ length cs
      → record found { planes = or_joint (replicate 4 None) planes }
      ≡ with_planes p (drop i (map coding_in cs)) (drop i planes) (record found { planes = laid i })
  unfolding with_planes
  joint-done i found e = grind (arith, common_steps, take_all, none-left)
