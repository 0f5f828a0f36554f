-- Streams whose scans may code so many blocks: within the limit they mean and show what they do without one, and above
-- it they are refused, or show what was brought before.
use Rattle.std.proofs.Common.{rules, ◌≡◌, ◌≤◌, ◌<◌, ℕ, suc, false, nat_lt, List, length, Option, Some, None, Result, Ok, Err}
use Rattle.std.proofs.Common.{refl, sym, ap, ◌∙◌, arith, subst}
use Rattle.jpeg_bits.specs.Reading.{Fault, Malformed, Outcome, ◌>>=◌}
use Rattle.jpeg_meaning.specs.declared.before.Before.TheVariants.{Elsewhere}
use Rattle.jpeg_bits.specs.declared.beyond.Beyond.{Beyond}
use Rattle.jpeg_bits.specs.declared.beyond.Beyond.TheVariants.{Nothing, Zeros}
use Rattle.jpeg_meaning.specs.declared.settings.Settings.{Settings}
use Rattle.jpeg_meaning.specs.Found.{Found, nothing_found}
use Rattle.jpeg_meaning.specs.Limits.{IsWithinLimit, exceeded_by, work_of, work_of_rest, work_of_walk}
use Rattle.jpeg_meaning.specs.Shown.{Shown, fault_shown, shown, shown_of, shown_rest_within, shown_within, whole_rows}
use Rattle.jpeg_meaning.specs.Shown.{framed_or, picture_shown, rows_of_found, whole_rows_rest, whole_rows_within}
use Rattle.jpeg_meaning.specs.Stream.{meaning_within, segments_at, start_at, walk, rest_showing, meaning_showing}
use Rattle.jpeg_segments.proofs.Codecs.{bind-ok, ok-same}
use Rattle.jpeg_meaning.proofs.Limits.{above-refused, decoded-most, exceeded-above, limit-same, meaning-same}
use Rattle.jpeg_meaning.proofs.Limits.{none-exceeded}
use Rattle.jpeg_evidence.proofs.Work.LimitedWalks.{above-rows, found-first, header-free, work-counted}

pub meaning-above : (most : ℕ) (settings : Settings) (bytes : List ℕ) → most < work_of Zeros bytes
    → meaning_within (Some most) settings bytes ≡ Err Malformed
unfolding meaning_showing rest_showing segments_at work_of
meaning-above most settings bytes h = search (rules, arith, above-refused)

pub shown-within_same : (limit : Option ℕ) (settings : Settings) (bytes : List ℕ)
    → IsWithinLimit limit (work_of Nothing bytes) → shown_within limit settings bytes ≡ shown settings bytes
unfolding shown_within shown_rest_within work_of
shown-within_same limit settings bytes h = search (rules, limit-same)

pub rows-within_same : (limit : Option ℕ) (bytes : List ℕ) → IsWithinLimit limit (work_of Nothing bytes)
    → whole_rows_within limit bytes ≡ whole_rows bytes
unfolding whole_rows_within whole_rows_rest work_of
rows-within_same limit bytes h = search (rules, limit-same)

-- ---- what is shown above the limit

work-started : (bytes rest : List ℕ) → start_at bytes ≡ Ok (tt, rest)
    → work_of Nothing bytes ≡ work_of_rest Nothing nothing_found rest
unfolding work_of
work-started bytes rest e = rw (e, work_of) refl

rows-started : (limit : Option ℕ) (bytes rest : List ℕ) → start_at bytes ≡ Ok (tt, rest)
    → whole_rows_within limit bytes ≡ whole_rows_rest limit nothing_found rest
unfolding whole_rows_within
rows-started limit bytes rest e = rw (e, whole_rows_within) refl

rest-above : (most : ℕ) (settings : Settings) (rest : List ℕ) → most < work_of_rest Nothing nothing_found rest
    → (n : ℕ) × (work_of_walk Nothing n false Elsewhere nothing_found None rest ≤ most)
    × (shown_rest_within (Some most) settings nothing_found rest
    ≡ shown_of settings (walk None Nothing n false Elsewhere nothing_found None rest).found (Err Malformed))
    × (whole_rows_rest (Some most) nothing_found rest
    ≡ rows_of_found None (walk None Nothing n false Elsewhere nothing_found None rest).found)
unfolding shown_rest_within whole_rows_rest
rest-above most settings rest h =
    let turns = suc (length rest) in
    let w = walk (Some most) Nothing turns false Elsewhere nothing_found None rest in
    let first = found-first (Some most) Nothing turns false Elsewhere nothing_found None rest in (
      first.0,
      subst (λ (k : ℕ). k ≤ most) (sym first.2)
          (decoded-most most Nothing turns false Elsewhere nothing_found None rest),
      ap (λ (r : Result (List ℕ) Fault). shown_of settings w.found r)
          (above-refused most Nothing turns false Elsewhere nothing_found None rest h)
          ∙ ap (λ (f : Found). shown_of settings f (Err Malformed)) first.1,
      ap (λ (rows : Option ℕ). rows_of_found rows w.found)
          (above-rows most Nothing turns false Elsewhere nothing_found None rest h)
          ∙ ap (rows_of_found None) first.1,
    )

-- What is shown above the limit is what some first turns have found, whose scans are within it.
pub shown-above : (most : ℕ) (settings : Settings) (bytes rest : List ℕ) → start_at bytes ≡ Ok (tt, rest)
    → most < work_of Nothing bytes
    → (n : ℕ) × (work_of_walk Nothing n false Elsewhere nothing_found None rest ≤ most)
    × (shown_within (Some most) settings bytes
    ≡ shown_of settings (walk None Nothing n false Elsewhere nothing_found None rest).found (Err Malformed))
    × (whole_rows_within (Some most) bytes
    ≡ rows_of_found None (walk None Nothing n false Elsewhere nothing_found None rest).found)
unfolding shown_within
shown-above most settings bytes rest e h =
    let r = rest-above most settings rest (subst (λ (k : ℕ). most < k) (work-started bytes rest e) h) in (
      r.0,
      r.1,
      ap (λ (o : Outcome (Unit {0})). o >>= (λ start. shown_rest_within (Some most) settings nothing_found start.1)) e
          ∙ r.2,
      rows-started (Some most) bytes rest e ∙ r.3,
    )

fault-of : (settings : Settings) (found : Found) (fault : Fault) (s : Shown)
    → shown_of settings found (Err fault) ≡ Ok s → s.fault ≡ Some fault
unfolding shown_of fault_shown
fault-of settings found fault s e =
    let framed = bind-ok (framed_or found.said.frame (Err fault)) _ s e in
    let picture = bind-ok (picture_shown settings found) _ s framed.2 in
    sym (ap (λ (x : Shown). x.fault) (ok-same _ s picture.2))

pub above-fault : (most : ℕ) (settings : Settings) (bytes : List ℕ) (s : Shown) → most < work_of Nothing bytes
    → shown_within (Some most) settings bytes ≡ Ok s → s.fault ≡ Some Malformed
unfolding shown_within
above-fault most settings bytes s h e =
    let start = bind-ok (start_at bytes) _ s e in
    let r = shown-above most settings bytes start.0.1 start.1 h in
    fault-of settings (walk None Nothing r.0 false Elsewhere nothing_found None start.0.1).found Malformed s
    (sym r.2 ∙ e)

-- ---- whether a scan is refused for its blocks

pub exceeded-work : (most : ℕ) (beyond : Beyond) (bytes : List ℕ)
    → exceeded_by (Some most) beyond bytes ≡ nat_lt most (work_of beyond bytes)
unfolding exceeded_by work_of
exceeded-work most beyond bytes = search (rules, arith, exceeded-above)

pub unlimited : (beyond : Beyond) (bytes : List ℕ) → exceeded_by None beyond bytes ≡ false
unfolding exceeded_by
unlimited beyond bytes = search (rules, none-exceeded)

pub ruleset limit_rules = (
  rules,
  exceeded-above,
  exceeded-work,
  unlimited,
  decoded-most,
  limit-same,
  work-counted,
  above-refused,
  found-first,
  header-free,
  meaning-same,
  meaning-above,
  shown-within_same,
  rows-within_same,
  shown-above,
  above-fault,
)
