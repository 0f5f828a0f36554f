-- The segments before the first scan of a stream: the walk over it goes on at that scan, or ends, or is refused, as
-- they do.
use Rattle.std.proofs.Common.{◌≡◌, ◌⊎◌, inl, inr, ◌+◌, ◌≤◌, ℕ, zero, suc, Bool, true, false, List, length}
use Rattle.std.proofs.Common.{Option, Some, None, Result, Ok, Err, refl, sym, ap, ◌∙◌, subst, arith}
use Rattle.jpeg_bits.specs.Marker.{found_or, next_marker}
use Rattle.jpeg_bits.specs.Reading.{Fault, Outcome, ◌>>=◌}
use Rattle.jpeg_bits.specs.declared.beyond.Beyond.TheVariants.{Zeros}
use Rattle.jpeg_bits.specs.declared.color_transform.ColorTransform.{ColorTransform}
use Rattle.jpeg_bits.specs.declared.marker.Marker.{Marker}
use Rattle.jpeg_bits.specs.declared.marker.Marker.TheVariants.{SOS}
use Rattle.jpeg_meaning.specs.Brought.{Brought}
use Rattle.jpeg_meaning.specs.Found.{Found}
use Rattle.jpeg_meaning.specs.FoundPictures.{picture_of}
use Rattle.jpeg_meaning.specs.Segments.{Turn}
use Rattle.jpeg_meaning.specs.Stream.{Told, Walked, brought_after, rest_showing, scan_within, segment_at, told_of}
use Rattle.jpeg_meaning.specs.Stream.{turn_within, walk}
use Rattle.jpeg_meaning.specs.Work.{brought_within, is_above, left_after, work_after, work_of_header, work_of_turn}
use Rattle.jpeg_meaning.specs.declared.before.Before.{Before}
use Rattle.jpeg_meaning.specs.declared.before.Before.TheVariants.{Elsewhere}
use Rattle.jpeg_meaning.specs.declared.settings.Settings.{Settings}
use Rattle.jpeg_meaning.proofs.Written.ReadTurns.{walk-end, walk-on, walked, zeros-refused}
use Rattle.jpeg_decoder.specs.ByRows.{GoesOnAtScan, ToScan, chosen, rows_rest, scan_ahead, scan_walk_for}
use Rattle.jpeg_decoder.specs.ByRows.{settled_picture, shown_at_scan, to_scan, to_scan_after}
use Rattle.jpeg_decoder.specs.ByRows.{to_scan_of, to_turn, to_turn_at}
use Rattle.jpeg_decoder.proofs.ByRows.AtScan.{rest-at-scan, rest-shown, scan-stops, scan-turn, scan-work}
use Rattle.jpeg_decoder.proofs.Segments.LeftBytes.{left_at}
use Rattle.jpeg_decoder.proofs.Segments.MarkedTurns.{none-above, nothing-taken, nothing-within, segment-other}
use Rattle.jpeg_decoder.proofs.Segments.MarkedTurns.{turn-marked, turn-unmarked, work-marked, work-other, work-unmarked}
use Rattle.jpeg_decoder.proofs.Segments.Turns.{turn-takes, turns-enough}
use Rattle.jpeg_decoder.proofs.Segments.TurnsToScan.{marker-leaves, other-after, scan-after, scan-else}

-- ---- a turn

-- the next marker is that of a scan
record ScanNext (before : Before) (found : Found) (met : Option Marker) (bytes : List ℕ) : Type 0 where
  rest : List ℕ
  is : to_turn before found met bytes ≡ Ok (None, rest)
  turn : (limit : Option ℕ)
      → turn_within limit Zeros before found met bytes ≡ scan_within limit Zeros found rest
  work : work_of_turn found met bytes ≡ work_of_header found rest
  fewer : length rest ≤ left_at met bytes

-- a turn, beside which there may be none
abbrev some_turn : Outcome Turn → Outcome (Option Turn)
some_turn o = o >>= (λ t. Ok (Some t.0, t.1))

-- the next marker is another one, or there is none
record SegmentNext (before : Before) (found : Found) (met : Option Marker) (bytes : List ℕ) : Type 0 where
  turn : Outcome Turn
  is : to_turn before found met bytes ≡ some_turn turn
  within : (limit : Option ℕ) → (turn_within limit Zeros before found met bytes).turn ≡ turn
  work : work_of_turn found met bytes ≡ 0

marked : (before : Before) (found : Found) (met : Option Marker) (bytes rest : List ℕ) (m : Marker)
    → found_or met bytes (next_marker bytes) ≡ Ok (m, rest)
    → to_turn before found met bytes ≡ to_turn_at m before found rest
unfolding to_turn
marked before found met bytes rest m e =
    ap (λ (o : Outcome Marker). o >>= (λ m. to_turn_at m.0 before found m.1)) e

unmarked : (before : Before) (found : Found) (met : Option Marker) (bytes : List ℕ) (fault : Fault)
    → found_or met bytes (next_marker bytes) ≡ Err fault → to_turn before found met bytes ≡ Err fault
unfolding to_turn
unmarked before found met bytes fault e =
    ap (λ (o : Outcome Marker). o >>= (λ m. to_turn_at m.0 before found m.1)) e

scan-within : (limit : Option ℕ) (before : Before) (found : Found) (m : Marker) (rest : List ℕ) → m ≡ SOS
    → brought_within limit (work_after m found rest) found (brought_after Zeros m before found rest)
    ≡ scan_within limit Zeros found rest
unfolding brought_after
scan-within limit before found m rest is =
    ap (λ (k : Marker).
    brought_within limit (work_after k found rest) found (brought_after Zeros k before found rest)) is

next-turn : (before : Before) (found : Found) (met : Option Marker) (bytes : List ℕ)
    → ScanNext before found met bytes ⊎ SegmentNext before found met bytes
next-turn before found met bytes = go (found_or met bytes (next_marker bytes)) refl
  where
    at : (m : Marker) (rest : List ℕ) → found_or met bytes (next_marker bytes) ≡ Ok (m, rest)
        → (m ≡ SOS) ⊎ (m ≡ SOS → ⊥) → ScanNext before found met bytes ⊎ SegmentNext before found met bytes
    at m rest e (inl is) = inl (record {
      rest = rest;
      is = marked before found met bytes rest m e ∙ ap (λ (k : Marker). to_turn_at k before found rest) is
          ∙ scan-after before found rest;
      turn = λ limit. turn-marked limit Zeros before found met bytes rest m e
          ∙ scan-within limit before found m rest is;
      work = work-marked found met bytes rest m e ∙ ap (λ (k : Marker). work_after k found rest) is;
      fewer = let less = marker-leaves met bytes rest m e in omega (arith, less);
    })
    at m rest e (inr other) = inr (record {
      turn = segment_at m before found rest;
      is = marked before found met bytes rest m e ∙ other-after m before found rest other;
      within = λ limit. ap (λ (b : Brought). b.turn) (turn-marked limit Zeros before found met bytes rest m e
          ∙ ap (λ (w : ℕ). brought_within limit w found (brought_after Zeros m before found rest))
          (work-other m found rest other)
          ∙ nothing-within limit found _ ∙ segment-other Zeros m before found rest other);
      work = work-marked found met bytes rest m e ∙ work-other m found rest other;
    })

    go : (o : Outcome Marker) → found_or met bytes (next_marker bytes) ≡ o
        → ScanNext before found met bytes ⊎ SegmentNext before found met bytes
    go (Ok m) e = at m.0 m.1 e (scan-else m.0)
    go (Err fault) e = inr (record {
      turn = Err fault;
      is = unmarked before found met bytes fault e;
      within = λ limit. ap (λ (b : Brought). b.turn) (turn-unmarked limit Zeros before found met bytes fault e);
      work = work-unmarked found met bytes fault e;
    })

-- ---- turns

-- After some turns a walk goes on at a scan, whose marker was met.
record GoesOn (limit : Option ℕ) (whole : ℕ → Walked) (most : ℕ) (now : Found) (rest : List ℕ) : Type 0 where
  turns : ℕ
  walks : (n : ℕ) → whole (turns + n) ≡ scan_walk_for limit n now rest
  fewer : length rest ≤ most

-- what a walk of so many turns is, where it leads to a scan or to the end of the image
abbrev LeadsTo : Option ℕ → (ℕ → Walked) → ℕ → ℕ → Bool → Found → List ℕ → Type 0
LeadsTo limit whole n most true now rest = GoesOn limit whole most now rest
LeadsTo limit whole n most false now rest = whole n ≡ walked now (Ok rest)

abbrev Leads : Option ℕ → (ℕ → Walked) → ℕ → ℕ → Outcome ToScan → Type 0
Leads limit whole n most (Ok x) = LeadsTo limit whole n most x.0.is_scan x.0.found x.1
Leads limit whole n most (Err fault) = ((whole n).rest ≡ Err fault) × ((whole n).exceeded ≡ false)

leads-next : (limit : Option ℕ) (whole others : ℕ → Walked) (n most less : ℕ) (o : Outcome ToScan)
    → ((k : ℕ) → whole (suc k) ≡ others k) → less ≤ most → Leads limit others n less o
    → Leads limit whole (suc n) most o
leads-next limit whole others n most less (Err fault) e le h =
    (ap (λ (w : Walked). w.rest) (e n) ∙ h.0, ap (λ (w : Walked). w.exceeded) (e n) ∙ h.1)
leads-next limit whole others n most less (Ok x) e le h = go x.0.is_scan h
  where
    go : (b : Bool) → LeadsTo limit others n less b x.0.found x.1
        → LeadsTo limit whole (suc n) most b x.0.found x.1
    go false h = e n ∙ h
    go true h = record {
      turns = suc h.turns;
      walks = λ k.
          let one : suc h.turns + k ≡ suc (h.turns + k) = omega arith in
          ap whole one ∙ e (h.turns + k) ∙ h.walks k;
      fewer = let few = h.fewer in omega arith;
    }

abbrev walk_of : Option ℕ → Before → Found → Option Marker → List ℕ → ℕ → Walked
walk_of limit before found met bytes turns = walk limit Zeros turns false before found met bytes

-- A walk whose next marker is that of a scan is one where it was met.
at-marker : (limit : Option ℕ) (before : Before) (found : Found) (met : Option Marker) (bytes : List ℕ)
    (s : ScanNext before found met bytes) (n : ℕ)
    → walk_of limit before found met bytes n ≡ scan_walk_for limit n found s.rest
unfolding walk
at-marker limit before found met bytes s zero = refl
at-marker limit before found met bytes s (suc n) = go (scan_within limit Zeros found s.rest).turn refl
  where
    here : (o : Outcome Turn) → (scan_within limit Zeros found s.rest).turn ≡ o
        → (turn_within limit Zeros before found met bytes).turn ≡ o
    here o e = ap (λ (b : Brought). b.turn) (s.turn limit) ∙ e

    there : (o : Outcome Turn) → (scan_within limit Zeros found s.rest).turn ≡ o
        → (turn_within limit Zeros Elsewhere found (Some SOS) s.rest).turn ≡ o
    there o e = ap (λ (b : Brought). b.turn) (scan-turn limit found s.rest) ∙ e

    ends : (t : Turn) (rest : List ℕ) → (scan_within limit Zeros found s.rest).turn ≡ Ok (t, rest) → (b : Bool)
        → t.ended ≡ b → walk limit Zeros (suc n) false before found met bytes
        ≡ walk limit Zeros (suc n) false Elsewhere found (Some SOS) s.rest
    ends t rest e true p =
        walk-end limit Zeros n false before found met bytes rest t refl (here (Ok (t, rest)) e) p
        ∙ sym (walk-end limit Zeros n false Elsewhere found (Some SOS) s.rest rest t refl (there (Ok (t, rest)) e) p)
    ends t rest e false p =
        walk-on limit Zeros n false before found met bytes rest t refl (here (Ok (t, rest)) e) p
        ∙ ap (λ (w : ℕ). walk (left_after limit w) Zeros n false t.before t.found t.met rest)
        (s.work ∙ sym (scan-work found s.rest))
        ∙ sym (walk-on limit Zeros n false Elsewhere found (Some SOS) s.rest rest t refl (there (Ok (t, rest)) e) p)

    go : (o : Outcome Turn) → (scan_within limit Zeros found s.rest).turn ≡ o
        → walk limit Zeros (suc n) false before found met bytes
        ≡ walk limit Zeros (suc n) false Elsewhere found (Some SOS) s.rest
    go (Ok x) e = ends x.0 x.1 e x.0.ended refl
    go (Err fault) e =
        zeros-refused limit n false before found met bytes fault refl (here (Err fault) e)
        ∙ ap (λ (w : ℕ). record (walked found (Err fault)) { exceeded = is_above limit w }) s.work
        ∙ sym (scan-stops limit found s.rest n fault e)

to-end : (limit : Option ℕ) (before : Before) (found : Found) (met : Option Marker) (bytes : List ℕ) (n : ℕ)
    (s : SegmentNext before found met bytes) (o : Outcome Turn) → s.turn ≡ o
    → ((t : Turn) (rest : List ℕ) → Leads limit (walk_of limit t.before t.found t.met rest) n (left_at t.met rest)
    (to_scan n t.before t.found t.met rest))
    → Leads limit (walk_of limit before found met bytes) (suc n) (left_at met bytes)
    (some_turn o >>= (λ t. to_scan_after (to_scan n) found t.0 t.1))
to-end limit before found met bytes n s (Err fault) e more =
    let stops = zeros-refused limit n false before found met bytes fault refl (s.within limit ∙ e) in (
      ap (λ (w : Walked). w.rest) stops,
      ap (λ (w : Walked). w.exceeded) stops ∙ ap (is_above limit) s.work ∙ none-above limit,
    )
to-end limit before found met bytes n s (Ok (t, rest)) e more = go t.ended refl
  where
    go : (b : Bool) → t.ended ≡ b → Leads limit (walk_of limit before found met bytes) (suc n) (left_at met bytes)
        (elim b as (λ _. Outcome ToScan) [
          | true ↦ Ok (record { found = t.found; is_scan = false }, rest)
          | false ↦ to_scan n t.before t.found t.met rest
        ])
    go true p = walk-end limit Zeros n false before found met bytes rest t refl (s.within limit ∙ e) p
    go false p =
        let less = turn-takes limit Zeros before found met bytes (t, rest) (s.within limit ∙ e) p in
        leads-next limit (walk_of limit before found met bytes) (walk_of limit t.before t.found t.met rest) n
        (left_at met bytes) (left_at t.met rest) (to_scan n t.before t.found t.met rest)
        (λ k. walk-on limit Zeros k false before found met bytes rest t refl (s.within limit ∙ e) p
        ∙ ap (λ (l : Option ℕ). walk_of l t.before t.found t.met rest k)
        (ap (left_after limit) s.work ∙ nothing-taken limit))
        (omega (arith, less)) (more t rest)

-- no turn
leads-none : (limit : Option ℕ) (before : Before) (found : Found) (met : Option Marker) (bytes : List ℕ)
    → Leads limit (walk_of limit before found met bytes) 0 (left_at met bytes) (to_scan 0 before found met bytes)
unfolding to_scan walk
leads-none limit before found met bytes = (refl, refl)

-- The segments before a scan lead a walk to it, or to the end of the image, or they are refused.
leads : (limit : Option ℕ) (n : ℕ) (before : Before) (found : Found) (met : Option Marker) (bytes : List ℕ)
    → Leads limit (walk_of limit before found met bytes) n (left_at met bytes) (to_scan n before found met bytes)
unfolding to_scan
leads limit zero before found met bytes = leads-none limit before found met bytes
leads limit (suc n) before found met bytes =
    go (λ t rest. leads limit n t.before t.found t.met rest) (next-turn before found met bytes)
  where
    at : (o : Outcome (Option Turn)) → to_turn before found met bytes ≡ o
        → Leads limit (walk_of limit before found met bytes) (suc n) (left_at met bytes)
        (o >>= (λ t. to_scan_after (to_scan n) found t.0 t.1))
        → Leads limit (walk_of limit before found met bytes) (suc n) (left_at met bytes)
        (to_turn before found met bytes >>= (λ t. to_scan_after (to_scan n) found t.0 t.1))
    at o e h = subst (λ (q : Outcome (Option Turn)). Leads limit (walk_of limit before found met bytes) (suc n)
        (left_at met bytes) (q >>= (λ t. to_scan_after (to_scan n) found t.0 t.1))) (sym e) h

    go : ((t : Turn) (rest : List ℕ) → Leads limit (walk_of limit t.before t.found t.met rest) n (left_at t.met rest)
        (to_scan n t.before t.found t.met rest))
        → ScanNext before found met bytes ⊎ SegmentNext before found met bytes
        → Leads limit (walk_of limit before found met bytes) (suc n) (left_at met bytes)
        (to_turn before found met bytes >>= (λ t. to_scan_after (to_scan n) found t.0 t.1))
    go more (inl s) = at (Ok (None, s.rest)) s.is (record {
      turns = 0;
      walks = λ k.
          let none : 0 + k ≡ k = omega arith in
          ap (walk_of limit before found met bytes) none ∙ at-marker limit before found met bytes s k;
      fewer = s.fewer;
    })
    go more (inr s) = at (some_turn s.turn) s.is (to-end limit before found met bytes n s s.turn refl more)

-- ---- what is ahead

ahead : (limit : Option ℕ) (found : Found) (bytes : List ℕ) (o : Outcome ToScan) → scan_ahead found bytes ≡ o
    → Leads limit (walk_of limit Elsewhere found None bytes) (suc (length bytes)) (left_at None bytes) o
ahead limit found bytes o e =
    subst (Leads limit (walk_of limit Elsewhere found None bytes) (suc (length bytes)) (left_at None bytes)) e
    (leads limit (suc (length bytes)) Elsewhere found None bytes)

-- A walk goes on at the scan that is ahead.
pub ahead-goes : (limit : Option ℕ) (found now : Found) (bytes rest : List ℕ)
    → scan_ahead found bytes ≡ Ok (to_scan_of now true, rest) → GoesOnAtScan limit found bytes now rest
ahead-goes limit found now bytes rest e =
    let h = ahead limit found bytes (Ok (to_scan_of now true, rest)) e in
    let few = h.fewer in
    record {
      turns = h.turns;
      walks = h.walks;
      whole = turns-enough limit Zeros (suc (length bytes)) (h.turns + suc (length bytes)) false Elsewhere found None
          bytes (omega arith) (omega arith) ∙ h.walks (suc (length bytes))
          ∙ turns-enough limit Zeros (suc (length bytes)) (suc (length rest)) false Elsewhere now (Some SOS) rest
          (omega (arith, few)) (omega arith);
    }

-- No more bytes are left there.
pub ahead-fewer : (found now : Found) (bytes rest : List ℕ) → scan_ahead found bytes ≡ Ok (to_scan_of now true, rest)
    → length rest ≤ length bytes
ahead-fewer found now bytes rest e =
    let few = (ahead None found bytes (Ok (to_scan_of now true, rest)) e).fewer in
    omega (arith, few)

-- It ends at the end of the image, where there is no scan,
pub ahead-ends : (limit : Option ℕ) (found now : Found) (bytes rest : List ℕ)
    → scan_ahead found bytes ≡ Ok (to_scan_of now false, rest)
    → walk limit Zeros (suc (length bytes)) false Elsewhere found None bytes ≡ walked now (Ok rest)
ahead-ends limit found now bytes rest e = ahead limit found bytes (Ok (to_scan_of now false, rest)) e

-- and at a fault before that.
pub ahead-lacks : (limit : Option ℕ) (found : Found) (bytes : List ℕ) (fault : Fault)
    → scan_ahead found bytes ≡ Err fault
    → ((walk limit Zeros (suc (length bytes)) false Elsewhere found None bytes).rest ≡ Err fault)
    × ((walk limit Zeros (suc (length bytes)) false Elsewhere found None bytes).exceeded ≡ false)
ahead-lacks limit found bytes fault e = ahead limit found bytes (Err fault) e

-- ---- what is shown

-- from the header of the scan on
pub rest-at-next_scan : (settings : Settings) (found now : Found) (bytes rest : List ℕ)
    → scan_ahead found bytes ≡ Ok (to_scan_of now true, rest)
    → rows_rest settings found bytes ≡ shown_at_scan settings now rest
rest-at-next_scan settings found now bytes rest e =
    rest-at-scan settings found now bytes rest e (ahead-goes settings.max_blocks found now bytes rest e)

chosen-none : (settings : Settings) (found now : Found) (bytes rest : List ℕ)
    → scan_ahead found bytes ≡ Ok (to_scan_of now false, rest) → chosen settings found bytes ≡ None
unfolding chosen
chosen-none settings found now bytes rest e = rw (e, chosen) refl

-- the picture of what was found without a scan
pub rest-at-end : (settings : Settings) (found now : Found) (bytes rest : List ℕ)
    → scan_ahead found bytes ≡ Ok (to_scan_of now false, rest) → rows_rest settings found bytes
    ≡ (picture_of settings now >>= (λ picture. Ok ((told_of now.said, picture), rest)))
unfolding rows_rest settled_picture
rest-at-end settings found now bytes rest e =
    ap (λ (t : Option ColorTransform). rest_showing settings.max_blocks (settled_picture t settings) found bytes)
    (chosen-none settings found now bytes rest e)
    ∙ rest-shown None settings.max_blocks settings found bytes _
    (ahead-ends settings.max_blocks found now bytes rest e)

-- nothing, where a segment before the scan is refused
pub rest-lacks : (settings : Settings) (found : Found) (bytes : List ℕ) (fault : Fault)
    → scan_ahead found bytes ≡ Err fault → rows_rest settings found bytes ≡ Err fault
unfolding rows_rest
rest-lacks settings found bytes fault e =
    rest-shown (chosen settings found bytes) settings.max_blocks settings found bytes _ refl
    ∙ ap (λ (o : Result (List ℕ) Fault). o >>= show) (ahead-lacks settings.max_blocks found bytes fault e).0
  where
    w : Walked
    w = walk settings.max_blocks Zeros (suc (length bytes)) false Elsewhere found None bytes

    show : List ℕ → Outcome (Told × List ℕ)
    show rest = settled_picture (chosen settings found bytes) settings w.found >>= (λ picture.
        Ok ((told_of w.found.said, picture), rest))
