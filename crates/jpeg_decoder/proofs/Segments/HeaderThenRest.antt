-- A stream whose header is read, and then the rest of it.
use Rattle.std.proofs.Common.{◌≡◌, ◌+◌, ◌<◌, ℕ, zero, suc, List, Result, Ok, Err, Bool, true, false}
use Rattle.std.proofs.Common.{None, Option, Some, refl, sym, subst, ap, ap₂, ◌∙◌, length, arith, ◌&&◌, is_some}
use Rattle.jpeg_bits.specs.Reading.{End, Fault, Outcome, ◌>>=◌}
use Rattle.jpeg_meaning.specs.declared.before.Before.TheVariants.{Elsewhere}
use Rattle.jpeg_bits.specs.declared.beyond.Beyond.{Beyond}
use Rattle.jpeg_bits.specs.declared.beyond.Beyond.TheVariants.{Nothing, Zeros}
use Rattle.jpeg_meaning.specs.declared.settings.Settings.{Settings}
use Rattle.jpeg_meaning.specs.Found.{Found, nothing_found, nothing_said}
use Rattle.jpeg_meaning.specs.Reported.{IsOfTurns, told_by_turns, told_in_turns}
use Rattle.jpeg_meaning.specs.Limits.{exceeded_by, exceeded_rest}
use Rattle.jpeg_meaning.specs.Segments.{Turn}
use Rattle.jpeg_meaning.proofs.Limits.{none-exceeded}
use Rattle.jpeg_meaning.specs.Stream.{Told, Walked, header_at, meaning_within, rest_within, segments_at, start_at}
use Rattle.jpeg_meaning.specs.Shown.{rows_of_found, shown_of, shown_rest_within, shown_within, whole_rows_rest}
use Rattle.jpeg_meaning.specs.Shown.{whole_rows_within}
use Rattle.jpeg_meaning.specs.ScanSegments.{scan_segment}
use Rattle.jpeg_meaning.specs.Stream.{brought_after, scan_turn_at, told_of, turn_at, turn_within, walk, rest_showing, meaning_showing}
use Rattle.jpeg_meaning.specs.Work.{brought_within, is_above, left_after, work_after, work_of_header, work_of_scan, work_of_turn}
use Rattle.jpeg_meaning.specs.Brought.{Brought, scan_brought, unbrought}
use Rattle.jpeg_meaning.specs.FoundPictures.{picture_of}
use Rattle.jpeg_meaning.specs.declared.before.Before.{Before}
use Rattle.jpeg_segments.specs.Checks.{needed}
use Rattle.jpeg_segments.specs.Frame.{Frame}
use Rattle.jpeg_segments.specs.ScanHeader.{Scan}
use Rattle.jpeg_bits.specs.Marker.{found_or, next_marker}
use Rattle.jpeg_bits.specs.declared.marker.Marker.{Marker}
use Rattle.jpeg_bits.specs.declared.marker.Marker.TheVariants.{SOS}
use Rattle.jpeg_decoder.proofs.Segments.MarkedTurns.{none-above, nothing-taken, nothing-within}
use Rattle.jpeg_decoder.proofs.Segments.Headers.{turn-begins}
use Rattle.jpeg_decoder.proofs.Segments.LeftBytes.{IsElsewhere, left_at, on-at}
use Rattle.jpeg_decoder.specs.Shows.{told_shown, told_shown_rest}
use Rattle.jpeg_decoder.specs.Walks.{walk_over}
use Rattle.jpeg_decoder.proofs.Segments.Turns.{not-framed, told-start, turn-takes, turns-enough}
use Rattle.jpeg_meaning.proofs.Written.ReadTurns.{bind-ok, err-ok, ok-same, refused_walk, then-ok, walk-end, walk-on, walk-refused, walk-stop}
use Rattle.jpeg_meaning.proofs.Written.ReadTurns.{walked, walked_to}
use Rattle.jpeg_meaning.proofs.Refusals.{turns-no_start, turns-start}
use Rattle.std.proofs.lemmas.Grind.{common_steps}

-- ---- the turns of a header and those of its stream

-- After these turns of a header, a stream goes on as its rest does; or it is refused as its header is.
Follows : Option ℕ → Beyond → ℕ → Walked → Result (List ℕ) Fault → (ℕ → Walked) → Type 0
Follows limit beyond n next (Ok rest) whole =
    (m : ℕ) × ((k : ℕ) → whole (m + k) ≡ walk limit beyond k false Elsewhere next.found None rest)
Follows limit beyond n next (Err fault) whole = whole n ≡ next

follows-next : (limit : Option ℕ) (beyond : Beyond) (n : ℕ) (next : Walked) (end : Result (List ℕ) Fault)
    (whole others : ℕ → Walked) → ((k : ℕ) → whole (suc k) ≡ others k) → Follows limit beyond n next end others
    → Follows limit beyond (suc n) next end whole
unfolding Follows
follows-next limit beyond n next (Ok rest) whole others e h = (
  suc h.0,
  λ k. let one : suc h.0 + k ≡ suc (h.0 + k) = omega arith in ap whole one ∙ e (h.0 + k) ∙ h.1 k,
)
follows-next limit beyond n next (Err fault) whole others e h = e n ∙ h

-- Before a frame no scan has a header, so that nothing is taken from a limit.
unframed-header : (o : Option Frame) (f : Frame → Result (Frame × (Scan × List ℕ)) Fault) → is_some o ≡ false
    → elim (needed o >>= f) as (λ _. ℕ) [ Ok x ↦ work_of_scan x.0 x.1.0 | Err fault ↦ 0 ] ≡ 0
unframed-header None f e = refl
unframed-header (Some frame) f e = absurd (grind (arith, common_steps))

unframed-after : (m : Marker) (found : Found) (bytes : List ℕ) → is_some found.said.frame ≡ false
    → work_after m found bytes ≡ 0
unfolding work_of_header
unframed-after SOS found bytes e = unframed-header found.said.frame _ e
unframed-after m found bytes e = refl

unframed-work : (found : Found) (bytes : List ℕ) → is_some found.said.frame ≡ false
    → work_of_turn found None bytes ≡ 0
unfolding work_of_turn
unframed-work found bytes e = go (next_marker bytes)
  where
    go : (o : Outcome Marker)
        → elim o as (λ _. ℕ) [ Ok m ↦ work_after m.0 found m.1 | Err fault ↦ 0 ] ≡ 0
    go (Ok m) = unframed-after m.0 found m.1 e
    go (Err fault) = refl

-- so a turn is as without one
unframed-turn : (limit : Option ℕ) (beyond : Beyond) (found : Found) (bytes : List ℕ)
    → is_some found.said.frame ≡ false
    → turn_within limit beyond Elsewhere found None bytes ≡ turn_at beyond Elsewhere found None bytes
unframed-turn limit beyond found bytes e =
    ap (λ (n : ℕ). brought_within limit n found (turn_at beyond Elsewhere found None bytes)) (unframed-work found bytes e)
    ∙ nothing-within limit found _

header-unread : (header : Bool) (o : Option Frame) → is_some o ≡ false → (header && is_some o) ≡ false
header-unread header o e = grind (arith, common_steps)

begun-refused : (limit : Option ℕ) (beyond : Beyond) (n : ℕ) (found : Found) (bytes : List ℕ) (fault : Fault)
    → is_some found.said.frame ≡ false → (turn_at beyond Elsewhere found None bytes).turn ≡ Err fault
    → walk limit beyond (suc n) false Elsewhere found None bytes
    ≡ refused_walk false (turn_at beyond Elsewhere found None bytes) fault
begun-refused limit beyond n found bytes fault none e =
    let same = unframed-turn limit beyond found bytes none in
    walk-refused limit beyond n false Elsewhere found None bytes fault refl (ap (λ (b : Brought). b.turn) same ∙ e)
    ∙ ap (λ (n : ℕ). refused_walk (is_above limit n) (turn_within limit beyond Elsewhere found None bytes) fault)
    (unframed-work found bytes none)
    ∙ ap (λ (b : Brought). refused_walk (is_above limit 0) b fault) same
    ∙ ap (λ (above : Bool). refused_walk above (turn_at beyond Elsewhere found None bytes) fault) (none-above limit)

pub walk-begun : (limit : Option ℕ) (beyond : Beyond) (n : ℕ) (header : Bool) (found : Found) (bytes : List ℕ)
    (t : Turn × List ℕ) → is_some found.said.frame ≡ false
    → (turn_at beyond Elsewhere found None bytes).turn ≡ Ok t → IsElsewhere t
    → walk limit beyond (suc n) header Elsewhere found None bytes
    ≡ walk limit beyond n header Elsewhere t.0.found None t.1
walk-begun limit beyond n header found bytes t none is s =
    walk-on limit beyond n header Elsewhere found None bytes t.1 t.0 (header-unread header found.said.frame none)
    (ap (λ (b : Brought). b.turn) (unframed-turn limit beyond found bytes none) ∙ is) s.0
    ∙ ap (λ (l : Option ℕ). walk l beyond n header t.0.before t.0.found t.0.met t.1)
    (ap (left_after limit) (unframed-work found bytes none) ∙ nothing-taken limit)
    ∙ ap₂ (λ (b : Before) (m : Option Marker). walk limit beyond n header b t.0.found m t.1) s.1.0 s.1.1

-- the header's walk, and its stream's
FollowsAt : Option ℕ → Beyond → ℕ → Found → List ℕ → Type 0
FollowsAt limit beyond n found bytes =
    let w = walk None beyond n true Elsewhere found None bytes in
    Follows limit beyond n w w.rest (λ k. walk limit beyond k false Elsewhere found None bytes)

follows-turn : (limit : Option ℕ) (beyond : Beyond) (n : ℕ) (found : Found) (bytes : List ℕ)
    → ((t : Turn × List ℕ) → FollowsAt limit beyond n t.0.found t.1) → FollowsAt limit beyond (suc n) found bytes
unfolding Follows FollowsAt
follows-turn limit beyond n found bytes others =
    go (is_some found.said.frame) refl (turn_at beyond Elsewhere found None bytes).turn refl
  where
    whole : ℕ → Walked
    whole k = walk limit beyond k false Elsewhere found None bytes

    at : (w : Walked) → walk None beyond (suc n) true Elsewhere found None bytes ≡ w
        → Follows limit beyond (suc n) w w.rest whole → FollowsAt limit beyond (suc n) found bytes
    at w e h = subst (λ (v : Walked). Follows limit beyond (suc n) v v.rest whole) (sym e) h

    go : (b : Bool) → is_some found.said.frame ≡ b → (r : Outcome Turn)
        → (turn_at beyond Elsewhere found None bytes).turn ≡ r → FollowsAt limit beyond (suc n) found bytes
    go true e r q = at (walked found (Ok bytes))
        (walk-stop None beyond (suc n) true Elsewhere found None bytes (omega arith) e)
        (0, λ k. let none : 0 + k ≡ k = omega arith in ap whole none)
    go false e (Err fault) q =
        at _ (walk-refused None beyond n true Elsewhere found None bytes fault e q)
        (begun-refused limit beyond n found bytes fault e q)
    go false e (Ok t) q =
        let s = on-at IsElsewhere _ t (turn-begins beyond found bytes e) q in
        at _ (walk-begun None beyond n true found bytes t e q s)
        (follows-next limit beyond n _ _ whole _ (λ k. walk-begun limit beyond k false found bytes t e q s) (others t))

follows : (limit : Option ℕ) (beyond : Beyond) (n : ℕ) (found : Found) (bytes : List ℕ)
    → FollowsAt limit beyond n found bytes
unfolding FollowsAt Follows walk
follows limit beyond zero found bytes = refl
follows limit beyond (suc n) found bytes =
    follows-turn limit beyond n found bytes (λ t. follows limit beyond n t.0.found t.1)

-- ---- a header that was read has a frame

framed-turn : (n : ℕ) (found : Found) (bytes rest : List ℕ)
    → ((t : Turn × List ℕ) → (walk None Zeros n true Elsewhere t.0.found None t.1).rest ≡ Ok rest
    → is_some (walk None Zeros n true Elsewhere t.0.found None t.1).found.said.frame ≡ true)
    → (walk None Zeros (suc n) true Elsewhere found None bytes).rest ≡ Ok rest
    → is_some (walk None Zeros (suc n) true Elsewhere found None bytes).found.said.frame ≡ true
framed-turn n found bytes rest others e =
    go (is_some found.said.frame) refl (turn_at Zeros Elsewhere found None bytes).turn refl
  where
    at : (w : Walked) → walk None Zeros (suc n) true Elsewhere found None bytes ≡ w
        → (w.rest ≡ Ok rest → is_some w.found.said.frame ≡ true)
        → is_some (walk None Zeros (suc n) true Elsewhere found None bytes).found.said.frame ≡ true
    at w q h =
        ap (λ (v : Walked). is_some v.found.said.frame) q ∙ h (sym (ap (λ (v : Walked). v.rest) q) ∙ e)

    go : (b : Bool) → is_some found.said.frame ≡ b → (r : Outcome Turn)
        → (turn_at Zeros Elsewhere found None bytes).turn ≡ r
        → is_some (walk None Zeros (suc n) true Elsewhere found None bytes).found.said.frame ≡ true
    go true i r q =
        at (walked found (Ok bytes)) (walk-stop None Zeros (suc n) true Elsewhere found None bytes (omega arith) i)
        (λ _. i)
    go false i (Err fault) q =
        at _ (walk-refused None Zeros n true Elsewhere found None bytes fault i q) (λ h. absurd (err-ok fault rest h))
    go false i (Ok t) q =
        let s = on-at IsElsewhere _ t (turn-begins Zeros found bytes i) q in
        at _ (walk-begun None Zeros n true found bytes t i q s) (others t)

framed-end : (n : ℕ) (found : Found) (bytes rest : List ℕ)
    → (walk None Zeros n true Elsewhere found None bytes).rest ≡ Ok rest
    → is_some (walk None Zeros n true Elsewhere found None bytes).found.said.frame ≡ true
unfolding walk
framed-end zero found bytes rest e = absurd (err-ok End rest e)
framed-end (suc n) found bytes rest e =
    framed-turn n found bytes rest (λ t. framed-end n t.0.found t.1 rest) e

pub header-framed : (found : Found) (bytes rest : List ℕ) → header_at bytes ≡ Ok (found, rest)
    → is_some found.said.frame ≡ true
unfolding header_at segments_at
header-framed found bytes rest e =
    let s = bind-ok (start_at bytes) _ (found, rest) e in
    let w = walk_over None Zeros true nothing_found s.0.1 in
    let h = bind-ok w.rest _ (found, rest) s.2 in
    let same = ok-same (w.found, h.0) (found, rest) h.2 in
    ap (λ (x : Found × List ℕ). is_some x.0.said.frame) (sym same)
    ∙ framed-end (suc (length s.0.1)) nothing_found s.0.1 h.0 h.1

-- ---- before a frame it makes no difference what follows a scan's data

scan-alike : (found : Found) (bytes : List ℕ) → is_some found.said.frame ≡ false
    → scan_turn_at Nothing found bytes ≡ scan_turn_at Zeros found bytes
unfolding scan_turn_at scan_brought scan_segment
scan-alike found bytes e = rw (not-framed true found.said.frame e refl) refl

marker-alike : (m : Marker) (before : Before) (found : Found) (bytes : List ℕ) → is_some found.said.frame ≡ false
    → brought_after Nothing m before found bytes ≡ brought_after Zeros m before found bytes
unfolding brought_after
marker-alike SOS before found bytes e = scan-alike found bytes e
marker-alike m before found bytes e = refl

turn-alike : (left : Option ℕ) (before : Before) (found : Found) (met : Option Marker) (bytes : List ℕ)
    → is_some found.said.frame ≡ false
    → turn_within left Nothing before found met bytes ≡ turn_within left Zeros before found met bytes
unfolding turn_at
turn-alike left before found met bytes e =
    ap (λ (b : Brought). brought_within left (work_of_turn found met bytes) found b)
    (go (found_or met bytes (next_marker bytes)))
  where
    go : (o : Outcome Marker)
        → elim o as (λ _. Brought) [ Ok m ↦ brought_after Nothing m.0 before found m.1 | Err fault ↦ unbrought found (Err fault) ]
        ≡ elim o as (λ _. Brought) [ Ok m ↦ brought_after Zeros m.0 before found m.1 | Err fault ↦ unbrought found (Err fault) ]
    go (Ok m) = marker-alike m.0 before found m.1 e
    go (Err fault) = refl

-- two walks to a header
AreAlike : Option ℕ → ℕ → Before → Found → Option Marker → List ℕ → Type 0
AreAlike left n before found met bytes =
    walk left Nothing n true before found met bytes ≡ walk left Zeros n true before found met bytes

alike-turn : (left : Option ℕ) (n : ℕ) (before : Before) (found : Found) (met : Option Marker) (bytes : List ℕ)
    → ((l : Option ℕ) (t : Turn × List ℕ) → AreAlike l n t.0.before t.0.found t.0.met t.1)
    → AreAlike left (suc n) before found met bytes
unfolding AreAlike
alike-turn left n before found met bytes others =
    go (is_some found.said.frame) refl (turn_within left Zeros before found met bytes).turn refl
  where
    same : is_some found.said.frame ≡ false → (r : Outcome Turn)
        → (turn_within left Zeros before found met bytes).turn ≡ r
        → (turn_within left Nothing before found met bytes).turn ≡ r
    same e r q = ap (λ (b : Brought). b.turn) (turn-alike left before found met bytes e) ∙ q

    goes : is_some found.said.frame ≡ false → (t : Turn × List ℕ)
        → (turn_within left Zeros before found met bytes).turn ≡ Ok t → (b : Bool) → t.0.ended ≡ b
        → walk left Nothing (suc n) true before found met bytes ≡ walk left Zeros (suc n) true before found met bytes
    goes e t q true g =
        walk-end left Nothing n true before found met bytes t.1 t.0 e (same e (Ok t) q) g
        ∙ sym (walk-end left Zeros n true before found met bytes t.1 t.0 e q g)
    goes e t q false g =
        walk-on left Nothing n true before found met bytes t.1 t.0 e (same e (Ok t) q) g
        ∙ others (left_after left (work_of_turn found met bytes)) t
        ∙ sym (walk-on left Zeros n true before found met bytes t.1 t.0 e q g)

    go : (b : Bool) → is_some found.said.frame ≡ b → (r : Outcome Turn)
        → (turn_within left Zeros before found met bytes).turn ≡ r
        → walk left Nothing (suc n) true before found met bytes ≡ walk left Zeros (suc n) true before found met bytes
    go true e r q =
        walk-stop left Nothing (suc n) true before found met bytes (omega arith) e
        ∙ sym (walk-stop left Zeros (suc n) true before found met bytes (omega arith) e)
    go false e (Err fault) q =
        walk-refused left Nothing n true before found met bytes fault e (same e (Err fault) q)
        ∙ ap (λ (b : Brought). refused_walk (is_above left (work_of_turn found met bytes)) b fault)
        (turn-alike left before found met bytes e)
        ∙ sym (walk-refused left Zeros n true before found met bytes fault e q)
    go false e (Ok t) q = goes e t q t.0.ended refl

alike : (left : Option ℕ) (n : ℕ) (before : Before) (found : Found) (met : Option Marker) (bytes : List ℕ)
    → AreAlike left n before found met bytes
unfolding AreAlike walk
alike left zero before found met bytes = refl
alike left (suc n) before found met bytes =
    alike-turn left n before found met bytes (λ l t. alike l n t.0.before t.0.found t.0.met t.1)

pub any-alike : (beyond : Beyond) (bytes : List ℕ)
    → walk_over None beyond true nothing_found bytes ≡ walk_over None Zeros true nothing_found bytes
unfolding AreAlike
any-alike Zeros bytes = refl
any-alike Nothing bytes = alike None (suc (length bytes)) Elsewhere nothing_found None bytes

-- ---- where the header is read

past : (limit : Option ℕ) (beyond : Beyond) (n : ℕ) (w : Walked) (end : Result (List ℕ) Fault) (whole : ℕ → Walked)
    (rest : List ℕ) → end ≡ Ok rest → Follows limit beyond n w end whole
    → (m : ℕ) × ((k : ℕ) → whole (m + k) ≡ walk limit beyond k false Elsewhere w.found None rest)
unfolding Follows
past limit beyond n w (Ok left) whole rest e h = (
  h.0,
  λ k. h.1 k ∙ ap (λ (l : List ℕ). walk limit beyond k false Elsewhere w.found None l) (ok-same left rest e),
)
past limit beyond n w (Err fault) whole rest e h = absurd (err-ok fault rest e)

-- A header was read, and the turns of the stream after its start go on as those of the rest.
pub record GoesOn (limit : Option ℕ) (beyond : Beyond) (found : Found) (bytes rest : List ℕ) : Type 0 where
  pub start : List ℕ
  pub starts : start_at bytes ≡ Ok (tt, start)
  pub turns : ℕ
  pub after : (k : ℕ) → walk limit beyond (turns + k) false Elsewhere nothing_found None start
      ≡ walk limit beyond k false Elsewhere found None rest
  pub whole : walk_over limit beyond false nothing_found start ≡ walk_over limit beyond false found rest

pub goes-on : (limit : Option ℕ) (beyond : Beyond) (found : Found) (bytes rest : List ℕ) → header_at bytes ≡ Ok (found, rest)
    → GoesOn limit beyond found bytes rest
unfolding header_at segments_at FollowsAt
goes-on limit beyond found bytes rest e =
    let s = bind-ok (start_at bytes) _ (found, rest) e in
    let start = s.0.1 in
    let w = walk_over None beyond true nothing_found start in
    let h = bind-ok w.rest _ (found, rest) (ap walked_to (any-alike beyond start) ∙ s.2) in
    let same = ok-same (w.found, h.0) (found, rest) h.2 in
    let p = past limit beyond _ w w.rest _ h.0 h.1 (follows limit beyond (suc (length start)) nothing_found start) in
    let after = λ (k : ℕ). p.1 k ∙ ap (λ (x : Found × List ℕ). walk limit beyond k false Elsewhere x.0 None x.1) same in
    let enough = suc (length start + length rest) in
    record {
      start = start;
      starts = s.1;
      turns = p.0;
      after = after;
      whole = turns-enough limit beyond (suc (length start)) (p.0 + enough) false Elsewhere nothing_found None start
          (omega arith) (omega arith) ∙ after enough
          ∙ turns-enough limit beyond enough (suc (length rest)) false Elsewhere found None rest (omega arith) (omega arith);
    }

-- a stream whose header was read means what its rest means
pub header-reads : {A : Type 0} (limit : Option ℕ) (show : Found → Result A Fault) (found : Found) (bytes rest : List ℕ)
    → header_at bytes ≡ Ok (found, rest)
    → meaning_showing limit show bytes ≡ rest_showing limit show found rest
unfolding meaning_showing rest_showing segments_at
header-reads limit show found bytes rest e =
    let g = goes-on limit Zeros found bytes rest e in
    then-ok (start_at bytes) _ (tt, g.start) _ g.starts (rw g.whole refl)

pub header-means : (limit : Option ℕ) (settings : Settings) (found : Found) (bytes rest : List ℕ)
    → header_at bytes ≡ Ok (found, rest)
    → meaning_within limit settings bytes ≡ rest_within limit settings found rest
header-means limit settings = header-reads limit (picture_of settings)

-- and its rest tells what it does
pub header-told : (limit : Option ℕ) (found : Found) (bytes rest : List ℕ) → header_at bytes ≡ Ok (found, rest)
    → told_by_turns limit (suc (length bytes)) false bytes ≡ told_in_turns limit (suc (length rest)) false found rest
header-told limit found bytes rest e =
    let g = goes-on limit Zeros found bytes rest e in
    told-start limit false bytes g.start g.starts ∙ ap (λ (w : Walked). told_of w.found.said) g.whole

pub header-turns : (limit : Option ℕ) (found : Found) (bytes rest : List ℕ) (told : Told)
    → header_at bytes ≡ Ok (found, rest) → IsOfTurns (λ n. told_in_turns limit n false found rest) told
    → IsOfTurns (λ n. told_by_turns limit n false bytes) told
unfolding IsOfTurns
header-turns limit found bytes rest told e of =
    let g = goes-on limit Zeros found bytes rest e in (
      g.turns + of.0,
      of.1 ∙ sym (turns-start limit (g.turns + of.0) false bytes g.start g.starts
          ∙ ap (λ (w : Walked). told_of w.found.said) (g.after of.0)),
    )

-- and its scans exceed a limit where those of its rest do
pub header-exceeded : (limit : Option ℕ) (beyond : Beyond) (found : Found) (bytes rest : List ℕ)
    → header_at bytes ≡ Ok (found, rest) → exceeded_by limit beyond bytes ≡ exceeded_rest limit beyond found rest
unfolding exceeded_by
header-exceeded limit beyond found bytes rest e =
    let g = goes-on limit beyond found bytes rest e in
    rw (g.starts, exceeded_by) (ap (λ (w : Walked). w.exceeded) g.whole)

-- ---- what a stream shows whose header was read

pub header-shows : (settings : Settings) (found : Found) (bytes rest : List ℕ) → header_at bytes ≡ Ok (found, rest)
    → shown_within settings.max_blocks settings bytes ≡ shown_rest_within settings.max_blocks settings found rest
unfolding shown_within shown_rest_within
header-shows settings found bytes rest e =
    let g = goes-on settings.max_blocks Nothing found bytes rest e in
    then-ok (start_at bytes) _ (tt, g.start) _ g.starts (rw g.whole refl)

pub header-counts : (limit : Option ℕ) (found : Found) (bytes rest : List ℕ) → header_at bytes ≡ Ok (found, rest)
    → whole_rows_within limit bytes ≡ whole_rows_rest limit found rest
unfolding whole_rows_within whole_rows_rest
header-counts limit found bytes rest e =
    let g = goes-on limit Nothing found bytes rest e in
    rw (g.starts, whole_rows_within) (ap (λ (w : Walked). rows_of_found w.rows w.found) g.whole)

pub header-shows_told : (limit : Option ℕ) (found : Found) (bytes rest : List ℕ) → header_at bytes ≡ Ok (found, rest)
    → told_shown limit bytes ≡ told_shown_rest limit found rest
unfolding told_shown
header-shows_told limit found bytes rest e =
    let g = goes-on limit Nothing found bytes rest e in
    rw (g.starts, told_shown) (ap (λ (w : Walked). told_of w.found.said) g.whole)

-- ---- where the header is refused

-- no frame was read: it is walked as the stream is
segments-lack : (limit : Option ℕ) (beyond : Beyond) (found : Found) (bytes : List ℕ) (fault : Fault)
    → (walk_over None beyond true found bytes).rest ≡ Err fault
    → walk_over limit beyond false found bytes ≡ walk_over None beyond true found bytes
unfolding FollowsAt Follows
segments-lack limit beyond found bytes fault e =
    go (walk_over None beyond true found bytes).rest e (follows limit beyond (suc (length bytes)) found bytes)
  where
    go : (end : Result (List ℕ) Fault) → end ≡ Err fault
        → Follows limit beyond (suc (length bytes)) (walk_over None beyond true found bytes) end
        (λ k. walk limit beyond k false Elsewhere found None bytes)
        → walk_over limit beyond false found bytes ≡ walk_over None beyond true found bytes
    go (Ok rest) e h = absurd (err-ok fault rest (sym e))
    go (Err other) e h = h

walked-lacks : (r : Result (List ℕ) Fault) (found : Found) (fault : Fault)
    → ◌>>=◌ {B = Found × List ℕ} r (λ (rest : List ℕ). Ok (found, rest)) ≡ Err fault → r ≡ Err fault
walked-lacks (Ok rest) found fault e = absurd (err-ok fault (found, rest) (sym e))
walked-lacks (Err other) found fault e = grind arith

-- no frame was read: the header is walked as the stream is
header-walked : (limit : Option ℕ) (beyond : Beyond) (bytes : List ℕ) (fault : Fault)
    → segments_at None true Elsewhere nothing_found None bytes ≡ Err fault
    → walk_over limit beyond false nothing_found bytes ≡ walk_over None Zeros true nothing_found bytes
unfolding segments_at
header-walked limit beyond bytes fault e =
    segments-lack limit beyond nothing_found bytes fault
    (ap (λ (w : Walked). w.rest) (any-alike beyond bytes)
    ∙ walked-lacks (walk_over None Zeros true nothing_found bytes).rest _ fault e)
    ∙ any-alike beyond bytes

stream-lacks : (limit : Option ℕ) (bytes : List ℕ) (fault : Fault)
    → segments_at None true Elsewhere nothing_found None bytes ≡ Err fault
    → segments_at limit false Elsewhere nothing_found None bytes ≡ Err fault
unfolding segments_at
stream-lacks limit bytes fault e = ap walked_to (header-walked limit Zeros bytes fault e) ∙ e

-- a fault of the header is that of the stream
pub header-refuses : {A : Type 0} (limit : Option ℕ) (show : Found → Result A Fault) (bytes : List ℕ) (fault : Fault)
    → header_at bytes ≡ Err fault → meaning_showing limit show bytes ≡ Err fault
unfolding header_at meaning_showing rest_showing
header-refuses {A} limit show bytes fault e = go (start_at bytes) e
  where
    go : (r : Outcome (Unit {0}))
        → r >>= (λ (start : Unit {0} × List ℕ). segments_at None true Elsewhere nothing_found None start.1) ≡ Err fault
        → r >>= (λ (start : Unit {0} × List ℕ). rest_showing limit show nothing_found start.1) ≡ Err fault
    go (Ok start) q =
        ap (λ (o : Outcome Found). o >>= (λ (all : Found × List ℕ). show all.0
        >>= (λ (shown : A). Ok ((told_of all.0.said, shown), all.1)))) (stream-lacks limit start.1 fault q)
    go (Err other) q = grind arith

pub header-lacks : (limit : Option ℕ) (settings : Settings) (bytes : List ℕ) (fault : Fault)
    → header_at bytes ≡ Err fault → meaning_within limit settings bytes ≡ Err fault
header-lacks limit settings = header-refuses limit (picture_of settings)

pub header-told_lacking : (limit : Option ℕ) (bytes : List ℕ) (fault : Fault) → header_at bytes ≡ Err fault
    → told_by_turns None (suc (length bytes)) true bytes ≡ told_by_turns limit (suc (length bytes)) false bytes
unfolding header_at
header-told_lacking limit bytes fault e = go (start_at bytes) refl e
  where
    go : (r : Outcome (Unit {0})) → start_at bytes ≡ r
        → r >>= (λ (start : Unit {0} × List ℕ). segments_at None true Elsewhere nothing_found None start.1) ≡ Err fault
        → told_by_turns None (suc (length bytes)) true bytes ≡ told_by_turns limit (suc (length bytes)) false bytes
    go (Ok start) s q =
        told-start None true bytes start.1 s
        ∙ ap (λ (w : Walked). told_of w.found.said) (sym (header-walked limit Zeros start.1 fault q))
        ∙ sym (told-start limit false bytes start.1 s)
    go (Err other) s q =
        turns-no_start None (suc (length bytes)) true bytes other s
        ∙ sym (turns-no_start limit (suc (length bytes)) false bytes other s)

-- before its first scan nothing exceeds a limit
pub lacking-exceeded : (limit : Option ℕ) (beyond : Beyond) (bytes : List ℕ) (fault : Fault)
    → header_at bytes ≡ Err fault → exceeded_by limit beyond bytes ≡ false
unfolding header_at exceeded_by
lacking-exceeded limit beyond bytes fault e = go (start_at bytes) e
  where
    go : (r : Outcome (Unit {0}))
        → r >>= (λ (start : Unit {0} × List ℕ). segments_at None true Elsewhere nothing_found None start.1) ≡ Err fault
        → elim r as (λ _. Bool) [ Ok start ↦ exceeded_rest limit beyond nothing_found start.1 | Err other ↦ false ] ≡ false
    go (Ok start) q =
        ap (λ (w : Walked). w.exceeded) (header-walked limit beyond start.1 fault q)
        ∙ none-exceeded Zeros (suc (length start.1)) true Elsewhere nothing_found None start.1
    go (Err other) q = refl

said-by : (limit : Option ℕ) (beyond : Beyond) (n : ℕ) (w : Walked) (end : Result (List ℕ) Fault) (whole : ℕ → Walked)
    → Follows limit beyond n w end whole → (m : ℕ) × (w.found ≡ (whole m).found)
unfolding Follows walk
said-by limit beyond n w (Ok rest) whole h = (h.0 + 0, ap (λ (w : Walked). w.found) (sym (h.1 0)))
said-by limit beyond n w (Err fault) whole h = (n, ap (λ (w : Walked). w.found) (sym h))

-- The turns of a header, which end before the first scan, are turns of the stream.
pub header-turns_lacking : (limit : Option ℕ) (bytes : List ℕ) (told : Told)
    → IsOfTurns (λ n. told_by_turns None n true bytes) told → IsOfTurns (λ n. told_by_turns limit n false bytes) told
unfolding IsOfTurns FollowsAt
header-turns_lacking limit bytes told of = go (start_at bytes) refl
  where
    go : (r : Outcome (Unit {0})) → start_at bytes ≡ r → (n : ℕ) × (told ≡ told_by_turns limit n false bytes)
    go (Err fault) q = (
      of.0,
      of.1 ∙ turns-no_start None of.0 true bytes fault q ∙ sym (turns-no_start limit of.0 false bytes fault q),
    )
    go (Ok start) q =
        let s = said-by limit _ _ _ _ _ (follows limit Zeros of.0 nothing_found start.1) in (
          s.0,
          of.1 ∙ turns-start None of.0 true bytes start.1 q ∙ ap (λ (f : Found). told_of f.said) s.1
              ∙ sym (turns-start limit s.0 false bytes start.1 q),
        )

-- ---- what a stream shows whose header is refused: no frame was read

marker-found : (m : Marker) (before : Before) (found : Found) (bytes : List ℕ)
    → (brought_after Zeros m before found bytes).found ≡ found
unfolding brought_after scan_turn_at
marker-found SOS before found bytes = refl
marker-found m before found bytes = refl

-- with zeros after its data nothing of a scan that is refused counts
turn-found : (before : Before) (found : Found) (met : Option Marker) (bytes : List ℕ)
    → (turn_within None Zeros before found met bytes).found ≡ found
unfolding turn_at
turn-found before found met bytes = go (found_or met bytes (next_marker bytes))
  where
    go : (o : Outcome Marker)
        → (elim o as (λ _. Brought) [ Ok m ↦ brought_after Zeros m.0 before found m.1 | Err fault ↦ unbrought found (Err fault) ]).found
        ≡ found
    go (Ok m) = marker-found m.0 before found m.1
    go (Err fault) = refl

-- a walk to a header that is refused
unframed-end : (n : ℕ) (before : Before) (found : Found) (met : Option Marker) (bytes : List ℕ) (fault : Fault)
    → left_at met bytes < n → (walk None Zeros n true before found met bytes).rest ≡ Err fault
    → (walk None Zeros n true before found met bytes).found.said.frame ≡ None
unframed-end zero before found met bytes fault few e = absurd (omega (arith, few))
unframed-end (suc n) before found met bytes fault few e =
    go (is_some found.said.frame) refl (turn_within None Zeros before found met bytes).turn refl
    (λ t less. unframed-end n t.0.before t.0.found t.0.met t.1 fault less)
  where
    Others : Type 0
    Others = (t : Turn × List ℕ) → left_at t.0.met t.1 < n
        → (walk None Zeros n true t.0.before t.0.found t.0.met t.1).rest ≡ Err fault
        → (walk None Zeros n true t.0.before t.0.found t.0.met t.1).found.said.frame ≡ None

    Ends : Walked → Type 0
    Ends w = w.rest ≡ Err fault → w.found.said.frame ≡ None

    goes : is_some found.said.frame ≡ false → (t : Turn × List ℕ)
        → (turn_within None Zeros before found met bytes).turn ≡ Ok t → Others → (b : Bool) → t.0.ended ≡ b
        → Ends (walk None Zeros (suc n) true before found met bytes)
    goes i t q others true g =
        subst Ends (sym (walk-end None Zeros n true before found met bytes t.1 t.0 i q g))
        (λ h. absurd (err-ok fault t.1 (sym h)))
    goes i t q others false g =
        subst Ends (sym (walk-on None Zeros n true before found met bytes t.1 t.0 i q g))
        (λ h. others t (omega (arith, few, turn-takes None Zeros before found met bytes t q g)) h)

    go : (b : Bool) → is_some found.said.frame ≡ b → (r : Outcome Turn)
        → (turn_within None Zeros before found met bytes).turn ≡ r → Others
        → (walk None Zeros (suc n) true before found met bytes).found.said.frame ≡ None
    go true i r q others = absurd (err-ok fault bytes (sym e
        ∙ ap (λ (w : Walked). w.rest) (walk-stop None Zeros (suc n) true before found met bytes (omega arith) i)))
    go false i (Err other) q others =
        ap (λ (w : Walked). w.found.said.frame) (walk-refused None Zeros n true before found met bytes other i q)
        ∙ ap (λ (f : Found). f.said.frame) (turn-found before found met bytes)
        ∙ not-framed true found.said.frame i refl
    go false i (Ok t) q others = goes i t q others t.0.ended refl e

shown-none : (settings : Settings) (f : Found) (r : Result (List ℕ) Fault) (fault : Fault) → f.said.frame ≡ None
    → r ≡ Err fault → shown_of settings f r ≡ Err fault
unfolding shown_of
shown-none settings f r fault e q = rw (e, q) refl

-- a fault of the header is that of the stream
pub header-shows_none : (settings : Settings) (bytes : List ℕ) (fault : Fault) → header_at bytes ≡ Err fault
    → shown_within settings.max_blocks settings bytes ≡ Err fault
unfolding header_at shown_within shown_rest_within segments_at
header-shows_none settings bytes fault e = go (start_at bytes) e
  where
    go : (r : Outcome (Unit {0}))
        → r >>= (λ (start : Unit {0} × List ℕ). segments_at None true Elsewhere nothing_found None start.1) ≡ Err fault
        → r >>= (λ (start : Unit {0} × List ℕ). shown_rest_within settings.max_blocks settings nothing_found start.1) ≡ Err fault
    go (Ok start) q =
        let w = walk_over None Zeros true nothing_found start.1 in
        let lacks = walked-lacks w.rest w.found fault q in
        ap (λ (w : Walked). shown_of settings w.found w.rest) (header-walked settings.max_blocks Nothing start.1 fault q)
        ∙ shown-none settings w.found w.rest fault
        (unframed-end (suc (length start.1)) Elsewhere nothing_found None start.1 fault (omega arith) lacks) lacks
    go (Err other) q = grind arith

pub header-shows_lacking : (limit : Option ℕ) (bytes : List ℕ) (fault : Fault) → header_at bytes ≡ Err fault
    → told_by_turns None (suc (length bytes)) true bytes ≡ told_shown limit bytes
unfolding header_at told_shown
header-shows_lacking limit bytes fault e = go (start_at bytes) refl e
  where
    shows : (start : Unit {0} × List ℕ) → start_at bytes ≡ Ok start
        → told_shown limit bytes ≡ told_shown_rest limit nothing_found start.1
    shows start s = rw (s, told_shown) refl

    none : (other : Fault) → start_at bytes ≡ Err other → told_shown limit bytes ≡ told_of nothing_said
    none other s = rw (s, told_shown) refl

    go : (r : Outcome (Unit {0})) → start_at bytes ≡ r
        → r >>= (λ (start : Unit {0} × List ℕ). segments_at None true Elsewhere nothing_found None start.1) ≡ Err fault
        → told_by_turns None (suc (length bytes)) true bytes ≡ told_shown limit bytes
    go (Ok start) s q =
        told-start None true bytes start.1 s
        ∙ ap (λ (w : Walked). told_of w.found.said) (sym (header-walked limit Nothing start.1 fault q))
        ∙ sym (shows start s)
    go (Err other) s q = turns-no_start None (suc (length bytes)) true bytes other s ∙ sym (none other s)
