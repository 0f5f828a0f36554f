-- A stream from the first scan on, whose marker was met: its header, what stands after it, and the rest.
use Rattle.std.proofs.Common.{◌≡◌, ◌<◌, ℕ, suc, Bool, true, false, List, length, Option, Some, None, Result, Ok, Err}
use Rattle.std.proofs.Common.{refl, sym, ap, ◌∙◌, arith, if◌then◌else◌}
use Rattle.std.proofs.lemmas.Grind.{common_steps}
use Rattle.jpeg_bits.specs.Reading.{Fault, Malformed, Outcome, ◌>>=◌}
use Rattle.jpeg_bits.specs.declared.beyond.Beyond.TheVariants.{Zeros}
use Rattle.jpeg_bits.specs.declared.color_transform.ColorTransform.{ColorTransform}
use Rattle.jpeg_bits.specs.declared.marker.Marker.{Marker}
use Rattle.jpeg_bits.specs.declared.marker.Marker.TheVariants.{SOS}
use Rattle.jpeg_segments.specs.Checks.{needed}
use Rattle.jpeg_segments.specs.Frame.{Frame}
use Rattle.jpeg_segments.specs.ScanHeader as headers
use Rattle.jpeg_meaning.specs.Brought.{Brought}
use Rattle.jpeg_meaning.specs.Found.{Found, Said}
use Rattle.jpeg_meaning.specs.Segments.{Turn}
use Rattle.jpeg_meaning.specs.Stream.{Told, Walked, brought_after, rest_showing, scan_within, told_of, turn_at}
use Rattle.jpeg_meaning.specs.Stream.{turn_within, walk}
use Rattle.jpeg_meaning.specs.Work.{is_above, left_after, work_of_header, work_of_turn}
use Rattle.jpeg_meaning.specs.declared.before.Before.TheVariants.{Elsewhere}
use Rattle.jpeg_meaning.specs.declared.settings.Settings.{Settings}
use Rattle.jpeg_meaning.proofs.Written.ReadTurns.{bind-ok, err-ok, ok-same, segments-walked, then-ok, walk-on, walked}
use Rattle.jpeg_meaning.proofs.Written.ReadTurns.{zeros-refused}
use Rattle.jpeg_decoder.specs.ByRows.{GoesOnAtScan, chosen, chosen_at, chosen_for, comes_by_rows, rows_rest, scan_ahead}
use Rattle.jpeg_decoder.specs.ByRows.{scan_walk, scan_walk_for, settled_picture, shown_at_scan, to_scan_of}
use Rattle.jpeg_decoder.specs.ByRows.{transform_said, turn_without, turns_without}
use Rattle.jpeg_decoder.specs.Reaching.{turn_after}
use Rattle.jpeg_decoder.specs.Steps.{header_at, header_within}
use Rattle.jpeg_decoder.proofs.Partial.EndedScans.{whole-after, within-zeros}
use Rattle.jpeg_decoder.proofs.Scans.ScanReads.{scan_turn, turn_after as after_header, within-parts}
use Rattle.jpeg_decoder.proofs.Segments.LeftBytes.{left_at}
use Rattle.jpeg_decoder.proofs.Segments.Turns.{turn-takes, turns-enough}

-- ---- the header

-- the header of a scan of no more blocks than are left
pub header-under : (left : Option ℕ) (found : Found) (bytes : List ℕ) (s : headers.Scan × List ℕ)
    → header_within left found bytes ≡ Ok s
    → (is_above left (work_of_header found bytes) ≡ false) × (header_at found bytes ≡ Ok s)
header-under left found bytes s e = go (is_above left (work_of_header found bytes)) e
  where
    go : (b : Bool) → (if b then Err Malformed else header_at found bytes) ≡ Ok s
        → (b ≡ false) × (header_at found bytes ≡ Ok s)
    go true e = absurd (err-ok Malformed s e)
    go false e = (refl, e)

framed-header : (found : Found) (bytes : List ℕ) (frame : Frame) (s : headers.Scan × List ℕ)
    → found.said.frame ≡ Some frame → header_at found bytes ≡ Ok s → headers.sos_at frame bytes ≡ Ok s
framed-header found bytes frame s framed e =
    sym (then-ok (needed found.said.frame) (λ (f : Frame). headers.sos_at f bytes) frame (headers.sos_at frame bytes)
    (ap needed framed) refl) ∙ e

-- what is chosen at a scan, by its header
pub chosen-header : (left : Option ℕ) (settings : Settings) (found : Found) (bytes : List ℕ) (frame : Frame)
    (s : headers.Scan × List ℕ) → found.said.frame ≡ Some frame → header_within left found bytes ≡ Ok s
    → chosen_at settings found.said bytes ≡ chosen_for settings found.said frame s.0
unfolding chosen_at
chosen-header left settings found bytes frame s framed e =
    let sos = framed-header found bytes frame s framed (header-under left found bytes s e).1 in
    rw (framed, sos, chosen_at) refl

-- what is so
then-is : {A : Type 0} (b : Bool) (x y : A) → b ≡ true → (if b then x else y) ≡ x
then-is true x y e = refl
then-is false x y e = absurd cc

pub else-is : {A : Type 0} (b : Bool) (x y : A) → b ≡ false → (if b then x else y) ≡ y
else-is true x y e = absurd cc
else-is false x y e = refl

pub chosen-comes : (settings : Settings) (said : Said) (frame : Frame) (scan : headers.Scan)
    → comes_by_rows settings said frame scan ≡ true
    → chosen_for settings said frame scan ≡ Some (transform_said settings said frame)
chosen-comes settings said frame scan e = then-is (comes_by_rows settings said frame scan) _ _ e

pub chosen-not : (settings : Settings) (said : Said) (frame : Frame) (scan : headers.Scan)
    → comes_by_rows settings said frame scan ≡ false → chosen_for settings said frame scan ≡ None
chosen-not settings said frame scan e = else-is (comes_by_rows settings said frame scan) _ _ e

-- ---- the turn of the scan

pub scan-turn : (left : Option ℕ) (found : Found) (bytes : List ℕ)
    → turn_within left Zeros Elsewhere found (Some SOS) bytes ≡ scan_within left Zeros found bytes
unfolding turn_at brought_after work_of_turn
scan-turn left found bytes = refl

pub scan-work : (found : Found) (bytes : List ℕ) → work_of_turn found (Some SOS) bytes ≡ work_of_header found bytes
unfolding work_of_turn
scan-work found bytes = refl

-- after a scan the image goes on
pub after-goes : (found : Found) (scan : headers.Scan) (bytes : List ℕ) (t : Turn × List ℕ)
    → (turn_after Zeros found scan bytes).turn ≡ Ok t → t.0.ended ≡ false
after-goes found scan bytes t e =
    let r = bind-ok _ (scan_turn found) t (sym (whole-after found scan bytes) ∙ e) in
    ap (λ (x : Turn × List ℕ). x.0.ended) (sym (ok-same _ t r.2))

-- what a reading gives that is known but for planes
pub turn-there : (o : Outcome Turn) (u : Turn) (rest : List ℕ) → turns_without o ≡ Ok (u, rest)
    → (t : Turn) × (o ≡ Ok (t, rest)) × (turn_without t ≡ u)
turn-there (Ok x) u rest e =
    let same = ok-same _ (u, rest) e in
    (x.0, ap (λ (l : List ℕ). Ok (x.0, l)) (ap (λ (y : Turn × List ℕ). y.1) same), ap (λ (y : Turn × List ℕ). y.0) same)
turn-there (Err fault) u rest e = absurd (err-ok fault (u, rest) e)

pub turn-lacks : (o : Outcome Turn) (fault : Fault) → turns_without o ≡ Err fault → o ≡ Err fault
turn-lacks (Ok x) fault e = absurd (err-ok fault (turn_without x.0, x.1) (sym e))
turn-lacks (Err f) fault e = e

pub turn-of-scan : (limit : Option ℕ) (found : Found) (scan : headers.Scan) (bytes cur : List ℕ) (o : Outcome Turn)
    → header_within limit found bytes ≡ Ok (scan, cur) → (turn_after Zeros found scan cur).turn ≡ o
    → (turn_within limit Zeros Elsewhere found (Some SOS) bytes).turn ≡ o
turn-of-scan limit found scan bytes cur o header e =
    ap (λ (b : Brought). b.turn) (scan-turn limit found bytes ∙ within-zeros limit found scan bytes cur header) ∙ e

-- ---- the walk from there on

-- so many turns and one, where the scan is read
pub scan-on : (limit : Option ℕ) (found : Found) (scan : headers.Scan) (bytes cur rest : List ℕ) (t : Turn) (n : ℕ)
    → header_within limit found bytes ≡ Ok (scan, cur) → (turn_after Zeros found scan cur).turn ≡ Ok (t, rest)
    → scan_walk_for limit (suc n) found bytes
    ≡ walk (left_after limit (work_of_header found bytes)) Zeros n false t.before t.found t.met rest
scan-on limit found scan bytes cur rest t n header e =
    walk-on limit Zeros n false Elsewhere found (Some SOS) bytes rest t refl
    (turn-of-scan limit found scan bytes cur (Ok (t, rest)) header e) (after-goes found scan cur (t, rest) e)
    ∙ ap (λ (w : ℕ). walk (left_after limit w) Zeros n false t.before t.found t.met rest) (scan-work found bytes)

-- from a turn on
abbrev pub turn_walk : Option ℕ → Turn → List ℕ → Walked
turn_walk limit t bytes =
    walk limit Zeros (suc (suc (length bytes))) false t.before t.found t.met bytes

-- all turns
pub scan-whole : (limit : Option ℕ) (found : Found) (scan : headers.Scan) (bytes cur rest : List ℕ) (t : Turn)
    → header_within limit found bytes ≡ Ok (scan, cur) → (turn_after Zeros found scan cur).turn ≡ Ok (t, rest)
    → scan_walk limit found bytes ≡ turn_walk (left_after limit (work_of_header found bytes)) t rest
scan-whole limit found scan bytes cur rest t header e =
    let less = turn-takes limit Zeros Elsewhere found (Some SOS) bytes (t, rest)
    (turn-of-scan limit found scan bytes cur (Ok (t, rest)) header e) (after-goes found scan cur (t, rest) e) in
    scan-on limit found scan bytes cur rest t (length bytes) header e
    ∙ turns-enough (left_after limit (work_of_header found bytes)) Zeros (length bytes) (suc (suc (length rest))) false
    t.before t.found t.met rest (omega (arith, less)) (left-few t.met rest)
  where
    left-few : (met : Option Marker) (bytes : List ℕ) → left_at met bytes < suc (suc (length bytes))
    left-few met bytes = grind (arith, common_steps)

-- a walk that is refused at the scan
abbrev pub refused_scan : Option ℕ → Found → List ℕ → Fault → Walked
refused_scan limit found bytes fault =
    record (walked found (Err fault)) { exceeded = is_above limit (work_of_header found bytes) }

pub scan-stops : (limit : Option ℕ) (found : Found) (bytes : List ℕ) (n : ℕ) (fault : Fault)
    → (scan_within limit Zeros found bytes).turn ≡ Err fault
    → scan_walk_for limit (suc n) found bytes ≡ refused_scan limit found bytes fault
scan-stops limit found bytes n fault e =
    zeros-refused limit n false Elsewhere found (Some SOS) bytes fault refl
    (ap (λ (b : Brought). b.turn) (scan-turn limit found bytes) ∙ e)
    ∙ ap (λ (w : ℕ). record (walked found (Err fault)) { exceeded = is_above limit w }) (scan-work found bytes)

-- its header is refused
pub header-stops : (limit : Option ℕ) (found : Found) (bytes : List ℕ) (fault : Fault)
    → header_within limit found bytes ≡ Err fault → (scan_within limit Zeros found bytes).turn ≡ Err fault
header-stops limit found bytes fault e =
    within-parts limit found bytes ∙ ap (λ (o : Outcome headers.Scan). o >>= after_header found) e

-- or what follows it
pub after-stops : (limit : Option ℕ) (found : Found) (scan : headers.Scan) (bytes cur : List ℕ) (fault : Fault)
    → header_within limit found bytes ≡ Ok (scan, cur) → (turn_after Zeros found scan cur).turn ≡ Err fault
    → (scan_within limit Zeros found bytes).turn ≡ Err fault
after-stops limit found scan bytes cur fault header e =
    ap (λ (b : Brought). b.turn) (within-zeros limit found scan bytes cur header) ∙ e

-- ---- what is shown

-- by a walk, where this transform was chosen
abbrev pub shown_by : Option ColorTransform → Settings → Walked → Outcome (Told × List ℕ)
shown_by t settings w =
    w.rest >>= (λ rest. settled_picture t settings w.found >>= (λ picture.
    Ok ((told_of w.found.said, picture), rest)))

shown-walk : (settings : Settings) (found : Found) (bytes : List ℕ) → shown_at_scan settings found bytes
    ≡ shown_by (chosen_at settings found.said bytes) settings (scan_walk settings.max_blocks found bytes)
unfolding shown_at_scan
shown-walk settings found bytes = refl

-- The scan is refused.
pub shown-stops : (settings : Settings) (found : Found) (bytes : List ℕ) (fault : Fault)
    → (scan_within settings.max_blocks Zeros found bytes).turn ≡ Err fault
    → shown_at_scan settings found bytes ≡ Err fault
shown-stops settings found bytes fault e =
    shown-walk settings found bytes
    ∙ ap (shown_by (chosen_at settings found.said bytes) settings)
    (scan-stops settings.max_blocks found bytes (length bytes) fault e)

-- ---- the rest of a stream

bind-made : {A B C : Type 0} (o : Result A Fault) (f : A → B) (k : B → Result C Fault)
    → ((o >>= (λ x. Ok (f x))) >>= k) ≡ (o >>= (λ x. k (f x)))
bind-made (Ok x) f k = refl
bind-made (Err fault) f k = refl

-- what a walk shows
pub rest-shown : (t : Option ColorTransform) (limit : Option ℕ) (settings : Settings) (found : Found) (bytes : List ℕ)
    (w : Walked) → walk limit Zeros (suc (length bytes)) false Elsewhere found None bytes ≡ w
    → rest_showing limit (settled_picture t settings) found bytes ≡ shown_by t settings w
unfolding rest_showing
rest-shown t limit settings found bytes w e =
    ap (λ (o : Outcome Found). o >>= show) (segments-walked limit false Elsewhere found None bytes w e)
    ∙ bind-made w.rest (λ (rest : List ℕ). (w.found, rest)) show
  where
    show : Found × List ℕ → Outcome (Told × List ℕ)
    show all = settled_picture t settings all.0 >>= (λ picture. Ok ((told_of all.0.said, picture), all.1))

chosen-ahead : (settings : Settings) (found now : Found) (bytes rest : List ℕ)
    → scan_ahead found bytes ≡ Ok (to_scan_of now true, rest)
    → chosen settings found bytes ≡ chosen_at settings now.said rest
unfolding chosen
chosen-ahead settings found now bytes rest e = rw (e, chosen) refl

-- The rest of a stream shows what it shows from the header of its first scan on.
pub rest-at-scan : (settings : Settings) (found now : Found) (bytes rest : List ℕ)
    → scan_ahead found bytes ≡ Ok (to_scan_of now true, rest)
    → GoesOnAtScan settings.max_blocks found bytes now rest
    → rows_rest settings found bytes ≡ shown_at_scan settings now rest
unfolding rows_rest
rest-at-scan settings found now bytes rest e on =
    ap (λ (t : Option ColorTransform). rest_showing settings.max_blocks (settled_picture t settings) found bytes)
    (chosen-ahead settings found now bytes rest e)
    ∙ rest-shown (chosen_at settings now.said rest) settings.max_blocks settings found bytes _ on.whole
    ∙ sym (shown-walk settings now rest)
