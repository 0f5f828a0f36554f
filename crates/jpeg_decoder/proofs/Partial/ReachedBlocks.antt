-- Blocks as far as they can be read: they go by the bits of a text and its ending alone, and block by block.
use Rattle.std.proofs.Common.{◌≡◌, inl, ℕ, ◌+◌, ℤ, Bool, true, false, List}
use Rattle.std.proofs.Common.{[], ◌∷◌, drop, set, get_or, Option, None, Result, Ok, Err, refl, sym, ap}
use Rattle.std.proofs.Common.{◌∙◌}
use Rattle.std.proofs.lemmas.Bool.{false≢true}
use Rattle.std.proofs.Math.Seq.{map-set_same}
use Rattle.std.proofs.lemmas.List.{set-get_or}
use Rattle.jpeg_bits.specs.Reading.{Fault}
use Rattle.jpeg_bits.specs.Entropy.{Ahead, Ending, Text, advance, closed, fresh_before, text_at, upcoming}
use Rattle.jpeg_bits.specs.Readers.{read_on, text}
use Rattle.jpeg_bits.specs.Passes.{Pass, Via}
use Rattle.jpeg_bits.specs.declared.beyond.Beyond.TheVariants.{Nothing}
use Rattle.jpeg_bits.specs.declared.marker.Marker.{Marker}
use Rattle.jpeg_bits.proofs.TakenTexts.{Taken, TakesBits}
use Rattle.jpeg_bits.proofs.TakenTexts.Taken.{gave, failed}
use Rattle.jpeg_bits.proofs.WideTokens.{advanced}
use Rattle.jpeg_meaning.proofs.Partial.ReachedIntervals.{after_turn, turn-takes}
use Rattle.jpeg_meaning.specs.Brought.{BlocksTo, Through, interval_reached, reached_from, stopped}
use Rattle.jpeg_meaning.specs.InTurn.{Reached, at_start, turn_from}
use Rattle.jpeg_meaning.specs.Order.{Spot}
use Rattle.jpeg_meaning.specs.Scans.{Arrays}
use Rattle.jpeg_decoder.specs.Scanning.{arrays_in, blocks_in}
use Rattle.jpeg_decoder.proofs.Kept.BlockArrays.{Held, seen, seen-is, with_block}
use Rattle.jpeg_decoder.proofs.Kept.KeptScans.{kept_reached, kept_read}
use Rattle.jpeg_decoder.proofs.Partial.StoppedIntervals.{left-ahead}

abbrev pub Read : Type 0
Read = Through Reached (List Bool)

-- what is reached after the last block
abbrev pub read_whole : Reached → Text → Read
read_whole old t = record { reached = old; unread = None; rest = Ok t.bits }

read-next : (p : Pass) (vias : List Via) (s : Spot) (spots : List Spot) (old : Reached) (t : Text)
    → reached_from p vias (s ∷ spots) old t ≡ after_turn p vias s spots old (turn_from p vias s old t)
unfolding reached_from
read-next p vias s spots old t = refl

read-none : (p : Pass) (vias : List Via) (old : Reached) (t : Text)
    → reached_from p vias [] old t ≡ read_whole old t
unfolding reached_from
read-none p vias old t = refl

turn-alike : (p : Pass) (vias : List Via) (s : Spot) (spots : List Spot) (old : Reached) (bits : List Bool)
    (e : Ending) (ps qs : List (List ℕ)) → Taken (turn_from p vias s old) bits e
    → ((new : Reached) (left : List Bool) (ps qs : List (List ℕ))
    → reached_from p vias spots new (text left ps e) ≡ reached_from p vias spots new (text left qs e))
    → after_turn p vias s spots old (turn_from p vias s old (text bits ps e))
    ≡ after_turn p vias s spots old (turn_from p vias s old (text bits qs e))
turn-alike p vias s spots old bits e ps qs (failed g is) others =
    ap (after_turn p vias s spots old) (is ps ∙ sym (is qs))
turn-alike p vias s spots old bits e ps qs (gave n x is) others =
    ap (after_turn p vias s spots old) (is e ps (inl refl)) ∙ others x (drop n bits) (drop n ps) (drop n qs)
    ∙ sym (ap (after_turn p vias s spots old) (is e qs (inl refl)))

-- whatever is given to follow the bits
followed-alike : (p : Pass) (vias : List Via) (spots : List Spot) (old : Reached) (bits : List Bool)
    (e : Ending) (ps qs : List (List ℕ))
    → reached_from p vias spots old (text bits ps e) ≡ reached_from p vias spots old (text bits qs e)
unfolding TakesBits
followed-alike p vias [] old bits e ps qs =
    read-none p vias old (text bits ps e) ∙ sym (read-none p vias old (text bits qs e))
followed-alike p vias (s ∷ spots) old bits e ps qs =
    read-next p vias s spots old (text bits ps e)
    ∙ turn-alike p vias s spots old bits e ps qs (turn-takes p vias s old bits e)
    (λ new left qs rs. followed-alike p vias spots new left e qs rs)
    ∙ sym (read-next p vias s spots old (text bits qs e))

-- an interval by what is read of it
abbrev pub interval_of : List ℕ → Read → BlocksTo (Option Marker)
interval_of bytes r = record { reached = r.reached.arrays; unread = r.unread; rest = stopped bytes r.rest }

-- An interval is what is read of its text.
pub interval-is : (p : Pass) (vias : List Via) (spots : List Spot) (arrays : Arrays) (a : Ahead) (bytes : List ℕ)
    → a ≡ fresh_before Nothing → interval_reached p vias spots arrays bytes
    ≡ interval_of bytes (reached_from p vias spots (at_start arrays) (upcoming a bytes))
unfolding interval_reached upcoming
interval-is p vias spots arrays a bytes start =
    let t = text_at bytes in
    ap (interval_of bytes)
    (followed-alike p vias spots (at_start arrays) t.bits (closed Nothing t.ending) t.following (drop 56 t.following)
    ∙ ap (λ (b : Ahead). reached_from p vias spots (at_start arrays) (upcoming b bytes)) (sym start))

-- ---- block by block

-- a turn of which all is kept
pub turn-read : (keeps : Bool) (o : Result (Reached × Text) Fault) (r : Reached) (u : Text) → keeps ≡ true
    → read_on (kept_read keeps) o ≡ Ok (kept_reached keeps r, u) → o ≡ Ok (r, u)
turn-read true (Ok q) r u e h = h
turn-read true (Err f) r u e h = h
turn-read false o r u e h = absurd (false≢true e)

-- A block leaves the text after its bits.
pub turn-advances : (p : Pass) (vias : List Via) (s : Spot) (old new : Reached) (first t u : Text)
    → turn_from p vias s old t ≡ Ok (new, u) → (k : ℕ) × (t ≡ advance k first) → (k : ℕ) × (u ≡ advance k first)
turn-advances p vias s old new first t u e (n, before) =
    let after = left-ahead (turn_from p vias s old) new t u (turn-takes p vias s old) e in
    (n + after.0, after.1 ∙ ap (advance after.0) before ∙ advanced n after.0 first)

-- ---- a block is put back

pub put-back : (vs : List Held) (slot index : ℕ) (v : Held) (x : List ℤ) → v ≡ get_or vs slot v
    → x ≡ get_or v.blocks.items index x → arrays_in (set vs slot (with_block v index x)) ≡ arrays_in vs
put-back vs slot index v x e f =
    map-set_same blocks_in vs slot (with_block v index x) v
    (seen-is (with_block v index x)
    ∙ ap (λ (l : List (List ℤ)). seen l v.count) (ap (set v.blocks.items index) f ∙ set-get_or v.blocks.items index x)
    ∙ sym (seen-is v) ∙ ap blocks_in e)
