-- A part of a line of blocks, as it is read in the array that holds it.
use Rattle.std.proofs.Common.{◌≡◌, ℕ, zero, suc, ◌+◌, ◌-◌, ◌<◌, ◌≤◌, List, [], ◌∷◌, ◌++◌, length, map}
use Rattle.std.proofs.Common.{get_or, set, take, drop, ℤ, replicate, Result, Ok, Err, refl, sym, ap, ◌∙◌, arith}
use Rattle.std.proofs.lemmas.List.{get_or-append_right, get_or_append_left, set-append_right, set-append_left}
use Rattle.std.proofs.lemmas.List.{append_assoc, length-map, length-append, length-set, map-append, length-take, length-drop}
use Rattle.std.proofs.lemmas.List.{take-append-drop, with_items_is}
use Rattle.std.specs.Vec.{with_items}
use Rattle.std.specs.List.{range_with_len}
use Rattle.jpeg_bits.specs.Stream.{Stream}
use Rattle.jpeg_bits.specs.Reading.{Fault}
use Rattle.jpeg_bits.specs.Entropy.{Text, Ahead, Takes}
use Rattle.jpeg_bits.specs.Codes.{Table}
use Rattle.jpeg_bits.specs.declared.error.Error.{Error}
use Rattle.jpeg_bits.specs.Readers.{Reads, gives, read_on}
use Rattle.jpeg_bits.specs.Passes.{Pass, Via, Block, block_from, zero_block}
use Rattle.jpeg_bits.specs.BlockView.{to_block}
use Rattle.jpeg_bits.specs.BlockLines.{Line, blocks_at}
use Rattle.jpeg_bits.proofs.DcAlone.{Takes-map}
use Rattle.jpeg_meaning.specs.Scans.{Arrays, via_at}
use Rattle.jpeg_meaning.specs.InTurn.{Reached, turn_from, turns_from}
use Rattle.jpeg_decoder.specs.Scanning.{blocks_in, via_by}
use Rattle.jpeg_meaning.specs.ScanSegments.{Coding, vias_from}
use Rattle.jpeg_decoder.specs.Walk.{line_spots}
use Rattle.jpeg_decoder.proofs.Kept.BlockArrays.{Held, seen-count, seen-is}

-- what is reached, where a part of an array is a line
abbrev held_in : List Block → List Block → Arrays → List ℤ → Line → Reached
held_in front back others zs l =
    record { arrays = (front ++ (l.0 ++ back)) ∷ others; predictors = l.1 ∷ zs; run = l.2 }

block-in : (front back line : List Block) (k : ℕ) → k < length line
    → get_or (front ++ (line ++ back)) (length front + k) zero_block ≡ get_or line k zero_block
block-in front back line k h =
    let e : length front + k - length front ≡ k = omega arith in
    get_or-append_right front (line ++ back) (length front) (length front + k) zero_block refl (omega arith)
    ∙ ap (λ (i : ℕ). get_or (line ++ back) i zero_block) e
    ∙ get_or_append_left line back zero_block k h

put-in : (front back line : List Block) (k : ℕ) (b : Block) → k < length line
    → set (front ++ (line ++ back)) (length front + k) b ≡ front ++ (set line k b ++ back)
put-in front back line k b h =
    let e : length front + k - length front ≡ k = omega arith in
    set-append_right front (line ++ back) (length front) (length front + k) b refl (omega arith)
    ∙ ap (λ (i : ℕ). front ++ set (line ++ back) i b) e
    ∙ ap (λ (l : List Block). front ++ l) (set-append_left line back k b h)

abbrev put_turn : List Block → Arrays → List ℤ → ℕ → Block × ℤ × ℕ → Reads Reached
put_turn whole others zs i r =
    gives (record { arrays = set whole i r.0 ∷ others; predictors = r.1 ∷ zs; run = r.2 })

turn-whole : (p : Pass) (dc ac : Table) (vias : List Via) (whole : List Block) (others : Arrays) (z : ℤ) (zs : List ℤ)
    (run i : ℕ) (t : Text)
    → turn_from p (via_by 0 dc ac ∷ vias) (record { slot = 0; index = i })
    (record { arrays = whole ∷ others; predictors = z ∷ zs; run = run }) t
    ≡ read_on (put_turn whole others zs i) (block_from p dc ac z run (get_or whole i zero_block) t)
unfolding turn_from
turn-whole p dc ac vias whole others z zs run i t = refl

abbrev put_line : List Block → List Block → Arrays → List ℤ → ℕ → List Block → Block × ℤ × ℕ → Reads Reached
put_line front back others zs k line r = gives (held_in front back others zs (set line k r.0, r.1, r.2))

both-put : (front back : List Block) (others : Arrays) (zs : List ℤ) (k : ℕ) (line : List Block) → k < length line
    → (o : Result ((Block × ℤ × ℕ) × Text) Fault)
    → read_on (put_turn (front ++ (line ++ back)) others zs (length front + k)) o
    ≡ read_on (put_line front back others zs k line) o
both-put front back others zs k line h (Ok r) =
    ap (λ (w : List Block). Ok (record { arrays = w ∷ others; predictors = r.0.1 ∷ zs; run = r.0.2 }, r.1))
    (put-in front back line k r.0.0 h)
both-put front back others zs k line h (Err f) = refl

part-turn : (p : Pass) (dc ac : Table) (vias : List Via) (front back : List Block) (others : Arrays) (zs : List ℤ)
    (k : ℕ) (line : List Block) (z : ℤ) (run : ℕ) (t : Text) → k < length line
    → turn_from p (via_by 0 dc ac ∷ vias) (record { slot = 0; index = length front + k })
    (held_in front back others zs (line, z, run)) t
    ≡ read_on (put_line front back others zs k line) (block_from p dc ac z run (get_or line k zero_block) t)
part-turn p dc ac vias front back others zs k line z run t h =
    turn-whole p dc ac vias (front ++ (line ++ back)) others z zs run (length front + k) t
    ∙ ap (λ (b : Block). read_on (put_turn (front ++ (line ++ back)) others zs (length front + k))
    (block_from p dc ac z run b t)) (block-in front back line k h)
    ∙ both-put front back others zs k line h (block_from p dc ac z run (get_or line k zero_block) t)

abbrev put_all : List Block → List Block → Arrays → List ℤ → Line → Reads Reached
put_all front back others zs m = gives (held_in front back others zs m)

part-more : (p : Pass) (dc ac : Table) (vias : List Via) (front back : List Block) (others : Arrays) (zs : List ℤ)
    (k n : ℕ) (line : List Block)
    → ((r : Block × ℤ × ℕ) (u : Text)
    → turns_from p (via_by 0 dc ac ∷ vias) (line_spots (length front + k + 1) n)
    (held_in front back others zs (set line k r.0, r.1, r.2)) u
    ≡ read_on (put_all front back others zs)
    (blocks_at p dc ac (range_with_len (k + 1) n) (set line k r.0, r.1, r.2) u))
    → (o : Result ((Block × ℤ × ℕ) × Text) Fault)
    → read_on (turns_from p (via_by 0 dc ac ∷ vias) (line_spots (length front + k + 1) n))
    (read_on (put_line front back others zs k line) o)
    ≡ read_on (put_all front back others zs)
    (read_on (λ (r : Block × ℤ × ℕ). blocks_at p dc ac (range_with_len (k + 1) n) (set line k r.0, r.1, r.2)) o)
part-more p dc ac vias front back others zs k n line ih (Ok r) = ih r.0 r.1
part-more p dc ac vias front back others zs k n line ih (Err f) = refl

part-turns : (p : Pass) (dc ac : Table) (vias : List Via) (front back : List Block) (others : Arrays) (zs : List ℤ)
    (n k : ℕ) (line : List Block) (z : ℤ) (run : ℕ) (t : Text) → k + n ≤ length line
    → turns_from p (via_by 0 dc ac ∷ vias) (line_spots (length front + k) n)
    (held_in front back others zs (line, z, run)) t
    ≡ read_on (put_all front back others zs) (blocks_at p dc ac (range_with_len k n) (line, z, run) t)
unfolding turns_from blocks_at
part-turns p dc ac vias front back others zs zero k line z run t h = refl
part-turns p dc ac vias front back others zs (suc n) k line z run t h =
    ap (read_on (turns_from p (via_by 0 dc ac ∷ vias) (line_spots (length front + k + 1) n)))
    (part-turn p dc ac vias front back others zs k line z run t (omega (arith, h)))
    ∙ part-more p dc ac vias front back others zs k n line
    (λ r u.
    let e : length front + k + 1 ≡ length front + (k + 1) = omega arith in
    ap (λ (i : ℕ). turns_from p (via_by 0 dc ac ∷ vias) (line_spots i n)
    (held_in front back others zs (set line k r.0, r.1, r.2)) u) e
    ∙ part-turns p dc ac vias front back others zs n (k + 1) (set line k r.0) r.1 r.2 u
    (omega (arith, h, length-set line k r.0)))
    (block_from p dc ac z run (get_or line k zero_block) t)

-- ---- the part of an array

Takes-same : {X Y : Type 0} (view : X → Y) (f g : Reads Y) (a b : Ahead) (old new : Stream) (r : Result X Error)
    → ((t : Text) → g t ≡ f t) → Takes view f a old r b new → Takes view g a old r b new
Takes-same {X} {Y} view f g a b old new (Ok x) same q = grind arith
Takes-same {X} {Y} view f g a b old new (Err e) same q = grind arith

blocks-are : (v : Held) (f s g : List (List ℤ)) → v.blocks.items ≡ f ++ (s ++ g)
    → blocks_in v ≡ map to_block f ++ (map to_block s ++ (map to_block g
    ++ replicate (v.count - length (f ++ (s ++ g))) zero_block))
blocks-are v f s g e =
    let zeros = replicate (v.count - length (f ++ (s ++ g))) zero_block in
    seen-is v
    ∙ ap (λ (l : List (List ℤ)). map to_block l ++ replicate (v.count - length l) zero_block) e
    ∙ ap (λ (l : List Block). l ++ zeros)
    (map-append to_block f (s ++ g) ∙ ap (λ (l : List Block). map to_block f ++ l) (map-append to_block s g))
    ∙ append_assoc (map to_block f) (map to_block s ++ map to_block g) zeros
    ∙ ap (λ (l : List Block). map to_block f ++ l) (append_assoc (map to_block s) (map to_block g) zeros)

module _ (p : Pass) (codings : List Coding) (dc ac : Table) (v w : Held) (others : Arrays) (preds : List ℤ)
    (run more : ℕ) (f s n g : List (List ℤ)) (a b : Ahead) (old new : Stream) (r : Result (Unit {0}) Error)
    (alone : length codings ≡ 1) (is : via_at (vias_from 0 codings) 0 ≡ via_by 0 dc ac) (four : length preds ≡ 4) (from : v.blocks.items ≡ f ++ (s ++ g))
    (put : w.blocks.items ≡ f ++ (n ++ g)) (long : length n ≡ length s) (count : w.count ≡ v.count)
    (read : (z : ℤ) → Takes (λ (u : Unit {0}). (map to_block n, z, more)) (blocks_at p dc ac
    (range_with_len 0 (length s)) (map to_block s, z, run)) a old r b new) where
  abbrev back : List Block
  back = map to_block g ++ replicate (v.count - length (f ++ (s ++ g))) zero_block

  same-long : length (f ++ (n ++ g)) ≡ length (f ++ (s ++ g))
  same-long = omega (arith, long, length-append f (n ++ g), length-append f (s ++ g), length-append n g, length-append s g)

  put-are : blocks_in w ≡ map to_block f ++ (map to_block n ++ back)
  put-are = blocks-are w f n g put
      ∙ ap (λ (m : ℕ). map to_block f ++ (map to_block n ++ (map to_block g ++ replicate m zero_block)))
      (let e : w.count - length (f ++ (n ++ g)) ≡ v.count - length (f ++ (s ++ g)) = omega (arith, count, same-long) in e)

  abbrev via : Via
  via = via_by 0 dc ac

  vias-are : vias_from 0 codings ≡ via ∷ []
  unfolding vias_from
  vias-are = go codings alone is
    where
      go : (l : List Coding) → length l ≡ 1 → via_at (vias_from 0 l) 0 ≡ via → vias_from 0 l ≡ via ∷ []
      go (x ∷ []) h e = ap (λ (v : Via). v ∷ []) e
      go [] h e = absurd (omega (arith, h))
      go (x ∷ y ∷ l) h e = absurd (omega (arith, h))

  by : (z : ℤ) (zs : List ℤ)
      → Takes (λ (u : Unit {0}). held_in (map to_block f) back others zs (map to_block n, z, more))
      (turns_from p (via ∷ []) (line_spots (length f) (length s))
      (held_in (map to_block f) back others zs (map to_block s, z, run))) a old r b new
  by z zs =
      let from-f : length f ≡ length (map to_block f) + 0 = omega (arith, length-map f to_block) in
      let few : 0 + length s ≤ length (map to_block s) = omega (arith, length-map s to_block) in
      Takes-same (λ (u : Unit {0}). held_in (map to_block f) back others zs (map to_block n, z, more))
      (λ (t : Text). read_on (put_all (map to_block f) back others zs)
      (blocks_at p dc ac (range_with_len 0 (length s)) (map to_block s, z, run) t))
      (turns_from p (via ∷ []) (line_spots (length f) (length s))
      (held_in (map to_block f) back others zs (map to_block s, z, run))) a b old new r
      (λ t. ap (λ (i : ℕ). turns_from p (via ∷ []) (line_spots i (length s))
      (held_in (map to_block f) back others zs (map to_block s, z, run)) t) from-f
      ∙ part-turns p dc ac [] (map to_block f) back others zs (length s) 0 (map to_block s) z run t few)
      (Takes-map (held_in (map to_block f) back others zs) (λ (u : Unit {0}). (map to_block n, z, more))
      (blocks_at p dc ac (range_with_len 0 (length s)) (map to_block s, z, run)) a b old new r (read z))

  by-all : (l : List ℤ) → length l ≡ 4
      → Takes (λ (u : Unit {0}). record {
        arrays = (map to_block f ++ (map to_block n ++ back)) ∷ others;
        predictors = l;
        run = more;
      }) (turns_from p (via ∷ []) (line_spots (length f) (length s)) (record {
        arrays = (map to_block f ++ (map to_block s ++ back)) ∷ others;
        predictors = l;
        run = run;
      })) a old r b new
  by-all (z ∷ zs) h = by z zs
  by-all [] h = absurd (omega (arith, h))

  pub part-read : Takes (λ (u : Unit {0}). record { arrays = blocks_in w ∷ others; predictors = preds; run = more })
      (turns_from p (vias_from 0 codings) (line_spots (length f) (length s))
      (record { arrays = blocks_in v ∷ others; predictors = preds; run = run })) a old r b new
  part-read = rw (put-are, blocks-are v f s g from, vias-are) (by-all preds four)

-- ---- what is written back

abbrev pub with_part : Held → List (List ℤ) → ℕ → ℕ → List (List ℤ) → Held
with_part v xs first k n = record {
  blocks = with_items v.blocks (take first xs ++ (n ++ drop k (drop first xs)));
  count = v.count;
}

parts-of : (xs : List (List ℤ)) (first k : ℕ) → xs ≡ take first xs ++ (take k (drop first xs) ++ drop k (drop first xs))
parts-of xs first k =
    sym (ap (λ (l : List (List ℤ)). take first xs ++ l) (take-append-drop k (drop first xs)) ∙ take-append-drop first xs)

module _ (v : Held) (xs n : List (List ℤ)) (first k : ℕ) (is : xs ≡ v.blocks.items)
    (long : length n ≡ length (take k (drop first xs))) where
  put-long : length (take first xs ++ (n ++ drop k (drop first xs))) ≡ length v.blocks.items
  put-long =
      let front = take first xs in
      let back = drop k (drop first xs) in
      let part = take k (drop first xs) in
      let all : length xs ≡ length (front ++ (part ++ back)) = ap (λ (l : List (List ℤ)). length l) (parts-of xs first k) in
      let same : length xs ≡ length v.blocks.items = ap (λ (l : List (List ℤ)). length l) is in
      omega (
        arith,
        all,
        same,
        long,
        length-append front (n ++ back),
        length-append n back,
        length-append front (part ++ back),
        length-append part back,
      )

  put-items : (with_part v xs first k n).blocks.items ≡ take first xs ++ (n ++ drop k (drop first xs))
  put-items = with_items_is v.blocks (take first xs ++ (n ++ drop k (drop first xs))) (put-long ∙ sym v.blocks.ok.0)

  pub part-size : length (blocks_in (with_part v xs first k n)) ≡ length (blocks_in v)
  part-size =
      let items : length (with_part v xs first k n).blocks.items ≡ length v.blocks.items
      = ap (λ (l : List (List ℤ)). length l) put-items ∙ put-long in
      omega (arith, items, seen-count v, seen-count (with_part v xs first k n))

  pub part-of-array : (p : Pass) (codings : List Coding) (dc ac : Table) (others : Arrays) (preds : List ℤ) (run more : ℕ)
      (a b : Ahead) (old new : Stream) (r : Result (Unit {0}) Error) → length codings ≡ 1
      → via_at (vias_from 0 codings) 0 ≡ via_by 0 dc ac
      → length preds ≡ 4 → first + k ≤ length xs
      → ((z : ℤ) → Takes (λ (u : Unit {0}). (map to_block n, z, more)) (blocks_at p dc ac
      (range_with_len 0 (length (take k (drop first xs)))) (map to_block (take k (drop first xs)), z, run)) a old r b new)
      → Takes (λ (u : Unit {0}). record {
        arrays = blocks_in (with_part v xs first k n) ∷ others;
        predictors = preds;
        run = more;
      }) (turns_from p (vias_from 0 codings) (line_spots first k)
      (record { arrays = blocks_in v ∷ others; predictors = preds; run = run })) a old r b new
  part-of-array p codings dc ac others preds run more a b old new r alone at four within read =
      let front : length (take first xs) ≡ first = omega (arith, within, length-take first xs) in
      let part : length (take k (drop first xs)) ≡ k
      = omega (arith, within, length-take k (drop first xs), length-drop first xs) in
      rw (front, part) at (part-read p codings dc ac v (with_part v xs first k n) others preds run more (take first xs)
      (take k (drop first xs)) n (drop k (drop first xs)) a b old new r alone at four
      (sym is ∙ parts-of xs first k) put-items long refl read)
