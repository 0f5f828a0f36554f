-- A scan of a component that is alone, line by line, and part by part between restarts.
use Rattle.std.proofs.Common.{◌≡◌, ℕ, zero, suc, ◌+◌, ◌-◌, ◌*◌, ◌<◌, ◌≤◌, List, [], ◌∷◌, ◌++◌, length, map}
use Rattle.std.proofs.Common.{Result, Ok, Err, refl, sym, ap, ap₂, ◌∙◌, arith}
use Rattle.std.proofs.lemmas.List.FromFn.{length-map-range_with_len}
use Rattle.std.specs.List.{AllByRecursion, range_with_len, flat_map}
use Rattle.std.proofs.Common.{get_or, set, Option}
use Rattle.jpeg_bits.specs.Reading.{Fault}
use Rattle.jpeg_bits.specs.Reading.{Answers, Outcome}
use Rattle.jpeg_bits.specs.Stream.{Stream}
use Rattle.jpeg_bits.specs.Entropy.{Text, Ahead, Takes, fresh, upcoming, marker_from}
use Rattle.jpeg_bits.specs.declared.beyond.Beyond.{Beyond}
use Rattle.jpeg_bits.specs.declared.error.Error.{Error}
use Rattle.jpeg_bits.specs.declared.marker.Marker.{Marker}
use Rattle.jpeg_bits.proofs.BandLoop.{Leaves}
use Rattle.jpeg_bits.proofs.BandSteps.{Leaves-end, Leaves-ok}
use Rattle.jpeg_bits.proofs.WholeBlocks.{refused_after}
use Rattle.jpeg_bits.specs.Readers.{Reads, read_on}
use Rattle.jpeg_bits.specs.Passes.{Pass, Via}
use Rattle.jpeg_meaning.specs.declared.grids.Grid.{Grid}
use Rattle.jpeg_meaning.specs.Order.{Spot, own_spots, grid_of, mcu_size, spots_of}
use Rattle.jpeg_segments.specs.Frame.{Frame, Component}
use Rattle.jpeg_decoder.specs.Scanning.{arrays_in, blocks_in}
use Rattle.jpeg_decoder.proofs.Kept.BlockArrays.{Held}
use Rattle.jpeg_meaning.specs.InTurn.{Counted, Reached, begun_from, blocks_from, turn_from, turns_from, scan_from}
use Rattle.jpeg_meaning.specs.InTurn.{counted_at_start, AreArrays, Fits}
use Rattle.jpeg_meaning.specs.Scans.{Arrays, arrays_at}
use Rattle.jpeg_meaning.specs.ScanSegments.{Coding, components_of}
use Rattle.jpeg_meaning.proofs.Order.CountedScans.{blocks-append, frame-scans}
use Rattle.jpeg_decoder.specs.Walk.{line_spots, rows_spots}
use Rattle.jpeg_decoder.proofs.Orders.BlockSteps.{begun_none, begun_within, begun_turn, blocks_begun, blocks_refused}
use Rattle.jpeg_decoder.proofs.Orders.BlockSteps.{next_begun, next_unbegun, turn_then}

-- ---- spots

line-split : (first k n : ℕ) → line_spots first (k + n) ≡ line_spots first k ++ line_spots (first + k) n
line-split first zero n =
    let a : first ≡ first + 0 = omega arith in
    let m : 0 + n ≡ n = omega arith in
    ap₂ (λ (f k : ℕ). line_spots f k) a m
line-split first (suc k) n =
    let m : suc k + n ≡ suc (k + n) = omega arith in
    let a : first + 1 + k ≡ first + suc k = omega arith in
    ap (λ (k : ℕ). line_spots first k) m
    ∙ ap (λ (l : List Spot). record { slot = 0; index = first } ∷ l) (line-split (first + 1) k n)
    ∙ ap (λ (f : ℕ). line_spots first (suc k) ++ line_spots f n) a

line-parts : (at count room : ℕ) → count ≤ room
    → line_spots at room ≡ line_spots at count ++ line_spots (at + count) (room - count)
line-parts at count room h =
    let e : room ≡ count + (room - count) = omega (arith, h) in
    ap (λ (n : ℕ). line_spots at n) e ∙ line-split at count (room - count)

line-long : (at count : ℕ) → length (line_spots at count) ≡ count
line-long at count = length-map-range_with_len _ at count

-- the blocks of a line as they are numbered from its start
columns-are : (first a n : ℕ)
    → map (λ column. record { slot = 0; index = first + column }) (range_with_len a n)
    ≡ line_spots (first + a) n
columns-are first a zero = refl
columns-are first a (suc n) =
    let e : first + (a + 1) ≡ first + a + 1 = omega arith in
    ap (λ (l : List Spot). record { slot = 0; index = first + a } ∷ l)
    (columns-are first (a + 1) n ∙ ap (λ (f : ℕ). line_spots f n) e)

line-is : (first n : ℕ) → map (λ column. record { slot = 0; index = first + column }) (range_with_len 0 n)
    ≡ line_spots first n
line-is first n =
    let e : first + 0 ≡ first = omega arith in
    columns-are first 0 n ∙ ap (λ (f : ℕ). line_spots f n) e

rows-are : (g : Grid) (row n : ℕ)
    → flat_map (λ row. map (λ column. record { slot = 0; index = row * g.wide + column })
    (range_with_len 0 g.own_wide)) (range_with_len row n) ≡ rows_spots g row n
rows-are g row zero = refl
rows-are g row (suc n) =
    ap₂ (λ (l m : List Spot). l ++ m) (line-is (row * g.wide) g.own_wide) (rows-are g (row + 1) n)

pub own-rows : (g : Grid) → own_spots g ≡ rows_spots g 0 g.own_high
unfolding own_spots
own-rows g = rows-are g 0 g.own_high

-- ---- a part of a line

begun-now : (n : ℕ) (now : Counted) (t : Text) → (0 < n → 0 < now.left) → begun_from n now t ≡ Ok (now, t)
begun-now zero now t h = begun_none 0 now t refl
begun-now (suc n) now t h = begun_within (suc n) now t (h (omega arith))

abbrev after_part : Pass → List Via → ℕ → List Spot → ℕ → Counted → Reached → Reads Counted
after_part p vias n more k now r =
    blocks_from p vias n more (record { reached = r; left = now.left - k; number = now.number; beyond = now.beyond })

part-next : (p : Pass) (vias : List Via) (n : ℕ) (spots more : List Spot) (k : ℕ) (now : Counted)
    → ((r : Reached) (u : Text)
    → blocks_from p vias n (spots ++ more) (record { reached = r; left = now.left - 1; number = now.number; beyond = now.beyond }) u
    ≡ read_on (after_part p vias n more (suc k) now) (turns_from p vias spots r u))
    → (o : Result (Reached × Text) Fault)
    → read_on (blocks_from p vias n (spots ++ more)) (read_on (turn_then now) o)
    ≡ read_on (after_part p vias n more (suc k) now) (read_on (turns_from p vias spots) o)
part-next p vias n spots more k now ih (Ok r) = ih r.0 r.1
part-next p vias n spots more k now ih (Err f) = refl

part-first : (p : Pass) (vias : List Via) (n : ℕ) (spots more : List Spot) (now : Counted) (t : Text)
    → (0 < n → length spots ≤ now.left)
    → blocks_from p vias n (spots ++ more) now t
    ≡ read_on (after_part p vias n more (length spots) now) (turns_from p vias spots now.reached t)
unfolding blocks_from turns_from begun_turn
part-first p vias n [] more now t h =
    let e : now.left ≡ now.left - 0 = omega arith in
    ap (λ (k : ℕ). blocks_from p vias n more (record { reached = now.reached; left = k; number = now.number; beyond = now.beyond }) t) e
part-first p vias n (s ∷ spots) more now t h =
    ap (read_on (blocks_from p vias n (spots ++ more)))
    (next_begun p vias n s now now t t (begun-now n now t (λ some. omega (arith, h some))))
    ∙ part-next p vias n spots more (length spots) now
    (λ r u.
    let e : now.left - 1 - length spots ≡ now.left - suc (length spots) = omega arith in
    part-first p vias n spots more (record { reached = r; left = now.left - 1; number = now.number; beyond = now.beyond }) u
    (λ some. omega (arith, h some))
    ∙ ap (λ (k : ℕ). read_on (λ (x : Reached). blocks_from p vias n more (record {
      reached = x;
      left = k;
      number = now.number;
      beyond = now.beyond;
    })) (turns_from p vias spots r u)) e)
    (turn_from p vias s now.reached t)

pub line-part : (p : Pass) (vias : List Via) (n at count room : ℕ) (now : Counted) (r : Reached) (t u : Text)
    → count ≤ room → (0 < n → count ≤ now.left)
    → turns_from p vias (line_spots at count) now.reached t ≡ Ok (r, u)
    → blocks_from p vias n (line_spots at room) now t
    ≡ blocks_from p vias n (line_spots (at + count) (room - count))
    (record { reached = r; left = now.left - count; number = now.number; beyond = now.beyond }) u
line-part p vias n at count room now r t u few left e =
    let long = line-long at count in
    ap (λ (l : List Spot). blocks_from p vias n l now t) (line-parts at count room few)
    ∙ part-first p vias n (line_spots at count) (line_spots (at + count) (room - count)) now t
    (λ some. omega (arith, long, left some))
    ∙ ap (read_on (after_part p vias n (line_spots (at + count) (room - count)) (length (line_spots at count)) now)) e
    ∙ ap (λ (k : ℕ). after_part p vias n (line_spots (at + count) (room - count)) k now r u) long

pub line-part-refused : (p : Pass) (vias : List Via) (n at count room : ℕ) (now : Counted) (t : Text) (f : Fault)
    → count ≤ room → (0 < n → count ≤ now.left)
    → turns_from p vias (line_spots at count) now.reached t ≡ Err f
    → blocks_from p vias n (line_spots at room) now t ≡ Err f
line-part-refused p vias n at count room now t f few left e =
    let long = line-long at count in
    ap (λ (l : List Spot). blocks_from p vias n l now t) (line-parts at count room few)
    ∙ part-first p vias n (line_spots at count) (line_spots (at + count) (room - count)) now t
    (λ some. omega (arith, long, left some))
    ∙ ap (read_on (after_part p vias n (line_spots (at + count) (room - count)) (length (line_spots at count)) now)) e

-- ---- the restart before it

pub line-begun : (p : Pass) (vias : List Via) (n at room : ℕ) (old now : Counted) (t u : Text) → 0 < room
    → (0 < n → 0 < now.left) → begun_from n old t ≡ Ok (now, u)
    → blocks_from p vias n (line_spots at room) old t ≡ blocks_from p vias n (line_spots at room) now u
line-begun p vias n at zero old now t u some left e = absurd (omega (arith, some))
line-begun p vias n at (suc room) old now t u some left e =
    let s : Spot = record { slot = 0; index = at } in
    blocks_begun p vias n s (line_spots (at + 1) room) old now t u e
    ∙ sym (blocks_begun p vias n s (line_spots (at + 1) room) now now u u (begun-now n now u left))

pub line-unbegun : (p : Pass) (vias : List Via) (n at room : ℕ) (old : Counted) (t : Text) (f : Fault) → 0 < room
    → begun_from n old t ≡ Err f → blocks_from p vias n (line_spots at room) old t ≡ Err f
line-unbegun p vias n at zero old t f some e = absurd (omega (arith, some))
line-unbegun p vias n at (suc room) old t f some e =
    let s : Spot = record { slot = 0; index = at } in
    blocks_refused p vias n s (line_spots (at + 1) room) old t f (next_unbegun p vias n s old t f e)

pub line-none : (p : Pass) (vias : List Via) (n at room : ℕ) (old : Counted) (t : Text) → room ≡ 0
    → blocks_from p vias n (line_spots at room) old t ≡ Ok (old, t)
unfolding blocks_from
line-none p vias n at room old t e = ap (λ (k : ℕ). blocks_from p vias n (line_spots at k) old t) e

module _ (p : Pass) (vias : List Via) (n at room : ℕ) (whole : Reads Counted) (a b d : Ahead) (old cur new : Stream)
    (now : Counted) (left : Leaves whole a old (blocks_from p vias n (line_spots at room) now) b cur) where
  pub line-begins : (next : Counted) → 0 < room → (0 < n → 0 < next.left)
      → Takes (λ (u : Unit {0}). next) (begun_from n now) b cur (Ok tt) d new
      → Leaves whole a old (blocks_from p vias n (line_spots at room) next) d new
  line-begins next some more q =
      Leaves-ok (λ (u : Unit {0}). next) whole (blocks_from p vias n (line_spots at room) now)
      (blocks_from p vias n (line_spots at room) next) (begun_from n now) a b d old cur new tt
      (λ t u e. line-begun p vias n at room now next t u some more e) left q

  pub line-unbegins : {X Y : Type 0} (v : X → Counted) (view : Y → Counted) (e : Error) → 0 < room
      → Takes view (begun_from n now) b cur (Err e) d new → Takes v whole a old (Err e) d new
  line-unbegins v view e some q =
      refused_after v view whole (blocks_from p vias n (line_spots at room) now) (begun_from n now) a b d old cur new e
      (λ t f h. line-unbegun p vias n at room now t f some h) left q

  pub line-goes : (count end x m : ℕ) (w : Beyond) (r : Reached) → at + count ≤ end → room ≡ end - at
      → (0 < n → count ≤ now.left) → x ≡ now.left - (at + count - at) → m ≡ now.number → w ≡ now.beyond
      → Takes (λ (u : Unit {0}). r) (turns_from p vias (line_spots at (at + count - at)) now.reached) b cur (Ok tt) d new
      → Leaves whole a old (blocks_from p vias n (line_spots (at + count) (end - (at + count)))
      (record { reached = r; left = x; number = m; beyond = w })) d new
  line-goes count end x m w r fits is more ex em ew q =
      let c : at + count - at ≡ count = omega arith in
      let e : room - count ≡ end - (at + count) = omega (arith, is) in
      let l : now.left - count ≡ x = omega (arith, ex, c) in
      Leaves-ok (λ (u : Unit {0}). r) whole (blocks_from p vias n (line_spots at room) now)
      (blocks_from p vias n (line_spots (at + count) (end - (at + count)))
      (record { reached = r; left = x; number = m; beyond = w }))
      (turns_from p vias (line_spots at (at + count - at)) now.reached) a b d old cur new tt
      (λ t u h. line-part p vias n at count room now r t u (omega (arith, is, fits)) more
      (ap (λ (k : ℕ). turns_from p vias (line_spots at k) now.reached t) (sym c) ∙ h)
      ∙ ap₂ (λ (k j : ℕ). blocks_from p vias n (line_spots (at + count) k)
      (record { reached = r; left = j; number = now.number; beyond = now.beyond }) u) e l
      ∙ ap₂ (λ (k : ℕ) (y : Beyond). blocks_from p vias n (line_spots (at + count) (end - (at + count)))
      (record { reached = r; left = x; number = k; beyond = y }) u) (sym em) (sym ew)) left q

  pub line-stops : {X Y : Type 0} (v : X → Counted) (view : Y → Reached) (e : Error) (count end : ℕ)
      → at + count ≤ end → room ≡ end - at → (0 < n → count ≤ now.left)
      → Takes view (turns_from p vias (line_spots at (at + count - at)) now.reached) b cur (Err e) d new
      → Takes v whole a old (Err e) d new
  line-stops v view e count end fits is more q =
      let c : at + count - at ≡ count = omega arith in
      refused_after v view whole (blocks_from p vias n (line_spots at room) now)
      (turns_from p vias (line_spots at (at + count - at)) now.reached) a b d old cur new e
      (λ t f h. line-part-refused p vias n at count room now t f (omega (arith, is, fits)) more
      (ap (λ (k : ℕ). turns_from p vias (line_spots at k) now.reached t) (sym c) ∙ h)) left q

  pub line-ends : room ≡ 0 → b ≡ d → cur ≡ new → Takes (λ (u : Unit {0}). now) whole a old (Ok tt) b cur
  line-ends none i j =
      Leaves-end (λ (u : Unit {0}). now) whole (blocks_from p vias n (line_spots at room) now) a b old cur tt
      (λ t. line-none p vias n at room now t none) left

-- ---- lines

rows-first : (g : Grid) (row high : ℕ) → row < high
    → rows_spots g row (high - row) ≡ line_spots (row * g.wide) g.own_wide ++ rows_spots g (row + 1) (high - (row + 1))
rows-first g row high h =
    let e : high - row ≡ suc (high - (row + 1)) = omega (arith, h) in
    ap (λ (n : ℕ). rows_spots g row n) e

pub rows-step : (p : Pass) (vias : List Via) (n : ℕ) (g : Grid) (row high : ℕ) (old now : Counted) (t u : Text)
    → row < high → blocks_from p vias n (line_spots (row * g.wide) g.own_wide) old t ≡ Ok (now, u)
    → blocks_from p vias n (rows_spots g row (high - row)) old t
    ≡ blocks_from p vias n (rows_spots g (row + 1) (high - (row + 1))) now u
rows-step p vias n g row high old now t u h e =
    let line = line_spots (row * g.wide) g.own_wide in
    let more = rows_spots g (row + 1) (high - (row + 1)) in
    ap (λ (l : List Spot). blocks_from p vias n l old t) (rows-first g row high h)
    ∙ blocks-append p vias n line more old t
    ∙ ap (read_on (blocks_from p vias n more)) e

pub rows-refused : (p : Pass) (vias : List Via) (n : ℕ) (g : Grid) (row high : ℕ) (old : Counted) (t : Text) (f : Fault)
    → row < high → blocks_from p vias n (line_spots (row * g.wide) g.own_wide) old t ≡ Err f
    → blocks_from p vias n (rows_spots g row (high - row)) old t ≡ Err f
rows-refused p vias n g row high old t f h e =
    let line = line_spots (row * g.wide) g.own_wide in
    let more = rows_spots g (row + 1) (high - (row + 1)) in
    ap (λ (l : List Spot). blocks_from p vias n l old t) (rows-first g row high h)
    ∙ blocks-append p vias n line more old t
    ∙ ap (read_on (blocks_from p vias n more)) e

pub rows-none : (p : Pass) (vias : List Via) (n : ℕ) (g : Grid) (row high : ℕ) (old : Counted) (t : Text) → high ≤ row
    → blocks_from p vias n (rows_spots g row (high - row)) old t ≡ Ok (old, t)
unfolding blocks_from
rows-none p vias n g row high old t h =
    let e : high - row ≡ 0 = omega (arith, h) in
    ap (λ (k : ℕ). blocks_from p vias n (rows_spots g row k) old t) e

module _ (p : Pass) (vias : List Via) (n : ℕ) (g : Grid) (row high : ℕ) (whole : Reads Counted) (a b d : Ahead)
    (old cur new : Stream) (now : Counted)
    (left : Leaves whole a old (blocks_from p vias n (rows_spots g row (high - row)) now) b cur) where
  pub rows-go : (next : Counted) → row < high
      → Takes (λ (u : Unit {0}). next) (blocks_from p vias n (line_spots (row * g.wide) g.own_wide) now) b cur (Ok tt)
      d new
      → Leaves whole a old (blocks_from p vias n (rows_spots g (row + 1) (high - (row + 1))) next) d new
  rows-go next h q =
      Leaves-ok (λ (u : Unit {0}). next) whole (blocks_from p vias n (rows_spots g row (high - row)) now)
      (blocks_from p vias n (rows_spots g (row + 1) (high - (row + 1))) next)
      (blocks_from p vias n (line_spots (row * g.wide) g.own_wide) now) a b d old cur new tt
      (λ t u e. rows-step p vias n g row high now next t u h e) left q

  pub rows-stop : {X Y : Type 0} (v : X → Counted) (view : Y → Counted) (e : Error) → row < high
      → Takes view (blocks_from p vias n (line_spots (row * g.wide) g.own_wide) now) b cur (Err e) d new
      → Takes v whole a old (Err e) d new
  rows-stop v view e h q =
      refused_after v view whole (blocks_from p vias n (rows_spots g row (high - row)) now)
      (blocks_from p vias n (line_spots (row * g.wide) g.own_wide) now) a b d old cur new e
      (λ t f k. rows-refused p vias n g row high now t f h k) left q

  pub rows-end : high ≤ row → Takes (λ (u : Unit {0}). now) whole a old (Ok tt) b cur
  rows-end h =
      Leaves-end (λ (u : Unit {0}). now) whole (blocks_from p vias n (rows_spots g row (high - row)) now) a b old cur tt
      (λ t. rows-none p vias n g row high now t h) left

-- ---- a scan

pub scan-stopped : {X Y : Type 0} (v : X → Arrays × Option Marker) (view : Y → Counted) (p : Pass) (vias : List Via)
    (n : ℕ) (spots : List Spot) (arrays : Arrays) (d : Ahead) (old new : Stream) (e : Error)
    → Takes view (blocks_from p vias n spots (counted_at_start n arrays)) fresh old (Err e) d new
    → Answers v (scan_from p vias n spots arrays) old (Err e) new
unfolding scan_from
scan-stopped v view p vias n spots arrays d old new e q = grind arith

pub scan-ended : (p : Pass) (vias : List Via) (n : ℕ) (spots : List Spot) (arrays : Arrays) (next : Counted) (d : Ahead)
    (old mid new : Stream) (r : Result (Option Marker) Error)
    → Takes (λ (u : Unit {0}). next) (blocks_from p vias n spots (counted_at_start n arrays)) fresh old (Ok tt) d mid
    → Answers (λ (m : Option Marker). m) (λ bytes. marker_from (upcoming d bytes)) mid r new
    → Answers (λ (m : Option Marker). (next.reached.arrays, m)) (scan_from p vias n spots arrays) old r new
unfolding scan_from
scan-ended p vias n spots arrays next d old mid new (Ok m) q h = grind arith
scan-ended p vias n spots arrays next d old mid new (Err e) q h = grind arith

-- ---- a component that is alone

pub one-there : (cs : List Coding) (vs : List Held) → length cs ≡ 1 → AreArrays (components_of cs) (arrays_in vs)
    → 0 < length vs
unfolding AreArrays
one-there [] vs h a = absurd (omega (arith, h))
one-there (c ∷ cs) [] h a = absurd a
one-there (c ∷ cs) (v ∷ vs) h a = omega arith

pub one-long : (cs : List Coding) (vs : List Held) (c : Component) (v : Held) → length cs ≡ 1
    → AreArrays (components_of cs) (arrays_in vs) → c ≡ get_or (components_of cs) 0 c → v ≡ get_or vs 0 v
    → length (blocks_in v) ≡ (grid_of c).high * (grid_of c).wide
unfolding AreArrays
one-long [] vs c v h a e f = absurd (omega (arith, h))
one-long (x ∷ cs) [] c v h a e f = absurd a
one-long (x ∷ cs) (w ∷ vs) c v h a e f =
    ap (λ (y : Held). length (blocks_in y)) f
    ∙ a.0
    ∙ ap (λ (y : Component). y.blocks_high * y.blocks_wide) (sym e)

Answers-same : {X Y : Type 0} (view : X → Y) (f g : List ℕ → Outcome Y) (old new : Stream) (r : Result X Error)
    → ((bytes : List ℕ) → g bytes ≡ f bytes) → Answers view f old r new → Answers view g old r new
Answers-same {X} {Y} view f g old new (Ok x) same q = grind arith
Answers-same {X} {Y} view f g old new (Err e) same q = grind arith

one-scans : (frame : Frame) (c : Component) (p : Pass) (vias : List Via) (n : ℕ) (arrays : Arrays) (bytes : List ℕ)
    → AllByRecursion (Fits frame) (c ∷ []) → AreArrays (c ∷ []) arrays
    → arrays_at p (n * mcu_size (c ∷ [])) vias (spots_of frame (c ∷ [])) arrays bytes
    ≡ scan_from p vias n (rows_spots (grid_of c) 0 (grid_of c).own_high) arrays bytes
unfolding mcu_size spots_of
one-scans frame c p vias n arrays bytes fits sized =
    let e : n * 1 ≡ n = omega arith in
    frame-scans frame (c ∷ []) p vias (n * 1) arrays bytes fits sized
    ∙ ap (λ (k : ℕ). scan_from p vias k (own_spots (grid_of c)) arrays bytes) e
    ∙ ap (λ (l : List Spot). scan_from p vias n l arrays bytes) (own-rows (grid_of c))

-- its scan, in the array that is the first of all
pub one-scan : (frame : Frame) (cs : List Coding) (vs : List Held) (c : Component) (v w : Held) (p : Pass) (vias : List Via)
    (n : ℕ) (old new : Stream) (r : Result (Option Marker) Error)
    → length cs ≡ 1 → AllByRecursion (Fits frame) (components_of cs) → AreArrays (components_of cs) (arrays_in vs)
    → c ≡ get_or (components_of cs) 0 c → v ≡ get_or vs 0 v
    → ((others : Arrays) → Answers (λ (m : Option Marker). (blocks_in w ∷ others, m)) (scan_from p vias n
    (rows_spots (grid_of c) 0 (grid_of c).own_high)
    (blocks_in v ∷ others)) old r new)
    → Answers (λ (m : Option Marker). (arrays_in (set vs 0 w), m)) (arrays_at p (n * mcu_size (components_of cs)) vias
    (spots_of frame (components_of cs)) (arrays_in vs)) old r new
unfolding AreArrays
one-scan frame [] vs c v w p vias n old new r h fits sized e f q = absurd (omega (arith, h))
one-scan frame (x ∷ y ∷ cs) vs c v w p vias n old new r h fits sized e f q = absurd (omega (arith, h))
one-scan frame (x ∷ []) [] c v w p vias n old new r h fits sized e f q = absurd sized
one-scan frame (x ∷ []) (u ∷ vs) c v w p vias n old new r h fits sized e f q =
    let k = x.component in
    Answers-same (λ (m : Option Marker). (blocks_in w ∷ arrays_in vs, m))
    (scan_from p vias n (rows_spots (grid_of k) 0 (grid_of k).own_high) (blocks_in u ∷ arrays_in vs))
    (arrays_at p (n * mcu_size (k ∷ [])) vias (spots_of frame (k ∷ [])) (blocks_in u ∷ arrays_in vs)) old new r
    (λ bytes. one-scans frame k p vias n (blocks_in u ∷ arrays_in vs) bytes fits sized)
    (rw (← e, ← f) (q (arrays_in vs)))
