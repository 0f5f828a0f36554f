-- What a decoder of entropy-coded bits holds, and the bytes after it, stand for what goes on where the bytes do, if
-- the data go on after the bits that it may have read ahead, or a marker ends them.
use Rattle.std.proofs.Common.{◌≡◌, ◌⊎◌, inl, inr, ℕ, zero, suc, ◌+◌, ◌<◌, ◌≤◌, Bool, true, false, cond, List, []}
use Rattle.std.proofs.Common.{◌∷◌, ◌++◌, length, drop, replicate, map, refl, sym, ap, ap₂, ◌∙◌, subst, arith, eqb}
use Rattle.std.proofs.Common.{Ok, Err, Option, append_assoc, length-append, length-drop}
use Rattle.std.proofs.Math.Seq.{drop-nil}
use Rattle.std.proofs.lemmas.Bool.Decides.{eqb_tells}
use Rattle.std.proofs.lemmas.List.{append_cancel_right, drop-append-le, drop-drop, drop-map, length-map}
use Rattle.std.proofs.lemmas.List.{length-replicate, map-append}
use Rattle.jpeg_bits.specs.Reading.{End, Outcome}
use Rattle.jpeg_bits.specs.Entropy.{Ahead, At, Broken, Ending, Met, Text, Unmet, add_byte, advance, bits_of}
use Rattle.jpeg_bits.specs.Entropy.{ending_at, ending_of, marker_by, marker_from, no_bits, text_at}
use Rattle.jpeg_bits.specs.Entropy.{upcoming, upcoming_by}
use Rattle.jpeg_bits.specs.GoesOn.{IsOpen}
use Rattle.jpeg_bits.specs.Readers.{Reads, text}
use Rattle.jpeg_bits.specs.declared.beyond.Beyond.TheVariants.{Nothing, Zeros}
use Rattle.jpeg_bits.specs.declared.huffman.ahead.DataEnd.{DataEnd}
use Rattle.jpeg_bits.specs.declared.huffman.ahead.DataEnd.TheVariants as ends
use Rattle.jpeg_bits.specs.declared.marker.Marker.{Marker}
use Rattle.jpeg_segments.proofs.Codecs.{err-ok}
use Rattle.jpeg_meaning.proofs.Longer.LongerData.{later}
use Rattle.jpeg_meaning.proofs.Longer.LaterTexts.{and_more, later_text}
use Rattle.jpeg_meaning.proofs.Longer.LaterBlocks.{IsLaterOr, LaterBy, StaysText, held-same}
use Rattle.jpeg_meaning.proofs.Longer.LaterBlocks.{held_text, replicate-more, start-later, text-later}
use Rattle.jpeg_meaning.proofs.Longer.LaterBlocks.LaterBy.{alike, longer}

-- ---- data that are passed

-- These bytes are data that have these bits, for each of which the bytes after its byte follow, and then these bytes.
pub data Passes : List ℕ → List Bool → List (List ℕ) → List ℕ → Type 0 where
  none : (s : List ℕ) → Passes s [] [] s
  plain : (b : ℕ) (rest : List ℕ) (bits : List Bool) (fs : List (List ℕ)) (s : List ℕ) → eqb b 255 ≡ false
      → Passes rest bits fs s → Passes (b ∷ rest) (bits_of b ++ bits) (replicate 8 rest ++ fs) s
  stuffed : (rest : List ℕ) (bits : List Bool) (fs : List (List ℕ)) (s : List ℕ) → Passes rest bits fs s
      → Passes (255 ∷ 0 ∷ rest) (bits_of 255 ++ bits) (replicate 8 rest ++ fs) s

abbrev pub joined : List Bool → List (List ℕ) → Text → Text
joined bits fs t = record { bits = bits ++ t.bits; following = fs ++ t.following; ending = t.ending }

pick : {A : Type 0} (x : Bool) (p q : A) → x ≡ false → cond x p q ≡ q
pick true p q h = absurd (let n : ⊥ = cc in n)
pick false p q h = refl

plain-text : (b : ℕ) (rest : List ℕ) → eqb b 255 ≡ false → text_at (b ∷ rest) ≡ add_byte b rest (text_at rest)
unfolding text_at
plain-text b [] h = pick (eqb b 255) (no_bits (Broken End)) (add_byte b [] (no_bits (Broken End))) h
plain-text b (c ∷ rest) h =
    pick (eqb b 255) (cond (eqb c 0) (add_byte 255 rest (text_at rest)) (no_bits (ending_at (c ∷ rest))))
    (add_byte b (c ∷ rest) (text_at (c ∷ rest))) h

stuffed-text : (rest : List ℕ) → text_at (255 ∷ 0 ∷ rest) ≡ add_byte 255 rest (text_at rest)
unfolding text_at
stuffed-text rest = refl

passed-text : (bytes : List ℕ) (bits : List Bool) (fs : List (List ℕ)) (s : List ℕ) → Passes bytes bits fs s
    → text_at bytes ≡ joined bits fs (text_at s)
passed-text bytes bits fs s (none s') = refl
passed-text bytes bits fs s (plain b rest bits' fs' s' h p) =
    plain-text b rest h ∙ ap (add_byte b rest) (passed-text rest bits' fs' s' p)
passed-text bytes bits fs s (stuffed rest bits' fs' s' p) =
    stuffed-text rest ∙ ap (add_byte 255 rest) (passed-text rest bits' fs' s' p)

more-passed : (more bytes : List ℕ) (bits : List Bool) (fs : List (List ℕ)) (s : List ℕ) → Passes bytes bits fs s
    → Passes (bytes ++ more) bits (map (and_more more) fs) (s ++ more)
more-passed more bytes bits fs s (none s') = none (s' ++ more)
more-passed more bytes bits fs s (plain b rest bits' fs' s' h p) =
    plain b (rest ++ more) bits' (map (and_more more) fs') (s' ++ more) h (more-passed more rest bits' fs' s' p)
more-passed more bytes bits fs s (stuffed rest bits' fs' s' p) =
    stuffed (rest ++ more) bits' (map (and_more more) fs') (s' ++ more) (more-passed more rest bits' fs' s' p)

-- ---- the bytes at a place of what follows

-- so many bytes are passed up to these
pub record PassedTo (bytes : List ℕ) (i : ℕ) (s : List ℕ) : Type 0 where
  pub bits : List Bool
  pub fs : List (List ℕ)
  pub are : Passes bytes bits fs s
  pub sized : length bits ≡ length fs
  pub within : i < length fs

-- among copies, or after them
pub copies : (n i : ℕ) (x : List ℕ) (f : List (List ℕ)) (s : List ℕ) (others : List (List ℕ))
    → drop i (replicate n x ++ f) ≡ s ∷ others
    → ((s ≡ x) × (i < n)) ⊎ ((j : ℕ) × ((i ≡ n + j) × (drop j f ≡ s ∷ others)))
copies zero i x f s others e = inr (i, (omega arith, e))
copies (suc n) zero x f s others e = inl (let h : s ≡ x = cc in h, omega arith)
copies (suc n) (suc i) x f s others e = go (copies n i x f s others e)
  where
    go : ((s ≡ x) × (i < n)) ⊎ ((j : ℕ) × ((i ≡ n + j) × (drop j f ≡ s ∷ others)))
        → ((s ≡ x) × (suc i < suc n)) ⊎ ((j : ℕ) × ((suc i ≡ suc n + j) × (drop j f ≡ s ∷ others)))
    go (inl h) = inl (h.0, let lt = h.1 in omega arith)
    go (inr h) = inr (h.0, (let e = h.1.0 in omega arith, h.1.1))

no-more : (i : ℕ) (s : List ℕ) (others : List (List ℕ)) → drop i [] ≡ s ∷ others → ⊥
no-more i s others e = let z : ◌≡◌ {A = List (List ℕ)} (drop i []) [] = drop-nil i in let n : ⊥ = cc in n

plain-passed : (b : ℕ) (rest : List ℕ) (i : ℕ) (s : List ℕ) → eqb b 255 ≡ false
    → ((s ≡ rest) × (i < 8)) ⊎ ((j : ℕ) × ((i ≡ 8 + j) × PassedTo rest j s)) → PassedTo (b ∷ rest) i s
plain-passed b rest i s h (inl q) = record {
  bits = bits_of b ++ [];
  fs = replicate 8 rest ++ [];
  are = subst (λ (l : List ℕ). Passes (b ∷ rest) (bits_of b ++ []) (replicate 8 rest ++ []) l) (sym q.0)
      (plain b rest [] [] rest h (none rest));
  sized = refl;
  within = q.1;
}
plain-passed b rest i s h (inr q) =
    let p = q.1.1 in
    let e = q.1.0 in
    let lt = p.within in
    let same = p.sized in
    record {
      bits = bits_of b ++ p.bits;
      fs = replicate 8 rest ++ p.fs;
      are = plain b rest p.bits p.fs s h p.are;
      sized = omega (arith, length-append (bits_of b) p.bits, length-append (replicate 8 rest) p.fs);
      within = omega (arith, length-append (replicate 8 rest) p.fs);
    }

stuffed-passed : (rest : List ℕ) (i : ℕ) (s : List ℕ)
    → ((s ≡ rest) × (i < 8)) ⊎ ((j : ℕ) × ((i ≡ 8 + j) × PassedTo rest j s)) → PassedTo (255 ∷ 0 ∷ rest) i s
stuffed-passed rest i s (inl q) = record {
  bits = bits_of 255 ++ [];
  fs = replicate 8 rest ++ [];
  are = subst (λ (l : List ℕ). Passes (255 ∷ 0 ∷ rest) (bits_of 255 ++ []) (replicate 8 rest ++ []) l) (sym q.0)
      (stuffed rest [] [] rest (none rest));
  sized = refl;
  within = q.1;
}
stuffed-passed rest i s (inr q) =
    let p = q.1.1 in
    let e = q.1.0 in
    let lt = p.within in
    let same = p.sized in
    record {
      bits = bits_of 255 ++ p.bits;
      fs = replicate 8 rest ++ p.fs;
      are = stuffed rest p.bits p.fs s p.are;
      sized = omega (arith, length-append (bits_of 255) p.bits, length-append (replicate 8 rest) p.fs);
      within = omega (arith, length-append (replicate 8 rest) p.fs);
    }

-- by what is known of the bytes after the first
then-passed : (rest : List ℕ) (i : ℕ) (s : List ℕ) (others : List (List ℕ))
    → drop i (replicate 8 rest ++ (text_at rest).following) ≡ s ∷ others
    → ((j : ℕ) → drop j (text_at rest).following ≡ s ∷ others → PassedTo rest j s)
    → ((s ≡ rest) × (i < 8)) ⊎ ((j : ℕ) × ((i ≡ 8 + j) × PassedTo rest j s))
then-passed rest i s others e h = go (copies 8 i rest (text_at rest).following s others e)
  where
    go : ((s ≡ rest) × (i < 8)) ⊎ ((j : ℕ) × ((i ≡ 8 + j) × (drop j (text_at rest).following ≡ s ∷ others)))
        → ((s ≡ rest) × (i < 8)) ⊎ ((j : ℕ) × ((i ≡ 8 + j) × PassedTo rest j s))
    go (inl q) = inl q
    go (inr q) = inr (q.0, (q.1.0, h q.0 q.1.1))

bool-is : (x : Bool) → (x ≡ true) ⊎ (x ≡ false)
bool-is true = inl refl
bool-is false = inr refl

nat-is : (c n : ℕ) → eqb c n ≡ true → c ≡ n
nat-is c n h = go (eqb_tells c n)
  where
    go : (((eqb c n) ≡ true) × (c ≡ n)) ⊎ (((eqb c n) ≡ false) × (c ≡ n → ⊥)) → c ≡ n
    go (inl q) = q.1
    go (inr q) = absurd (let e : ◌≡◌ {A = Bool} true false = sym h ∙ q.0 in let n : ⊥ = cc in n)

none-passed : (i : ℕ) (s : List ℕ) (others : List (List ℕ)) → drop i (text_at []).following ≡ s ∷ others → ⊥
unfolding text_at
none-passed i s others e = no-more i s others e

last-passed : (i : ℕ) (s : List ℕ) (others : List (List ℕ)) → drop i (text_at (255 ∷ [])).following ≡ s ∷ others → ⊥
unfolding text_at
last-passed i s others e = no-more i s others e

-- no data stand at a marker
marked-text : (c : ℕ) (rest : List ℕ) → eqb c 0 ≡ false → (text_at (255 ∷ c ∷ rest)).following ≡ []
unfolding text_at
marked-text c rest h =
    ap (λ (t : Text). t.following)
    (pick (eqb c 0) (add_byte 255 rest (text_at rest)) (no_bits (ending_at (c ∷ rest))) h)

at-passed : (bytes : List ℕ) (i : ℕ) (s : List ℕ) (others : List (List ℕ))
    → drop i (text_at bytes).following ≡ s ∷ others → PassedTo bytes i s
at-passed [] i s others e = absurd (none-passed i s others e)
at-passed (b ∷ []) i s others e = go (bool-is (eqb b 255))
  where
    go : (eqb b 255 ≡ true) ⊎ (eqb b 255 ≡ false) → PassedTo (b ∷ []) i s
    go (inl h) = absurd (last-passed i s others (subst (λ (x : ℕ). drop i (text_at (x ∷ [])).following ≡ s ∷ others)
        (nat-is b 255 h) e))
    go (inr h) = plain-passed b [] i s h (then-passed [] i s others
        (ap (λ (t : Text). drop i t.following) (sym (plain-text b [] h)) ∙ e)
        (λ j k. absurd (none-passed j s others k)))
at-passed (b ∷ c ∷ rest) i s others e =
    go (bool-is (eqb b 255)) (bool-is (eqb c 0)) (λ j k. at-passed rest j s others k)
    (λ j k. at-passed (c ∷ rest) j s others k)
  where
    go : (eqb b 255 ≡ true) ⊎ (eqb b 255 ≡ false) → (eqb c 0 ≡ true) ⊎ (eqb c 0 ≡ false)
        → ((j : ℕ) → drop j (text_at rest).following ≡ s ∷ others → PassedTo rest j s)
        → ((j : ℕ) → drop j (text_at (c ∷ rest)).following ≡ s ∷ others → PassedTo (c ∷ rest) j s)
        → PassedTo (b ∷ c ∷ rest) i s
    go (inr h) y f g = plain-passed b (c ∷ rest) i s h (then-passed (c ∷ rest) i s others
        (ap (λ (t : Text). drop i t.following) (sym (plain-text b (c ∷ rest) h)) ∙ e) g)
    go (inl h) (inl k) f g =
        let both : b ∷ c ∷ rest ≡ 255 ∷ 0 ∷ rest
        = ap₂ (λ (x y : ℕ). x ∷ y ∷ rest) (nat-is b 255 h) (nat-is c 0 k) in
        subst (λ (l : List ℕ). PassedTo l i s) (sym both) (stuffed-passed rest i s (then-passed rest i s others
        (ap (λ (t : Text). drop i t.following) (sym (stuffed-text rest))
        ∙ subst (λ (l : List ℕ). drop i (text_at l).following ≡ s ∷ others) both e) f))
    go (inl h) (inr k) f g = absurd (no-more i s others (ap (drop i) (sym (marked-text c rest k))
        ∙ subst (λ (x : ℕ). drop i (text_at (x ∷ c ∷ rest)).following ≡ s ∷ others) (nat-is b 255 h) e))

-- ---- what is held, and the bytes after it

abbrev Bytes : Type 0
Bytes = List (List ℕ)

-- the data up to the bytes that follow at a place, where some bits are held
record HeldPassed (k i : ℕ) (now s : List ℕ) : Type 0 where
  pub bits : List Bool
  pub fs : Bytes
  pub are : Passes now bits fs s
  pub sized : length bits ≡ length fs
  pub within : i < k + length fs

held-passed : (k i : ℕ) (now s : List ℕ) (others : Bytes)
    → drop i (replicate k now ++ (text_at now).following) ≡ s ∷ others → HeldPassed k i now s
held-passed k i now s others e = go (copies k i now (text_at now).following s others e)
  where
    go : ((s ≡ now) × (i < k)) ⊎ ((j : ℕ) × ((i ≡ k + j) × (drop j (text_at now).following ≡ s ∷ others)))
        → HeldPassed k i now s
    go (inl q) = record {
      bits = [];
      fs = [];
      are = subst (λ (l : List ℕ). Passes now [] [] l) (sym q.0) (none now);
      sized = refl;
      within = let lt = q.1 in omega arith;
    }
    go (inr q) =
        let p = at-passed now q.0 s others q.1.1 in
        let e = q.1.0 in
        let lt = p.within in
        record { bits = p.bits; fs = p.fs; are = p.are; sized = p.sized; within = omega arith }

-- the text by what is passed, and the text of what follows
abbrev by_passed : List Bool → Bytes → Text → Text
by_passed bits fs t = text (bits ++ t.bits) (drop 56 (fs ++ t.following)) t.ending

held-is : (bits : List Bool) (now : List ℕ) (own : List Bool) (fs : Bytes) (s : List ℕ) → Passes now own fs s
    → held_text bits now ≡ by_passed (bits ++ own) (replicate (length bits) now ++ fs) (text_at s)
held-is bits now own fs s p =
    let t = text_at s in
    let copy = replicate (length bits) now in
    ap (λ (u : Text). text (bits ++ u.bits) (drop 56 (copy ++ u.following)) u.ending) (passed-text now own fs s p)
    ∙ ap₂ (λ (l : List Bool) (qs : Bytes). text l (drop 56 qs) t.ending) (sym (append_assoc bits own t.bits))
    (sym (append_assoc copy fs t.following))

held-more : (more : List ℕ) (bits : List Bool) (now : List ℕ) (own : List Bool) (fs : Bytes) (s : List ℕ)
    → Passes now own fs s → held_text bits (now ++ more)
    ≡ by_passed (bits ++ own) (map (and_more more) (replicate (length bits) now ++ fs)) (text_at (s ++ more))
held-more more bits now own fs s p =
    let f = and_more more in
    let copy = replicate (length bits) now in
    held-is bits (now ++ more) own (map f fs) (s ++ more) (more-passed more now own fs s p)
    ∙ ap (λ (qs : Bytes). by_passed (bits ++ own) qs (text_at (s ++ more)))
    (ap (λ (qs : Bytes). qs ++ map f fs) (sym (replicate-more more (length bits) now))
    ∙ sym (map-append f copy fs))

cut-one : (d : ℕ) (xs ys tail : List Bool) → drop d (xs ++ tail) ≡ ys ++ tail → d ≤ length xs → drop d xs ≡ ys
cut-one d xs ys tail e le = append_cancel_right (drop d xs) ys tail (sym (drop-append-le d xs tail le) ∙ e)

on-one : (d : ℕ) (xs ys tail : List Bool) → drop d xs ≡ ys → d ≤ length xs → drop d (xs ++ tail) ≡ ys ++ tail
on-one d xs ys tail e le = drop-append-le d xs tail le ∙ ap (λ (l : List Bool). l ++ tail) e

cut-after : (d : ℕ) (xs ys tail : Bytes) → drop d (drop 56 (xs ++ tail)) ≡ drop 56 (ys ++ tail) → 56 + d ≤ length xs
    → 56 ≤ length ys → drop (56 + d) xs ≡ drop 56 ys
cut-after d xs ys tail e le few =
    append_cancel_right (drop (56 + d) xs) (drop 56 ys) tail
    (sym (drop-append-le (56 + d) xs tail le) ∙ sym (drop-drop d 56 (xs ++ tail)) ∙ e ∙ drop-append-le 56 ys tail few)

on-after : (d : ℕ) (xs ys tail : Bytes) → drop (56 + d) xs ≡ drop 56 ys → 56 + d ≤ length xs → 56 ≤ length ys
    → drop d (drop 56 (xs ++ tail)) ≡ drop 56 (ys ++ tail)
on-after d xs ys tail e le few =
    drop-drop d 56 (xs ++ tail) ∙ drop-append-le (56 + d) xs tail le ∙ ap (λ (l : Bytes). l ++ tail) e
    ∙ sym (drop-append-le 56 ys tail few)

unmet-goes : (more : List ℕ) (old bits : List Bool) (bytes now : List ℕ) (d : ℕ) (s : List ℕ) (others : Bytes)
    → advance d (held_text old bytes) ≡ held_text bits now → (held_text bits now).following ≡ s ∷ others
    → advance d (held_text old (bytes ++ more)) ≡ held_text bits (now ++ more)
unmet-goes more old bits bytes now d s others e h =
    let f = and_more more in
    let first = replicate (length old) bytes in
    let copy = replicate (length bits) now in
    let here : drop d (drop 56 (first ++ (text_at bytes).following)) ≡ s ∷ others
    = ap (λ (t : Text). t.following) e ∙ h in
    let p = held-passed (length old) (56 + d) bytes s others
    (sym (drop-drop d 56 (first ++ (text_at bytes).following)) ∙ here) in
    let q = held-passed (length bits) 56 now s others h in
    let pw = p.within in
    let qw = q.within in
    let same = p.sized in
    let xs = old ++ p.bits in
    let ys = bits ++ q.bits in
    let xf = first ++ p.fs in
    let yf = copy ++ q.fs in
    let ts = text_at s in
    let tl = text_at (s ++ more) in
    let xl : length xf ≡ length old + length p.fs
    = omega (arith, length-append first p.fs, length-replicate (length old) bytes) in
    let yl : length yf ≡ length bits + length q.fs
    = omega (arith, length-append copy q.fs, length-replicate (length bits) now) in
    let le : d ≤ length xs = omega (arith, length-append old p.bits) in
    let few : 56 + d ≤ length xf = omega arith in
    let some : 56 ≤ length yf = omega arith in
    let both : advance d (by_passed xs xf ts) ≡ by_passed ys yf ts
    = ap (advance d) (sym (held-is old bytes p.bits p.fs s p.are)) ∙ e ∙ held-is bits now q.bits q.fs s q.are in
    let one : drop d xs ≡ ys = cut-one d xs ys ts.bits (ap (λ (t : Text). t.bits) both) le in
    let two : drop (56 + d) xf ≡ drop 56 yf
    = cut-after d xf yf ts.following (ap (λ (t : Text). t.following) both) few some in
    let mapped : drop (56 + d) (map f xf) ≡ drop 56 (map f yf)
    = drop-map f (56 + d) xf ∙ ap (map f) two ∙ sym (drop-map f 56 yf) in
    ap (advance d) (held-more more old bytes p.bits p.fs s p.are)
    ∙ ap₂ (λ (l : List Bool) (qs : Bytes). text l qs tl.ending) (on-one d xs ys tl.bits one le)
    (on-after d (map f xf) (map f yf) tl.following mapped (omega (arith, length-map xf f))
    (omega (arith, length-map yf f)))
    ∙ sym (held-more more bits now q.bits q.fs s q.are)

-- ---- where data go on

-- zeros follow a marker that wasn't met yet
abbrev pub AreZeros : Met → Type 0
AreZeros (Unmet beyond) = beyond ≡ Zeros
AreZeros (At e) = Unit {0}

-- A decoder has met a marker, or none, and then more than 56 bits of data stand in these bytes, or a marker ends them.
abbrev pub IsSettled : Met → List ℕ → Type 0
IsSettled met now = (m : Option Marker × List ℕ) × (marker_from (upcoming_by [] met now) ≡ Ok m)

end-later : (e : DataEnd) (now more : List ℕ) → later (ending_of e now) more ≡ ending_of e (now ++ more)
end-later (ends.Marker m) now more = refl
end-later (ends.Stop m) now more = refl
end-later ends.Malformed now more = refl
end-later ends.Ended now more = refl

alike-unmet : (more : List ℕ) (bits : List Bool) (now : List ℕ) → ((text_at now).ending ≡ Broken End → ⊥)
    → IsLaterOr more (text_at now) (text_at (now ++ more))
    → later_text more (held_text bits now) ≡ held_text bits (now ++ more)
alike-unmet more bits now n (inl e) = absurd (n e)
alike-unmet more bits now n (inr e) = held-same more bits now e

alike-goes : (more : List ℕ) (bits : List Bool) (met : Met) (now : List ℕ) → AreZeros met
    → ((upcoming_by bits met now).ending ≡ Broken End → ⊥)
    → later_text more (upcoming_by bits met now) ≡ upcoming_by bits met (now ++ more)
alike-goes more bits (Unmet Zeros) now z n = alike-unmet more bits now n (text-later now more)
alike-goes more bits (Unmet Nothing) now z n = absurd (let c : ⊥ = cc in c)
alike-goes more bits (At e) now z n =
    ap₂ (λ (l : Bytes) (end : Ending). text bits l end)
    (sym (drop-map (and_more more) 56 (replicate (length bits) now))
    ∙ ap (drop 56) (replicate-more more (length bits) now))
    (end-later e now more)

none-there : (rests : Bytes) (e : Ending) → e ≡ Broken End → (m : Option Marker × List ℕ) → marker_by rests e ≡ Ok m
    → 0 < length rests
none-there [] e h m is = absurd (err-ok End m (sym (ap (marker_by []) h) ∙ is))
none-there (s ∷ others) e h m is = omega arith

some-there : (rests : Bytes) → 0 < length rests → (s : List ℕ) × ((others : Bytes) × (rests ≡ s ∷ others))
some-there [] lt = absurd (let l : 0 < 0 = lt in omega arith)
some-there (s ∷ others) lt = (s, (others, refl))

longer-goes : (more : List ℕ) (old bits : List Bool) (met : Met) (bytes now : List ℕ) (d : ℕ)
    → (text_at bytes).ending ≡ Broken End → advance d (held_text old bytes) ≡ upcoming_by bits met now
    → AreZeros met → IsSettled met now
    → advance d (held_text old (bytes ++ more)) ≡ upcoming_by bits met (now ++ more)
longer-goes more old bits (Unmet Zeros) bytes now d cut e z is =
    let t = text_at now in
    let end : t.ending ≡ Broken End = ap (λ (u : Text). u.ending) (sym e) ∙ cut in
    let lt : 0 < length (drop 56 t.following) = none-there (drop 56 t.following) t.ending end is.0 is.1 in
    let copy = replicate (length bits) now in
    let s = some-there (drop 56 (copy ++ t.following)) (omega (
      arith,
      length-drop 56 (copy ++ t.following),
      length-drop 56 t.following,
      length-append copy t.following,
    )) in
    unmet-goes more old bits bytes now d s.0 s.1.0 e s.1.1
longer-goes more old bits (Unmet Nothing) bytes now d cut e z is = absurd (let c : ⊥ = cc in c)
longer-goes more old bits (At end) bytes now d cut e z is =
    let broken : ending_of end now ≡ Broken End = ap (λ (u : Text). u.ending) (sym e) ∙ cut in
    absurd (err-ok End is.0 (sym (ap (marker_by []) broken) ∙ is.1))

-- What a decoder holds and the bytes after it stand for what is left of a text. Where its bytes go on, what is left
-- of it is what the same and those bytes with more after them stand for.
pub state-later : (more : List ℕ) (bits : List Bool) (met : Met) (now : List ℕ) (t u : Text) → LaterBy more t u
    → t ≡ upcoming_by bits met now → AreZeros met → IsSettled met now → u ≡ upcoming_by bits met (now ++ more)
state-later more bits met now t u (alike t' n) e z is =
    ap (later_text more) e
    ∙ alike-goes more bits met now z (λ h. n (ap (λ (x : Text). x.ending) e ∙ h))
state-later more bits met now t u (longer old bytes d le cut) e z is =
    longer-goes more old bits met bytes now d cut e z is

ended-not : (end : DataEnd) (now : List ℕ) → (end ≡ ends.Ended → ⊥) → ending_of end now ≡ Broken End → ⊥
ended-not (ends.Marker m) now n h = let c : ⊥ = cc in c
ended-not (ends.Stop m) now n h = let c : ⊥ = cc in c
ended-not ends.Malformed now n h = let c : ⊥ = cc in c
ended-not ends.Ended now n h = n refl

pub held-later : (more : List ℕ) (bits : List Bool) (met : Met) (now : List ℕ) → IsOpen met
    → LaterBy more (upcoming_by bits met now) (upcoming_by bits met (now ++ more))
held-later more bits (Unmet Zeros) now n = start-later more bits now
held-later more bits (Unmet Nothing) now n = absurd (let c : ⊥ = cc in c)
held-later more bits (At e) now n =
    subst (λ (u : Text). LaterBy more (upcoming_by bits (At e) now) u)
    (alike-goes more bits (At e) now tt (ended-not e now n))
    (alike (upcoming_by bits (At e) now) (ended-not e now n))

pub settled-open : (met : Met) (now : List ℕ) → AreZeros met → IsSettled met now → IsOpen met
settled-open (Unmet beyond) now z is = z
settled-open (At e) now z is = λ h.
    err-ok End is.0 (sym (ap (λ (d : DataEnd). marker_by [] (ending_of d now)) h) ∙ is.1)

-- What is read of data, from a decoder and its source on, and leaves them so, is read of data that go on; and it leaves
-- the decoder so, and its source as much more.
pub reads_go_on : {A : Type 0} (more : List ℕ) (p : Reads A) → StaysText more p → (x : A) (a b : Ahead)
    (old new : List ℕ) → IsOpen a.met → AreZeros b.met → IsSettled b.met new
    → p (upcoming a old) ≡ Ok (x, upcoming b new) → p (upcoming a (old ++ more)) ≡ Ok (x, upcoming b (new ++ more))
unfolding StaysText upcoming
reads_go_on {A} more p h x a b old new n z is e =
    let s = h (upcoming_by a.bits a.met old) (upcoming_by a.bits a.met (old ++ more))
    (held-later more a.bits a.met old n) (x, upcoming_by b.bits b.met new) e in
    s.read ∙ ap (λ (u : Text). Ok (x, u))
    (state-later more b.bits b.met new (upcoming_by b.bits b.met new) s.after s.goes refl z is)
