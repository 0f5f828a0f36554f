-- What a block was before a pass of a progressive frame that read it.
use Rattle.std.proofs.Common.{◌≡◌, ◌≢◌, ℕ, suc, ◌+◌, ◌≤◌, ◌==◌, Bool, true, false, List, [], ◌∷◌, ◌++◌, length, drop, take, ◌*ℤ◌, ◌^◌}
use Rattle.std.proofs.Common.{map, refl, sym, ap, ◌∙◌, subst, arith, ℤ, pos, negsuc, ◌≤ℤ◌, unsigned_abs, length-append, length-drop, length-take, Some}
use Rattle.std.proofs.Common.{not, true≢false}
use Rattle.std.proofs.lemmas.Bool.{false≢true, ne_eqb}
use Rattle.std.proofs.lemmas.List.{length-map, length-replicate}
use Rattle.std.specs.List.{AllByRecursion}
use Rattle.std.specs.Prelude.{if◌then◌else◌, Option}
use Rattle.std.proofs.Common.{get_or, set}
use Rattle.std.proofs.lemmas.Int.{ints}
use Rattle.std.proofs.lemmas.List.{set-get_or}
use Rattle.jpeg_bits.specs.Passes.{Via}
use Rattle.jpeg_meaning.specs.Levels.{numbers_at}
use Rattle.zaxbriar_strict.specs.Bands.{IsInner}
use Rattle.zaxbriar_strict.specs.Blocks.{WritesTurns}
use Rattle.zaxbriar_strict.specs.Sent.{IsBand}
use Rattle.zaxbriar_strict.specs.Sent.IsBand.{of_acs, of_dc}
use Rattle.zaxbriar_strict.specs.Data.{Reads}
use Rattle.zaxbriar_strict.specs.Sent.{AllInner}
use Rattle.zaxbriar_strict.specs.SentBlocks.{ReadsAcs, ReadsDc, ReadsSent}
use Rattle.zaxbriar_strict.specs.declared.transform.Past.{Past}
use Rattle.zaxbriar_strict.proofs.SentTurns.{acs-turn, dc-turn}
use Rattle.jpeg_bits.specs.BlockView.{dc_in}
use Rattle.jpeg_bits.specs.Codes.{Table}
use Rattle.jpeg_bits.specs.Passes.{Block, Pass, band_of, band_size, before_band, with_band}
use Rattle.jpeg_meaning.specs.Levels.{cut_by, floor_at, toward_zero}
use Rattle.jpeg_meaning.specs.WrittenData.{no_numbers}
use Rattle.zaxbriar_strict.specs.Bands.{block_in}
use Rattle.zaxbriar_strict.specs.Changes.{Change, IsNext, IsReady, Place}
use Rattle.zaxbriar_strict.specs.Data.{Data}
use Rattle.zaxbriar_strict.specs.Sent.{ReadsSentAc, ReadsSentDc, scaled_by, sent_before}
use Rattle.zaxbriar_strict.proofs.CutBlocks.{acs-cut, dc-cut}
use Rattle.zaxbriar_strict.proofs.SentAcs.{acs-next}
use Rattle.zaxbriar_strict.proofs.SentBlocks.{dc-next, dc_pass}
use Rattle.zaxbriar_strict.proofs.SentRanges.{acs-small, dc-in-range}

abbrev change : Place → List ℤ → List ℤ → Change
change q old new = record { place = q; old = old; new = new }

-- A pass of DC.
pub dc-is-next : (first : Bool) (al : ℕ) (table : Table) (before after : ℤ) (q : Place) (old new : List ℤ)
    (from to : Data) → IsReady (dc_pass first al) old
    → ReadsSentDc (dc_pass first al) table before after old new from to
    → IsNext (dc_pass first al) (change q old new)
dc-is-next first al table before after q old new from to ready r = record {
  back = λ l u many all legal e. dc-next first al table before after old new from to l u ready r legal e;
  in_range = λ low b. dc-in-range first al table before after old new from to ready r low b;
  onward = λ l sized legal c. dc-cut first al l old new r.number (r.is refl) r.others c;
}

before-size : (p : Pass) (numbers : List ℤ) → length (sent_before p numbers) ≡ length numbers
before-size p numbers = go p.is_first
  where
    go : (f : Bool) → length (if f then no_numbers (length numbers)
        else scaled_by (suc p.al) (map (toward_zero 1) numbers)) ≡ length numbers
    go true = length-replicate (length numbers) (pos 0)
    go false = length-map (map (toward_zero 1) numbers) (λ z. z *ℤ pos (2 ^ suc p.al)) ∙ length-map numbers (toward_zero 1)

pub band-room : (p : Pass) (xs numbers : List ℤ) → 1 ≤ p.ss → p.ss ≤ p.se → length numbers ≡ band_size p
    → band_of p xs ≡ sent_before p numbers → before_band p + band_size p ≤ length xs
band-room p xs numbers some within sized was =
    let a = ap length was ∙ before-size p numbers in
    let j = length-take (band_size p) (drop (before_band p) xs) in
    let k = length-drop (before_band p) xs in
    omega (arith, a, j, k, sized, some, within)

-- A pass of AC.
module _ (p : Pass) (some : 1 ≤ p.ss) (within : p.ss ≤ p.se) (most : p.se ≤ 63) (table : Table) (run left : ℕ)
    (q : Place) (old new : List ℤ) (from to : Data) (r : ReadsSentAc p table run left old new from to) where
  new-acs : drop 1 new ≡ with_band p (drop 1 old) (scaled_by p.al r.numbers)
  new-acs = ap (λ (l : List ℤ). drop 1 l) r.are

  new-dc : dc_in new ≡ dc_in old
  new-dc = ap dc_in r.are

  room : before_band p + band_size p ≤ length (drop 1 old)
  room = band-room p (drop 1 old) r.numbers some within r.sized r.was

  same-length : length (drop 1 new) ≡ length (drop 1 old)
  same-length =
      let xs = drop 1 old in
      let b = before_band p in
      let s = band_size p in
      let sent = scaled_by p.al r.numbers in
      let c = length-append (take b xs) (sent ++ drop (b + s) xs) in
      let d = length-append sent (drop (b + s) xs) in
      let e = length-take b xs in
      let f = length-drop (b + s) xs in
      let g = length-map r.numbers (λ z. z *ℤ pos (2 ^ p.al)) ∙ r.sized in
      let h = ap length new-acs in
      let i = room in
      omega (arith, c, d, e, f, g, h, i)

  pub acs-is-next : IsNext p (change q old new)
  acs-is-next = record {
    back = λ l u many all legal e.
        let ne : p.ss ≢ 0 = λ z. omega (arith, some, z) in
        let b = before_band p in
        let i = room in
        let near : b ≤ length (drop 1 old) = omega (arith, i) in
        let deep : b + band_size p ≤ length l.acs = omega (arith, all, some, within, most) in
        let level : (if p.ss == 0 then Some p.al else l.dc) ≡ l.dc =
        ap (λ (t : Bool). if t then Some p.al else l.dc) (ne_eqb p.ss 0 ne) in
        let dc : dc_in old ≡ cut_by floor_at u.dc l.dc =
        sym new-dc ∙ ap (λ (x : Block). x.dc) e ∙ ap (λ (o : Option ℕ). cut_by floor_at u.dc o) level in
        let acs = acs-next p (drop 1 old) u.acs r.numbers l r.sized r.was near (many ∙ sym all) deep legal
        (sym new-acs ∙ ap (λ (x : Block). x.acs) e) in
        λ i. record { dc = dc i; acs = acs i };
    in_range = λ low b. record {
      count = sym same-length ∙ b.count;
      dc_low = subst (λ (z : ℤ). negsuc 1023 ≤ℤ z) new-dc b.dc_low;
      dc_high = subst (λ (z : ℤ). z ≤ℤ pos 1023) new-dc b.dc_high;
      acs = acs-small p (drop 1 old) r.numbers r.was
          (subst (λ (l : List ℤ). AllByRecursion (λ (x : ℤ). unsigned_abs x ≤ 1023) l) new-acs b.acs);
    };
    onward = λ l sized legal c.
        acs-cut p l old new r.numbers some within most sized r.sized new-dc new-acs same-length c;
  }

-- ---- the pass of a band

pub is-refined : (first : Bool) → not first ≡ true → first ≡ false
is-refined true e = absurd (false≢true e)
is-refined false e = refl

pub is-first : (first : Bool) → not first ≡ false → first ≡ true
is-first true e = refl
is-first false e = absurd (true≢false e)

-- ---- blocks that were read

first-inner : (zs : List ℤ) → AllInner zs → IsInner (dc_in zs)
first-inner [] all = record { low = omega (arith, ints); high = omega (arith, ints) }
first-inner (z ∷ zs) all = all.0

dc-sent-by : (first : Bool) (al : ℕ) (via : Via) (before after : Past) (next : ℤ) (old new : List ℤ) (from to : Data)
    → after.dc ≡ set before.dc via.component next → after.run ≡ before.run
    → ReadsDc (dc_pass first al) via (get_or before.dc via.component (pos 0)) next old new from to
    → ReadsSent (dc_pass first al) via before after old new from to
dc-sent-by first al via before after next old new from to d n r = record {
  next = λ q good.
      dc-is-next first al via.dc (get_or before.dc via.component (pos 0)) next q old new from to good.ready
      (r good.ready (first-inner new good.inner));
  read = λ q good.
      let p = dc_pass first al in
      let turn : Via × Block = (via, numbers_at al (block_in new)) in
      subst (λ (l : List ℤ). Reads (WritesTurns p before.dc before.run l after.run (turn ∷ [])) from to) (sym d)
      (subst (λ (k : ℕ). Reads (WritesTurns p before.dc before.run (set before.dc via.component next) k (turn ∷ [])) from
      to) (sym n)
      (dc-turn first al via before.dc before.run next old new (r good.ready (first-inner new good.inner))));
}

-- of DC
pub dc-sent : (p : Pass) (via : Via) (before after : Past) (next : ℤ) (old new : List ℤ) (from to : Data) → p.ss ≡ 0
    → p.se ≡ 0 → after.dc ≡ set before.dc via.component next → after.run ≡ before.run
    → ReadsDc p via (get_or before.dc via.component (pos 0)) next old new from to
    → ReadsSent p via before after old new from to
dc-sent p via before after next old new from to s e d n r =
    let same : p ≡ dc_pass p.is_first p.al = λ i. record { is_first = p.is_first; ss = s i; se = e i; al = p.al } in
    subst (λ (x : Pass). ReadsSent x via before after old new from to) (sym same)
    (dc-sent-by p.is_first p.al via before after next old new from to d n
    (subst (λ (x : Pass). ReadsDc x via (get_or before.dc via.component (pos 0)) next old new from to) same r))

-- of AC
pub acs-sent : (p : Pass) (via : Via) (before after : Past) (old new : List ℤ) (from to : Data) → 1 ≤ p.ss
    → p.ss ≤ p.se → p.se ≤ 63 → after.dc ≡ before.dc → ReadsAcs p via before.run after.run old new from to
    → ReadsSent p via before after old new from to
acs-sent p via before after old new from to some within most d r = record {
  next = λ q good.
      acs-is-next p some within most via.ac before.run after.run q old new from to (r good.ready good.inner);
  read = λ q good.
      let read = r good.ready good.inner in
      let wide = band-room p (drop 1 old) read.numbers some within read.sized read.was in
      let near : before_band p ≤ length (drop 1 old) = omega (arith, wide) in
      subst (λ (l : List ℤ). Reads (WritesTurns p before.dc before.run l after.run
      ((via, numbers_at p.al (block_in new)) ∷ [])) from to) (sym d)
      (acs-turn p via before.dc before.run after.run old new some near read
      (set-get_or before.dc via.component (pos 0)));
}

pub band-dc : (p : Pass) → IsBand p → p.ss ≡ 0 → p.se ≡ 0
band-dc p (of_dc s e) none = e
band-dc p (of_acs some within most) none = absurd (omega (arith, some, none))

pub record IsAcs (p : Pass) : Type 0 where
  pub some : 1 ≤ p.ss
  pub within : p.ss ≤ p.se
  pub most : p.se ≤ 63

pub band-acs : (p : Pass) → IsBand p → (p.ss ≡ 0 → ⊥) → IsAcs p
band-acs p (of_dc s e) ne = absurd (ne s)
band-acs p (of_acs some within most) ne = record { some = some; within = within; most = most }
