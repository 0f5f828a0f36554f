-- What successive approximation sends of a block, and which scans may follow (T.81, G.1.1 and
-- G.1.2). A level is a point transform Al: at level a, the bits above the a lowest are sent.
use Rattle.std.specs.Prelude.{◌≡◌, ◌≢◌, ℕ, suc, ◌/◌, ◌^◌, ◌≤◌, ◌==◌, true, false}
use Rattle.std.specs.Prelude.{List, map, length, replicate, zip, Option, Some, None, if◌then◌else◌}
use Rattle.std.specs.Prelude.{ℤ, pos, negsuc, neg_ℤ, ◌*ℤ◌, ◌≤ℤ◌, unsigned_abs}
use Rattle.std.specs.List.{AllByRecursion}
use Rattle.jpeg_bits.specs.Passes.{Pass, Block, band_of, with_band}

-- ---- coefficients

-- The coefficients of a block of 8-bit samples: DC from -1024 to 1023, and 63 others in zigzag
-- order, none of them of magnitude 1024 or more (F.1.2.1.1 and F.1.2.2.1).
pub record Is8Bit (c : Block) : Type 0 where
  pub count : length c.acs ≡ 63
  pub dc_low : negsuc 1023 ≤ℤ c.dc
  pub dc_high : c.dc ≤ℤ pos 1023
  pub acs : AllByRecursion (λ x. unsigned_abs x ≤ 1023) c.acs

-- ---- point transforms (G.1.2.1)

-- c / 2 ^ a, rounded down: an arithmetic shift, for DC
abbrev pub floor_at : ℕ → ℤ → ℤ
floor_at a (pos n) = pos (n / 2 ^ a)
floor_at a (negsuc n) = negsuc (n / 2 ^ a)

-- c / 2 ^ a, rounded toward zero, for AC
abbrev pub toward_zero : ℕ → ℤ → ℤ
toward_zero a (pos n) = pos (n / 2 ^ a)
toward_zero a (negsuc n) = neg_ℤ (pos (suc n / 2 ^ a))

-- The coefficients of a block after the point transform, which a scan at this level codes.
abbrev pub numbers_at : ℕ → Block → Block
numbers_at a c = record { dc = floor_at a c.dc; acs = map (toward_zero a) c.acs }

-- ---- what was sent

-- The level at which each coefficient was sent last. None where no scan has sent it.
pub record Levels : Type 0 where
  pub dc : Option ℕ
  pub acs : List (Option ℕ)

abbrev pub nothing_sent : Levels
nothing_sent = record { dc = None; acs = replicate 63 None }

-- What is known of a coefficient by the bits that were sent: 0 in place of the others.
abbrev pub cut_by : (ℕ → ℤ → ℤ) → ℤ → Option ℕ → ℤ
cut_by number_at c None = pos 0
cut_by number_at c (Some a) = number_at a c *ℤ pos (2 ^ a)

unfoldable pub cut_acs : List ℤ → List (Option ℕ) → List ℤ
cut_acs cs levels = map (λ x. cut_by toward_zero x.0 x.1) (zip cs levels)

-- A block, cut at the bits that were sent.
abbrev pub cut : Levels → Block → Block
cut l c = record { dc = cut_by floor_at c.dc l.dc; acs = cut_acs c.acs l.acs }

-- ---- scans that may follow (G.1.1.1)

-- A scan may code a component's coefficients Ss to Se at level Al where these levels were sent: a
-- first scan (Ah = 0) codes what was not sent, a refinement (Ah = Al + 1) what was sent at the
-- level above, and a scan of AC alone comes after DC. Al is below the precision of 8 bits.
pub record IsLegal (p : Pass) (l : Levels) : Type 0 where
  pub low : p.al ≤ 7
  pub dc_unsent : p.ss ≡ 0 → p.is_first ≡ true → l.dc ≡ None
  pub dc_sent : p.ss ≡ 0 → p.is_first ≡ false → l.dc ≡ Some (suc p.al)
  pub dc_before : p.ss ≢ 0 → l.dc ≢ None
  pub acs_unsent : p.is_first ≡ true → AllByRecursion (λ x. x ≡ None) (band_of p l.acs)
  pub acs_sent : p.is_first ≡ false → AllByRecursion (λ x. x ≡ Some (suc p.al)) (band_of p l.acs)

-- The levels after the scan.
abbrev pub sent_after : Pass → Levels → Levels
sent_after p l = record {
  dc = if p.ss == 0 then Some p.al else l.dc;
  acs = with_band p l.acs (replicate (length (band_of p l.acs)) (Some p.al));
}
