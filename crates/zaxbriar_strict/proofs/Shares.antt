-- The components of a lossless scan, with how many samples an MCU has of each.
use Rattle.std.proofs.Common.{◌≡◌, ℕ, zero, suc, ◌+◌, ◌*◌, ◌<◌, ◌≤◌, ◌==◌, List, [], ◌∷◌, ◌++◌, length, map, set, get_or}
use Rattle.std.proofs.Common.{take, replicate, refl, sym, ap, ap₂, ◌∙◌, subst, arith, append-nil, append_assoc, false, ltb}
use Rattle.std.proofs.lemmas.Bool.{ltb-false}
use Rattle.std.specs.List.{AllByRecursion}
use Rattle.std.specs.Prelude.{None, Some, Option, if◌then◌else◌, slice_get, slice_index_or}
use Rattle.std.proofs.Math.Seq.{map-set_same}
use Rattle.std.proofs.lemmas.List.{get_or-map, map-append, take_all, take_more}
use Rattle.jpeg_bits.specs.Codes.{Table}
use Rattle.jpeg_lossless.specs.Differences.{mcu_tables}
use Rattle.zaxbriar_strict.specs.Contexts.{IsInstalled}
use Rattle.zaxbriar_strict.specs.Data.{Data}
use Rattle.zaxbriar_strict.specs.Installed.{codes_of}
use Rattle.zaxbriar_strict.specs.Members.{HaveTables}
use Rattle.zaxbriar_strict.specs.ScanSamples.{ArePlaced, ReadsDifferences, Share, difference_codes, share_at}
use Rattle.zaxbriar_strict.specs.ScanSamples.{share_in, share_of, shares_of, unit_tables}
use Rattle.zaxbriar_strict.specs.declared.frame.Component.{Component}
use Rattle.zaxbriar_strict.specs.declared.lossless.Lines.{Lines}
use Rattle.zaxbriar_strict.specs.declared.scan.Member.{Member}
use Rattle.zaxbriar_strict.specs.declared.tables.Tables.{Tables}
use Rattle.zaxbriar_strict.proofs.Codings.{all-got, no_member}
use Rattle.zaxbriar_strict.proofs.SampleDifferences.{differences-none}
use Rattle.zaxbriar_strict.proofs.Segments.{all-push}

-- ---- tables that are installed

abbrev pub AreInstalledAt : Tables → List Member → Type 0
AreInstalledAt t ms = AllByRecursion (λ m. IsInstalled (slice_index_or (codes_of t).dc m.dc None)) ms

pub installed-more : (t : Tables) (xs ms : List Member) (i : ℕ) → xs ≡ ms → i < length xs → HaveTables 3 ms
    → AreInstalledAt t (take i ms)
    → ((get_or xs i no_member).dc ≤ 3 → IsInstalled (slice_index_or (codes_of t).dc (get_or xs i no_member).dc None))
    → AreInstalledAt t (take (i + 1) ms)
installed-more t xs ms i e lt placed before next =
    let short : i < length ms = subst (λ (l : List Member). i < length l) e lt in
    let m = get_or ms i no_member in
    let at : get_or xs i no_member ≡ m = ap (λ (l : List Member). get_or l i no_member) e in
    let near = (all-got (λ (m : Member). (m.dc ≤ 3) × (m.ac ≤ 3)) ms i no_member placed short).0 in
    let one = subst (λ (k : Member). k.dc ≤ 3 → IsInstalled (slice_index_or (codes_of t).dc k.dc None)) at next near in
    subst (λ (l : List Member). AreInstalledAt t l) (sym (take_more ms i no_member short))
    (all-push (λ (m : Member). IsInstalled (slice_index_or (codes_of t).dc m.dc None)) (take i ms) m before one)

-- ---- components whose lines change

pub kept-shares : (xs : List Lines) (i : ℕ) (old new : Lines) → old ≡ get_or xs i old → share_of new ≡ share_of old
    → map share_of (set xs i new) ≡ map share_of xs
kept-shares xs i old new at e = map-set_same share_of xs i new old (e ∙ ap share_of at)

-- the one in a slot
pub share-at : (xs : List Lines) (shares : List Share) (i : ℕ) (l : Lines) → map share_of xs ≡ shares → i < length xs
    → l ≡ get_or xs i l → get_or shares i (share_of l) ≡ share_of l
share-at xs shares i l e lt at =
    ap (λ (s : List Share). get_or s i (share_of l)) (sym e) ∙ get_or-map share_of xs i l (share_of l) lt
    ∙ ap share_of (sym at)

pub placed-at : (shares : List Share) (i : ℕ) (s : Share) → i < length shares → get_or shares i s ≡ s
    → ArePlaced shares → s.member.dc ≤ 3
placed-at shares i s lt at all =
    subst (λ (s : Share). s.member.dc ≤ 3) at (all-got (λ (s : Share). s.member.dc ≤ 3) shares i s all lt)

-- ---- the differences of an MCU

pub no-unit : (t : Tables) (shares : List Share) (d : Data) → ReadsDifferences (unit_tables t (take 0 shares)) d d
unfolding mcu_tables
no-unit t shares d = differences-none d

unit-push : (t : Tables) (shares : List Share) (s : Share)
    → unit_tables t (shares ++ s ∷ []) ≡ unit_tables t shares
    ++ replicate (s.down * s.across) (difference_codes t s.member)
unfolding mcu_tables
unit-push t [] s = append-nil (replicate (s.down * s.across) (difference_codes t s.member))
unit-push t (x ∷ xs) s =
    let own = replicate (x.down * x.across) (difference_codes t x.member) in
    ap (λ (l : List Table). own ++ l) (unit-push t xs s)
    ∙ sym (append_assoc own (unit_tables t xs) (replicate (s.down * s.across) (difference_codes t s.member)))

pub unit-more : (t : Tables) (shares : List Share) (i : ℕ) (s : Share) → i < length shares → get_or shares i s ≡ s
    → unit_tables t (take (i + 1) shares) ≡ unit_tables t (take i shares)
    ++ replicate (s.down * s.across) (difference_codes t s.member)
unit-more t shares i s lt at =
    ap (λ (l : List Share). unit_tables t l) (take_more shares i s lt
    ∙ ap (λ (x : Share). take i shares ++ x ∷ []) at)
    ∙ unit-push t (take i shares) s

-- ---- the components of a scan, one after the other

shares-push : (count : ℕ) (cs : List Component) (ms : List Member) (m : Member)
    → shares_of count cs (ms ++ m ∷ []) ≡ shares_of count cs ms ++ share_at count m (slice_get cs m.component)
unfolding shares_of
shares-push count cs [] m = append-nil (share_at count m (slice_get cs m.component))
shares-push count cs (x ∷ xs) m =
    let own = share_at count x (slice_get cs x.component) in
    ap (λ (l : List Share). own ++ l) (shares-push count cs xs m)
    ∙ sym (append_assoc own (shares_of count cs xs) (share_at count m (slice_get cs m.component)))

pub shares-more : (count : ℕ) (cs : List Component) (xs ms : List Member) (i : ℕ) (o : Option Component) → xs ≡ ms
    → i < length xs → slice_get cs (get_or xs i no_member).component ≡ o
    → shares_of count cs (take (i + 1) ms) ≡ shares_of count cs (take i ms) ++ share_at count (get_or xs i no_member) o
shares-more count cs xs ms i o e lt at =
    let m = get_or xs i no_member in
    let short : i < length ms = subst (λ (l : List Member). i < length l) e lt in
    let same : get_or ms i no_member ≡ m = ap (λ (l : List Member). get_or l i no_member) (sym e) in
    ap (λ (l : List Member). shares_of count cs l) (take_more ms i no_member short
    ∙ ap (λ (x : Member). take i ms ++ x ∷ []) same)
    ∙ shares-push count cs (take i ms) m
    ∙ ap (λ (p : Option Component). shares_of count cs (take i ms) ++ share_at count m p) at

pub none-within : {A : Type 0} (xs ys : List A) (k : ℕ) → xs ≡ ys → false ≡ ltb k (length xs) → length ys ≤ k
none-within xs ys k e lacks = omega (arith, ltb-false k (length xs) (sym lacks), ap length e)

-- none where the frame has none
pub none-there : (cs : List Component) (k : ℕ) → length cs ≤ k → slice_get cs k ≡ None
none-there [] k h = refl
none-there (c ∷ cs) zero h = absurd (omega (arith, h))
none-there (c ∷ cs) (suc k) h = none-there cs k (omega (arith, h))

pub shares-none : (count : ℕ) (cs : List Component) (xs ms : List Member) (i : ℕ) (all : List Lines) → xs ≡ ms
    → i < length xs → length cs ≤ (get_or xs i no_member).component
    → map share_of all ≡ shares_of count cs (take i ms) → map share_of all ≡ shares_of count cs (take (i + 1) ms)
shares-none count cs xs ms i all e lt beyond before =
    before ∙ sym (append-nil (shares_of count cs (take i ms)))
    ∙ sym (shares-more count cs xs ms i None e lt (none-there cs (get_or xs i no_member).component beyond))

pub shares-next : (count : ℕ) (cs : List Component) (xs ms : List Member) (i : ℕ) (x : Component) (all new : List Lines)
    (l : Lines) → xs ≡ ms → i < length xs → slice_get cs (get_or xs i no_member).component ≡ Some x
    → new ≡ all ++ l ∷ [] → l.member ≡ get_or xs i no_member
    → l.across ≡ (if count == 1 then 1 else x.across) → l.down ≡ (if count == 1 then 1 else x.down)
    → map share_of all ≡ shares_of count cs (take i ms) → map share_of new ≡ shares_of count cs (take (i + 1) ms)
shares-next count cs xs ms i x all new l e lt at push member across down before =
    let share : share_of l ≡ share_in count (get_or xs i no_member) x =
    λ k. record { member = member k; across = across k; down = down k } in
    ap (map share_of) push ∙ map-append share_of all (l ∷ [])
    ∙ ap₂ (λ (a b : List Share). a ++ b) before (ap (λ (s : Share). s ∷ []) share)
    ∙ sym (shares-more count cs xs ms i (Some x) e lt at)

pub no-shares : (count : ℕ) (cs : List Component) (ms : List Member) (all : List Lines) → all ≡ []
    → map share_of all ≡ shares_of count cs (take 0 ms)
unfolding shares_of
no-shares count cs ms all e = ap (map share_of) e

pub all-shares : (count : ℕ) (cs : List Component) (xs ms : List Member) (i : ℕ) (all : List Lines) → xs ≡ ms
    → length xs ≤ i → map share_of all ≡ shares_of count cs (take i ms) → map share_of all ≡ shares_of count cs ms
all-shares count cs xs ms i all e end before =
    before ∙ ap (λ (l : List Member). shares_of count cs l)
    (take_all i ms (subst (λ (l : List Member). length l ≤ i) e end))
