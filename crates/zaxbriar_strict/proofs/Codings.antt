-- The components of a scan and their tables, one after the other.
use Rattle.std.proofs.Common.{◌≡◌, ℕ, zero, suc, ◌<◌, ◌≤◌, List, [], ◌∷◌, ◌++◌, length, get_or, refl}
use Rattle.std.proofs.Common.{take, None, Some, sym, ap, ◌∙◌, ◌+◌, subst, arith}
use Rattle.std.specs.Prelude.{◌==◌, Bool, Option, false, nat_lt, slice_get, slice_index_or, true}
use Rattle.std.proofs.lemmas.List.{take_more}
use Rattle.std.specs.List.{AllByRecursion}
use Rattle.jpeg_bits.specs.Codes.{Table}
use Rattle.jpeg_bits.specs.Passes.{Pass}
use Rattle.jpeg_bits.specs.declared.huffman.codes.HuffmanTableClass.{HuffmanTableClass}
use Rattle.jpeg_bits.specs.declared.huffman.codes.HuffmanTableClass.TheVariants.{AC, DC}
use Rattle.jpeg_segments.specs.Frame.{Frame as WrittenFrame}
use Rattle.jpeg_meaning.specs.Scans.{no_table}
use Rattle.jpeg_meaning.specs.WrittenScans.{IsTableAt}
use Rattle.jpeg_meaning.specs.ScanSegments.{Coding}
use Rattle.zaxbriar_strict.specs.Contexts.{IsInstalled}
use Rattle.zaxbriar_strict.specs.Heads.{IsMade, members_of, written_frame}
use Rattle.zaxbriar_strict.specs.Installed.{codes_of, steps_of}
use Rattle.zaxbriar_strict.specs.Kept.{IsKept}
use Rattle.zaxbriar_strict.specs.ScanData.{AreCodedBy, AreInstalled, HasMembers}
use Rattle.zaxbriar_strict.specs.declared.frame.Component.{Component}
use Rattle.zaxbriar_strict.specs.declared.frame.Frame.{Frame}
use Rattle.zaxbriar_strict.specs.declared.scan.Member.{Member}
use Rattle.zaxbriar_strict.specs.declared.scan.Scan.{Scan}
use Rattle.zaxbriar_strict.specs.declared.tables.Tables.{Tables}
use Rattle.zaxbriar_strict.proofs.FrameComponents.{component-at, component_in, own-table}
use Rattle.zaxbriar_strict.proofs.SameFrames.{same-length, same-made, same-written}

one-item : {A : Type 0} (xs : List A) (d : A) → length xs ≡ 1 → xs ≡ get_or xs 0 d ∷ []
one-item [] d one = absurd (omega (arith, one))
one-item (y ∷ []) d one = refl
one-item (y ∷ z ∷ more) d one = absurd (omega (arith, one))

-- ---- their tables

coded-more : (p : Pass) (t : Tables) (f : WrittenFrame) (ms ns : List Member) (ks js : List Coding) → AreCodedBy p t f ms ks
    → AreCodedBy p t f ns js → AreCodedBy p t f (ms ++ ns) (ks ++ js)
unfolding AreCodedBy
coded-more p t f [] ns [] js are more = more
coded-more p t f (m ∷ ms) ns (k ∷ ks) js are more = (are.0, coded-more p t f ms ns ks js are.1 more)
coded-more p t f [] ns (k ∷ ks) js are more = absurd are
coded-more p t f (m ∷ ms) ns [] js are more = absurd are

pub none-installed : (p : Pass) (t : Tables) (f : WrittenFrame) → AreInstalled p t f []
unfolding AreCodedBy
none-installed p t f = record { codings = []; are = tt }

installed-more : (p : Pass) (t : Tables) (f : WrittenFrame) (ms ns : List Member) → AreInstalled p t f ms → AreInstalled p t f ns
    → AreInstalled p t f (ms ++ ns)
installed-more p t f ms ns before more = record {
  codings = before.codings ++ more.codings;
  are = coded-more p t f ms ns before.codings more.codings before.are more.are;
}

-- a table where it is needed
table-at : (b : Bool) (class : HuffmanTableClass) (tables : List (Option Table)) (destination : ℕ)
    → (b ≡ true → IsInstalled (slice_index_or tables destination None))
    → (t : Table) × IsTableAt b class tables destination t
table-at true class tables destination h = let i = h refl in (i.table, i.is)
table-at false class tables destination h = (no_table class, refl)

-- of one component, by its tables
pub member-installed : (p : Pass) (t : Tables) (f : Frame) (m : Member) (x : Component) → IsMade f
    → slice_get f.components.items m.component ≡ Some x → IsInstalled (slice_index_or (steps_of t) x.table None)
    → ((p.ss == 0) ≡ true → IsInstalled (slice_index_or (codes_of t).dc m.dc None))
    → (nat_lt 0 p.se ≡ true → IsInstalled (slice_index_or (codes_of t).ac m.ac None))
    → AreInstalled p t (written_frame f) (m ∷ [])
unfolding AreCodedBy
member-installed p t f m x made at s dc ac =
    let d = table-at (p.ss == 0) DC (codes_of t).dc m.dc dc in
    let a = table-at (nat_lt 0 p.se) AC (codes_of t).ac m.ac ac in
    record {
      codings = record {
        index = m.component;
        component = component_in f x;
        quantization = s.table;
        dc = d.0;
        ac = a.0;
      } ∷ [];
      are = (
        record {
          index = λ i. m.component;
          component = component-at f m.component x made at;
          quantization = ap (λ (n : ℕ). slice_index_or (steps_of t) n None) (own-table f x) ∙ s.is;
          dc = d.1;
          ac = a.1;
        },
        tt,
      );
    }

-- ---- their places in the frame

abbrev pub no_member : Member
no_member = record { component = 0; dc = 0; ac = 0 }

-- The component in a slot of a scan.
pub record IsMember (f : Frame) (m : Member) : Type 0 where
  pub within : m.component < length f.components.items
  pub dc : m.dc ≤ 3
  pub ac : m.ac ≤ 3

pub all-got : {A : Type 0} (P : A → Type 0) (xs : List A) (i : ℕ) (d : A) → AllByRecursion P xs → i < length xs
    → P (get_or xs i d)
all-got P [] i d all lt = absurd (omega arith)
all-got P (x ∷ xs) zero d all lt = all.0
all-got P (x ∷ xs) (suc i) d all lt = all-got P xs i d all.1 (omega arith)

pub member-in : (f : Frame) (s : Scan) (i : ℕ) → HasMembers f s → i < length (members_of s)
    → IsMember f (get_or (members_of s) i no_member)
member-in f s i has lt =
    let ms = members_of s in
    let tables = all-got (λ (m : Member). (m.dc ≤ 3) × (m.ac ≤ 3)) ms i no_member has.tables lt in
    record {
      within = all-got (λ (m : Member). m.component < length f.components.items) ms i no_member has.within lt;
      dc = tables.0;
      ac = tables.1;
    }

-- One more component of a scan has its tables: those of a frame that is kept.
pub installed-next : (p : Pass) (t : Tables) (f g : Frame) (s : Scan) (xs : List Member) (i : ℕ) → xs ≡ members_of s
    → i < length xs → IsKept f g → IsMade f → HasMembers f s → AreInstalled p t (written_frame f) (take i (members_of s))
    → (let m = get_or xs i no_member in
    IsMade g → m.component < length g.components.items → m.dc ≤ 3 → m.ac ≤ 3
    → AreInstalled p t (written_frame g) (m ∷ []))
    → AreInstalled p t (written_frame f) (take (i + 1) (members_of s))
installed-next p t f g s xs i e lt kept made has before next =
    let ms = members_of s in
    let m = get_or xs i no_member in
    let same : m ≡ get_or ms i no_member = ap (λ (l : List Member). get_or l i no_member) e in
    let short : i < length ms = omega (arith, lt, ap length e) in
    let at = subst (IsMember f) (sym same) (member-in f s i has short) in
    let within : m.component < length g.components.items = omega (arith, at.within, same-length kept.same) in
    let one = next (same-made kept.same made) within at.dc at.ac in
    let all =
    installed-more p t (written_frame f) (take i ms) (m ∷ []) before
    (subst (λ (w : WrittenFrame). AreInstalled p t w (m ∷ [])) (same-written kept.same) one) in
    let more : take i ms ++ m ∷ [] ≡ take (i + 1) ms =
    ap (λ (k : Member). take i ms ++ k ∷ []) same ∙ sym (take_more ms i no_member short) in
    subst (AreInstalled p t (written_frame f)) more all

-- A scan of one component has that one.
pub scan-alone : (s : Scan) (xs : List Member) → xs ≡ members_of s → length xs ≡ 1
    → members_of s ≡ get_or xs 0 no_member ∷ []
scan-alone s xs e one = sym e ∙ one-item xs no_member one
