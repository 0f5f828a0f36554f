-- Frame headers, component by component.
use Rattle.std.proofs.Common.{◌≡◌, ℕ, ◌+◌, ◌*◌, ◌<◌, ◌≤◌, true, false, List, [], ◌∷◌, ◌++◌, length}
use Rattle.std.proofs.Common.{map, refl, sym, ap, ◌∙◌, subst, arith, append_assoc, append-nil, length-append, rules}
use Rattle.std.specs.List.{AllByRecursion, flat_map, list_any}
use Rattle.std.specs.Prelude.{◌==◌}
use Rattle.std.proofs.lemmas.List.{flat_map_more, map-append}
use Rattle.jpeg_segments.specs.Frame.{Factors, greatest, is_count, is_destination, is_factor, is_lossless_number}
use Rattle.jpeg_segments.specs.Frame.{is_precision, is_taken}
use Rattle.jpeg_segments.specs.WrittenSegments.{AreComponents, IsComponent, factors_bytes}
use Rattle.jpeg_segments.specs.WrittenSegments.{frame_payload, u16_bytes}
use Rattle.jpeg_segments.proofs.FrameLemmas.{list_any_map}
use Rattle.zaxbriar_strict.specs.Heads.{IsUnread, ReadsFrame, factors_of, number_of}
use Rattle.zaxbriar_strict.specs.declared.frame.Component.{Component}
use Rattle.zaxbriar_strict.specs.declared.frame.Frame.{Frame}
use Rattle.zaxbriar_strict.specs.declared.frame.Process.{Process}
use Rattle.zaxbriar_strict.specs.declared.frame.Process.TheVariants.{Baseline, Extended, Lossless, Progressive}

-- ---- components

-- Components that were taken: the bytes before the rest are theirs, and they keep their rules.
pub record TakesComponents (number : ℕ) (cs : List Component) (old new : List ℕ) : Type 0 where
  pub parts : old ≡ flat_map factors_bytes (map factors_of cs) ++ new
  pub legal : AreComponents number [] (map factors_of cs)
  pub unsent : AllByRecursion IsUnread cs

pub none-taken : (number : ℕ) (cs : List Component) (bytes : List ℕ) → cs ≡ [] → TakesComponents number cs bytes bytes
unfolding AreComponents
none-taken number cs bytes e =
    subst (λ (l : List Component). TakesComponents number l bytes bytes) (sym e)
    (record { parts = refl; legal = tt; unsent = tt })

unsent-push : (cs : List Component) (c : Component) → AllByRecursion IsUnread cs
    → IsUnread c → AllByRecursion IsUnread (cs ++ c ∷ [])
unsent-push [] c all h = (h, tt)
unsent-push (x ∷ xs) c all h = (all.0, unsent-push xs c all.1 h)

components-push : (number : ℕ) (front xs : List Factors) (c : Factors) → AreComponents number front xs
    → IsComponent number (front ++ xs) c → AreComponents number front (xs ++ c ∷ [])
unfolding AreComponents
components-push number front [] c all h =
    (subst (λ (l : List Factors). IsComponent number l c) (append-nil front) h, tt)
components-push number front (x ∷ xs) c all h = (
  all.0,
  components-push number (front ++ x ∷ []) xs c all.1
      (subst (λ (l : List Factors). IsComponent number l c) (sym (append_assoc front (x ∷ []) xs)) h),
)

pub one-taken : {old middle new : List ℕ} (number : ℕ) (cs after : List Component) (c : Component)
    → after ≡ cs ++ c ∷ [] → TakesComponents number cs old middle → middle ≡ factors_bytes (factors_of c) ++ new
    → list_any (λ x. x.identifier == c.identifier) cs ≡ false → is_factor c.across ≡ true → is_factor c.down ≡ true
    → is_destination (is_lossless_number number) c.table ≡ true → IsUnread c
    → TakesComponents number after old new
one-taken {old} {middle} {new} number cs after c pushed t e fresh across down placed unsent =
    let fs = map factors_of cs in
    let other : is_taken fs c.identifier ≡ false =
    list_any_map factors_of (λ (x : Factors). x.identifier == c.identifier) cs ∙ fresh in
    let more : map factors_of after ≡ fs ++ factors_of c ∷ [] =
    ap (map factors_of) pushed ∙ map-append factors_of cs (c ∷ []) in
    record {
      parts = t.parts ∙ ap (λ (l : List ℕ). flat_map factors_bytes fs ++ l) e
          ∙ sym (append_assoc (flat_map factors_bytes fs) (factors_bytes (factors_of c)) new)
          ∙ ap (λ (l : List ℕ). l ++ new) (flat_map_more factors_bytes [] fs (factors_of c))
          ∙ ap (λ (l : List Factors). flat_map factors_bytes l ++ new) (sym more);
      legal = subst (λ (l : List Factors). AreComponents number [] l) (sym more)
          (components-push number [] fs (factors_of c) t.legal
          (record { is_new = other; across = across; down = down; placed = placed }));
      unsent = subst (λ (l : List Component). AllByRecursion IsUnread l) (sym pushed)
          (unsent-push cs c t.unsent unsent);
    }

-- ---- headers

factors-length : (cs : List Factors) → length (flat_map factors_bytes cs) ≡ 3 * length cs
factors-length [] = omega arith
factors-length (c ∷ cs) = search (rules, length-append, factors-length cs)

number-few : (p : Process) → number_of p ≤ 3
number-few Baseline = omega arith
number-few Extended = omega arith
number-few Progressive = omega arith
number-few Lossless = omega arith

-- the bytes before the components
abbrev size_bytes : ℕ → ℕ → ℕ → ℕ → List ℕ → List ℕ
size_bytes precision height width count rest =
    precision ∷ (u16_bytes height ++ (u16_bytes width ++ (count ∷ rest)))

size-same : (precision height width count p h w c : ℕ) (rest : List ℕ) → p ≡ precision → h ≡ height → w ≡ width
    → c ≡ count → size_bytes precision height width count rest ≡ size_bytes p h w c rest
size-same precision height width count p h w c rest e f g k =
    ap (λ (x : ℕ). size_bytes x height width count rest) (sym e)
    ∙ ap (λ (x : ℕ). size_bytes p x width count rest) (sym f)
    ∙ ap (λ (x : ℕ). size_bytes p h x count rest) (sym g)
    ∙ ap (λ (x : ℕ). size_bytes p h w x rest) (sym k)

pub reads-frame : (code precision height width count : ℕ) (bytes rest : List ℕ) (f : Frame)
    → code ≡ 192 + number_of f.process → bytes ≡ size_bytes precision height width count rest
    → length rest ≡ 3 * count → f.precision ≡ precision → f.height ≡ height → f.width ≡ width
    → is_precision (number_of f.process) precision ≡ true → is_count (number_of f.process) count ≡ true
    → 0 < height → height ≤ 65535 → 0 < width → width ≤ 65535
    → rest ≡ flat_map factors_bytes (map factors_of f.components.items)
    → AreComponents (number_of f.process) [] (map factors_of f.components.items)
    → AllByRecursion IsUnread f.components.items
    → f.most_across ≡ greatest (λ c. c.horizontal) (map factors_of f.components.items)
    → f.most_down ≡ greatest (λ c. c.vertical) (map factors_of f.components.items)
    → ReadsFrame code bytes f
unfolding frame_payload
reads-frame code precision height width count bytes rest f marked e long p h w precise counted high tall wide broad
    parts legal unsent across down =
    let fs = map factors_of f.components.items in
    let number = number_of f.process in
    let l = factors-length fs in
    let m = ap length parts in
    let many : length fs ≡ count = omega (arith, l, m, long) in
    record {
      marked = marked;
      are = e ∙ size-same precision height width count f.precision f.height f.width (length fs) rest p h w many
          ∙ ap (λ (x : List ℕ). size_bytes f.precision f.height f.width (length fs) x) parts;
      made = record {
        legal = record {
          numbered = number-few f.process;
          precise = subst (λ (k : ℕ). is_precision number k ≡ true) (sym p) precise;
          wide = omega (arith, w, wide);
          high = omega (arith, h, high);
          counted = subst (λ (k : ℕ). is_count number k ≡ true) (sym many) counted;
          components = legal;
        };
        wide = omega (arith, w, broad);
        high = omega (arith, h, tall);
        across = across;
        down = down;
      };
      unsent = unsent;
    }
