-- Steps of a picture that is made smaller line by line.
use Rattle.std.proofs.Common.{◌≡◌, ◌∙◌, ℕ, ◌+◌, ◌-◌, ◌*◌, ◌%◌, ◌^◌, ◌<◌, ◌≤◌, ◌⊎◌, inl, inr, List, [], ◌++◌, true}
use Rattle.std.proofs.Common.{refl, ap, arith, sym, subst, length, min, get_or, if◌then◌else◌, Bool, false}
use Rattle.std.proofs.lemmas.Bool.{and_parts, cases_lt, leb-true}
use Rattle.std.proofs.lemmas.List.{get_or-replicate, length-replicate}
use Rattle.std.specs.Prelude.{nat_le, replicate}
use Rattle.jpeg_segments.specs.declared.frame.Dimensions.{Dimensions}
use Rattle.jpeg_meaning.specs.declared.images.ImageInfo.{ImageInfo}
use Rattle.zaxbriar_samples.specs.Boxes.{box_line, boxed, components_a_pixel, edge, is_smaller, lines_in}
use Rattle.zaxbriar_samples.specs.Boxes.{reduced_bytes, reduction_of, resized, sum_over, texts_below}
use Rattle.zaxbriar_samples.specs.BoxSums.{AreSums, column_sum, sample_below}
use Rattle.zaxbriar_samples.specs.Boxing.{HasTaken, IsLine, IsPart}
use Rattle.zaxbriar_samples.specs.DecodedPictures.{Decoded, decoded}
use Rattle.zaxbriar_samples.specs.Png.{samples_a_line}
use Rattle.zaxbriar_samples.specs.Samples.{byte_at, is_wide, pair_at, sample_in}
use Rattle.zaxbriar_samples.specs.declared.boxes.Boxing.{Boxing}
use Rattle.zaxbriar_samples.specs.declared.boxes.Reduction.{Reduction}
use Rattle.zaxbriar_samples.proofs.BoxSums.{edge-first, edge-most, edge-next, joined-more, sum-more, sum-none}
use Rattle.zaxbriar_samples.proofs.PngSteps.{cut-sample, cut_line}

-- a smaller picture has no more lines
lower : (size : Dimensions) (info : ImageInfo) → is_smaller size info ≡ true → size.height ≤ info.height
lower size info h =
    let rest = and_parts (nat_le size.width info.width) _ h in
    let more = and_parts (nat_le size.height info.height) _ rest.1 in
    leb-true size.height info.height more.0

-- each line of boxes has lines
has-lines : (size : Dimensions) (info : ImageInfo) (precision y : ℕ) → is_smaller size info ≡ true → y < size.height
    → edge y info.height size.height < edge (y + 1) info.height size.height
has-lines size info precision y h low =
    edge-next y info.height size.height (omega arith) (lower size info h)

pub reduction-is : (info : ImageInfo) (precision : ℕ) (size : Dimensions) (components : ℕ)
    → components ≡ components_a_pixel info.pixel_format
    → ◌≡◌ {A = Reduction} (record {
      width = info.width;
      height = info.height;
      to_width = size.width;
      to_height = size.height;
      components = components;
      precision = precision;
    }) (reduction_of info precision size)
reduction-is info precision size components e =
    ap (λ (n : ℕ). record (reduction_of info precision size) { components = n }) e

-- sums before any line
no-sums : (pixels : List ℕ) (info : ImageInfo) (precision top : ℕ) (size : Dimensions) (sums : List ℕ)
    → ((i : ℕ) → i < length sums → get_or sums i 0 ≡ 0)
    → AreSums pixels (reduction_of info precision size) top 0 sums
unfolding column_sum
no-sums pixels info precision top size sums zeros i low =
    zeros i low ∙ sym (sum-none (sample_below pixels (reduction_of info precision size) top i))

-- a line of boxes of which nothing was taken
part-none : (pixels : List ℕ) (info : ImageInfo) (precision : ℕ) (size : Dimensions) (taken : ℕ) (b : Boxing)
    → is_smaller size info ≡ true → taken ≡ edge b.made info.height size.height → b.lines ≡ 0
    → ((i : ℕ) → i < length b.sums.items → get_or b.sums.items i 0 ≡ 0) → b.made < size.height
    → IsPart pixels info precision size taken b
part-none pixels info precision size taken b smaller at none zeros low =
    let next : edge b.made info.height size.height < edge (b.made + 1) info.height size.height
    = has-lines size info precision b.made smaller low in
    record {
      place = omega arith;
      inside = omega arith;
      sums_are = subst (λ (n : ℕ). AreSums pixels (reduction_of info precision size)
          (edge b.made info.height size.height) n b.sums.items) (sym none)
          (no-sums pixels info precision (edge b.made info.height size.height) size b.sums.items zeros);
      most = λ i here. let z = zeros i here in omega (arith, z);
    }

pub has-begun : (pixels : List ℕ) (info : ImageInfo) (precision : ℕ) (size : Dimensions) (b : Boxing)
    → is_smaller size info ≡ true → b.info ≡ resized info size → b.reduction ≡ reduction_of info precision size
    → b.pixels.items ≡ [] → b.made ≡ 0 → b.lines ≡ 0
    → ((i : ℕ) → i < length b.sums.items → get_or b.sums.items i 0 ≡ 0)
    → HasTaken pixels info precision size 0 b
unfolding texts_below
has-begun pixels info precision size b smaller said how empty made none zeros = record {
  smaller = smaller;
  info_is = said;
  reduction_is = how;
  made_are = empty ∙ ap (λ (n : ℕ). texts_below n (box_line pixels (reduction_of info precision size))) (sym made);
  within = omega arith;
  part = part-none pixels info precision size 0 b smaller
      (sym (ap (λ (n : ℕ). edge n info.height size.height) made ∙ edge-first info.height size.height)) none zeros;
}

pub zeros-of : (n : ℕ) (xs : List ℕ) → xs ≡ replicate n 0 → (i : ℕ) → i < length xs → get_or xs i 0 ≡ 0
zeros-of n xs e i low =
    ap (λ (l : List ℕ). get_or l i 0) e
    ∙ get_or-replicate n i 0 0 (omega (arith, low, ap (λ (l : List ℕ). length l) e ∙ length-replicate n 0))

-- ---- a line

small-byte : (xs : List ℕ) (i : ℕ) → ((k : ℕ) → get_or xs k 0 < 256) → byte_at xs i ≤ 255
unfolding byte_at
small-byte xs i small = omega (arith, small i)

small-sample : (precision : ℕ) (xs : List ℕ) (i : ℕ) → ((k : ℕ) → get_or xs k 0 < 256) → sample_in precision xs i ≤ 65535
unfolding sample_in pair_at
small-sample precision xs i small = go (is_wide precision)
  where
    go : (wide : Bool) → (if wide then pair_at xs i else byte_at xs i) ≤ 65535
    go true = omega (arith, small-byte xs (2 * i) small, small-byte xs (2 * i + 1) small)
    go false = omega (arith, small-byte xs i small)

-- a sample of the next line
line-sample : (pixels : List ℕ) (info : ImageInfo) (precision : ℕ) (size : Dimensions) (top lines row : ℕ)
    (line : List ℕ) (i : ℕ) → row ≡ top + lines → IsLine info precision pixels row line → i < samples_a_line info
    → sample_in precision line i ≡ sample_below pixels (reduction_of info precision size) top i lines
unfolding sample_below
line-sample pixels info precision size top lines row line i at is low =
    let first : 0 * samples_a_line info + i ≡ i = omega arith in
    ap (λ (xs : List ℕ). sample_in precision xs i) is.0
    ∙ ap (sample_in precision (cut_line info precision pixels row)) (sym first)
    ∙ cut-sample precision (samples_a_line info) row i pixels low
    ∙ ap (λ (n : ℕ). sample_in precision pixels (n * samples_a_line info + i)) at

-- the sums of one line more
pub record AddsLine (precision : ℕ) (before after line : List ℕ) : Type 0 where
  pub long : length after ≡ length before
  pub each : (i : ℕ) → i < length before
      → get_or after i 0 ≡ (get_or before i 0 + sample_in precision line i) % 2 ^ 32
  pub bytes : (k : ℕ) → get_or line k 0 < 256

-- a line has a sample for each sum
pub line-long : (pixels : List ℕ) (info : ImageInfo) (precision : ℕ) (size : Dimensions) (taken : ℕ) (line : List ℕ)
    (old : Boxing) → IsLine info precision pixels taken line → HasTaken pixels info precision size taken old
    → length old.sums.items ≡ old.reduction.width * old.reduction.components
    → length line ≡ length old.sums.items * (if is_wide old.reduction.precision then 2 else 1)
line-long pixels info precision size taken line old is h sized =
    let how = h.reduction_is in
    let count : length old.sums.items ≡ samples_a_line info
    = subst (λ (r : Reduction). length old.sums.items ≡ r.width * r.components) how sized in
    subst (λ (r : Reduction). length line ≡ length old.sums.items * (if is_wide r.precision then 2 else 1)) (sym how)
    (is.1 ∙ ap (λ (n : ℕ). n * (if is_wide precision then 2 else 1)) (sym count))

pub adds-line : (precision : ℕ) (before slice made after line : List ℕ) → slice ≡ before → after ≡ made
    → length made ≡ length slice
    → (length line ≡ length slice * (if is_wide precision then 2 else 1) → (i : ℕ) → i < length slice
    → get_or made i 0 ≡ (get_or slice i 0 + sample_in precision line i) % 2 ^ 32)
    → length line ≡ length before * (if is_wide precision then 2 else 1) → ((k : ℕ) → get_or line k 0 < 256)
    → AddsLine precision before after line
adds-line precision before slice made after line same kept long added enough bytes = record {
  long = ap (λ (l : List ℕ). length l) kept ∙ long ∙ ap (λ (l : List ℕ). length l) same;
  each = λ i low. ap (λ (l : List ℕ). get_or l i 0) kept
      ∙ added (enough ∙ ap (λ (l : List ℕ). length l * (if is_wide precision then 2 else 1)) (sym same)) i
      (subst (λ (l : List ℕ). i < length l) (sym same) low)
      ∙ ap (λ (l : List ℕ). (get_or l i 0 + sample_in precision line i) % 2 ^ 32) same;
  bytes = bytes;
}

sum-added : (sum sample lines : ℕ) → sum ≤ 65535 * lines → sample ≤ 65535 → lines < 65535
    → ((sum + sample) % 2 ^ 32 ≡ sum + sample) × (sum + sample ≤ 65535 * (lines + 1))
sum-added sum sample lines h s l = (omega arith, omega arith)

sums-more : (pixels : List ℕ) (info : ImageInfo) (precision : ℕ) (size : Dimensions) (top lines row : ℕ)
    (before after line : List ℕ) → row ≡ top + lines → IsLine info precision pixels row line
    → length before ≡ samples_a_line info → lines < 65535 → AddsLine precision before after line
    → AreSums pixels (reduction_of info precision size) top lines before
    → ((i : ℕ) → i < length before → get_or before i 0 ≤ 65535 * lines)
    → (i : ℕ) → i < length after
    → (get_or after i 0 ≡ column_sum pixels (reduction_of info precision size) top (lines + 1) i)
    × (get_or after i 0 ≤ 65535 * (lines + 1))
unfolding column_sum
sums-more pixels info precision size top lines row before after line at is sized few adds are most i low =
    let here : i < length before = omega (arith, adds.long) in
    let r = reduction_of info precision size in
    let added = sum-added (get_or before i 0) (sample_in precision line i) lines (most i here)
    (small-sample precision line i adds.bytes) few in
    let value : get_or after i 0 ≡ get_or before i 0 + sample_in precision line i = adds.each i here ∙ added.0 in (
      value ∙ ap (λ (n : ℕ). n + sample_in precision line i) (are i here)
          ∙ ap (λ (n : ℕ). sum_over lines (sample_below pixels r top i) + n)
          (line-sample pixels info precision size top lines row line i at is (omega (arith, sized)))
          ∙ sym (sum-more lines (sample_below pixels r top i)),
      subst (λ (n : ℕ). n ≤ 65535 * (lines + 1)) (sym value) added.1,
    )

-- by how many bytes a sample has
pub wide-sample : (precision : ℕ) (xs : List ℕ) (i : ℕ) → is_wide precision ≡ true
    → sample_in precision xs i ≡ pair_at xs i
unfolding sample_in
wide-sample precision xs i h = go (is_wide precision) h
  where
    go : (wide : Bool) → wide ≡ true → ◌≡◌ {A = ℕ} (if wide then pair_at xs i else byte_at xs i) (pair_at xs i)
    go true h = refl
    go false h = absurd (let n : ⊥ = cc in n)

pub narrow-sample : (precision : ℕ) (xs : List ℕ) (i : ℕ) → is_wide precision ≡ false
    → sample_in precision xs i ≡ byte_at xs i
unfolding sample_in
narrow-sample precision xs i h = go (is_wide precision) h
  where
    go : (wide : Bool) → wide ≡ false → ◌≡◌ {A = ℕ} (if wide then pair_at xs i else byte_at xs i) (byte_at xs i)
    go false h = refl
    go true h = absurd (let n : ⊥ = cc in n)

pub wide-room : (precision count size i : ℕ) → is_wide precision ≡ true
    → size ≡ count * (if is_wide precision then 2 else 1) → i < count → 2 * i + 1 < size
wide-room precision count size i h e low = go (is_wide precision) h e
  where
    go : (wide : Bool) → wide ≡ true → size ≡ count * (if wide then 2 else 1) → 2 * i + 1 < size
    go true h e = omega (arith, e, low)
    go false h e = absurd (let n : ⊥ = cc in n)

pub narrow-room : (precision count size i : ℕ) → is_wide precision ≡ false
    → size ≡ count * (if is_wide precision then 2 else 1) → i < count → i < size
narrow-room precision count size i h e low = go (is_wide precision) h e
  where
    go : (wide : Bool) → wide ≡ false → size ≡ count * (if wide then 2 else 1) → i < size
    go false h e = omega (arith, e, low)
    go true h e = absurd (let n : ⊥ = cc in n)

-- ---- what a line makes of a picture

-- a line after the last: nothing changes
pub has-passed : (pixels : List ℕ) (info : ImageInfo) (precision : ℕ) (size : Dimensions) (taken : ℕ) (b : Boxing)
    → b.reduction.to_height ≤ b.made → HasTaken pixels info precision size taken b
    → HasTaken pixels info precision size (taken + 1) b
has-passed pixels info precision size taken b past h =
    let to : b.reduction.to_height ≡ size.height = ap (λ r. r.to_height) h.reduction_is in
    record {
      smaller = h.smaller;
      info_is = h.info_is;
      reduction_is = h.reduction_is;
      made_are = h.made_are;
      within = h.within;
      part = λ low. absurd (let n : ⊥ = omega arith in n);
    }

-- What is known before a line is taken that lies in a line of boxes.
record Takes (pixels : List ℕ) (info : ImageInfo) (precision : ℕ) (size : Dimensions) (taken : ℕ) (old : Boxing)
    (sums : List ℕ) : Type 0 where
  low : old.made < size.height
  part : IsPart pixels info precision size taken old
  few : lines_in (reduction_of info precision size) old.made ≤ 65535
  are : (i : ℕ) → i < length sums
      → (get_or sums i 0 ≡ column_sum pixels (reduction_of info precision size)
      (edge old.made info.height size.height) (old.lines + 1) i)
      × (get_or sums i 0 ≤ 65535 * (old.lines + 1))

takes : (pixels : List ℕ) (info : ImageInfo) (precision : ℕ) (size : Dimensions) (taken : ℕ) (line sums : List ℕ)
    (old : Boxing) → IsLine info precision pixels taken line → HasTaken pixels info precision size taken old
    → old.made < old.reduction.to_height → length old.sums.items ≡ old.reduction.width * old.reduction.components
    → AddsLine old.reduction.precision old.sums.items sums line → lines_in old.reduction old.made ≤ 65535
    → Takes pixels info precision size taken old sums
takes pixels info precision size taken line sums old is h low sized adds few =
    let how = h.reduction_is in
    let below : old.made < size.height = subst (λ (r : Reduction). old.made < r.to_height) how low in
    let part = h.part below in
    let short : lines_in (reduction_of info precision size) old.made ≤ 65535
    = subst (λ (r : Reduction). lines_in r old.made ≤ 65535) how few in
    let room : old.lines < 65535 = omega (arith, part.inside, short) in
    record {
      low = below;
      part = part;
      few = short;
      are = sums-more pixels info precision size (edge old.made info.height size.height) old.lines taken
          old.sums.items sums line part.place is
          (subst (λ (r : Reduction). length old.sums.items ≡ r.width * r.components) how sized) room
          (subst (λ (r : Reduction). AddsLine r.precision old.sums.items sums line) how adds) part.sums_are part.most;
    }

-- A line of a line of boxes, and not its last.
pub has-more : (pixels : List ℕ) (info : ImageInfo) (precision : ℕ) (size : Dimensions) (taken : ℕ) (line : List ℕ)
    (old new : Boxing) → IsLine info precision pixels taken line → HasTaken pixels info precision size taken old
    → old.made < old.reduction.to_height → length old.sums.items ≡ old.reduction.width * old.reduction.components
    → AddsLine old.reduction.precision old.sums.items new.sums.items line
    → lines_in old.reduction old.made ≤ 65535
    → (new.info ≡ old.info) × (new.reduction ≡ old.reduction) × (new.made ≡ old.made) × (new.pixels.items ≡ old.pixels.items)
    → new.lines ≡ min (old.lines + 1) (2 ^ 16 - 1) → new.lines < lines_in old.reduction old.made
    → HasTaken pixels info precision size (taken + 1) new
has-more pixels info precision size taken line old new is h low sized adds few same counted inside =
    let t = takes pixels info precision size taken line new.sums.items old is h low sized adds few in
    let r : Reduction = reduction_of info precision size in
    let next : new.lines ≡ old.lines + 1 = omega (arith, counted, t.part.inside, t.few) in
    let more : new.lines < lines_in r old.made
    = subst (λ (k : Reduction). new.lines < lines_in k old.made) h.reduction_is inside in
    record {
      smaller = h.smaller;
      info_is = same.0 ∙ h.info_is;
      reduction_is = same.1 ∙ h.reduction_is;
      made_are = same.3 ∙ h.made_are ∙ ap (λ (n : ℕ). texts_below n (box_line pixels r)) (sym same.2);
      within = subst (λ (n : ℕ). n ≤ size.height) (sym same.2) h.within;
      part = λ _. record {
        place = subst (λ (n : ℕ). taken + 1 ≡ edge n info.height size.height + new.lines) (sym same.2)
            (omega (arith, next, t.part.place));
        inside = subst (λ (n : ℕ). new.lines < lines_in r n) (sym same.2) more;
        sums_are = subst (λ (n : ℕ). AreSums pixels r (edge n info.height size.height) new.lines new.sums.items)
            (sym same.2)
            (subst (λ (n : ℕ). AreSums pixels r (edge old.made info.height size.height) n new.sums.items) (sym next)
            (λ i here. (t.are i here).0));
        most = λ i here. subst (λ (n : ℕ). get_or new.sums.items i 0 ≤ 65535 * n) (sym next) (t.are i here).1;
      };
    }

-- The last line of a line of boxes: a line of the smaller picture is made.
pub has-line : (pixels : List ℕ) (info : ImageInfo) (precision : ℕ) (size : Dimensions) (taken : ℕ)
    (line sums : List ℕ) (old new : Boxing)
    → IsLine info precision pixels taken line → HasTaken pixels info precision size taken old
    → old.made < old.reduction.to_height → length old.sums.items ≡ old.reduction.width * old.reduction.components
    → AddsLine old.reduction.precision old.sums.items sums line → lines_in old.reduction old.made ≤ 65535
    → lines_in old.reduction old.made ≤ old.lines + 1
    → ((p : List ℕ) → AreSums p old.reduction (edge old.made old.reduction.height old.reduction.to_height)
    (lines_in old.reduction old.made) sums
    → new.pixels.items ≡ old.pixels.items ++ box_line p old.reduction old.made)
    → (new.info ≡ old.info) × (new.reduction ≡ old.reduction) × (new.made ≡ old.made + 1) × (new.lines ≡ 0)
    → ((i : ℕ) → i < length new.sums.items → get_or new.sums.items i 0 ≡ 0)
    → HasTaken pixels info precision size (taken + 1) new
has-line pixels info precision size taken line sums old new is h low sized adds few last joined same zeros =
    let t = takes pixels info precision size taken line sums old is h low sized adds few in
    let r : Reduction = reduction_of info precision size in
    let ends : lines_in r old.made ≤ old.lines + 1
    = subst (λ (k : Reduction). lines_in k old.made ≤ old.lines + 1) h.reduction_is last in
    let whole : old.lines + 1 ≡ lines_in r old.made = omega (arith, ends, t.part.inside) in
    let there : AreSums pixels r (edge old.made info.height size.height) (lines_in r old.made) sums
    = subst (λ (n : ℕ). AreSums pixels r (edge old.made info.height size.height) n sums) whole
    (λ i here. (t.are i here).0) in
    let made = subst (λ (k : Reduction). (p : List ℕ) → AreSums p k (edge old.made k.height k.to_height)
    (lines_in k old.made) sums → new.pixels.items ≡ old.pixels.items ++ box_line p k old.made) h.reduction_is joined in
    let after : edge old.made info.height size.height < edge (old.made + 1) info.height size.height
    = has-lines size info precision old.made h.smaller t.low in
    let at : taken + 1 ≡ edge (old.made + 1) info.height size.height = omega (arith, t.part.place, whole, after) in
    record {
      smaller = h.smaller;
      info_is = same.0 ∙ h.info_is;
      reduction_is = same.1 ∙ h.reduction_is;
      made_are = joined-more old.made (box_line pixels r) [] old.pixels.items new.pixels.items h.made_are (made pixels there)
          ∙ ap (λ (n : ℕ). texts_below n (box_line pixels r)) (sym same.2);
      within = omega (arith, same.2, t.low);
      part = part-none pixels info precision size (taken + 1) new h.smaller
          (at ∙ ap (λ (n : ℕ). edge n info.height size.height) (sym same.2)) same.3 zeros;
    }

-- ---- all lines

all-made : (pixels : List ℕ) (info : ImageInfo) (precision : ℕ) (size : Dimensions) (b : Boxing)
    → HasTaken pixels info precision size info.height b → b.made ≡ size.height
all-made pixels info precision size b h = go (cases_lt b.made size.height)
  where
    go : (b.made < size.height) ⊎ (size.height ≤ b.made) → b.made ≡ size.height
    go (inr all) = omega (arith, h.within)
    go (inl low) =
        let part = h.part low in
        let end : edge (b.made + 1) info.height size.height ≤ info.height
        = edge-most (b.made + 1) info.height size.height (omega arith) (omega arith) in
        absurd (let n : ⊥ = omega (arith, part.place, part.inside) in n)

chosen : (test : Bool) (a b : Decoded) → test ≡ true → (if test then a else b) ≡ a
chosen true a b h = refl
chosen false a b h = absurd (let n : ⊥ = cc in n)

pub has-all : (pixels : List ℕ) (info : ImageInfo) (precision : ℕ) (size : Dimensions) (b : Boxing)
    → HasTaken pixels info precision size info.height b
    → decoded b.info b.reduction.precision b.pixels.items ≡ boxed size (decoded info precision pixels)
unfolding reduced_bytes
has-all pixels info precision size b h =
    let r : Reduction = reduction_of info precision size in
    ap (λ (i : ImageInfo). decoded i b.reduction.precision b.pixels.items) h.info_is
    ∙ ap (λ (k : Reduction). decoded (resized info size) k.precision b.pixels.items) h.reduction_is
    ∙ ap (decoded (resized info size) precision)
    (h.made_are ∙ ap (λ (n : ℕ). texts_below n (box_line pixels r)) (all-made pixels info precision size b h))
    ∙ sym (chosen (is_smaller size info) (decoded (resized info size) precision (reduced_bytes pixels r))
    (decoded info precision pixels) h.smaller)
