-- The planes of components, each at its own size.
use Rattle.std.proofs.lemmas.Grind.{common_steps}
use Rattle.std.proofs.Common.{◌≡◌, ◌∙◌, ℕ, zero, suc, ◌+◌, ◌*◌, ◌<◌, ◌≤◌, List, [], ◌∷◌, ◌++◌, ap, ap₂, sym, refl, arith}
use Rattle.std.proofs.Common.{length, map, take, set, get_or, Some, Result, IfOk, Vec, Global}
use Rattle.std.proofs.Math.Nat.{mul-le-mul_left, mul-le-mul_right, mul_comm, suc-mul}
use Rattle.std.proofs.lemmas.List.{append-nil, append_assoc, length-append, map-append, map-set, take_more}
use Rattle.std.proofs.lemmas.List.FromFn.{length-map-range_with_len}
use Rattle.std.proofs.lemmas.Result.{IfOk-weaker}
use Rattle.std.specs.List.{AllByRecursion}
use Rattle.jpeg_bits.specs.declared.error.Error.{Error}
use Rattle.jpeg_segments.specs.Frame.{Component, Frame, ceiling}
use Rattle.jpeg_segments.specs.declared.frame.CodingProcess.TheVariants.{Lossless}
use Rattle.jpeg_segments.proofs.Ceilings.{ceiling-low}
use Rattle.jpeg_pixels.specs.Pictures.{AreWhole}
use Rattle.jpeg_pixels.specs.Planes.{cropped}
use Rattle.jpeg_pixels.specs.Scaled.{IsScale}
use Rattle.jpeg_lossless.specs.Pictures.{ArePlanesOf, sample_bytes}
use Rattle.jpeg_meaning.specs.FoundPlanes.{bytes_of_samples, own_plane, own_planes}
use Rattle.jpeg_meaning.specs.InTurn.{Fits}
use Rattle.jpeg_meaning.specs.Sound.{IsDecodedFrame}
use Rattle.jpeg_decoder.specs.Bytes.{AreOwnPlanes, bytes_a_sample}
use Rattle.jpeg_decoder.specs.Steps.{HasOwnSize}
use Rattle.jpeg_decoder.proofs.Pictures.PictureSizes.{precision-8}

-- ---- planes of blocks, the first of which are cropped

-- the first n planes are those of their components' own sizes
pub owned_to : ℕ → List Component → List (List ℕ) → List (List ℕ)
owned_to zero components planes = planes
owned_to (suc n) (c ∷ components) (plane ∷ planes) = own_plane c plane ∷ owned_to n components planes
owned_to (suc n) _ planes = planes

pub owned-none : (components : List Component) (planes : List (List ℕ)) → owned_to 0 components planes ≡ planes
unfolding owned_to
owned-none components planes = refl

pub owned-length : (n : ℕ) (components : List Component) (planes : List (List ℕ))
    → length (owned_to n components planes) ≡ length planes
unfolding owned_to
owned-length zero components planes = refl
owned-length (suc n) [] planes = refl
owned-length (suc n) (c ∷ components) [] = refl
owned-length (suc n) (c ∷ components) (plane ∷ planes) = ap suc (owned-length n components planes)

-- the next one is still whole
pub owned-there : (n : ℕ) (components : List Component) (planes : List (List ℕ)) (d : List ℕ)
    → get_or (owned_to n components planes) n d ≡ get_or planes n d
unfolding owned_to
owned-there zero components planes d = refl
owned-there (suc n) [] planes d = refl
owned-there (suc n) (c ∷ components) [] d = refl
owned-there (suc n) (c ∷ components) (plane ∷ planes) d = owned-there n components planes d

next-owned : (n : ℕ) (components : List Component) (planes : List (List ℕ)) (c : Component) (d : List ℕ) (e : List ℕ)
    → n < length components → n < length planes
    → set (set (owned_to n components planes) n e) n (own_plane (get_or components n c) (get_or planes n d))
    ≡ owned_to (suc n) components planes
unfolding owned_to
next-owned n [] planes c d e h k = absurd (omega arith)
next-owned n (x ∷ components) [] c d e h k = absurd (omega arith)
next-owned zero (x ∷ components) (plane ∷ planes) c d e h k = refl
next-owned (suc n) (x ∷ components) (plane ∷ planes) c d e h k =
    ap (λ (l : List (List ℕ)). own_plane x plane ∷ l) (next-owned n components planes c d e (omega arith) (omega arith))

pub owned-all : (n : ℕ) (components : List Component) (planes : List (List ℕ)) → length planes ≡ length components
    → length planes ≤ n → owned_to n components planes ≡ own_planes components planes
unfolding owned_to own_planes
owned-all zero [] [] e h = refl
owned-all zero (c ∷ components) [] e h = refl
owned-all zero components (plane ∷ planes) e h = absurd (omega arith)
owned-all (suc n) [] [] e h = refl
owned-all (suc n) [] (plane ∷ planes) e h = absurd (omega arith)
owned-all (suc n) (c ∷ components) [] e h = refl
owned-all (suc n) (c ∷ components) (plane ∷ planes) e h =
    ap (λ (l : List (List ℕ)). own_plane c plane ∷ l) (owned-all n components planes (omega arith) (omega arith))

-- one more, where the code has put it into the place of the plane that it took
pub owned-more : (n : ℕ) (components : List Component) (planes : List (List ℕ)) (now taken new : List (Vec ℕ Global))
    (c : Component) (d : List ℕ) (empty plane : Vec ℕ Global) → map (λ v. v.items) now ≡ owned_to n components planes
    → taken ≡ set now n empty → new ≡ set taken n plane
    → plane.items ≡ own_plane (get_or components n c) (get_or planes n d) → n < length components → n < length planes
    → map (λ v. v.items) new ≡ owned_to (n + 1) components planes
owned-more n components planes now taken new c d empty plane is took put made h k =
    let next : n + 1 ≡ suc n = omega arith in
    rw (put, took) (map-set (λ v. v.items) (set now n empty) n plane
    ∙ ap (λ (l : List (List ℕ)). set l n plane.items) (map-set (λ v. v.items) now n empty)
    ∙ ap₂ (λ (l : List (List ℕ)) (x : List ℕ). set (set l n empty.items) n x) is made
    ∙ next-owned n components planes c d empty.items h k
    ∙ ap (λ (m : ℕ). owned_to m components planes) (sym next))

-- ---- sizes

-- The plane of all blocks of a component has those of its own size.
own-size : (f : Frame) (c : Component) (plane : List ℕ) → IsScale c.scale → Fits f c
    → length plane ≡ (c.blocks_high * c.scale) * (c.blocks_wide * c.scale) → HasOwnSize c plane
own-size f c plane scale fits long =
    let some : 0 < c.scale = grind (arith, common_steps) in
    let wide : c.width ≤ c.scale * ceiling c.width c.scale = ceiling-low c.width c.scale some in
    let high : c.height ≤ c.scale * ceiling c.height c.scale = ceiling-low c.height c.scale some in
    let across : c.width ≤ c.scale * c.blocks_wide = omega (arith, wide, mul-le-mul_left c.scale fits.own_wide) in
    let down : c.height ≤ c.scale * c.blocks_high = omega (arith, high, mul-le-mul_left c.scale fits.own_high) in
    let turned : length plane ≡ (c.scale * c.blocks_high) * (c.scale * c.blocks_wide) =
    long ∙ ap₂ (λ (x y : ℕ). x * y) (mul_comm c.blocks_high c.scale) (mul_comm c.blocks_wide c.scale) in
    record { wide = across; lines = rw turned (mul-le-mul_right (c.scale * c.blocks_wide) down) }

pub own-at : (f : Frame) (cs : List Component) (planes : List (List ℕ)) (i : ℕ) (c : Component) (d : List ℕ)
    → AllByRecursion (Fits f) cs → AllByRecursion (λ x. IsScale x.scale) cs → AreWhole cs planes → i < length cs
    → HasOwnSize (get_or cs i c) (get_or planes i d)
unfolding AreWhole
own-at f [] planes i c d fits scales whole h = absurd (omega arith)
own-at f (x ∷ cs) [] i c d fits scales whole h = absurd whole
own-at f (x ∷ cs) (plane ∷ planes) zero c d fits scales whole h = own-size f x plane scales.0 fits.0 whole.0
own-at f (x ∷ cs) (plane ∷ planes) (suc i) c d fits scales whole h =
    own-at f cs planes i c d fits.1 scales.1 whole.1 (omega arith)

-- as many samples as the size says
cropped-long : (stride width height : ℕ) (plane : List ℕ) → length (cropped stride width height plane) ≡ width * height
unfolding cropped
cropped-long stride width height plane = length-map-range_with_len _ 0 (width * height)

own-long : (components : List Component) (planes : List (List ℕ)) → length planes ≡ length components
    → map (λ plane. length plane) (own_planes components planes) ≡ map (λ c. c.width * c.height) components
unfolding own_planes
own-long [] [] e = refl
own-long [] (plane ∷ planes) e = absurd (omega arith)
own-long (c ∷ components) [] e = absurd (omega arith)
own-long (c ∷ components) (plane ∷ planes) e =
    ap₂ (λ (n : ℕ) (l : List ℕ). n ∷ l) (cropped-long (c.scale * c.blocks_wide) c.width c.height plane)
    (own-long components planes (omega arith))

-- a byte of each where they have 8 bits
one-byte : (precision : ℕ) (components : List Component) → precision ≡ 8
    → map (λ c. c.width * c.height) components ≡ map (λ c. c.width * c.height * bytes_a_sample precision) components
one-byte precision [] e = refl
one-byte precision (c ∷ components) e =
    let one : c.width * c.height ≡ c.width * c.height * bytes_a_sample precision = rw e (omega arith) in
    ap₂ (λ (n : ℕ) (l : List ℕ). n ∷ l) one (one-byte precision components e)

pub if-own : {X : Type 0} (view : X → List (List ℕ)) (f : Frame) (planes : List (List ℕ)) (result : Result X Error)
    → IsDecodedFrame f → (f.process ≡ Lossless → ⊥) → length planes ≡ length f.components
    → IfOk result (λ x. view x ≡ own_planes f.components planes)
    → IfOk result (λ x. AreOwnPlanes (Some f) (view x))
if-own view f planes result p dct count h =
    IfOk-weaker result _ _ (λ x e. ap (map (λ plane. length plane)) e ∙ own-long f.components planes count
    ∙ one-byte f.precision f.components (precision-8 f p dct)) h

-- ---- bytes of samples

pub bytes-none : (precision : ℕ) (samples : List ℕ) → bytes_of_samples precision (take 0 samples) ≡ []
bytes-none precision samples = refl

bytes-push : (precision : ℕ) (samples : List ℕ) (v : ℕ) → bytes_of_samples precision (samples ++ v ∷ [])
    ≡ bytes_of_samples precision samples ++ sample_bytes precision v
bytes-push precision [] v = append-nil (sample_bytes precision v)
bytes-push precision (x ∷ samples) v =
    ap (λ (l : List ℕ). sample_bytes precision x ++ l) (bytes-push precision samples v)
    ∙ sym (append_assoc (sample_bytes precision x) (bytes_of_samples precision samples) (sample_bytes precision v))

pub bytes-more : (precision n : ℕ) (samples : List ℕ) (d : ℕ) → n < length samples
    → bytes_of_samples precision (take (n + 1) samples)
    ≡ bytes_of_samples precision (take n samples) ++ sample_bytes precision (get_or samples n d)
bytes-more precision n samples d h =
    ap (bytes_of_samples precision) (take_more samples n d h)
    ∙ bytes-push precision (take n samples) (get_or samples n d)

pub planes-more : (precision n : ℕ) (planes : List (List ℕ)) (d : List ℕ) → n < length planes
    → map (bytes_of_samples precision) (take (n + 1) planes)
    ≡ map (bytes_of_samples precision) (take n planes) ++ bytes_of_samples precision (get_or planes n d) ∷ []
planes-more precision n planes d h =
    ap (map (bytes_of_samples precision)) (take_more planes n d h)
    ∙ map-append (bytes_of_samples precision) (take n planes) (get_or planes n d ∷ [])

sample-long : (precision v : ℕ) → length (sample_bytes precision v) ≡ bytes_a_sample precision
sample-long precision v = grind (arith, common_steps)

samples-long : (precision : ℕ) (samples : List ℕ)
    → length (bytes_of_samples precision samples) ≡ length samples * bytes_a_sample precision
samples-long precision [] = let e : 0 ≡ 0 * bytes_a_sample precision = omega arith in e
samples-long precision (v ∷ samples) =
    let more = samples-long precision samples in
    let one = sample-long precision v in
    let all = length-append (sample_bytes precision v) (bytes_of_samples precision samples) in
    all ∙ omega (arith, one, more, suc-mul (length samples) (bytes_a_sample precision))

sampled-long : (precision : ℕ) (components : List Component) (planes : List (List ℕ)) → ArePlanesOf components planes
    → map (λ plane. length plane) (map (bytes_of_samples precision) planes)
    ≡ map (λ c. c.width * c.height * bytes_a_sample precision) components
unfolding ArePlanesOf
sampled-long precision [] [] are = refl
sampled-long precision [] (plane ∷ planes) are = absurd are
sampled-long precision (c ∷ components) [] are = absurd are
sampled-long precision (c ∷ components) (plane ∷ planes) are =
    ap₂ (λ (n : ℕ) (l : List ℕ). n ∷ l)
    (samples-long precision plane ∙ ap (λ (n : ℕ). n * bytes_a_sample precision) are.0)
    (sampled-long precision components planes are.1)

pub if-sampled : {X : Type 0} (view : X → List (List ℕ)) (f : Frame) (planes : List (List ℕ)) (result : Result X Error)
    → ArePlanesOf f.components planes
    → IfOk result (λ x. view x ≡ map (bytes_of_samples f.precision) planes)
    → IfOk result (λ x. AreOwnPlanes (Some f) (view x))
if-sampled view f planes result are h =
    IfOk-weaker result _ _ (λ x e. ap (map (λ plane. length plane)) e ∙ sampled-long f.precision f.components planes are) h
