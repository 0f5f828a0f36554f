-- What a block was before a pass of AC of a progressive frame.
use Rattle.std.proofs.Common.{◌≡◌, ℕ, suc, ◌+◌, ◌^◌, ◌≤◌, Bool, true, false, List, [], ◌∷◌, ◌++◌, length, drop, take, map}
use Rattle.std.proofs.Common.{replicate, refl, sym, ap, ap₂, ◌∙◌, arith, ℤ, pos, negsuc, ◌*ℤ◌, drop-drop, length-drop, length-take}
use Rattle.std.proofs.Common.{Option, Some}
use Rattle.std.proofs.lemmas.List.{drop_at, length-map, length-replicate, take_at}
use Rattle.std.specs.Prelude.{if◌then◌else◌}
use Rattle.jpeg_bits.specs.Passes.{Pass, band_of, band_size, before_band, with_band}
use Rattle.jpeg_meaning.specs.Levels.{IsLegal, Levels, cut_acs, sent_after, toward_zero}
use Rattle.jpeg_meaning.specs.WrittenData.{no_numbers}
use Rattle.jpeg_meaning.proofs.Written.CutLevels.{all-same, around-band, cut-append, cut-drop, cut-sent, cut-take, cut-unsent}
use Rattle.jpeg_meaning.proofs.Written.CutLevels.{halved-toward, map-map, same-band, same-take}
use Rattle.jpeg_meaning.proofs.Written.SentBlocks.{halved, scaled}
use Rattle.zaxbriar_strict.specs.Sent.{scaled_by, sent_before}
use Rattle.zaxbriar_strict.proofs.SentBlocks.{toward-scaled}

half-zero : (z : ℤ) → toward_zero 1 z ≡ halved z
half-zero (pos n) = refl
half-zero (negsuc n) = refl

map-same : (f : ℤ → ℤ) → ((z : ℤ) → f z ≡ z) → (zs : List ℤ) → map f zs ≡ zs
map-same f e [] = refl
map-same f e (z ∷ zs) = ap₂ (λ (x : ℤ) (l : List ℤ). x ∷ l) (e z) (map-same f e zs)

pub toward-all : (al : ℕ) (numbers : List ℤ) → map (toward_zero al) (scaled_by al numbers) ≡ numbers
toward-all al numbers =
    map-map (λ u. u *ℤ pos (2 ^ al)) (toward_zero al) (λ u. u) (toward-scaled al) numbers
    ∙ map-same (λ u. u) (λ z. refl) numbers

-- the numbers of a band before the pass
band-before : (p : Pass) (l : Levels) (us numbers : List ℤ) → length us ≡ length l.acs → IsLegal p l
    → numbers ≡ map (toward_zero p.al) (band_of p us) → sent_before p numbers ≡ cut_acs (band_of p us) (band_of p l.acs)
band-before p l us numbers same legal e = go p.is_first refl
  where
    sizes : length (band_of p us) ≡ length (band_of p l.acs)
    sizes = same-band p us l.acs same

    go : (f : Bool) → p.is_first ≡ f → (if f then no_numbers (length numbers)
        else scaled_by (suc p.al) (map (toward_zero 1) numbers)) ≡ cut_acs (band_of p us) (band_of p l.acs)
    go true f =
        ap no_numbers (ap length e ∙ length-map (band_of p us) (toward_zero p.al))
        ∙ sym (cut-unsent (band_of p us) (band_of p l.acs) sizes (legal.acs_unsent f))
    go false f =
        ap (λ (n : List ℤ). scaled_by (suc p.al) (map (toward_zero 1) n)) e
        ∙ ap (scaled_by (suc p.al)) (map-map (toward_zero p.al) (toward_zero 1) (toward_zero (suc p.al))
        (λ z. half-zero (toward_zero p.al z) ∙ halved-toward p.al z) (band_of p us))
        ∙ map-map (toward_zero (suc p.al)) (scaled (suc p.al)) (λ z. scaled (suc p.al) (toward_zero (suc p.al) z))
        (λ z. refl) (band_of p us)
        ∙ sym (cut-sent (suc p.al) (band_of p us) (band_of p l.acs) sizes (legal.acs_sent f))

-- the band of a list, between what stands before it and after it
pub acs-next : (p : Pass) (xs us numbers : List ℤ) (l : Levels) → length numbers ≡ band_size p
    → band_of p xs ≡ sent_before p numbers → before_band p ≤ length xs → length us ≡ length l.acs
    → before_band p + band_size p ≤ length l.acs → IsLegal p l
    → with_band p xs (scaled_by p.al numbers) ≡ cut_acs us (sent_after p l).acs → xs ≡ cut_acs us l.acs
acs-next p xs us numbers l sized was long same room legal whole =
    let b = before_band p in
    let s = band_size p in
    let sent = scaled_by p.al numbers in
    let band = band_of p l.acs in
    let own = replicate (length band) (Some p.al) in
    let rest = drop (b + s) l.acs in
    let after = take b l.acs ++ (own ++ rest) in
    let c = cut_acs us after in
    let front-size : length (take b xs) ≡ b = (let k = length-take b xs in omega (arith, k, long)) in
    let level-size : length (take b l.acs) ≡ b = (let k = length-take b l.acs in omega (arith, k, room)) in
    let sent-size : length sent ≡ s = length-map numbers (λ z. z *ℤ pos (2 ^ p.al)) ∙ sized in
    let band-size : length band ≡ s = (
    let j = length-take s (drop b l.acs) in
    let k = length-drop b l.acs in
    omega (arith, j, k, room)
    ) in
    let own-size : length own ≡ s = length-replicate (length band) (Some p.al) ∙ band-size in
    let sizes : length (band_of p us) ≡ length band = same-band p us l.acs same in
    let fronts : take b xs ≡ cut_acs (take b us) (take b l.acs) =
    sym (take_at (take b xs) (sent ++ drop (b + s) xs) b front-size) ∙ ap (take b) whole ∙ cut-take b us after
    ∙ ap (λ (k : List (Option ℕ)). cut_acs (take b us) k) (take_at (take b l.acs) (own ++ rest) b level-size) in
    let later : sent ++ drop (b + s) xs ≡ cut_acs (drop b us) (own ++ rest) =
    sym (drop_at (take b xs) (sent ++ drop (b + s) xs) b front-size) ∙ ap (drop b) whole ∙ cut-drop b us after
    ∙ ap (λ (k : List (Option ℕ)). cut_acs (drop b us) k) (drop_at (take b l.acs) (own ++ rest) b level-size) in
    let bands : sent ≡ cut_acs (band_of p us) own =
    sym (take_at sent (drop (b + s) xs) s sent-size) ∙ ap (take s) later ∙ cut-take s (drop b us) (own ++ rest)
    ∙ ap (λ (k : List (Option ℕ)). cut_acs (band_of p us) k) (take_at own rest s own-size) in
    let ends : drop (b + s) xs ≡ cut_acs (drop s (drop b us)) rest =
    sym (drop_at sent (drop (b + s) xs) s sent-size) ∙ ap (drop s) later ∙ cut-drop s (drop b us) (own ++ rest)
    ∙ ap (λ (k : List (Option ℕ)). cut_acs (drop s (drop b us)) k) (drop_at own rest s own-size) in
    let number : numbers ≡ map (toward_zero p.al) (band_of p us) =
    sym (toward-all p.al numbers)
    ∙ ap (map (toward_zero p.al)) (bands ∙ cut-sent p.al (band_of p us) own
    (sizes ∙ sym (length-replicate (length band) (Some p.al))) (all-same (Some p.al) (length band)))
    ∙ map-map (λ z. scaled p.al (toward_zero p.al z)) (toward_zero p.al) (toward_zero p.al)
    (λ z. toward-scaled p.al (toward_zero p.al z)) (band_of p us) in
    let middle : band_of p xs ≡ cut_acs (band_of p us) band = was ∙ band-before p l us numbers same legal number in
    sym (around-band p xs)
    ∙ ap₂ (λ (x y : List ℤ). x ++ y) fronts
    (ap₂ (λ (x y : List ℤ). x ++ y) middle (ends ∙ ap (λ (k : List ℤ). cut_acs k rest) (drop-drop s b us)))
    ∙ ap (λ (x : List ℤ). cut_acs (take b us) (take b l.acs) ++ x)
    (sym (cut-append (band_of p us) (drop (b + s) us) band rest sizes))
    ∙ sym (cut-append (take b us) (band_of p us ++ drop (b + s) us) (take b l.acs) (band ++ rest)
    (same-take b us l.acs same))
    ∙ ap₂ (λ (x : List ℤ) (y : List (Option ℕ)). cut_acs x y) (around-band p us) (around-band p l.acs)
