-- What stands after an interval where nothing follows the marker that ends its data, by what is read of them.
use Rattle.std.proofs.Common.{◌≡◌, ◌∙◌, inl, ℕ, List, Ok, refl, sym, ap}
use Rattle.jpeg_bits.specs.Readers.{Reads}
use Rattle.jpeg_bits.specs.Entropy.{Text, advance, fresh_before, marker_from, text_at, upcoming}
use Rattle.jpeg_bits.specs.declared.beyond.Beyond.TheVariants.{Nothing}
use Rattle.jpeg_bits.proofs.EndLemmas.{ends-before, ends-within}
use Rattle.jpeg_bits.proofs.TakenTexts.{Taken, TakesBits}
use Rattle.jpeg_bits.proofs.TakenTexts.Taken.{gave, failed}
use Rattle.jpeg_segments.proofs.Codecs.{err-ok, ok-same}
use Rattle.jpeg_meaning.specs.Brought.{stopped}

-- What a reader leaves of a text is its end.
pub left-ahead : {A : Type 0} (p : Reads A) (x : A) (t u : Text) → TakesBits p → p t ≡ Ok (x, u)
    → (k : ℕ) × (u ≡ advance k t)
unfolding TakesBits
left-ahead {A} p x t u h e = go (h t.bits t.ending)
  where
    go : Taken p t.bits t.ending → (k : ℕ) × (u ≡ advance k t)
    go (failed g is) = absurd (err-ok g (x, u) (sym (is t.following) ∙ e))
    go (gave n y is) = (
      n,
      ap (λ (r : A × Text). r.1)
          (ok-same (x, u) (y, advance n t) (sym e ∙ is t.ending t.following (inl refl))),
    )

-- Where this is left of its text, an interval ends with the marker that follows.
pub stopped-ahead : (k : ℕ) (bytes : List ℕ) (left : Text) → left ≡ advance k (upcoming (fresh_before Nothing) bytes)
    → stopped bytes (Ok left.bits) ≡ marker_from left
unfolding upcoming
stopped-ahead k bytes left is =
    let t = text_at bytes in
    ap (λ (u : Text). stopped bytes (Ok u.bits)) is ∙ ends-within k t.bits bytes t.ending
    ∙ sym (ends-before Nothing k bytes) ∙ ap (λ (u : Text). marker_from u) (sym is)
