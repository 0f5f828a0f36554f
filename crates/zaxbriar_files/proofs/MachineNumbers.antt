-- The number of a line, byte by byte.
use Rattle.std.proofs.Common.{◌≡◌, ◌<◌, ◌≤◌, ◌+◌, ℕ, List, drop, get_or, length, refl}
use Rattle.std.proofs.Math.ListN.{drop_of_length-le}
use Rattle.std.proofs.lemmas.Bool.{ne_eqb}
use Rattle.std.proofs.lemmas.List.{drop_more}
use Rattle.zaxbriar_files.specs.Machine.{number_from, with_digit}

pub at-end : (n : ℕ) (text : List ℕ) (i : ℕ) → length text ≤ i → number_from n (drop i text) ≡ n
unfolding number_from
at-end n text i h = rw (drop_of_length-le text h) refl

pub at-line_end : (n : ℕ) (text : List ℕ) (i : ℕ) → i < length text → get_or text i 0 ≡ 10
    → number_from n (drop i text) ≡ n
unfolding number_from
at-line_end n text i h e = rw (drop_more text i 0 h, e) refl

pub at-byte : (n : ℕ) (text : List ℕ) (i : ℕ) → i < length text → (get_or text i 0 ≡ 10 → ⊥)
    → number_from n (drop i text) ≡ number_from (with_digit n (get_or text i 0)) (drop (i + 1) text)
unfolding number_from
at-byte n text i h other = rw (drop_more text i 0 h, ne_eqb (get_or text i 0) 10 other) refl
