-- Lines of one length, written one after the other.
use Rattle.std.proofs.lemmas.Grind.{common_steps}
use Rattle.std.proofs.Common.{◌≡◌, ℕ, zero, suc, ◌+◌, ◌*◌, ◌<◌, ◌≤◌, List, [], ◌∷◌, ◌++◌, ap, arith}
use Rattle.std.proofs.Common.{length, length-append, take}
use Rattle.std.specs.List.{concat}
use Rattle.std.specs.Prelude.{slice_index_or}
use Rattle.std.proofs.lemmas.List.{take_all, take_more}
use Rattle.std.proofs.lemmas.List.Folds.{concat-append}
use Rattle.jpeg_lossless.proofs.FilledLines.{all-pieces, no-pieces, piece-fits, pieces-more}
use Rattle.jpeg_decoder.specs.Bytes.{HaveBytes}

-- the bytes of all
pub together-length : (n : ℕ) (lines : List (List ℕ)) → HaveBytes n lines → length (concat lines) ≡ length lines * n
together-length n [] all = let e : 0 ≡ 0 * n = omega arith in e
together-length n (line ∷ lines) all =
    grind (arith, common_steps, length-append, together-length n lines all.1)

-- those of one
pub line-long : (n row : ℕ) (lines : List (List ℕ)) (d : List ℕ) → HaveBytes n lines → row < length lines
    → length (slice_index_or lines row d) ≡ n
line-long n row [] d all h = absurd (omega arith)
line-long n zero (line ∷ lines) d all h = all.0
line-long n (suc row) (line ∷ lines) d all h = line-long n row lines d all.1 (omega arith)

-- one line more
pub line-more : (row : ℕ) (lines : List (List ℕ)) (d : List ℕ) → row < length lines
    → concat (take (row + 1) lines) ≡ concat (take row lines) ++ slice_index_or lines row d
line-more row lines d h = grind (arith, common_steps, take_more, concat-append)

-- all lines
pub line-last : (row : ℕ) (lines : List (List ℕ)) → length lines ≤ row → concat (take row lines) ≡ concat lines
line-last row lines h = ap concat (take_all row lines h)

pub ruleset written = (
  common_steps,
  all-pieces,
  line-last,
  line-long,
  line-more,
  no-pieces,
  piece-fits,
  pieces-more,
  together-length,
)
