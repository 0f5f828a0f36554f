-- The bits that were taken of the blocks of an interval are those that are written for them.
use Rattle.std.proofs.Common.{◌≡◌, ℕ, Bool, List, [], ◌∷◌, Ok, ℤ, pos, get_or, set, append_assoc}
use Rattle.jpeg_bits.specs.Entropy.{Text}
use Rattle.jpeg_bits.specs.Readers.{gives, ◌>>=◌}
use Rattle.jpeg_bits.specs.Passes.{Block, Pass, Via, block_from, blocks_of}
use Rattle.jpeg_meaning.specs.Levels.{numbers_at}
use Rattle.jpeg_meaning.specs.WrittenData.{WritesBlocks}
use Rattle.jpeg_meaning.specs.WrittenData.WritesBlocks.{done, block}
use Rattle.jpeg_evidence.specs.Strict.{alone, IsCut, IsBlock, BlocksFit, numbers_read}
use Rattle.jpeg_evidence.specs.Strict.BlocksFit.{finished, next}
use Rattle.jpeg_evidence.proofs.Taken.TakenBits.{after-read, gives-taken, map-taken, cut-then, After}
use Rattle.jpeg_evidence.proofs.Taken.TakenBlocks.{block_taken}

-- The bits that were taken of blocks are written for them.
pub blocks_taken : (p : Pass) (predictors : List ℤ) (run : ℕ) (turns : List (Via × Block)) (bits : List Bool)
    (blocks : List Block) (t : Text) → BlocksFit p predictors run turns bits
    → blocks_of p predictors run turns (alone bits) ≡ Ok (blocks, t)
    → IsCut (WritesBlocks p predictors run (numbers_read p turns blocks)) bits t
unfolding blocks_of numbers_read
blocks_taken p predictors run turns bits blocks left (finished predictors' bits') e =
    gives-taken (λ (l : List Block). WritesBlocks p predictors 0 (numbers_read p [] l)) (done predictors) e
blocks_taken p predictors run turns bits blocks left (next predictors' run' t turns' bits' more r h tables fits w) e =
    let before = get_or predictors t.0.component (pos 0) in
    let others = blocks_of p (set predictors t.0.component r.1) r.2 turns' in
    let rest = after-read (block_from p t.0.dc t.0.ac before run t.1) (λ (r : Block × ℤ × ℕ).
    blocks_of p (set predictors t.0.component r.1) r.2 turns' >>= (λ l. gives (r.0 ∷ l))) h e in
    cut-then (block_taken p t.0 before run t.1 bits r (alone more) tables fits h)
    (map-taken others (λ (l : List Block). r.0 ∷ l)
    (λ l. WritesBlocks p (set predictors t.0.component r.1) r.2 (numbers_read p turns' l))
    (λ l. After (IsBlock p t.0 before run r) (WritesBlocks p predictors run (numbers_read p (t ∷ turns') l)))
    (λ l. blocks_taken p (set predictors t.0.component r.1) r.2 turns' more l left w)
    (λ l own w one b. rw (← b.whole, append_assoc) (block predictors run r.2 t.0 (numbers_at p.al r.0)
    (numbers_read p turns' l) b.dc b.ac own r.1 b.writes_dc b.writes_ac w)) rest)
