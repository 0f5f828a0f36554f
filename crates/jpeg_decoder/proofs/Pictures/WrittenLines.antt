-- Lines that are gathered in a piece and written when it is full.
use Rattle.std.proofs.lemmas.Grind.{common_steps}
use Rattle.std.proofs.Common.{◌≡◌, ◌∙◌, ℕ, ◌+◌, ◌*◌, ◌<◌, ◌≤◌, List, [], ◌++◌, Option, Some, None, ap, sym}
use Rattle.std.proofs.Common.{arith, length, take, drop, append_assoc, append-nil, inr, refl, subst, Result, Ok}
use Rattle.std.proofs.Common.{Err, IfErr}
use Rattle.std.proofs.Math.Nat.{div-mul-le_self, mul-le-mul_right}
use Rattle.std.proofs.lemmas.List.{take_all, take-append-drop}
use Rattle.std.proofs.lemmas.List.Folds.{concat-append}
use Rattle.std.specs.Io.KnownBytes.{Appends}
use Rattle.std.specs.List.{concat}
use Rattle.std.specs.Prelude.{slice_index_or}
use borrow.Rule.Slice.PartMut.{put_mid}
use Rattle.std.proofs.lemmas.Slice.{take-put_mid}
use Rattle.jpeg_bits.specs.declared.error.Error.{Error}
use Rattle.jpeg_bits.specs.declared.error.Error.TheVariants as errors
use Rattle.jpeg_meaning.specs.Output.{IsOutsideOrMemory, NamesOrOutside, TakesBeginning}
use Rattle.jpeg_meaning.specs.States.{IsOfBytes}
use Rattle.jpeg_meaning.proofs.Written.WriterLemmas.{TakesBeginning-after, TakesBeginning-front}
use Rattle.jpeg_decoder.proofs.Pictures.LinesTogether.{line-more}

-- what is written in two parts
pub appends-more : (before now after : Option (List ℕ)) (front back : List ℕ) → Appends before now front
    → Appends now after back → Appends before after (front ++ back)
appends-more None now after front back h g = tt
appends-more (Some xs) (Some ys) (Some zs) front back h g =
    g ∙ ap (λ (l : List ℕ). l ++ back) h ∙ append_assoc xs front back
appends-more (Some xs) (Some ys) None front back h g = g
appends-more (Some xs) None after front back h g = absurd h

-- a line fits into what is left of a piece
pub line-fits : (count k size long filled : ℕ) → long ≡ count * size → filled ≡ k * size → k < count
    → filled + size ≤ long
line-fits count k size long filled is at few =
    let next : k + 1 ≤ count = omega (arith, few) in
    let all : (k + 1) * size ≤ count * size = mul-le-mul_right size next in
    grind (arith, common_steps)

-- a piece that is not full after a line has room for one more
pub one-more-fits : (count k size long filled : ℕ) → long ≡ count * size → filled ≡ k * size → k < count
    → (filled + size ≡ long → ⊥) → k + 1 < count
one-more-fits count k size long filled is at few room = grind (arith, common_steps)

-- One line more is gathered.
pub gathered : (filled size n row : ℕ) (piece line w : List ℕ) (lines : List (List ℕ)) → filled ≤ length piece
    → length line ≡ size → row < length lines → line ≡ slice_index_or lines row []
    → w ++ take filled piece ≡ concat (take row lines)
    → w ++ take (filled + size) (put_mid filled n piece line) ≡ concat (take (row + 1) lines)
gathered filled size n row piece line w lines room long low is before =
    ap (λ (l : List ℕ). w ++ l)
    (take-put_mid filled n piece line (filled + size) (ap (λ (k : ℕ). filled + k) (sym long)) room)
    ∙ sym (append_assoc w (take filled piece) line)
    ∙ ap (λ (l : List ℕ). l ++ line) before
    ∙ ap (λ (l : List ℕ). concat (take row lines) ++ l) is
    ∙ sym (line-more row lines [] low)

-- A full piece is written.
pub written-full : (filled : ℕ) (piece w lines : List ℕ) → filled ≡ length piece → w ++ take filled piece ≡ lines
    → (w ++ piece) ++ [] ≡ lines
written-full filled piece w lines full before =
    append-nil (w ++ piece)
    ∙ ap (λ (l : List ℕ). w ++ l) (sym (take_all filled piece (let h : length piece ≤ filled = omega (arith, full) in h)))
    ∙ before

-- ---- why not all was written

-- what is gathered of a full piece is the piece
pub full : (filled : ℕ) (piece w lines : List ℕ) → filled ≡ length piece → w ++ take filled piece ≡ lines
    → w ++ piece ≡ lines
full filled piece w lines is before =
    ap (λ (l : List ℕ). w ++ l) (sym (take_all filled piece (let h : length piece ≤ filled = omega (arith, is) in h)))
    ∙ before

-- the lines above a row, and the others
lines-split : (row : ℕ) (lines : List (List ℕ)) → concat (take row lines) ++ concat (drop row lines) ≡ concat lines
lines-split row lines = sym (concat-append (take row lines) (drop row lines)) ∙ ap concat (take-append-drop row lines)

-- A beginning of a piece is written after those before it: together a beginning of all lines.
pub begun : (old mid new : Option (List ℕ)) (w piece : List ℕ) (row : ℕ) (lines : List (List ℕ)) → Appends old mid w
    → TakesBeginning mid new piece → w ++ piece ≡ concat (take row lines) → TakesBeginning old new (concat lines)
begun old mid new w piece row lines before now is =
    subst (TakesBeginning old new) (lines-split row lines)
    (TakesBeginning-front old new (concat (take row lines)) (concat (drop row lines))
    (subst (TakesBeginning old new) is (TakesBeginning-after old mid new w piece before now)))

-- where nothing is written, a beginning of any text is
pub none-taken : (old : Option (List ℕ)) (text : List ℕ) → TakesBeginning old old text
none-taken None text = ([], text, refl, tt)
none-taken (Some xs) text = ([], text, refl, sym (append-nil xs))

-- the error of a writer, or that memory ran out, is no other
pub outside-named : {X : Type 0} (bytes : List ℕ) (r : Result X Error) → IfErr r IsOutsideOrMemory
    → IfErr r (NamesOrOutside bytes)
outside-named bytes (Ok x) h = tt
outside-named bytes (Err e) h = inr h

pub outside-own : {X : Type 0} (r : Result X Error) → IfErr r IsOutsideOrMemory → IfErr r IsOfBytes
outside-own (Ok x) h = tt
outside-own (Err (errors.Format text)) h = tt
outside-own (Err (errors.Unsupported feature)) h = tt
outside-own (Err (errors.Io e)) h = tt
outside-own (Err (errors.Internal text)) h = h
outside-own (Err errors.OutOfMemory) h = tt

pub ruleset piece_rules = (
  common_steps,
  div-mul-le_self,
)
