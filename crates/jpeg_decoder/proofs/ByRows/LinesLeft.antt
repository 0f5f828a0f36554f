-- The lines of a picture that are left, as they are taken one by one.
use Rattle.std.proofs.Common.{◌≡◌, ◌∙◌, ◌+◌, ◌<◌, ℕ, List, [], ◌∷◌, ◌++◌, refl, sym, ap, ap₂, arith, length, take}
use Rattle.std.proofs.Common.{drop}
use Rattle.std.proofs.lemmas.Bool.{eq-eqb, ne_eqb}
use Rattle.std.proofs.lemmas.List.{drop_more}
use Rattle.std.proofs.Math.Seq.{take-append_seam}
use Rattle.std.specs.Prelude.{slice_index_or}
use Rattle.jpeg_decoder.specs.Bytes.{HaveBytes}
use Rattle.jpeg_decoder.specs.RowsView.{LinesLeft, line_taken}
use Rattle.jpeg_decoder.proofs.Pictures.LinesTogether.{line-long}

-- ---- the line that was taken last

pub none-taken : (taken : ℕ) (room : List ℕ) → taken ≡ 0 → [] ≡ line_taken taken room
unfolding line_taken
none-taken taken room h = rw (eq-eqb taken 0 h, line_taken) refl

pub some-taken : (taken : ℕ) (room : List ℕ) → (taken ≡ 0 → ⊥) → room ≡ line_taken taken room
unfolding line_taken
some-taken taken room h = rw (ne_eqb taken 0 h, line_taken) refl

abbrev left-with : List (List ℕ) → List ℕ → LinesLeft
left-with lines line = record { left = lines; line = line }

pub all-left : (lines : List (List ℕ)) (room : List ℕ)
    → left-with lines (line_taken 0 room) ≡ left-with lines []
all-left lines room = ap (left-with lines) (sym (none-taken 0 room refl))

-- ---- the next one

room-filled : (line room : List ℕ) (n : ℕ) → n ≡ length room → length line ≡ length room
    → take n (line ++ drop (length line) room) ≡ line
room-filled line room n e h =
    ap (λ (k : ℕ). take k (line ++ drop (length line) room)) (e ∙ sym h)
    ∙ take-append_seam line (drop (length line) room)

-- It stands at the front of the room for a line.
pub next-taken : (lines rest : List (List ℕ)) (taken n : ℕ) (line room : List ℕ) → HaveBytes (length room) lines
    → taken < length lines → n ≡ length room → line ≡ slice_index_or lines taken [] → rest ≡ lines
    → drop taken lines ≡ line_taken (taken + 1) (take n (line ++ drop (length line) room)) ∷ drop (taken + 1) rest
next-taken lines rest taken n line room have more e is same =
    let long : length line ≡ length room =
    ap (λ (l : List ℕ). length l) is ∙ line-long (length room) taken lines [] have more in
    let shown : line_taken (taken + 1) (take n (line ++ drop (length line) room)) ≡ slice_index_or lines taken [] =
    sym (some-taken (taken + 1) (take n (line ++ drop (length line) room)) (λ z. absurd (omega arith)))
    ∙ (room-filled line room n e long ∙ is) in
    drop_more lines taken [] more
    ∙ ap₂ (λ (l : List ℕ) (ls : List (List ℕ)). l ∷ drop (taken + 1) ls) (sym shown) (sym same)
