-- The images of an index, one after the other, and the directory that says where they are.
use Rattle.std.proofs.Common.{◌≡◌, ℕ, zero, suc, ◌+◌, ◌*◌, ◌-◌, ◌<◌, ◌≤◌, Bool, true, false, List, [], ◌∷◌, ◌++◌}
use Rattle.std.proofs.Common.{length, take, drop, arith, ap, refl, sym, ◌∙◌, append_assoc, length-drop}
use Rattle.std.specs.Prelude.{◌&&◌, nat_le}
use Rattle.std.proofs.lemmas.List.{append-nil}
use Rattle.std.proofs.lemmas.Bool.{lt-leb, le-leb}
use Rattle.std.proofs.lemmas.Grind.{common_steps}
use Rattle.jpeg_orientation.specs.Tiff.{entries_in, first_directory, number_at}
use Rattle.zaxbriar_files.specs.declared.multi_picture.Image.{Image}
use Rattle.zaxbriar_files.specs.MultiPicture.{describes, first_offset, image_of, images_in, is_index}
use Rattle.zaxbriar_files.specs.MultiPicture.{is_whole}

pub images-more : (le : Bool) (base count : ℕ) (table : List ℕ) → 0 < count
    → images_in le base count table
    ≡ image_of le base (take 16 table) ∷ images_in le base (count - 1) (drop 16 table)
unfolding images_in
images-more le base (suc count) table h = let less : suc count - 1 ≡ count = omega arith in rw less refl
images-more le base zero table h = absurd (omega (arith, h))

pub images-pushed : (le : Bool) (base n : ℕ) (done : List Image) (table : List ℕ) (image : Image) → 0 < n
    → image ≡ image_of le base (take 16 table)
    → (done ++ image ∷ []) ++ images_in le base (n - 1) (drop 16 table) ≡ done ++ images_in le base n table
images-pushed le base n done table image some e =
    append_assoc done (image ∷ []) (images_in le base (n - 1) (drop 16 table))
    ∙ (ap (λ i. done ++ (i ∷ images_in le base (n - 1) (drop 16 table))) e
    ∙ ap (λ l. done ++ l) (sym (images-more le base n table some)))

pub images-done : (le : Bool) (base n : ℕ) (done : List Image) (table : List ℕ) → n ≡ 0
    → done ++ images_in le base n table ≡ done
unfolding images_in
images-done le base zero done table h = append-nil done
images-done le base (suc n) done table h = absurd (omega (arith, h))

-- ---- the directory

and-no : (b : Bool) → (b && false) ≡ false
and-no true = refl
and-no false = refl

pub no-header : (le : Bool) (bytes : List ℕ) → length bytes < 8 → is_whole le bytes ≡ false
no-header le bytes h = rw (lt-leb 8 (length bytes) h) refl

-- the directory at an offset, whose entries are cut, or are all there
cut-directory : (le : Bool) (bytes : List ℕ) (offset count : ℕ) → offset ≡ first_offset le bytes
    → count ≡ number_at le 0 2 (drop offset bytes) → length bytes < offset + 2 + 12 * count
    → is_whole le bytes ≡ false
cut-directory le bytes offset count o n few =
    rw (sym o) (rw (sym n) (rw (lt-leb (offset + 2 + 12 * count) (length bytes) few) (and-no (nat_le 8 (length bytes)))))

pub no-count : (le : Bool) (bytes : List ℕ) (offset : ℕ) → offset ≡ first_offset le bytes
    → length bytes < offset + 2 → is_whole le bytes ≡ false
no-count le bytes offset o few =
    cut-directory le bytes offset (number_at le 0 2 (drop offset bytes)) o refl (omega (arith, few))

pub few-entries : (le : Bool) (bytes entries : List ℕ) (offset count : ℕ) → offset ≡ first_offset le bytes
    → count ≡ number_at le 0 2 (drop offset bytes) → entries ≡ drop 2 (drop offset bytes)
    → length entries < 12 * count → is_whole le bytes ≡ false
few-entries le bytes entries offset count o n e few =
    let size : length entries ≡ length (drop 2 (drop offset bytes)) = ap length e in
    cut-directory le bytes offset count o n (omega (arith, size, few, length-drop {A = ℕ}))

pub all-entries : (le : Bool) (bytes entries : List ℕ) (offset count : ℕ) → offset ≡ first_offset le bytes
    → count ≡ number_at le 0 2 (drop offset bytes) → entries ≡ drop 2 (drop offset bytes)
    → 8 ≤ length bytes → offset + 2 ≤ length bytes → 12 * count ≤ length entries → is_whole le bytes ≡ true
all-entries le bytes entries offset count o n e head room all =
    let size : length entries ≡ length (drop 2 (drop offset bytes)) = ap length e in
    let whole : offset + 2 + 12 * count ≤ length bytes = omega (arith, size, all, room, length-drop {A = ℕ}) in
    rw (sym o) (rw (sym n) (rw (le-leb 8 (length bytes) head)
    (rw (le-leb (offset + 2 + 12 * count) (length bytes) whole) refl)))

pub their-entries : (le : Bool) (bytes entries : List ℕ) (offset count : ℕ) → offset ≡ first_offset le bytes
    → count ≡ number_at le 0 2 (drop offset bytes) → entries ≡ drop 2 (drop offset bytes)
    → entries_in count entries ≡ first_directory le bytes
unfolding first_directory
their-entries le bytes entries offset count o n e = rw (e, n, o) refl

-- ---- the two entries

pub refused-index : (le : Bool) (bytes number table : List ℕ)
    → describes (number_at le 2 2 number) (number_at le 4 4 number) (number_at le 8 4 number) (number_at le 2 2 table)
    (number_at le 4 4 table) ≡ false → is_index le bytes number table ≡ false
unfolding is_index
refused-index le bytes number table h =
    ap (λ b. b && nat_le (number_at le 8 4 table + number_at le 4 4 table) (length bytes)) h

pub cut-index : (le : Bool) (bytes number table : List ℕ)
    → length bytes < number_at le 8 4 table + number_at le 4 4 table → is_index le bytes number table ≡ false
unfolding is_index
cut-index le bytes number table h = grind (arith, common_steps, lt-leb)

pub whole-index : (le : Bool) (bytes number table : List ℕ)
    → describes (number_at le 2 2 number) (number_at le 4 4 number) (number_at le 8 4 number) (number_at le 2 2 table)
    (number_at le 4 4 table) ≡ true
    → number_at le 8 4 table + number_at le 4 4 table ≤ length bytes → is_index le bytes number table ≡ true
unfolding is_index
whole-index le bytes number table h room =
    rw (h, describes) (le-leb (number_at le 8 4 table + number_at le 4 4 table) (length bytes) room)

pub sixteen-each : (kind count images table_kind table_count : ℕ)
    → describes kind count images table_kind table_count ≡ true → table_count ≡ 16 * images
sixteen-each kind count images table_kind table_count h = grind (arith, common_steps)
