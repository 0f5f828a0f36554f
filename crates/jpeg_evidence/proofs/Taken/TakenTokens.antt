-- The bits that were taken of a token are those that are written for it.
use Rattle.std.proofs.Common.{◌≡◌, ℕ, zero, suc, ◌+◌, ◌-◌, ◌/◌, ◌%◌, ◌^◌, Bool, List, [], arith, Ok, leb, ltb, eqb}
use Rattle.std.proofs.Common.{ℤ}
use Rattle.std.proofs.lemmas.Bool.{ltb-false, eqb-true, eqb-false}
use Rattle.jpeg_bits.specs.Entropy.{Text, bits_from}
use Rattle.jpeg_bits.specs.Readers.{signed_from}
use Rattle.jpeg_bits.specs.Codes.{Table, IsTable, code_from}
use Rattle.jpeg_bits.specs.Bands.{token_at, token_from}
use Rattle.jpeg_bits.specs.Written.{IsCoded}
use Rattle.jpeg_bits.specs.declared.blocks.tokens.Token.{Token}
use Rattle.jpeg_bits.specs.declared.blocks.tokens.Token.TheVariants.{Value, Rest, Overlong}
use Rattle.jpeg_evidence.specs.Strict.{alone, IsCut, IsNumber, IsValue, Follows, IsToken}
use Rattle.jpeg_evidence.specs.Strict.Follows.{value, sixteen, ended, overlong}
use Rattle.jpeg_evidence.proofs.Taken.TakenBits.{number_taken, code-taken, cut-map, gives-taken, map-taken, bind-cut}
use Rattle.jpeg_evidence.proofs.Taken.TakenBits.{if-read}
use Rattle.jpeg_evidence.proofs.Taken.TakenValues.{value_taken}

-- what follows a token's code
piece-taken : (room size r s : ℕ) (bits : List Bool) (x : Token) (t : Text) → token_at room size r s (alone bits)
    ≡ Ok (x, t) → IsCut (Follows r s x) bits t
unfolding token_at
piece-taken room size r zero bits x t e =
    if-read (eqb r 15) _ _ e (λ h. gives-taken (Follows r 0) (sixteen r (eqb-true r 15 h)))
    (λ h. map-taken (bits_from r) (λ (n : ℕ). Rest (2 ^ r - 1 + n)) (IsNumber r) (Follows r 0) (λ n. number_taken)
    (λ n own. ended r n own (eqb-false r 15 h)))
piece-taken room size r (suc s) bits x t e =
    if-read (ltb 0 (suc s)) _ _ e
    (λ a k. if-read (ltb r room) _ _ k
    (λ b. map-taken (signed_from (suc s)) (λ (v : ℤ). Value r v) (IsValue (suc s)) (Follows r (suc s))
    (λ v. value_taken) (value r s))
    (λ b l. if-read (leb (size + suc s) 8) _ _ l
    (λ c. map-taken (signed_from (suc s)) (λ (v : ℤ). Overlong) (IsValue (suc s)) (Follows r (suc s))
    (λ v. value_taken) (λ v own is. overlong r s own))
    (λ c. gives-taken (Follows r (suc s)) (overlong r s []))))
    (λ a k. absurd (let z = ltb-false 0 (suc s) a in omega (arith, z)))

-- The bits that were taken of a token are a code for its run and size, and the bits after it.
pub token_taken : {table : Table} (room : ℕ) {bits : List Bool} {x : Token} {t : Text} → IsTable table
    → token_from table room (alone bits) ≡ Ok (x, t) → IsCut (IsToken table x) bits t
unfolding token_from
token_taken {table} room {x = x} {t = t} is e =
    bind-cut (code_from table) (λ (c : ℕ × ℕ). token_at room c.0 (c.1 / 16) (c.1 % 16))
    (λ (c : ℕ × ℕ). IsCoded table c.1) (λ c left. code-taken is)
    (λ c more h k. cut-map {P = Follows (c.1 / 16) (c.1 % 16) x} (grind arith)
    (piece-taken room c.0 (c.1 / 16) (c.1 % 16) more x t k)) e
