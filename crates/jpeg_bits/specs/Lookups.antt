-- A token by its first 8 bits: a short one, whose code and value have at most 8 bits, at once, and
-- any other by its symbol. Only the law `tokens_are_looked_up` needs it.
use Rattle.std.specs.Prelude.{ℕ, ◌+◌, ◌-◌, ◌/◌, ◌%◌, ◌^◌, ◌==◌, nat_lt, true, false, ℤ, Option}
use Rattle.std.specs.Prelude.{Some, None}
use Rattle.jpeg_bits.specs.Entropy.{bits_from}
use Rattle.jpeg_bits.specs.Readers.{Reads, ◌>>=◌, gives, signed_from}
use Rattle.jpeg_bits.specs.Codes.{Table, symbol_from, fast_from}
use Rattle.jpeg_bits.specs.declared.blocks.tokens.Token.{Token}
use Rattle.jpeg_bits.specs.declared.blocks.tokens.Token.TheVariants.{Value, Sixteen, Rest, Overlong}

-- a value after r zeros, where r is within the room
abbrev pub value_token : ℕ → ℕ → ℤ → Token
value_token room r v = elim (nat_lt r room) [ true ↦ Value r v | false ↦ Overlong ]

unfoldable pub slow_token : ℕ → ℕ → ℕ → Reads Token
slow_token room r s =
    elim (nat_lt 0 s) [
      | true ↦ elim (nat_lt r room) [
        | true ↦ signed_from s >>= (λ v. gives (Value r v))
        | false ↦ gives Overlong
      ]
      | false ↦ elim (r == 15) [
        | true ↦ gives Sixteen
        | false ↦ elim (nat_lt 0 r) [
          | true ↦ bits_from r >>= (λ e. gives (Rest (2 ^ r - 1 + e)))
          | false ↦ gives (Rest 0)
        ]
      ]
    ]

abbrev pub fast_or : Table → ℕ → Option (ℤ × ℕ) → Reads Token
fast_or table room (Some x) = gives (value_token room x.1 x.0)
fast_or table room None = symbol_from table >>= (λ c. slow_token room (c / 16) (c % 16))

unfoldable pub looked_up : Table → ℕ → Reads Token
looked_up table room = fast_from table >>= fast_or table room
