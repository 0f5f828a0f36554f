-- The tables that the frames of an MJPEG stream may leave out (T.81, K.3.3).
use Rattle.std.specs.Prelude.{◌≡◌, ◌≤◌, ◌⊎◌, ℕ, sum, length, ◌==◌, List, [], ◌∷◌, Bool, Option}
use Rattle.std.specs.Prelude.{Some, None, if◌then◌else◌}
use Rattle.std.specs.List.{list_any}
use Rattle.jpeg_bits.specs.Codes.{HasCodes, Table, code_lengths}
use Rattle.jpeg_bits.specs.declared.huffman.codes.HuffmanTableClass.{HuffmanTableClass}
use Rattle.jpeg_bits.specs.declared.huffman.codes.HuffmanTableClass.TheVariants.{DC, AC}

-- a byte for each DC category
abbrev pub categories : List ℕ
categories = 0 ∷ 1 ∷ 2 ∷ 3 ∷ 4 ∷ 5 ∷ 6 ∷ 7 ∷ 8 ∷ 9 ∷ 10 ∷ 11 ∷ []

abbrev pub default_table : HuffmanTableClass → List ℕ → List ℕ → Table
default_table class counts symbols = record { class = class; counts = counts; symbols = symbols }

-- Table K.3: DC differences of luminance.
abbrev pub luminance_dc : Table
luminance_dc =
    default_table DC (0 ∷ 1 ∷ 5 ∷ 1 ∷ 1 ∷ 1 ∷ 1 ∷ 1 ∷ 1 ∷ 0 ∷ 0 ∷ 0 ∷ 0 ∷ 0 ∷ 0 ∷ 0 ∷ [])
    categories

-- Table K.4: DC differences of chrominance.
abbrev pub chrominance_dc : Table
chrominance_dc =
    default_table DC (0 ∷ 3 ∷ 1 ∷ 1 ∷ 1 ∷ 1 ∷ 1 ∷ 1 ∷ 1 ∷ 1 ∷ 1 ∷ 0 ∷ 0 ∷ 0 ∷ 0 ∷ 0 ∷ [])
    categories

abbrev pub luminance_symbols : List ℕ
luminance_symbols =
    1 ∷ 2 ∷ 3 ∷ 0 ∷ 4 ∷ 17 ∷ 5 ∷ 18 ∷ 33 ∷ 49 ∷ 65 ∷ 6 ∷ 19 ∷ 81 ∷ 97 ∷ 7 ∷
    34 ∷ 113 ∷ 20 ∷ 50 ∷ 129 ∷ 145 ∷ 161 ∷ 8 ∷ 35 ∷ 66 ∷ 177 ∷ 193 ∷ 21 ∷ 82 ∷ 209 ∷ 240 ∷
    36 ∷ 51 ∷ 98 ∷ 114 ∷ 130 ∷ 9 ∷ 10 ∷ 22 ∷ 23 ∷ 24 ∷ 25 ∷ 26 ∷ 37 ∷ 38 ∷ 39 ∷ 40 ∷
    41 ∷ 42 ∷ 52 ∷ 53 ∷ 54 ∷ 55 ∷ 56 ∷ 57 ∷ 58 ∷ 67 ∷ 68 ∷ 69 ∷ 70 ∷ 71 ∷ 72 ∷ 73 ∷
    74 ∷ 83 ∷ 84 ∷ 85 ∷ 86 ∷ 87 ∷ 88 ∷ 89 ∷ 90 ∷ 99 ∷ 100 ∷ 101 ∷ 102 ∷ 103 ∷ 104 ∷ 105 ∷
    106 ∷ 115 ∷ 116 ∷ 117 ∷ 118 ∷ 119 ∷ 120 ∷ 121 ∷ 122 ∷ 131 ∷ 132 ∷ 133 ∷ 134 ∷ 135 ∷ 136 ∷ 137 ∷
    138 ∷ 146 ∷ 147 ∷ 148 ∷ 149 ∷ 150 ∷ 151 ∷ 152 ∷ 153 ∷ 154 ∷ 162 ∷ 163 ∷ 164 ∷ 165 ∷ 166 ∷ 167 ∷
    168 ∷ 169 ∷ 170 ∷ 178 ∷ 179 ∷ 180 ∷ 181 ∷ 182 ∷ 183 ∷ 184 ∷ 185 ∷ 186 ∷ 194 ∷ 195 ∷ 196 ∷ 197 ∷
    198 ∷ 199 ∷ 200 ∷ 201 ∷ 202 ∷ 210 ∷ 211 ∷ 212 ∷ 213 ∷ 214 ∷ 215 ∷ 216 ∷ 217 ∷ 218 ∷ 225 ∷ 226 ∷
    227 ∷ 228 ∷ 229 ∷ 230 ∷ 231 ∷ 232 ∷ 233 ∷ 234 ∷ 241 ∷ 242 ∷ 243 ∷ 244 ∷ 245 ∷ 246 ∷ 247 ∷ 248 ∷
    249 ∷ 250 ∷ []

-- Table K.5: AC coefficients of luminance.
abbrev pub luminance_ac : Table
luminance_ac =
    default_table AC (0 ∷ 2 ∷ 1 ∷ 3 ∷ 3 ∷ 2 ∷ 4 ∷ 3 ∷ 5 ∷ 5 ∷ 4 ∷ 4 ∷ 0 ∷ 0 ∷ 1 ∷ 125 ∷ [])
    luminance_symbols

abbrev pub chrominance_symbols : List ℕ
chrominance_symbols =
    0 ∷ 1 ∷ 2 ∷ 3 ∷ 17 ∷ 4 ∷ 5 ∷ 33 ∷ 49 ∷ 6 ∷ 18 ∷ 65 ∷ 81 ∷ 7 ∷ 97 ∷ 113 ∷
    19 ∷ 34 ∷ 50 ∷ 129 ∷ 8 ∷ 20 ∷ 66 ∷ 145 ∷ 161 ∷ 177 ∷ 193 ∷ 9 ∷ 35 ∷ 51 ∷ 82 ∷ 240 ∷
    21 ∷ 98 ∷ 114 ∷ 209 ∷ 10 ∷ 22 ∷ 36 ∷ 52 ∷ 225 ∷ 37 ∷ 241 ∷ 23 ∷ 24 ∷ 25 ∷ 26 ∷ 38 ∷
    39 ∷ 40 ∷ 41 ∷ 42 ∷ 53 ∷ 54 ∷ 55 ∷ 56 ∷ 57 ∷ 58 ∷ 67 ∷ 68 ∷ 69 ∷ 70 ∷ 71 ∷ 72 ∷
    73 ∷ 74 ∷ 83 ∷ 84 ∷ 85 ∷ 86 ∷ 87 ∷ 88 ∷ 89 ∷ 90 ∷ 99 ∷ 100 ∷ 101 ∷ 102 ∷ 103 ∷ 104 ∷
    105 ∷ 106 ∷ 115 ∷ 116 ∷ 117 ∷ 118 ∷ 119 ∷ 120 ∷ 121 ∷ 122 ∷ 130 ∷ 131 ∷ 132 ∷ 133 ∷ 134 ∷ 135 ∷
    136 ∷ 137 ∷ 138 ∷ 146 ∷ 147 ∷ 148 ∷ 149 ∷ 150 ∷ 151 ∷ 152 ∷ 153 ∷ 154 ∷ 162 ∷ 163 ∷ 164 ∷ 165 ∷
    166 ∷ 167 ∷ 168 ∷ 169 ∷ 170 ∷ 178 ∷ 179 ∷ 180 ∷ 181 ∷ 182 ∷ 183 ∷ 184 ∷ 185 ∷ 186 ∷ 194 ∷ 195 ∷
    196 ∷ 197 ∷ 198 ∷ 199 ∷ 200 ∷ 201 ∷ 202 ∷ 210 ∷ 211 ∷ 212 ∷ 213 ∷ 214 ∷ 215 ∷ 216 ∷ 217 ∷ 218 ∷
    226 ∷ 227 ∷ 228 ∷ 229 ∷ 230 ∷ 231 ∷ 232 ∷ 233 ∷ 234 ∷ 242 ∷ 243 ∷ 244 ∷ 245 ∷ 246 ∷ 247 ∷ 248 ∷
    249 ∷ 250 ∷ []

-- Table K.6: AC coefficients of chrominance.
abbrev pub chrominance_ac : Table
chrominance_ac =
    default_table AC (0 ∷ 2 ∷ 1 ∷ 2 ∷ 4 ∷ 4 ∷ 3 ∷ 4 ∷ 7 ∷ 5 ∷ 4 ∷ 4 ∷ 0 ∷ 1 ∷ 2 ∷ 119 ∷ [])
    chrominance_symbols

-- ---- what is filled

-- counts of 1 to 256 symbols whose codes exist
pub record AreCodes (counts symbols : List ℕ) : Type 0 where
  pub count : sum counts ≡ length symbols
  pub some : 1 ≤ length symbols
  pub most : length symbols ≤ 256
  pub exist : HasCodes (code_lengths counts)

abbrev pub names : List ℕ → ℕ → Bool
names destinations destination = list_any (λ p. p == destination) destinations

-- A table where one is there or the destination isn't named, else the default one.
abbrev pub filled : Table → Bool → Option Table → Option Table
filled default named (Some table) = Some table
filled default named None = if named then Some default else None

-- Places 0 and 1 of some tables, with the default tables of luminance and of chrominance where a
-- scan names them and they are unset.
abbrev pub with_defaults : Table → Table → List ℕ → List (Option Table) → List (Option Table)
with_defaults luminance chrominance destinations [] = []
with_defaults luminance chrominance destinations (a ∷ []) = filled luminance (names destinations 0)
    a ∷ []
with_defaults luminance chrominance destinations (a ∷ b ∷ more) =
    filled luminance (names destinations 0) a ∷ filled chrominance (names destinations 1) b ∷ more

-- Each destination is as it was or as it would be.
unfoldable pub AreBetween : List (Option Table) → List (Option Table) → List (Option Table) → Type 0
AreBetween [] [] [] = Unit {0}
AreBetween (o ∷ old) (w ∷ whole) (n ∷ new) = ((n ≡ o) ⊎ (n ≡ w)) × AreBetween old whole new
AreBetween _ _ _ = ⊥
