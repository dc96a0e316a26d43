-- A decimal number in five columns: right-justified, spaces before it, no leading zero (document 01, "Table layout").
-- Only `/ 10` and `% 10` are used. Assumes nothing.
use Rattle.std.specs.Prelude.{Bool, cond, ◌&&◌, List, [], ◌∷◌, ℕ, ◌+◌, ◌*◌, ◌/◌, ◌%◌, get_or, eqb, Option, Some, None}

-- the byte in a column, where n is what the number has from that column leftwards: a space where nothing is left
unfoldable pub column : ℕ → ℕ
column n = cond (eqb n 0) 32 (48 + n % 10)

-- the five bytes of a number below 100,000; the last column always has a digit
unfoldable pub field : ℕ → List ℕ
field n = column (n / 10 / 10 / 10 / 10) ∷ column (n / 10 / 10 / 10) ∷ column (n / 10 / 10) ∷ column (n / 10) ∷ (48 + n % 10) ∷ []

-- the number with one column more, whose byte is b: a space and '0' count 0
abbrev pub joined : ℕ → ℕ → ℕ
joined n b = n * 10 + b % 16

-- what the five bytes from a place on say as digits, whatever they are
unfoldable pub number_at : List ℕ → ℕ → ℕ
number_at s at = joined (joined (joined (joined (joined 0 (get_or s at 0)) (get_or s (at + 1) 0)) (get_or s (at + 2) 0)) (get_or s (at + 3) 0)) (get_or s (at + 4) 0)

-- the five bytes from a place on are the field of n
unfoldable pub has_field : List ℕ → ℕ → ℕ → Bool
has_field s at n =
    eqb (get_or s at 0) (column (n / 10 / 10 / 10 / 10)) && eqb (get_or s (at + 1) 0) (column (n / 10 / 10 / 10))
    && eqb (get_or s (at + 2) 0) (column (n / 10 / 10)) && eqb (get_or s (at + 3) 0) (column (n / 10)) && eqb (get_or s (at + 4) 0) (48 + n % 10)

-- the five bytes from a place on are a field: that of the number that they say
unfoldable pub is_field : List ℕ → ℕ → Bool
is_field s at = has_field s at (number_at s at)

-- the number that a field has, or else 100,000, which no field has
unfoldable pub field_at : List ℕ → ℕ → ℕ
field_at s at = cond (is_field s at) (number_at s at) 100000

-- the number that a field has, or none where no field stands
unfoldable pub field_read : List ℕ → ℕ → Option ℕ
field_read s at = cond (is_field s at) (Some (number_at s at)) None
