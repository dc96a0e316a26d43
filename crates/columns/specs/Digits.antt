-- A decimal number in columns, said without the words of `Fields` and of the code, which work the digits out one after the other
-- (document 02, Point 4). Only here are digits told by powers of ten. Columns are counted from the right, from 0.
-- Assumes nothing.
use Rattle.std.specs.Prelude.{◌≡◌, Bool, cond, ◌||◌, List, ℕ, ◌+◌, ◌-◌, ◌*◌, ◌/◌, ◌%◌, ◌^◌, ◌<◌, length, get_or, eqb, leb}
use Rattle.columns.specs.Lines.{Below}

-- a digit stands in column k: the last column always has one, another where the number reaches so far
abbrev pub has_digit : ℕ → ℕ → Bool
has_digit n k = eqb k 0 || leb (10 ^ k) n

-- the byte in column k: the digit that stands there, and else a space
unfoldable pub shown : ℕ → ℕ → ℕ
shown n k = cond (has_digit n k) (48 + n / 10 ^ k % 10) 32

-- the five bytes from a place on show n
abbrev pub Shows : List ℕ → ℕ → ℕ → Type 0
Shows s at n = (k : ℕ) → k < 5 → get_or s (at + 4 - k) 0 ≡ shown n k

-- from a place on a line shows these numbers, each of at most five digits, and byte 10 ends it
pub record ShowsLine (s : List ℕ) (at : ℕ) (ns : List ℕ) : Type 0 where
  pub digits : Below ns
  pub columns : (i : ℕ) → i < length ns → Shows s (at + 5 * i) (get_or ns i 0)
  pub end : get_or s (at + 5 * length ns) 0 ≡ 10
