-- A field read from the left: its first digit, and the digits behind it.
-- Assumes nothing.
use Rattle.std.specs.Prelude.{cond, List, ℕ, ◌+◌, ◌%◌, fold, eqb, Option, Some, None}
use Rattle.columns.specs.Fields.{joined}

-- the number with one digit more, if b is that digit's byte
unfoldable pub with_digit : ℕ → ℕ → Option ℕ
with_digit n b = cond (eqb b (48 + joined n b % 10)) (Some (joined n b)) None

-- the first digit of a number of several, which is not 0
unfoldable pub first_digit : ℕ → Option ℕ
first_digit b = cond (eqb b 48) None (with_digit 0 b)

-- one digit more behind what was read, which may be no number already
unfoldable pub digit_more : Option ℕ → ℕ → Option ℕ
digit_more None b = None
digit_more (Some n) b = with_digit n b

-- the number of several digits: the first, and those behind it
unfoldable pub digits : ℕ → List ℕ → Option ℕ
digits b bs = fold digit_more (first_digit b) bs
