-- Lines of fields, each ended by byte 10: 3, 4, 5 or 6 fields make 16, 21, 26 or 31 bytes (document 01, "Table layout",
-- "Derivation lines and their check", "Panel and program").
-- Assumes nothing.
use Rattle.std.specs.Prelude.{Bool, cond, ◌&&◌, List, [], ◌∷◌, ◌++◌, ℕ, zero, suc, ◌+◌, ◌*◌, ◌<◌, get_or, length, drop, eqb, Option, Some, None}
use Rattle.columns.specs.Fields.{field, number_at, is_field}

-- the fields of some numbers, one behind the other
unfoldable pub fields : List ℕ → List ℕ
fields [] = []
fields (n ∷ ns) = field n ++ fields ns

-- the bytes of a line with these numbers
unfoldable pub line : List ℕ → List ℕ
line ns = fields ns ++ (10 ∷ [])

-- each number has at most five digits
abbrev pub Below : List ℕ → Type 0
Below [] = Unit {0}
Below (n ∷ ns) = (n < 100000) × Below ns

-- the bytes of a line of k fields
abbrev pub width : ℕ → ℕ
width k = 5 * k + 1

-- the numbers of the k fields from a place on
unfoldable pub numbers_at : ℕ → List ℕ → ℕ → List ℕ
numbers_at zero s at = []
numbers_at (suc k) s at = number_at s at ∷ numbers_at k s (at + 5)

-- from a place on stand k fields and byte 10
unfoldable pub laid_out : ℕ → List ℕ → ℕ → Bool
laid_out zero s at = eqb (get_or s at 0) 10
laid_out (suc k) s at = is_field s at && laid_out k s (at + 5)

-- the numbers of the k fields from a place on, where they stand there and byte 10 behind them
unfoldable pub numbers_read : ℕ → List ℕ → ℕ → Option (List ℕ)
unfolding laid_out numbers_at
numbers_read k s at = cond (laid_out k s at) (Some (numbers_at k s at)) None

-- bytes or numbers written over the front of a list
abbrev pub over : List ℕ → List ℕ → List ℕ
over new old = new ++ drop (length new) old

-- what g makes of each item, one behind the other
unfoldable pub flat : {A : Type 0} → (A → List ℕ) → List A → List ℕ
flat g [] = []
flat g (a ∷ l) = g a ++ flat g l

-- n items, from i on
unfoldable pub items_from : {A : Type 0} → (ℕ → A) → ℕ → ℕ → List A
items_from at i zero = []
items_from at i (suc n) = at i ∷ items_from at (suc i) n
