-- An input as document 01 writes it down, "table lines, one line `    0    0    0`, then questions": said of what it is, not of
-- how its parts are found.
-- Assumes nothing.
use Rattle.std.specs.Prelude.{◌≡◌, List, [], ◌∷◌, ◌++◌, ℕ, ◌*◌, ◌%◌, ◌≤◌, ◌<◌, length, take, drop}
use Rattle.columns.specs.Lines.{line, Below, flat}
use Rattle.batch.specs.declared.Query.{Query}

-- the bytes of the zero line
abbrev pub zero_line : List ℕ
zero_line = line (0 ∷ 0 ∷ 0 ∷ [])

-- the four numbers of a question
abbrev pub query_numbers : Query → List ℕ
query_numbers q = q.fact.subject ∷ q.fact.predicate ∷ q.fact.object ∷ q.limit ∷ []

-- its 21 bytes
abbrev pub question_line : Query → List ℕ
question_line q = line (query_numbers q)

-- each number of each question has at most five digits
unfoldable pub AllBelow : List Query → Type 0
AllBelow [] = Unit {0}
AllBelow (q ∷ qs) = Below (query_numbers q) × AllBelow qs

-- b is a table, a zero line and questions, in at most 32,768 bytes; the table has whole lines, and none of them is a zero line
pub record Laid (b table : List ℕ) (questions : List Query) : Type 0 where
  pub bytes : b ≡ table ++ (zero_line ++ flat question_line questions)
  pub few : length b ≤ 32768
  pub whole : length table % 16 ≡ 0
  pub undivided : (i : ℕ) → 16 * i < length table → take 16 (drop (16 * i) table) ≡ zero_line → ⊥
  pub digits : AllBelow questions
