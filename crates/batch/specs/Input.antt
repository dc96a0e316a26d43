-- The program's input: table lines, one zero line, questions (document 01, "Panel and program").
-- Assumes nothing.
use Rattle.std.specs.Prelude.{Bool, true, cond, Option, None, Some, ◌&&◌, List, ℕ, zero, suc, ◌+◌, ◌-◌, ◌*◌, ◌/◌, ◌%◌, length, eqb, leb}
use Rattle.columns.specs.Fields.{number_at}
use Rattle.columns.specs.Lines.{laid_out}
use Rattle.facts.specs.Facts.{fact}
use Rattle.batch.specs.declared.Parts.{Parts}
use Rattle.batch.specs.declared.Query.{Query}

-- the zero line `    0    0    0` stands at a place
unfoldable pub is_zero_line : List ℕ → ℕ → Bool
is_zero_line b at = laid_out 3 b at && eqb (number_at b at) 0 && eqb (number_at b (at + 5)) 0 && eqb (number_at b (at + 10)) 0

-- the bytes behind a table of so many bytes and its zero line
abbrev pub bytes_behind : List ℕ → ℕ → ℕ
bytes_behind b size = length b - (size + 16)

-- the whole questions there, 21 bytes each
abbrev pub questions_behind : List ℕ → ℕ → ℕ
questions_behind b size = bytes_behind b size / 21

-- n questions from a place on are each laid out as four fields and byte 10
unfoldable pub all_laid : List ℕ → ℕ → ℕ → Bool
all_laid b at zero = true
all_laid b at (suc n) = laid_out 4 b at && all_laid b (at + 21) n

-- a table of so many bytes, and so many questions
abbrev pub parts : ℕ → ℕ → Parts
parts size n = record { table = size; questions = n }

-- an input whose table has so many bytes: its parts, or none where a question is torn or badly laid out
unfoldable pub parts_behind : List ℕ → ℕ → Option Parts
unfolding all_laid
parts_behind b size = cond (eqb (bytes_behind b size % 21) 0 && all_laid b (size + 16) (questions_behind b size)) (Some (parts size (questions_behind b size))) None

-- from line i on, of n lines of 16 bytes: the table ends at the first zero line; where there is none, the input is torn
unfoldable pub divided_from : List ℕ → ℕ → ℕ → Option Parts
unfolding is_zero_line parts_behind
divided_from b i zero = None
divided_from b i (suc n) = cond (is_zero_line b (16 * i)) (parts_behind b (16 * i)) (divided_from b (suc i) n)

-- the parts of an input, which has at most 32,768 bytes; none where it is torn
unfoldable pub layout_of : List ℕ → Option Parts
unfolding divided_from
layout_of b = cond (leb (length b) 32768) (divided_from b 0 (length b / 16)) None

-- the question at a place: its triple and its limit
unfoldable pub question_at : List ℕ → ℕ → Query
question_at b at = record { fact = fact (number_at b at) (number_at b (at + 5)) (number_at b (at + 10)); limit = number_at b (at + 15) }
