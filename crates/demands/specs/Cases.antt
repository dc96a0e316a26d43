-- Document 01's twelve table questions, as one list; h and i as document 02, Point 2, answers them.
-- Assumes nothing.
use Rattle.std.specs.Prelude.{List, [], ◌∷◌, ℕ}
use Rattle.facts.specs.declared.Fact.{Fact}
use Rattle.facts.specs.declared.Code.{Code}
use Rattle.facts.specs.Facts.{fact}
use Rattle.facts.specs.Answers.{code_of, numbered}
use Rattle.table.specs.Tables.{table_bytes}
use Rattle.question.specs.Question.{needed, question_answer}

-- a table's facts, the fact put, the allowance, and what is answered: number, place and count, and no term named
pub record Case : Type 0 where
  pub table : List Fact
  pub asks : Fact
  pub limit : ℕ
  pub gives : Code

abbrev case : List Fact → Fact → ℕ → Code → Case
case table asks limit gives = record { table = table; asks = asks; limit = limit; gives = gives }

-- document 01's table T
abbrev pub table-T : List Fact
table-T = fact 10 13 20 ∷ fact 11 1 12 ∷ fact 13 2 14 ∷ fact 14 3 11 ∷ []

abbrev yes : ℕ → Code
yes f = numbered 90 0 f

abbrev nothing : Code
nothing = numbered 91 0 0

abbrev long : ℕ → Code
long f = numbered 92 0 f

-- cases a to l in order; c is put twice
unfoldable pub cases : List Case
cases =
    case [] (fact 10 1 11) 4 nothing
    ∷ case table-T (fact 10 5 12) 4 (yes 4)
    ∷ case table-T (fact 10 5 12) 3 (long 4)
    ∷ case table-T (fact 10 5 12) 0 (long 4)
    ∷ case table-T (fact 10 14 20) 4 (yes 2)
    ∷ case table-T (fact 12 1 12) 4 nothing
    ∷ case (fact 10 1 11 ∷ fact 11 1 10 ∷ []) (fact 10 1 10) 4 (yes 2)
    ∷ case table-T (fact 13 3 11) 4 nothing
    ∷ case (fact 6 7 8 ∷ fact 7 2 40000 ∷ fact 40000 2 9 ∷ []) (fact 6 9 8) 4 (numbered 12 2 0)
    ∷ case (fact 6 7 8 ∷ fact 7 2 40000 ∷ fact 40000 3 9 ∷ []) (fact 6 5 9) 4 (numbered 12 2 0)
    ∷ case (fact 6 5 10 ∷ fact 6 7 8 ∷ fact 7 3 10 ∷ []) (fact 6 5 10) 4 (yes 1)
    ∷ case (fact 10 1 11 ∷ fact 10 1 11 ∷ []) (fact 10 1 11) 4 (numbered 6 2 0)
    ∷ case table-T (fact 5 1 10) 4 (numbered 5 0 0)
    ∷ []

-- what is answered on the table's bytes, with just enough memory for the allowance
unfoldable pub answer : Case → Code
answer c = code_of (question_answer (table_bytes c.table) c.asks c.limit (needed c.limit))
