-- The calls for C, as equations: what is handed over, the lent memory at entry and at exit, and the result, an answer in one number.
-- Assumes nothing.
use Rattle.std.specs.Prelude.{◌≡◌, List, ℕ, length}
use Rattle.facts.specs.declared.Fact.{Fact}
use Rattle.facts.specs.Answers.{code_of}
use Rattle.table.specs.Tables.{row_of, table_bytes, table_of, table_of_row, settled, filled}
use Rattle.acceptance.specs.Check.{check_answer}
use Rattle.question.specs.Question.{Question, question_answer, output_after}
use Rattle.imports.specs.Import.{import_of}
use Rattle.packing.specs.Packed.{packed}

-- a question; entry and exit are the output, document 01's paper
pub record QuestionCall (q : Question) (entry exit : List ℕ) (r : ℕ) : Type 0 where
  pub answer : r ≡ packed (code_of (question_answer q.table q.fact q.limit (length entry)))
  pub output : exit ≡ output_after q.table q.fact q.limit entry

-- the check of the derivation x of t from the table b
pub record CheckCall (b : List ℕ) (t : Fact) (x : List ℕ) (r : ℕ) : Type 0 where
  pub answer : r ≡ packed (code_of (check_answer b t x))

-- reading the table b into a row
pub record ReadCall (b entry exit : List ℕ) (r : ℕ) : Type 0 where
  pub answer : r ≡ packed (code_of (settled row_of (table_of b) (length entry)))
  pub row : exit ≡ filled row_of (table_of b) entry

-- writing a row as a table
pub record WriteCall (row entry exit : List ℕ) (r : ℕ) : Type 0 where
  pub answer : r ≡ packed (code_of (settled table_bytes (table_of_row row) (length entry)))
  pub bytes : exit ≡ filled table_bytes (table_of_row row) entry

-- importing N-Triples as a table
pub record ImportCall (input entry exit : List ℕ) (r : ℕ) : Type 0 where
  pub answer : r ≡ packed (code_of (settled table_bytes (import_of input) (length entry)))
  pub bytes : exit ≡ filled table_bytes (import_of input) entry
