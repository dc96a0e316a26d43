-- What the five calls return, taken apart, is the number, place, count and term of the definition's answer; so what that answer means holds of
-- them.
-- Assumes nothing.
use mathlib.Core.Path.{◌≡◌, refl}
use mathlib.Core.List.{List}
use Prim.Native.Nat.{ℕ}
use lib.ListN.{length}
use Rattle.facts.specs.declared.Fact.{Fact}
use Rattle.facts.specs.Answers.{code_of}
use Rattle.table.specs.Tables.{row_of, table_bytes, table_of, table_of_row, settled}
use Rattle.acceptance.specs.Check.{check_answer, Judges}
use Rattle.acceptance.proofs.Accepts.{check-judges}
use Rattle.question.specs.Question.{Question, question_answer, Means}
use Rattle.question.proofs.Answered.{answers-mean}
use Rattle.imports.specs.Import.{import_of}
use Rattle.packing.specs.Packed.{unpacked}
use Rattle.packing.proofs.Packed.{unpack-pack}
use Rattle.entail.specs.Calls.{QuestionCall, CheckCall, ReadCall, WriteCall, ImportCall}
use Rattle.entail.proofs.Small.{read_small, write-small, import-small, check-small, question-small}

pub question-unpacked : {q : Question} {entry exit : List ℕ} {r : ℕ} → QuestionCall q entry exit r → unpacked r ≡ code_of (question_answer q.table q.fact q.limit (length entry))
question-unpacked g = rw g.answer (unpack-pack _ (question-small _ _ _ _))

pub check-unpacked : {b : List ℕ} {t : Fact} {x : List ℕ} {r : ℕ} → CheckCall b t x r → unpacked r ≡ code_of (check_answer b t x)
check-unpacked g = rw g.answer (unpack-pack _ (check-small _ _ _))

pub read-unpacked : {b entry exit : List ℕ} {r : ℕ} → ReadCall b entry exit r → unpacked r ≡ code_of (settled row_of (table_of b) (length entry))
read-unpacked g = rw g.answer (unpack-pack _ (read_small _ _))

pub write-unpacked : {row entry exit : List ℕ} {r : ℕ} → WriteCall row entry exit r → unpacked r ≡ code_of (settled table_bytes (table_of_row row) (length entry))
write-unpacked g = rw g.answer (unpack-pack _ (write-small _ _))

pub import-unpacked : {input entry exit : List ℕ} {r : ℕ} → ImportCall input entry exit r → unpacked r ≡ code_of (settled table_bytes (import_of input) (length entry))
import-unpacked g = rw g.answer (unpack-pack _ (import-small _ _))

-- what a question's result means
pub call-means : {q : Question} {entry exit : List ℕ} {r : ℕ} → QuestionCall q entry exit r → Means q entry exit (unpacked r)
call-means {q} {entry} {exit} g = rw (question-unpacked g) (answers-mean q entry exit _ (record { answer = refl; output = g.output }))

-- what a check's result means
pub call-judges : {b : List ℕ} {t : Fact} {x : List ℕ} {r : ℕ} → CheckCall b t x r → Judges b t x (unpacked r)
call-judges {b} {t} {x} g = rw (check-unpacked g) (check-judges b t x)

-- a call, with what it means
pub question-said : {q : Question} {entry exit : List ℕ} {r : ℕ} → QuestionCall q entry exit r → QuestionCall q entry exit r × Means q entry exit (unpacked r)
question-said g = (g, call-means g)

pub check-said : {b : List ℕ} {t : Fact} {x : List ℕ} {r : ℕ} → CheckCall b t x r → CheckCall b t x r × Judges b t x (unpacked r)
check-said g = (g, call-judges g)
