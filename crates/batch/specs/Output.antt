-- The program's output: a reply to each question (document 01, "Panel and program").
-- Assumes nothing.
use Rattle.std.specs.Prelude.{Err, cond, ◌&&◌, List, [], ◌∷◌, ◌++◌, ℕ, ◌+◌, ◌*◌, take, leb, ltb, Option, None, Some, length}
use Rattle.columns.specs.Lines.{line, flat, items_from}
use Rattle.facts.specs.declared.Refusal.TheVariants.{Form}
use Rattle.facts.specs.Results.{Answer, Done, Yes, No, Long, Accepted, Refused}
use Rattle.facts.specs.Answers.{code_of}
use Rattle.table.specs.Tables.{table_of}
use Rattle.question.specs.Question.{needed, question_answer, printed_from}
use Rattle.batch.specs.declared.Parts.{Parts}
use Rattle.batch.specs.declared.Query.{Query}
use Rattle.batch.specs.Input.{questions_behind, layout_of, question_at}

-- an answer's number, place and count; the term that a yes names isn't printed, the derivation's last line has it
abbrev pub code_numbers : Answer → List ℕ
code_numbers a = (code_of a).number ∷ (code_of a).place ∷ (code_of a).count ∷ []

-- the line with them
unfoldable pub code_line : Answer → List ℕ
code_line a = line (code_numbers a)

-- what follows it: the derivation behind a yes, and else nothing
unfoldable pub behind_code : Answer → List ℕ → List ℕ
behind_code (Yes f x) derivation = derivation
behind_code No derivation = []
behind_code (Long f) derivation = []
behind_code (Done n) derivation = []
behind_code (Accepted n) derivation = []
behind_code (Err stop) derivation = []

-- the bytes of the reply with an answer: a line, and 2 f - 1 lines of derivation behind a yes
abbrev pub reply_size : Answer → ℕ
reply_size (Yes f x) = 16 + needed f
reply_size No = 16
reply_size (Long f) = 16
reply_size (Done n) = 16
reply_size (Accepted n) = 16
reply_size (Err stop) = 16

-- the reply to a question about a table's bytes; it is put with memory enough for every limit
unfoldable pub reply_to : List ℕ → Query → List ℕ
unfolding code_line behind_code question_answer printed_from
reply_to table q =
    let a = question_answer table q.fact q.limit (needed 1024) in
    code_line a ++ behind_code a (printed_from (table_of table) q.fact)

-- the reply to question k, counted from 0, of an input whose table has so many bytes
unfoldable pub reply : List ℕ → ℕ → ℕ → List ℕ
unfolding reply_to question_at
reply b size k = reply_to (take size b) (question_at b (size + 16 + 21 * k))

-- the bytes of the longest reply
abbrev pub longest : ℕ
longest = 16 + needed 1024

-- what is written for question k into m bytes: its reply, if the input has that question and the longest reply has room
unfoldable pub reply_in : List ℕ → ℕ → ℕ → ℕ → List ℕ
unfolding reply
reply_in b size k m = cond (leb longest m && ltb k (questions_behind b size)) (reply b size k) []

-- and its length, or none where nothing is written
unfoldable pub reply_length : List ℕ → ℕ → ℕ → ℕ → Option ℕ
unfolding reply
reply_length b size k m = cond (leb longest m && ltb k (questions_behind b size)) (Some (length (reply b size k))) None

-- the output of an input by its parts: `    9    0    0` where it is torn, and else the replies, one behind the other
unfoldable pub output_by : List ℕ → Option Parts → List ℕ
unfolding code_line reply flat items_from
output_by b None = code_line (Refused Form 0)
output_by b (Some p) = flat (reply b p.table) (items_from (λ k. k) 0 p.questions)

-- all that the program is to print
unfoldable pub output_of : List ℕ → List ℕ
unfolding output_by layout_of
output_of b = output_by b (layout_of b)
