-- The question (document 01, "The question" and the order of refusals; document 02, Point 1: a gap): its answer for every input, and
-- the output afterwards. The limit is document 01's allowance, the output its paper.
-- Assumes nothing.
use Rattle.std.specs.Prelude.{Err, ◌≡◌, ◌⊎◌, cond, List, [], map, ℕ, suc, ◌+◌, ◌-◌, ◌*◌, ◌≤◌, ◌<◌, length, T, leb}
use Rattle.std.proofs.Math.Option.{Option, none, some}
use Rattle.columns.specs.Lines.{over}
use Rattle.facts.specs.declared.Fact.{Fact}
use Rattle.facts.specs.declared.Refusal.{Refusal}
use Rattle.facts.specs.declared.Refusal.TheVariants.{Allowance, Short}
use Rattle.facts.specs.Results.{Verdict, Sound, Faulty, Answer, Done, Yes, No, Long, Accepted, Refused}
use Rattle.facts.specs.declared.Code.{Code}
use Rattle.facts.specs.Facts.{well_formed, or_else}
use Rattle.facts.specs.Gaps.{Askable, question_fault, filling_of, filled_by}
use Rattle.facts.specs.Answers.{SaysFollows, YesWith, LongWith, SaysNo, RefusedWith}
use Rattle.table.specs.Tables.{Table, TableFacts, accepted, refused, table_bytes, table_of, all_formed}
use Rattle.rules.specs.declared.Line.{Line}
use Rattle.rules.specs.Rules.{Rule}
use Rattle.rules.specs.Derivations.{Relation, Derives, Derivable, Closed, Holds, table_lines}
use Rattle.rules.specs.Fillings.{DerivableFilling, LeastFilling}
use Rattle.rules.specs.Order.{InOrder}
use Rattle.rules.specs.Paths.{fewest}
use Rattle.rules.specs.Printed.{printed, print_order, conclusion}
use Rattle.rules.specs.Chosen.{chosen, fact_in}
use Rattle.question.specs.Row.{Sorted}
use Rattle.derivation.specs.Bytes.{derivation_bytes}

-- ---- the answer

-- the bytes of output that a limit asks for: 31 for each of 2 L - 1 lines, and none for L = 0
abbrev pub needed : ℕ → ℕ
needed limit = 31 * (2 * limit - 1)

-- what a question to an accepted table earns, with so many bytes of output: 3, 4, 5, 12, then 7, then 8
unfoldable pub asked : Fact → ℕ → ℕ → Verdict
unfolding or_else question_fault
asked t limit size = or_else (question_fault t) (cond (leb limit 1024) (cond (leb (needed limit) size) Sound (Faulty Short)) (Faulty Allowance))

-- the derivation for a path's facts, in printed order
unfoldable pub derivation_of : List Fact → Option (List ℕ) → List Line
unfolding printed print_order
derivation_of facts none = []
derivation_of facts (some places) = printed (print_order (map (fact_in facts) places))

-- the derivation that is printed for t: that of the chosen path, if there is a path
unfoldable pub derivation_for : List Fact → Fact → List Line
unfolding derivation_of chosen
derivation_for facts t = derivation_of facts (chosen facts t)

-- the term that fills the gap of t: it stands there in what that derivation ends in
unfoldable pub filling_for : List Fact → Fact → ℕ
unfolding filling_of conclusion derivation_for
filling_for facts t = filling_of t (conclusion (derivation_for facts t))

-- yes where the fewest table lines are within the limit, with the term that fills the gap, and else long; no where there are none
unfoldable pub answer_by : ℕ → Option ℕ → ℕ → Answer
answer_by limit none x = No
answer_by limit (some f) x = cond (leb f limit) (Yes f x) (Long f)

-- the answer from a table's facts: no lent memory matters
unfoldable pub answer_of : List Fact → Fact → ℕ → Answer
unfolding answer_by fewest filling_for
answer_of facts t limit = answer_by limit (fewest facts t) (filling_for facts t)

-- an answer, unless something is refused; the place is 0
unfoldable pub unless : Verdict → Answer → Answer
unless Sound a = a
unless (Faulty r) a = Refused r 0

-- the answer from a table: its refusal, with place, comes first
unfoldable pub answer_from : Table → Fact → ℕ → ℕ → Answer
unfolding unless asked answer_of
answer_from (accepted facts) t limit size = unless (asked t limit size) (answer_of facts t limit)
answer_from (refused r place) t limit size = Refused r place

-- the answer to a question: table bytes, fact, limit, bytes of output
unfoldable pub question_answer : List ℕ → Fact → ℕ → ℕ → Answer
unfolding answer_from table_of
question_answer table t limit size = answer_from (table_of table) t limit size

-- ---- the output

-- the bytes that are printed for t
unfoldable pub printed_for : List Fact → Fact → List ℕ
unfolding derivation_for
printed_for facts t = derivation_bytes (derivation_for facts t)

-- and from a table
unfoldable pub printed_from : Table → Fact → List ℕ
unfolding printed_for
printed_from (accepted facts) t = printed_for facts t
printed_from (refused r place) t = []

-- a yes writes over the front of the output; any other answer writes nothing
unfoldable pub written : Answer → List ℕ → List ℕ → List ℕ
written (Yes f x) bytes old = over bytes old
written No bytes old = old
written (Long f) bytes old = old
written (Done n) bytes old = old
written (Accepted n) bytes old = old
written (Err stop) bytes old = old

-- the output after a question
unfoldable pub output_after : List ℕ → Fact → ℕ → List ℕ → List ℕ
unfolding written question_answer printed_from
output_after table t limit old = written (question_answer table t limit (length old)) (printed_from (table_of table) t) old

-- what the answer from facts needs: that they ascend and are well-formed, a limit of at most 1,024, and the output that it asks for
pub record Settling (facts : List Fact) (limit size : ℕ) : Type 0 where
  pub sorted : Sorted facts
  pub formed : T (all_formed facts)
  pub limited : limit ≤ 1024
  pub room : needed limit ≤ size

-- ---- the call, and what its answer means

-- a question: a table's bytes, the triple put, which may have a gap, and its limit
pub record Question : Type 0 where
  pub table : List ℕ
  pub fact : Fact
  pub limit : ℕ

abbrev pub question : List ℕ → Fact → ℕ → Question
question table t limit = record { table = table; fact = t; limit = limit }

-- the call, as equations: its answer, and the output afterwards
pub record Answered (q : Question) (entry exit : List ℕ) (a : Answer) : Type 0 where
  pub answer : a ≡ question_answer q.table q.fact q.limit (length entry)
  pub output : exit ≡ output_after q.table q.fact q.limit entry

-- x is a derivation of t from the facts as document 01 has it printed: f table lines, 2 f - 1 lines, in the printed order
pub record Prints (facts : List Fact) (t : Fact) (f : ℕ) (x : List ℕ) : Type 0 where
  pub derivation : List Line
  pub bytes : x ≡ derivation_bytes derivation
  pub derives : Derives Rule facts derivation t
  pub order : InOrder derivation
  pub count : table_lines derivation ≡ f
  pub lines : suc (length derivation) ≡ f + f

-- what number, place, count and the term named then mean, over a table with these facts
pub record Meaning (q : Question) (entry exit : List ℕ) (c : Code) (facts : List Fact) : Type 0 where
  -- an answer comes: for what may be asked, a limit of at most 1,024, and the output that it asks for
  pub comes : Askable q.fact → q.limit ≤ 1024 → needed q.limit ≤ length entry → ((f : ℕ) × SaysFollows c f) ⊎ SaysNo c
  -- yes and long carry the fewest table lines of any derivation of any filling, and these are at most the table's facts
  pub least : (f : ℕ) → SaysFollows c f → ((u : Fact) × LeastFilling Rule facts q.fact f u) × (f ≤ length facts)
  -- yes: the term named fills the gap, and what it fills has so few
  pub filling : (f x : ℕ) → YesWith c f x → LeastFilling Rule facts q.fact f (filled_by q.fact x)
  -- every other answer, and one to a question without a gap, names none
  pub unnamed : (c.number ≡ 90 → ⊥) ⊎ T (well_formed q.fact) → c.filling ≡ 0
  -- yes: they are within the limit, and the derivation with the name `printed_for`, which ends in the filled triple, stands in the front of
  -- the output, where what was behind it still does
  pub printed : (f x : ℕ) → YesWith c f x
      → (f ≤ q.limit) × (exit ≡ over (printed_for facts q.fact) entry) × Prints facts (filled_by q.fact x) f (printed_for facts q.fact)
  -- long: they are not, and nothing is written
  pub longer : (f : ℕ) → LongWith c f → (q.limit < f) × (exit ≡ entry)
  -- no: no filling has a derivation; the facts that have one are a closed set that holds the table and lacks every filling; nothing is
  -- written
  pub none : SaysNo c → Closed Rule (Derivable Rule facts) × Holds (Derivable Rule facts) facts × (DerivableFilling Rule facts q.fact → ⊥) × (exit ≡ entry)

pub record Means (q : Question) (entry exit : List ℕ) (c : Code) : Type 0 where
  pub sound : (facts : List Fact) → TableFacts facts → q.table ≡ table_bytes facts → Meaning q entry exit c facts
  pub refused : (r : Refusal) (place : ℕ) → RefusedWith c r place → exit ≡ entry

-- ---- the answer over any list of rules

-- what number and count answer the question t, by the rules R and with this limit: 90 and 92 with the fewest table lines over every
-- filling, 91 with 0 where no filling has a derivation
pub data AnswersBy (R : Relation) (facts : List Fact) (t : Fact) (limit : ℕ) : ℕ → ℕ → Type 0 where
  yes : {f : ℕ} {u : Fact} → LeastFilling R facts t f u → f ≤ limit → AnswersBy R facts t limit 90 f
  long : {f : ℕ} {u : Fact} → LeastFilling R facts t f u → limit < f → AnswersBy R facts t limit 92 f
  no : (DerivableFilling R facts t → ⊥) → AnswersBy R facts t limit 91 0
