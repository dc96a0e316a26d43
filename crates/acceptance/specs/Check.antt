-- The check of a derivation, as a computation (document 01, "Derivation lines and their check" and the order of refusals: "The
-- check tries table, triple, 9 over all lines, 10, 11").
-- Assumes nothing.
use Rattle.std.specs.Prelude.{Err, ◌≡◌, ◌↔◌, Bool, cond, ◌&&◌, List, ℕ, ◌-◌, ◌*◌, ◌/◌, ◌≤◌, ◌<◌, length, T, eqb, ltb}
use Rattle.columns.specs.Lines.{laid_out, items_from}
use Rattle.facts.specs.declared.Fact.{Fact}
use Rattle.facts.specs.declared.Refusal.TheVariants.{Form, Step, End}
use Rattle.facts.specs.Results.{Verdict, Sound, Faulty, Answer, Accepted, Refused}
use Rattle.facts.specs.declared.Code.{Code}
use Rattle.facts.specs.Facts.{well_formed, fault_of}
use Rattle.facts.specs.Answers.{AcceptedWith}
use Rattle.table.specs.Results.{Scan, Passes}
use Rattle.table.specs.Scans.{scan}
use Rattle.table.specs.Tables.{Table, TableFacts, accepted, refused, sized, table_bytes, table_of}
use Rattle.rules.specs.declared.Line.{Line}
use Rattle.rules.specs.Graph.{any}
use Rattle.rules.specs.Rules.{Rule}
use Rattle.rules.specs.Derivations.{fact_on, table_lines, Derives}
use Rattle.rules.specs.Steps.{same, step_from, justified}
use Rattle.derivation.specs.Bytes.{line_at, derivation_bytes}

-- the first n lines of the derivation's bytes, by what their fields say
abbrev pub lines_of : List ℕ → ℕ → List Line
lines_of x n = items_from (line_at x) 0 n

-- the two cases of a justified line, by its mark
abbrev pub table_line : List Fact → Line → Bool
table_line facts l = eqb l.first 0 && eqb l.second 0 && any (same l.fact) facts

abbrev pub rule_line : List Line → Line → Bool
rule_line before l = step_from l.rule (fact_on before l.first) (fact_on before l.second) l.fact

-- 9: a line is badly laid out
unfoldable pub form_verdict : List ℕ → ℕ → Verdict
form_verdict x i = cond (laid_out 6 x (31 * i)) Sound (Faulty Form)

-- 10: a line is neither a table line nor a rule's result
unfoldable pub step_verdict : List Fact → List ℕ → ℕ → Verdict
step_verdict facts x i = cond (justified facts (lines_of x i) (line_at x i)) Sound (Faulty Step)

-- a scan's refusal, or else a further answer
unfoldable pub after : Scan → Answer → Answer
after (Passes n) a = a
after (Err stop) a = Refused stop.refusal stop.place

-- 11: the last of n lines is not the fact put; else accepted, with the number of table lines
unfoldable pub end_answer : Fact → List ℕ → ℕ → Answer
end_answer t x n = cond (same (line_at x (n - 1)).fact t) (Accepted (table_lines (lines_of x n))) (Refused End n)

-- the lines tried for 9, then for 10, then for 11
unfoldable pub lines_answer : List Fact → Fact → List ℕ → ℕ → Answer
lines_answer facts t x n = after (scan (form_verdict x) 0 n) (after (scan (step_verdict facts x) 0 n) (end_answer t x n))

-- 9 with place 0 for 0 bytes, no multiple of 31, or above 63,457 bytes
unfoldable pub derivation_answer : List Fact → Fact → List ℕ → Answer
derivation_answer facts t x = cond (ltb 0 (length x) && sized 31 63457 (length x)) (lines_answer facts t x (length x / 31)) (Refused Form 0)

-- 3, 4, 5, 12 with place 0 for the fact put
unfoldable pub fact_answer : Verdict → Answer → Answer
fact_answer Sound a = a
fact_answer (Faulty r) a = Refused r 0

-- the table's own refusal comes first
unfoldable pub table_answer : Table → Fact → List ℕ → Answer
table_answer (accepted facts) t x = fact_answer (fault_of t) (derivation_answer facts t x)
table_answer (refused r place) t x = Refused r place

-- what the check answers
unfoldable pub check_answer : List ℕ → Fact → List ℕ → Answer
check_answer b t x = table_answer (table_of b) t x

-- ---- the call, and what its answer means

-- the bytes x are a derivation of t from the facts, of 1 to 2,047 lines, with c table lines
pub record DerivationOf (facts : List Fact) (t : Fact) (x : List ℕ) (c : ℕ) : Type 0 where
  pub derivation : List Line
  pub bytes : x ≡ derivation_bytes derivation
  pub some-line : 0 < length derivation
  pub short : length derivation ≤ 2047
  pub derives : Derives Rule facts derivation t
  pub count : table_lines derivation ≡ c

-- over a table with some facts, for a well-formed fact, exactly the derivations are accepted, with the number of their table lines
abbrev pub Judges : List ℕ → Fact → List ℕ → Code → Type 0
Judges b t x c = (facts : List Fact) → TableFacts facts → b ≡ table_bytes facts → T (well_formed t) → (n : ℕ) → AcceptedWith c n ↔ DerivationOf facts t x n
