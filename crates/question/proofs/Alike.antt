-- Which blank node stands for the gap plays no part: questions that ask the same get the same answer and the same output.
-- Assumes nothing.
use mathlib.Core.Path.{◌≡◌, refl, ◌∙◌}
use mathlib.Core.List.{List}
use Prim.Native.Nat.{ℕ}
use lib.ListN.{length}
use Rattle.facts.specs.declared.Fact.{Fact}
use Rattle.facts.specs.Gaps.{AsksSame}
use Rattle.facts.proofs.Gaps.{fault-same, filling-same}
use Rattle.table.specs.Tables.{Table, accepted, refused, table_of}
use Rattle.rules.specs.Printed.{conclusion}
use Rattle.rules.proofs.Alike.{fewest-same, chosen-same}
use Rattle.question.specs.Question.{asked, derivation_for, filling_for, answer_by, answer_of, unless, answer_from, question_answer, printed_for, printed_from, written, output_after}

module _ (t v : Fact) (s : AsksSame t v) where
  derivation-same : (facts : List Fact) → derivation_for facts t ≡ derivation_for facts v
  unfolding derivation_for
  derivation-same facts = rw (chosen-same t v s facts)

  named-same : (facts : List Fact) → filling_for facts t ≡ filling_for facts v
  unfolding filling_for
  named-same facts = filling-same t v s (conclusion (derivation_for facts t)) ∙ rw (derivation-same facts)

  given-same : (facts : List Fact) (limit : ℕ) → answer_of facts t limit ≡ answer_of facts v limit
  unfolding answer_of
  given-same facts limit = λ i. answer_by limit (fewest-same t v s facts i) (named-same facts i)

  asked-same : (limit size : ℕ) → asked t limit size ≡ asked v limit size
  unfolding asked
  asked-same limit size = rw (fault-same t v s)

  from-same : (u : Table) (limit size : ℕ) → answer_from u t limit size ≡ answer_from u v limit size
  unfolding answer_from
  from-same (accepted facts) limit size = λ i. unless (asked-same limit size i) (given-same facts limit i)
  from-same (refused r place) limit size = refl

  printed-same : (u : Table) → printed_from u t ≡ printed_from u v
  unfolding printed_from printed_for
  printed-same (accepted facts) = rw (derivation-same facts)
  printed-same (refused r place) = refl

  pub answer-same : (table : List ℕ) (limit size : ℕ) → question_answer table t limit size ≡ question_answer table v limit size
  unfolding question_answer
  answer-same table limit size = from-same (table_of table) limit size

  pub output-same : (table : List ℕ) (limit : ℕ) (old : List ℕ) → output_after table t limit old ≡ output_after table v limit old
  unfolding output_after
  output-same table limit old = λ i. written (answer-same table limit (length old) i) (printed-same (table_of table) i) old
