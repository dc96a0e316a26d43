-- A question whose printed derivation is handed to the check, for the triple with its gap filled.
-- Assumes nothing.
use Rattle.std.specs.Prelude.{◌≡◌, List, ℕ, Err}
use Rattle.facts.specs.declared.Fact.{Fact}
use Rattle.facts.specs.Results.{Answer, Done, Yes, No, Long, Accepted, Refused}
use Rattle.question.specs.Question.{question, Answered}
use Rattle.confirms.specs.declared.Confirmed.{Confirmed}

-- the check accepts what a yes printed, with the same count; any other answer stands as it is
unfoldable pub confirmed : Answer → Answer
confirmed (Yes f x) = Accepted f
confirmed No = No
confirmed (Long f) = Long f
confirmed (Done n) = Done n
confirmed (Accepted n) = Accepted n
confirmed (Err stop) = Refused stop.refusal stop.place

pub record Confirms (table : List ℕ) (t : Fact) (limit : ℕ) (entry exit : List ℕ) (r : Confirmed) : Type 0 where
  pub answers : Answered (question table t limit) entry exit r.answer
  pub verdict : r.verdict ≡ confirmed r.answer
