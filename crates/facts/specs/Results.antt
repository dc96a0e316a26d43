-- What tests find and what calls answer, as the code's Results: words for their cases.
-- Assumes nothing.
use Rattle.std.specs.Prelude.{ℕ, Result, Ok, Err}
use Rattle.facts.specs.declared.Refusal.{Refusal}
use Rattle.facts.specs.declared.Refused.{Refused as Stop}
use Rattle.facts.specs.declared.Outcome as declared
use Rattle.facts.specs.declared.Outcome.TheVariants as said

-- what a test finds: nothing to refuse, or the first refusal that is earned
abbrev pub Verdict : Type 0
Verdict = Result (Unit {0}) Refusal

pattern abbrev pub Sound : Verdict
Sound = Ok tt

pattern abbrev pub Faulty : Refusal → Verdict
Faulty r = Err r

-- what a call answers: where it refuses nothing, or a refusal and its place
abbrev pub Answer : Type 0
Answer = Result declared.Outcome Stop

pattern abbrev pub Done : ℕ → Answer
Done n = Ok (said.Done n)

pattern abbrev pub Yes : ℕ → ℕ → Answer
Yes n x = Ok (said.Yes n x)

pattern abbrev pub No : Answer
No = Ok said.No

pattern abbrev pub Long : ℕ → Answer
Long n = Ok (said.Long n)

pattern abbrev pub Accepted : ℕ → Answer
Accepted n = Ok (said.Accepted n)

-- a refusal and its place
abbrev pub refused_at : Refusal → ℕ → Stop
refused_at r place = record { refusal = r; place = place }

abbrev pub Refused : Refusal → ℕ → Answer
Refused r place = Err (record { refusal = r; place = place })
