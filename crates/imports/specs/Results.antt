-- What the lines of an input come to, as the code's Result: words for its cases.
-- Assumes nothing.
use Rattle.std.specs.Prelude.{ℕ, Result, Ok, Err}
use Rattle.facts.specs.declared.Refusal.{Refusal}
use Rattle.facts.specs.declared.Refused.{Refused}

-- nothing to refuse, or the first refusal and its place
abbrev pub Finding : Type 0
Finding = Result (Unit {0}) Refused

pattern abbrev pub Clear : Finding
Clear = Ok tt

abbrev pub Fault : Refusal → ℕ → Finding
Fault r place = Err (record { refusal = r; place = place })
