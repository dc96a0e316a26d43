-- How far scans get, as the code's Result: words for its cases.
-- Assumes nothing.
use Rattle.std.specs.Prelude.{ℕ, Result, Ok, Err}
use Rattle.facts.specs.declared.Refusal.{Refusal}
use Rattle.facts.specs.declared.Refused.{Refused}

-- past all lines or facts, and their number, or to the first refusal and its place
abbrev pub Scan : Type 0
Scan = Result ℕ Refused

pattern abbrev pub Passes : ℕ → Scan
Passes n = Ok n

abbrev pub Stops : Refusal → ℕ → Scan
Stops r place = Err (record { refusal = r; place = place })
