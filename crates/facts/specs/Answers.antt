-- The papers' number, place and count for each answer, and the term that a yes names for a gap (document 02, Point 1).
-- Assumes nothing.
use Rattle.std.specs.Prelude.{◌≡◌, ◌⊎◌, ℕ, Err}
use Rattle.facts.specs.declared.Refusal.{Refusal}
use Rattle.facts.specs.declared.Refusal.TheVariants.{Size, Column, Term, Blank, Part, Order, Allowance, Short, Form, Step, End, Class, Statement, UnknownNode, Crowd}
use Rattle.facts.specs.Results.{Answer, Done, Yes, No, Long, Accepted}
use Rattle.facts.specs.declared.Code.{Code}

-- three numbers, and no term named
abbrev pub numbered : ℕ → ℕ → ℕ → Code
numbered n p c = record { number = n; place = p; count = c; filling = 0 }

-- yes with a count, and the term that it names
abbrev pub yes_naming : ℕ → ℕ → Code
yes_naming f x = record { number = 90; place = 0; count = f; filling = x }

abbrev pub number_of : Refusal → ℕ
number_of Size = 1
number_of Column = 2
number_of Term = 3
number_of Blank = 4
number_of Part = 5
number_of Order = 6
number_of Allowance = 7
number_of Short = 8
number_of Form = 9
number_of Step = 10
number_of End = 11
number_of Class = 12
number_of Statement = 13
number_of UnknownNode = 14
number_of Crowd = 15

-- a refusal carries number and place, count 0; every other answer its number and count, place 0; only a yes names a term
abbrev pub code_of : Answer → Code
code_of (Done n) = numbered 0 0 n
code_of (Yes n x) = yes_naming n x
code_of No = numbered 91 0 0
code_of (Long n) = numbered 92 0 n
code_of (Accepted n) = numbered 93 0 n
code_of (Err stop) = numbered (number_of stop.refusal) stop.place 0

-- ---- what the numbers say

-- yes, with the count f, and x named for the gap
abbrev pub YesWith : Code → ℕ → ℕ → Type 0
YesWith c f x = c ≡ yes_naming f x

-- "long", with the count f
abbrev pub LongWith : Code → ℕ → Type 0
LongWith c f = c ≡ numbered 92 0 f

-- yes or "long", with the count f
abbrev pub SaysFollows : Code → ℕ → Type 0
SaysFollows c f = ((x : ℕ) × YesWith c f x) ⊎ LongWith c f

-- no
abbrev pub SaysNo : Code → Type 0
SaysNo c = c ≡ numbered 91 0 0

-- a derivation is accepted, with so many table lines
abbrev pub AcceptedWith : Code → ℕ → Type 0
AcceptedWith c n = c ≡ numbered 93 0 n

-- reading or writing is done, with so many facts
abbrev pub DoneWith : Code → ℕ → Type 0
DoneWith c n = c ≡ numbered 0 0 n

-- a refusal with its number, at a place, count 0
abbrev pub RefusedWith : Code → Refusal → ℕ → Type 0
RefusedWith c r place = c ≡ numbered (number_of r) place 0
