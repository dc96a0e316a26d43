-- The papers' numbers tell the answers apart: an answer is read back from its number, place and count and the term it names.
-- Assumes nothing.
use Rattle.std.specs.Prelude.{Err}
use mathlib.Core.Path.{◌≡◌, refl, sym, ap, ◌∙◌}
use mathlib.Core.Bool.{cond}
use mathlib.Core.List.{List, [], ◌∷◌}
use Prim.Native.Nat.{ℕ, ◌-◌, ◌≤◌}
use native.Mathlib.Omega.{arith}
use lib.ListN.{get_or}
use lib.Dec.{eqb}
use Rattle.facts.specs.declared.Code.{Code}
use Rattle.facts.specs.declared.Refusal.{Refusal}
use Rattle.facts.specs.declared.Refusal.TheVariants.{Size, Column, Term, Blank, Part, Order, Allowance, Short, Form, Step, End, Class, Statement, UnknownNode, Crowd}
use Rattle.facts.specs.Results.{Answer, Done, Yes, No, Long, Accepted, Refused}
use Rattle.facts.specs.Answers.{code_of, number_of, YesWith, LongWith, SaysNo, AcceptedWith, RefusedWith}

-- the refusals in the order of their numbers
abbrev refusals : List Refusal
refusals = Size ∷ Column ∷ Term ∷ Blank ∷ Part ∷ Order ∷ Allowance ∷ Short ∷ Form ∷ Step ∷ End ∷ Class ∷ Statement ∷ UnknownNode ∷ Crowd ∷ []

-- the largest number of a refusal
pub number-within : (r : Refusal) → number_of r ≤ 15
number-within Size = omega arith
number-within Column = omega arith
number-within Term = omega arith
number-within Blank = omega arith
number-within Part = omega arith
number-within Order = omega arith
number-within Allowance = omega arith
number-within Short = omega arith
number-within Form = omega arith
number-within Step = omega arith
number-within End = omega arith
number-within Class = omega arith
number-within Statement = omega arith
number-within UnknownNode = omega arith
number-within Crowd = omega arith

-- an answer by its numbers
abbrev answer_for : Code → Answer
answer_for c =
    cond (eqb c.number 0) (Done c.count)
    (cond (eqb c.number 90) (Yes c.count c.filling)
    (cond (eqb c.number 91) No
    (cond (eqb c.number 92) (Long c.count)
    (cond (eqb c.number 93) (Accepted c.count) (Refused (get_or refusals (c.number - 1) Size) c.place)))))

refusal_back : (r : Refusal) (place : ℕ) → answer_for (code_of (Refused r place)) ≡ Refused r place
refusal_back Size place = refl
refusal_back Column place = refl
refusal_back Term place = refl
refusal_back Blank place = refl
refusal_back Part place = refl
refusal_back Order place = refl
refusal_back Allowance place = refl
refusal_back Short place = refl
refusal_back Form place = refl
refusal_back Step place = refl
refusal_back End place = refl
refusal_back Class place = refl
refusal_back Statement place = refl
refusal_back UnknownNode place = refl
refusal_back Crowd place = refl

answer_back : (a : Answer) → answer_for (code_of a) ≡ a
answer_back (Done n) = refl
answer_back (Yes n x) = refl
answer_back No = refl
answer_back (Long n) = refl
answer_back (Accepted n) = refl
answer_back (Err stop) = refusal_back stop.refusal stop.place

-- answers with the same numbers are the same
pub same_answer : (a b : Answer) → code_of a ≡ code_of b → a ≡ b
same_answer a b e = sym (answer_back a) ∙ ap (λ c. answer_for c) e ∙ answer_back b

-- what number, place and count say of an answer is that it is so
pub told-yes : {a : Answer} {f x : ℕ} → YesWith (code_of a) f x → a ≡ Yes f x
told-yes {a} {f} {x} e = same_answer a (Yes f x) e

pub told-long : {a : Answer} {f : ℕ} → LongWith (code_of a) f → a ≡ Long f
told-long {a} {f} e = same_answer a (Long f) e

pub told-no : {a : Answer} → SaysNo (code_of a) → a ≡ No
told-no {a} e = same_answer a No e

pub told-accepted : {a : Answer} {n : ℕ} → AcceptedWith (code_of a) n → a ≡ Accepted n
told-accepted {a} {n} e = same_answer a (Accepted n) e

pub told-refused : {a : Answer} {r : Refusal} {place : ℕ} → RefusedWith (code_of a) r place → a ≡ Refused r place
told-refused {a} {r} {place} e = same_answer a (Refused r place) e
