-- Which refusal a fact or a line earns, and the first line that earns one (document 01, the order of refusals: "lines
-- downward, each tried for 2, 3, 4, 5, 6 in that order over its whole width"; document 02, Point 2: 12 "tried after 5 and before 6").
-- Assumes nothing.
use Rattle.std.specs.Prelude.{◌≡◌, Bool, true, false, cond, not, ◌||◌, ℕ, zero, suc, ◌-◌, eqb}
use mathlib.Core.List.{List, [], ◌∷◌, ◌++◌, Memᴰ}
use Rattle.facts.specs.declared.Fact.{Fact}
use Rattle.facts.specs.declared.Refusal.{Refusal}
use Rattle.facts.specs.declared.Refusal.TheVariants.{Size, Column, Term, Blank, Part, Order, Allowance, Short, Form, Step, End, Class, Statement, UnknownNode, Crowd}
use Rattle.facts.specs.Results.{Verdict, Sound, Faulty}
use Rattle.facts.specs.Facts.{has_no_term, has_blank, misplaced, text_as_class, before}
use Rattle.table.specs.Results.{Scan, Passes, Stops}

-- the fact at i, counted from 0, is above the one before it; the first has none before it
unfoldable pub above : (ℕ → Fact) → ℕ → Bool
above at i = eqb i 0 || before (at (i - 1)) (at i)

-- what the line with the fact at i earns, by itself or after the fact before it; laid says that the line is laid out as a line
unfoldable pub earns : Bool → (ℕ → Fact) → ℕ → Refusal → Bool
earns laid at i Column = not laid
earns laid at i Term = has_no_term (at i)
earns laid at i Blank = has_blank (at i)
earns laid at i Part = misplaced (at i)
earns laid at i Class = text_as_class (at i)
earns laid at i Order = not (above at i)
earns laid at i Size = false
earns laid at i Allowance = false
earns laid at i Short = false
earns laid at i Form = false
earns laid at i Step = false
earns laid at i End = false
earns laid at i Statement = false
earns laid at i UnknownNode = false
earns laid at i Crowd = false

-- the order in which a line's refusals are tried
abbrev pub tried : List Refusal
tried = Column ∷ Term ∷ Blank ∷ Part ∷ Class ∷ Order ∷ []

-- the first of some refusals that is earned
unfoldable pub first_earned : (Refusal → Bool) → List Refusal → Verdict
first_earned e [] = Sound
first_earned e (r ∷ rs) = cond (e r) (Faulty r) (first_earned e rs)

-- the same, said of what it is: of the refusals in the order in which they are tried, r is the first that is earned
pub record First (earned : Refusal → Bool) (order : List Refusal) (r : Refusal) : Type 0 where
  pub before : List Refusal
  pub behind : List Refusal
  pub place : order ≡ before ++ (r ∷ behind)
  pub not-before : (q : Refusal) → Memᴰ q before → earned q ≡ false
  pub here : earned r ≡ true

-- a verdict on the line i, counted from 0, before the scan of the lines behind it
unfoldable pub onward : Verdict → ℕ → Scan → Scan
onward Sound i later = later
onward (Faulty r) i later = Stops r (suc i)

-- the scan of n lines from i on: all pass, and Passes has their number with those before; or Stops has the first refusal and
-- its place, counted from 1
unfoldable pub scan : (ℕ → Verdict) → ℕ → ℕ → Scan
scan judge i zero = Passes i
scan judge i (suc n) = onward (judge i) i (scan judge (suc i) n)
