-- Reading the chosen path back from the marks and the queue.
-- Assumes nothing.
use Rattle.std.specs.Prelude.{◌≡◌, ◌⊎◌, Bool, ◌&&◌, cond, Option as Maybe, None, Some, is_some, IfSome, IsSomeAnd, List, ℕ, ◌-◌, ◌≤◌, ◌<◌, length, get_or, T, eqb}
use Rattle.std.proofs.Math.Option.{Option, none, some}
use Rattle.facts.specs.declared.Fact.{Fact}
use Rattle.rules.specs.Graph.{least}
use Rattle.rules.specs.Paths.{named, start_for, next, goal_for}
use Rattle.question.specs.declared.State.{State}
use Rattle.rules.specs.Chosen.{fact_in}
use Rattle.question.specs.State.{Met}

-- a place, if there is one, as code gives it
abbrev pub optional : Option ℕ → Maybe ℕ
optional none = None
optional (some i) = Some i

-- a place is found, and it is at most j
abbrev pub AtMost : Maybe ℕ → ℕ → Type 0
AtMost at j = IsSomeAnd at (λ i. i ≤ j)

-- a fact is a path for t by itself: a start and a goal
abbrev pub single : ℕ → Fact → Fact → Bool
single w t a = goal_for t a && start_for w t a

-- a data fact with the object x
abbrev pub into : ℕ → Fact → Bool
into x a = named a.predicate && eqb a.object x

module _ (facts : List Fact) (w : ℕ) (mark : List ℕ) where
  -- the place i is marked m, and b may follow it
  abbrev pub precedes : ℕ → Fact → ℕ → Bool
  precedes m b i = eqb (get_or mark i 0) m && next w (fact_in facts i) b

  -- the first such place, if there is one
  abbrev pub before_of : ℕ → Fact → Maybe ℕ
  before_of m b = optional (least (precedes m b) 0 (length facts))

  -- by the marks, b ends a path of m + 1 facts
  abbrev pub comes_by : Fact → ℕ → Fact → Bool
  comes_by t m b = cond (eqb m 0) (start_for w t b) (is_some (before_of m b))

  -- the place j is such a goal
  abbrev pub ending : Fact → ℕ → ℕ → Bool
  ending t m j = goal_for t (fact_in facts j) && comes_by t m (fact_in facts j)

-- the places marked at most m are queued below `top`; below it the marks never fall
pub record Queued (n : ℕ) (mark queue : List ℕ) (m top : ℕ) : Type 0 where
  pub few : top ≤ 1024
  pub inside : (q : ℕ) → q < top → get_or queue q 0 < n
  pub rising : (p q : ℕ) → p ≤ q → q < top → get_or mark (get_or queue p 0) 0 ≤ get_or mark (get_or queue q 0) 0
  pub listed : (i : ℕ) → 0 < get_or mark i 0 → get_or mark i 0 ≤ m → (q : ℕ) × (q < top) × (get_or queue q 0 ≡ i)

-- what a step back from the places marked m + 1 needs, and what it finds
pub record Stepping (facts : List Fact) (mark queue : List ℕ) (m top : ℕ) : Type 0 where
  pub queued : Queued (length facts) mark queue m top
  pub some : 0 < m

pub record Stepped (facts : List Fact) (w : ℕ) (mark queue : List ℕ) (m : ℕ) (b : Fact) (at : Maybe ℕ) (top : ℕ) : Type 0 where
  pub found : at ≡ before_of facts w mark m b
  pub queued : Queued (length facts) mark queue (m - 1) top

-- the first goal of a part of the facts that may follow a, if it is below `best`, the first so far, and else `best`
pub record FirstEnd (facts : List Fact) (w : ℕ) (t a : Fact) (from to : ℕ) (best r : Maybe ℕ) : Type 0 where
  pub most : (j : ℕ) → AtMost best j → AtMost r j
  pub is : (r ≡ best) ⊎ IfSome r (λ i. (i < to) × T (next w a (fact_in facts i)) × T (goal_for t (fact_in facts i)))
  pub low : (j : ℕ) → from ≤ j → j < to → T (next w a (fact_in facts j)) → T (goal_for t (fact_in facts j)) → AtMost r j

-- what reading back needs: a search that met a goal after f facts, and room for f places
pub record Traceable (facts : List Fact) (w : ℕ) (t : Fact) (f : ℕ) (s : State) (size : ℕ) : Type 0 where
  pub some : 0 < f
  pub met : Met facts w t f s
  pub room : f ≤ size
