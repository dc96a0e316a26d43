-- The state of the search, and what each round leaves.
-- Assumes nothing.
use Rattle.std.specs.Prelude.{◌≡◌, Bool, true, false, Option, Some, None, List, [], ◌∷◌, ℕ, zero, suc, ◌+◌, ◌≤◌, ◌<◌, length, get_or, set, replicate, T}
use Rattle.facts.specs.declared.Fact.{Fact}
use Rattle.rules.specs.Graph.{Path}
use Rattle.rules.specs.Paths.{link, property, goes_on, start_for, next, goal_for}
use Rattle.question.specs.declared.State.{State}
use Rattle.question.specs.declared.Part.{Part}
use Rattle.rules.specs.Chosen.{fact_in}
use Rattle.question.specs.Row.{Cut}

-- the mark of the place i, and the place at q of the queue
abbrev pub mark_at : State → ℕ → ℕ
mark_at s i = get_or s.mark i 0

abbrev pub place_at : State → ℕ → ℕ
place_at s q = get_or s.queue q 0

-- how many numbers of a list are not 0
unfoldable pub marked : List ℕ → ℕ
marked [] = 0
marked (zero ∷ l) = marked l
marked (suc m ∷ l) = suc (marked l)

-- both arrays are whole; as many places are queued as are marked, each queued place is one of the n and marked, and each marked place
-- is queued; along the queue the marks never fall
pub record Ordered (n : ℕ) (s : State) : Type 0 where
  pub marks : length s.mark ≡ 1024
  pub places : length s.queue ≡ 1024
  pub all : s.to ≡ marked s.mark
  pub queued : (q : ℕ) → q < s.to → (place_at s q < n) × (0 < mark_at s (place_at s q))
  pub listed : (i : ℕ) → 0 < mark_at s i → (q : ℕ) × (q < s.to) × (place_at s q ≡ i)
  pub rising : (p q : ℕ) → p ≤ q → q < s.to → mark_at s (place_at s p) ≤ mark_at s (place_at s q)

module _ (facts : List Fact) (w : ℕ) (t : Fact) where
  -- a path by w over the facts that ends in the place i and has m facts
  abbrev pub Way : ℕ → ℕ → Type 0
  Way i m = Path (start_for w t) (next w) facts (fact_in facts i) m

  -- a marked place is one of the facts, and ends a path of as many facts as the mark says
  abbrev pub MarksPaths : List ℕ → Type 0
  MarksPaths mark = (i : ℕ) → 0 < get_or mark i 0 → (i < length facts) × Way i (get_or mark i 0)

  -- in the round k the queue has places of lower marks, then from `from` those marked k, and from `end` those marked k + 1;
  -- no marked place is a goal, and a place in which a path of m facts ends, m at most k, is marked, with at most m
  pub record Round (k from end : ℕ) (s : State) : Type 0 where
    pub ordered : Ordered (length facts) s
    pub sound : MarksPaths s.mark
    pub before : (q : ℕ) → q < from → mark_at s (place_at s q) < k
    pub front : (q : ℕ) → from ≤ q → q < end → mark_at s (place_at s q) ≡ k
    pub behind : (q : ℕ) → end ≤ q → q < s.to → mark_at s (place_at s q) ≡ suc k
    pub plain : (i : ℕ) → 0 < mark_at s i → T (goal_for t (fact_in facts i)) → ⊥
    pub reached : (i : ℕ) → i < length facts → (m : ℕ) → Way i m → m ≤ k → (0 < mark_at s i) × (mark_at s i ≤ m)

  -- no goal may follow a place marked m that is queued before `from`
  abbrev pub Early : List ℕ → List ℕ → ℕ → ℕ → Type 0
  Early mark queue m from =
      (q : ℕ) → q < from → get_or mark (get_or queue q 0) 0 ≡ m → (b : ℕ) → b < length facts → T (next w (fact_in facts (get_or queue q 0)) (fact_in facts b)) → T (goal_for t (fact_in facts b)) → ⊥

  -- the marks below f are the numbers of facts of the shortest paths, a path of f facts leads to a goal, and none of fewer
  pub record Met (f : ℕ) (s : State) : Type 0 where
    pub ordered : Ordered (length facts) s
    pub sound : MarksPaths s.mark
    pub whole : (i : ℕ) → i < length facts → (m : ℕ) → Way i m → m < f → (0 < mark_at s i) × (mark_at s i ≤ m)
    pub end : Fact
    pub path : Path (start_for w t) (next w) facts end f
    pub ends : T (goal_for t end)
    pub lowest : (a : Fact) (m : ℕ) → Path (start_for w t) (next w) facts a m → T (goal_for t a) → f ≤ m
    pub early : (m : ℕ) → f ≡ suc m → Early s.mark s.queue m s.from

  -- no path leads to a goal
  abbrev pub Nowhere : Type 0
  Nowhere = (a : Fact) (m : ℕ) → Path (start_for w t) (next w) facts a m → T (goal_for t a) → ⊥

  -- what a search leaves that met a goal after f facts, or none
  abbrev pub Left : Option ℕ → State → Type 0
  Left None s = Nowhere
  Left (Some f) s = Met f s

-- every start of a path by w for t stands from `from` on, below `to`
pub record Starting (facts : List Fact) (w : ℕ) (t : Fact) (from to : ℕ) : Type 0 where
  pub begins : from ≤ length facts
  pub within : to ≤ length facts
  pub all : (i : ℕ) → i < length facts → T (start_for w t (fact_in facts i)) → (from ≤ i) × (i < to)

-- what the rounds begin with: the starts are marked and queued, and none of them is a goal
pub record Begun (facts : List Fact) (w : ℕ) (t : Fact) (s : State) : Type 0 where
  pub round : Round facts w t 1 0 s.to s
  pub from : s.from ≡ 0

-- after the first round: a start is a goal, or the rounds may begin
abbrev pub Seeded : List Fact → ℕ → Fact → Bool → State → Type 0
Seeded facts w t true s = Met facts w t 1 s
Seeded facts w t false s = Begun facts w t s

-- the state with nothing marked
abbrev pub empty : State
empty = record { mark = replicate 1024 0; queue = replicate 1024 0; from = 0; to = 0 }

-- the state with the place j marked m and queued
abbrev pub pushed : State → ℕ → ℕ → State
pushed s j m = record { mark = set s.mark j m; queue = set s.queue s.to j; from = s.from; to = s.to + 1 }

-- where it is noted that the part of the facts from lo on has been passed, from a property or from a class
abbrev pub slot_of : Bool → ℕ → ℕ
slot_of true lo = lo + 1025
slot_of false lo = lo

-- a part of the facts, some, that may follow a on a path by w, and where it is noted
pub record MayFollow (facts : List Fact) (w : ℕ) (a : Fact) (p : Part) : Type 0 where
  pub on : goes_on w a ≡ true
  pub low : Cut facts (link a) p.from
  pub high : Cut facts (link a + 1) p.to
  pub some : p.from < p.to
  pub slot : p.slot ≡ slot_of (property a) p.from

-- no part is left that may follow a
pub data NoneLeft (facts : List Fact) (w : ℕ) (a : Fact) (done : List Bool) : Type 0 where
  -- no fact has the subject to which a leads
  absent : {from : ℕ} → Cut facts (link a) from → Cut facts (link a + 1) from → NoneLeft facts w a done
  -- no chain goes on from a
  shut : goes_on w a ≡ false → NoneLeft facts w a done
  -- the part has been passed
  passed : {from : ℕ} → Cut facts (link a) from → get_or done (slot_of (property a) from) false ≡ true → NoneLeft facts w a done

-- the part that may follow a on a path by w, if there is one that has not been passed
abbrev pub PartOf : List Fact → ℕ → Fact → List Bool → Option Part → Type 0
PartOf facts w a done None = NoneLeft facts w a done
PartOf facts w a done (Some p) = MayFollow facts w a p
