-- Paths of facts: the shape of the shortest derivations. A path is a data fact, sp facts, a dom or range fact, sc facts, each
-- beginning where the one before leads, with what a question does not need left out.
-- Assumes nothing.
use Rattle.std.specs.Prelude.{Bool, true, false, not, ◌&&◌, ◌||◌, cond, List, [], ◌∷◌, ℕ, length, T, eqb}
use Rattle.std.specs.Bool.{beq}
use Rattle.std.proofs.Math.Option.{Option}
use Rattle.facts.specs.declared.Fact.{Fact}
use Rattle.facts.specs.Terms.{kind_of, is_name, sc, sp, dom, range, type}
use Rattle.facts.specs.Gaps.{is_gap}
use Rattle.rules.specs.Graph.{◌∈◌, any, Path, layer, least}

-- n is a name
abbrev pub named : ℕ → Bool
named n = is_name (kind_of n)

-- the term to which a fact leads: the predicate of a data fact, and else the object
unfoldable pub link : Fact → ℕ
unfolding kind_of
link f = cond (named f.predicate) f.predicate f.object

-- a data fact and an sp fact lead to a property, any other to a class
unfoldable pub property : Fact → Bool
unfolding kind_of
property f = named f.predicate || eqb f.predicate sp

-- the predicate of the facts that go on from a property, and from a class
unfoldable pub chain : Bool → ℕ
chain true = sp
chain false = sc

-- no rule gives a fact with such a predicate
unfoldable pub only_table : ℕ → Bool
only_table p = eqb p dom || eqb p range

-- on a path by w, a chain may go on from a: from a dom or range fact only where that is the way
unfoldable pub goes_on : ℕ → Fact → Bool
unfolding only_table
goes_on w a = not (only_table a.predicate) || eqb a.predicate w

-- on a path by w, b may follow a: it begins where a leads, and goes on from there, or leaves a property by w
unfoldable pub next : ℕ → Fact → Fact → Bool
unfolding link property chain goes_on
next w a b = eqb b.subject (link a) && (goes_on w a && eqb b.predicate (chain (property a)) || property a && eqb b.predicate w)

-- what a data fact gives a type to: its subject by dom, its object by range
unfoldable pub typed : ℕ → Fact → ℕ
typed w a = cond (eqb w range) a.object a.subject

-- a path by w for t may begin with a
unfoldable pub start : ℕ → Fact → Fact → Bool
unfolding kind_of typed
start w t a =
    cond (named a.predicate)
    (cond (named t.predicate) (eqb a.subject t.subject && eqb a.object t.object) (eqb t.predicate type && eqb (typed w a) t.subject))
    (eqb a.predicate t.predicate && eqb a.subject t.subject)

-- a path for t may end with a: it leads where t does
unfoldable pub goal : Fact → Fact → Bool
unfolding link property
goal t a = eqb (link a) (link t) && beq (property a) (property t)

-- the ways to try for t: by dom and by range where it asks for a type, and else by neither, for which sp stands (sp goes on from
-- a property anyhow)
unfoldable pub ways : Fact → List ℕ
ways t = cond (eqb t.predicate type) (dom ∷ range ∷ []) (sp ∷ [])

-- a path over S by one of the ways ws, which begins as `st` says for its way and ends as g says
pub record Runs (st : ℕ → Fact → Bool) (g : Fact → Bool) (ws : List ℕ) (S : List Fact) : Type 0 where
  pub way : ℕ
  pub asked : way ∈ ws
  pub end : Fact
  pub count : ℕ
  pub path : Path (st way) (next way) S end count
  pub goal : T (g end)

-- a path for the fact t over the facts S
abbrev pub HasPath : List Fact → Fact → Type 0
HasPath S t = Runs (λ w. start w t) (goal t) (ways t) S

-- ---- a question, which may have a gap

-- the term x of a question stands for the term n: it is n, or a gap
unfoldable pub fits : ℕ → ℕ → Bool
unfolding is_gap
fits x n = is_gap x || eqb n x

-- a path by w for the question t may begin with a: as for a fact, but a gap stands for any term
unfoldable pub start_for : ℕ → Fact → Fact → Bool
unfolding kind_of typed fits
start_for w t a =
    cond (named a.predicate)
    (cond (named t.predicate) (fits t.subject a.subject && fits t.object a.object) (eqb t.predicate type && fits t.subject (typed w a)))
    (eqb a.predicate t.predicate && fits t.subject a.subject)

-- a path for the question t may end with a
unfoldable pub goal_for : Fact → Fact → Bool
unfolding link property fits
goal_for t a = fits (link t) (link a) && beq (property a) (property t)

-- a path for the question t over the facts S: one for a fact that fills it (`filling-path`, `path-filling`)
abbrev pub HasPathFor : List Fact → Fact → Type 0
HasPathFor S t = Runs (λ w. start_for w t) (goal_for t) (ways t) S

-- some path for t over S has k facts
unfoldable pub reaches : List Fact → Fact → ℕ → Bool
unfolding any layer start_for next goal_for ways
reaches S t k = any (λ w. any (goal_for t) (layer (start_for w t) (next w) S k)) (ways t)

-- the least number of facts on a path for t over the table
unfoldable pub fewest : List Fact → Fact → Option ℕ
unfolding least reaches
fewest table t = least (reaches table t) 1 (length table)
