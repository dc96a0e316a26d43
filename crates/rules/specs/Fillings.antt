-- A question with a gap, over any list of rules (document 02, Point 1): derivations of what fills it, and the fewest table lines
-- over every filling. Without a gap the question is filled by itself alone (`no-gap-least`).
-- Assumes nothing.
use Rattle.std.specs.Prelude.{List, ℕ, ◌≤◌}
use Rattle.facts.specs.declared.Fact.{Fact}
use Rattle.facts.specs.Gaps.{Fills}
use Rattle.rules.specs.Derivations.{Relation, Line, Derives, Derivable, table_lines, Least, Closed, Holds}

-- some filling of t has a derivation from the table
abbrev pub DerivableFilling : Relation → List Fact → Fact → Type 0
DerivableFilling R table t = (u : Fact) × Fills t u × Derivable R table u

-- some closed set holds the table and lacks every filling of t
abbrev pub RefutedFillings : Relation → List Fact → Fact → Type 1
RefutedFillings R table t = (M : Fact → Type 0) × Closed R M × Holds M table × ((u : Fact) → Fills t u → M u → ⊥)

-- u fills t, f is the fewest table lines in any derivation of u, and no derivation of any filling has fewer
pub record LeastFilling (R : Relation) (table : List Fact) (t : Fact) (f : ℕ) (u : Fact) : Type 0 where
  pub fills : Fills t u
  pub least : Least R table u f
  pub lowest : (v : Fact) → Fills t v → (d : List Line) → Derives R table d v → f ≤ table_lines d
