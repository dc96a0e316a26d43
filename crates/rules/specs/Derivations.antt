-- Derivations and closed sets over any list of rules (document 01, "Rules", "Derivation lines and their check" and
-- "The question").
-- Assumes nothing.
use Rattle.std.specs.Prelude.{◌≡◌, List, [], ◌∷◌, ◌++◌, map, ℕ, zero, suc, ◌≤◌, length, eqb}
use Rattle.std.proofs.Math.Option.{Option, none, some}
use Rattle.facts.specs.declared.Fact.{Fact}
use Rattle.rules.specs.Graph.{◌∈◌, keep}
pub use Rattle.rules.specs.declared.Line.{Line}

-- a list of rules: rule n gives r from p and q
abbrev pub Relation : Type 1
Relation = ℕ → Fact → Fact → Fact → Type 0

-- a derivation line: rule number (0 for a table line), the line numbers of its premises, and its fact
abbrev pub derivation_line : ℕ → ℕ → ℕ → Fact → Line
derivation_line n i j f = record { rule = n; first = i; second = j; fact = f }

-- the fact on line n of d, counted from 1
unfoldable pub fact_on : List Line → ℕ → Option Fact
fact_on [] n = none
fact_on (l ∷ d) zero = none
fact_on (l ∷ d) (suc zero) = some l.fact
fact_on (l ∷ d) (suc (suc n)) = fact_on d (suc n)

-- a line is a table line, or a rule gives it from two lines before it
pub data Justified (R : Relation) (table : List Fact) (before : List Line) : Line → Type 0 where
  by-table : {f : Fact} → f ∈ table → Justified R table before (derivation_line 0 0 0 f)
  by-rule : {n i j : ℕ} {p q r : Fact} → fact_on before i ≡ some p → fact_on before j ≡ some q → R n p q r → Justified R table before (derivation_line n i j r)

-- each line of d, which stands behind the lines `before`, is justified by the lines before it
unfoldable pub Justify : Relation → List Fact → List Line → List Line → Type 0
Justify R table before [] = Unit {0}
Justify R table before (l ∷ d) = Justified R table before l × Justify R table (before ++ (l ∷ [])) d

-- d is a derivation of t from the table: each line is justified, and t is on the last
pub record Derives (R : Relation) (table : List Fact) (d : List Line) (t : Fact) : Type 0 where
  pub lines : Justify R table [] d
  pub last : fact_on d (length d) ≡ some t

-- some derivation of t from the table exists
abbrev pub Derivable : Relation → List Fact → Fact → Type 0
Derivable R table t = (d : List Line) × Derives R table d t

-- the facts on the table lines of d, in order
unfoldable pub table_facts : List Line → List Fact
unfolding keep
table_facts d = map (λ l. l.fact) (keep (λ l. eqb l.rule 0) d)

-- how many table lines d has: the same fact on two lines counts twice
unfoldable pub table_lines : List Line → ℕ
unfolding table_facts
table_lines d = length (table_facts d)

-- f is the fewest table lines in any derivation of t from the table
pub record Least (R : Relation) (table : List Fact) (t : Fact) (f : ℕ) : Type 0 where
  pub derivation : List Line
  pub derives : Derives R table derivation t
  pub count : table_lines derivation ≡ f
  pub lowest : (d : List Line) → Derives R table d t → f ≤ table_lines d

-- a set of facts that the rules do not leave
abbrev pub Closed : Relation → (Fact → Type 0) → Type 0
Closed R M = (n : ℕ) (p q r : Fact) → R n p q r → M p → M q → M r

-- the set holds each fact of a list
abbrev pub Holds : (Fact → Type 0) → List Fact → Type 0
Holds M S = (f : Fact) → f ∈ S → M f

-- t is in every closed set that holds the table
abbrev pub Entailed : Relation → List Fact → Fact → Type 1
Entailed R table t = (M : Fact → Type 0) → Closed R M → Holds M table → M t

-- some closed set holds the table and lacks t
abbrev pub Refuted : Relation → List Fact → Fact → Type 1
Refuted R table t = (M : Fact → Type 0) × Closed R M × Holds M table × (M t → ⊥)
