-- The lines of a derivation's bytes by their numbers, and how many of them are table lines.
-- Assumes nothing.
use mathlib.Core.Path.{◌≡◌, refl, ◌∙◌}
use mathlib.Core.Bool.{cond}
use mathlib.Core.Option.{none, some}
use mathlib.Core.List.{List, [], ◌∷◌, ◌++◌}
use Prim.Native.Nat.{ℕ, zero, suc, ◌+◌, ◌-◌, ◌≤◌, ◌<◌}
use native.Mathlib.Omega.{arith}
use native.Mathlib.Nat.{add-zero, zero-add}
use native.Mathlib.Numerals.{add-one}
use lib.Dec.{eqb}
use Rattle.columns.specs.Lines.{items_from}
use Rattle.columns.proofs.Lists.{items_more}
use Rattle.std.specs.Prelude.{Option, Some, MatchOption}
use Rattle.facts.specs.declared.Fact.{Fact}
use Rattle.facts.proofs.Terms.{by_cases}
use Rattle.rules.specs.declared.Line.{Line}
use Rattle.rules.specs.Graph.{keep}
use Rattle.rules.specs.Derivations.{fact_on, table_lines}
use Rattle.derivation.specs.Bytes.{line_at}
use Rattle.acceptance.specs.Check.{lines_of}

-- ---- the fact on a line

pub fact_on-zero : (d : List Line) → fact_on d 0 ≡ none
unfolding fact_on
fact_on-zero [] = refl
fact_on-zero (l ∷ d) = refl

pub fact_on-there : (at : ℕ → Line) (n i k : ℕ) → k < n → fact_on (items_from at i n) (suc k) ≡ some (at (i + k)).fact
unfolding fact_on items_from
fact_on-there at zero i k h = absurd (omega arith)
fact_on-there at (suc n) i zero h = rw add-zero
fact_on-there at (suc n) i (suc k) h = let t : i + suc k ≡ suc i + k = omega arith in rw t (fact_on-there at n (suc i) k (omega arith))

pub fact_on-beyond : (at : ℕ → Line) (n i k : ℕ) → n ≤ k → fact_on (items_from at i n) (suc k) ≡ none
unfolding fact_on items_from
fact_on-beyond at zero i k h = refl
fact_on-beyond at (suc n) i zero h = absurd (omega arith)
fact_on-beyond at (suc n) i (suc k) h = fact_on-beyond at n (suc i) k (omega arith)

-- by a number that the code tests
pub fact-there : (x : List ℕ) (i k : ℕ) → (k ≡ 0 → ⊥) → k ≤ i → fact_on (lines_of x i) k ≡ some (line_at x (k - 1)).fact
fact-there x i zero z h = absurd (z refl)
fact-there x i (suc k) z h = let e : suc k - 1 ≡ 0 + k = omega arith in rw e (fact_on-there (line_at x) i 0 k h)

pub fact-missing : (x : List ℕ) (i k : ℕ) → i < k → fact_on (lines_of x i) k ≡ none
fact-missing x i zero h = absurd (omega arith)
fact-missing x i (suc k) h = fact_on-beyond (line_at x) i 0 k (omega arith)

-- what is at hand as the fact on the line at place j, as an answer for line j + 1
pub fact-near : (x : List ℕ) (i k j : ℕ) (p : Option Fact) → p ≡ Some (line_at x j).fact → j + 1 ≡ k → k ≤ i
    → MatchOption p (fact_on (lines_of x i) k ≡ none) (λ f. fact_on (lines_of x i) k ≡ some f)
fact-near x i k j p e h l = let t : k - 1 ≡ j = omega arith in rw e (fact-there x i k (λ z. omega arith) l ∙ rw t)

-- ---- table lines

tables_more : (d : List Line) (l : Line) → table_lines (d ++ (l ∷ [])) ≡ table_lines d + cond (eqb l.rule 0) 1 0
unfolding table_lines keep
tables_more [] l = by_cases (eqb l.rule 0) (λ e. rw e) (λ e. rw e)
tables_more (k ∷ d) l =
    by_cases (eqb k.rule 0)
    (λ e. rw e (omega (arith, tables_more d l)))
    (λ e. rw e (tables_more d l))

-- one line more
pub count-more : (x : List ℕ) (i : ℕ) → table_lines (lines_of x (i + 1)) ≡ table_lines (lines_of x i) + cond (eqb (line_at x i).rule 0) 1 0
count-more x i = rw (add-one, items_more, zero-add) (tables_more (lines_of x i) (line_at x i))
