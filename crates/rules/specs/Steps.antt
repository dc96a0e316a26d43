-- The rules as a table of rows, and a rule step and a derivation line as tests.
-- Assumes nothing.
use Rattle.std.specs.Prelude.{Bool, false, ◌&&◌, cond, List, [], ◌∷◌, ℕ, ◌-◌, length, get_or, eqb, ltb, leb}
use Rattle.std.proofs.Math.Option.{Option, none, some}
use Rattle.facts.specs.declared.Fact.{Fact}
use Rattle.facts.specs.Terms.{sc, sp, dom, range, type}
use Rattle.facts.specs.Facts.{fact, well_formed}
use Rattle.rules.specs.declared.Cell.{Cell}
use Rattle.rules.specs.declared.Cell.TheVariants.{Sc, Sp, Dom, Range, «Type», Subject1, Object1, Subject2, Object2}
use Rattle.rules.specs.declared.Cells.{Cells}
use Rattle.rules.specs.declared.Row.{Row}
use Rattle.rules.specs.Graph.{any}
use Rattle.rules.specs.Derivations.{Line, fact_on}

-- two facts are the same
unfoldable pub same : Fact → Fact → Bool
same a b = eqb a.subject b.subject && eqb a.predicate b.predicate && eqb a.object b.object

-- a fact of a rule, by its cells
abbrev pub cells : Cell → Cell → Cell → Cells
cells s p o = record { 0 = s; 1 = p; 2 = o }

-- a rule as a row: the predicate of the first premise, the second premise, what it gives
abbrev rule_row : ℕ → Cells → Cells → Row
rule_row p q r = record { first = p; second = q; result = r }

-- the six rules in order
unfoldable pub rows : List Row
rows =
    rule_row sp (cells Object1 Sp Object2) (cells Subject1 Sp Object2)
    ∷ rule_row sp (cells Subject2 Subject1 Object2) (cells Subject2 Object1 Object2)
    ∷ rule_row sc (cells Object1 Sc Object2) (cells Subject1 Sc Object2)
    ∷ rule_row sc (cells Subject2 «Type» Subject1) (cells Subject2 «Type» Object1)
    ∷ rule_row dom (cells Subject2 Subject1 Object2) (cells Subject2 «Type» Object1)
    ∷ rule_row range (cells Subject2 Subject1 Object2) (cells Object2 «Type» Object1)
    ∷ []

-- what a cell stands for, with p and q for the premises; a word of the vocabulary stands for itself
unfoldable pub cell_of : Cell → Fact → Fact → ℕ
cell_of Sc p q = sc
cell_of Sp p q = sp
cell_of Dom p q = dom
cell_of Range p q = range
cell_of «Type» p q = type
cell_of Subject1 p q = p.subject
cell_of Object1 p q = p.object
cell_of Subject2 p q = q.subject
cell_of Object2 p q = q.object

-- the fact whose terms are the cells of a rule's fact
unfoldable pub fill : Cells → Fact → Fact → Fact
unfolding cell_of
fill w p q = fact (cell_of w.0 p q) (cell_of w.1 p q) (cell_of w.2 p q)

-- p, q and r are as the row has them
unfoldable pub fits_row : Row → Fact → Fact → Fact → Bool
unfolding fill same
fits_row w p q r = eqb p.predicate w.first && same q (fill w.second p q) && same r (fill w.result p q)

-- the row of rule n
unfoldable pub row : ℕ → Row
unfolding rows
row n = get_or rows (n - 1) (rule_row 0 (cells Sc Sc Sc) (cells Sc Sc Sc))

-- rule n gives r from p and q
unfoldable pub gives : ℕ → Fact → Fact → Fact → Bool
unfolding row fits_row
gives n p q r = ltb 0 n && leb n (length rows) && fits_row (row n) p q r

-- rule n gives r from p and q, and all three are well-formed
unfoldable pub step_test : ℕ → Fact → Fact → Fact → Bool
unfolding gives well_formed
step_test n p q r = gives n p q r && well_formed p && well_formed q && well_formed r

-- a step from the facts on the premises' lines, if these are there
unfoldable pub step_from : ℕ → Option Fact → Option Fact → Fact → Bool
unfolding step_test
step_from n none o r = false
step_from n (some p) none r = false
step_from n (some p) (some q) r = step_test n p q r

-- the line is justified by the table and the lines before it
unfoldable pub justified : List Fact → List Line → Line → Bool
unfolding any same step_from fact_on
justified table before l =
    cond (eqb l.rule 0) (eqb l.first 0 && eqb l.second 0 && any (same l.fact) table)
    (step_from l.rule (fact_on before l.first) (fact_on before l.second) l.fact)
