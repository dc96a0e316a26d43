-- The import (document 02, Point 3): from the input to a table, or a refusal with its place.
-- Assumes nothing.
use Rattle.std.specs.Prelude.{Err, cond, List, [], ◌∷◌, map, ℕ, suc, length, leb, Ok}
use Rattle.facts.specs.declared.Fact.{Fact}
use Rattle.facts.specs.declared.Refusal.TheVariants as refusals
use Rattle.facts.specs.Results.{Verdict, Sound, Faulty}
use Rattle.facts.specs.Facts.{fact, fault_of}
use Rattle.table.specs.Tables.{Table, accepted, refused}
use Rattle.ntriples.specs.declared.LineFault.TheVariants.{Outside, Unknown}
use Rattle.ntriples.specs.Lexed.{Line, line_of}
use Rattle.numbering.specs.Numbering.{Known}
use Rattle.numbering.specs.Vocabulary.{term_of, known}
use Rattle.gathering.specs.Gathered.{gathered}
use Rattle.imports.specs.Results.{Finding, Clear, Fault}
use Rattle.imports.specs.Lines.{lines_of, Statement, said, statements, tokens}

-- ---- facts

-- what is known after some statements
abbrev pub known_by : List Statement → Known
known_by ss = known (tokens ss)

-- a statement's fact
abbrev pub fact_of : Known → Statement → Fact
fact_of k s = fact (term_of k s.subject) (term_of k s.predicate) (term_of k s.object)

-- the facts of some statements: in order, each once
abbrev pub facts_of : List Statement → List Fact
facts_of ss = gathered (map (fact_of (known_by ss)) ss)

-- ---- refusals

-- 13 or 14, which a line earns
unfoldable pub line_refusal : Line → Verdict
line_refusal (Err Outside) = Faulty refusals.Statement
line_refusal (Err Unknown) = Faulty refusals.UnknownNode
line_refusal (Ok t) = Sound

-- 5 or 12, which the fact of a line's statement earns
unfoldable pub fact_refusal : (Statement → Fact) → List Statement → Verdict
fact_refusal f [] = Sound
fact_refusal f (s ∷ ss) = fault_of (f s)

-- a verdict on line i, counted from 0, before what is found on the lines behind it
unfoldable pub found_on : Verdict → ℕ → Finding → Finding
found_on Sound i later = later
found_on (Faulty r) i later = Fault r (suc i)

-- the lines downward from line i on, counted from 0: the first that a judgement refuses, and its place
unfoldable pub first_on : (List ℕ → Verdict) → ℕ → List (List ℕ) → Finding
unfolding found_on
first_on judge i [] = Clear
first_on judge i (l ∷ ls) = found_on (judge l) i (first_on judge (suc i) ls)

-- what is found, or else what is found next
unfoldable pub or_else : Finding → Finding → Finding
or_else Clear g = g
or_else (Err stop) g = Fault stop.refusal stop.place

-- on all lines 13 and 14; then 5 and 12 of their facts, by what f makes of a statement
unfoldable pub judged_by : (Statement → Fact) → List (List ℕ) → Finding
unfolding or_else line_refusal fact_refusal first_on
judged_by f ls = or_else (first_on (λ l. line_refusal (line_of l)) 0 ls) (first_on (λ l. fact_refusal f (said l)) 0 ls)

abbrev pub judged : List (List ℕ) → Finding
judged ls = judged_by (fact_of (known_by (statements ls))) ls

-- the finding, or else the facts, where they are not more than 1,024
unfoldable pub tabled : Finding → List Fact → Table
tabled Clear fs = cond (leb (length fs) 1024) (accepted fs) (refused refusals.Crowd 0)
tabled (Err stop) fs = refused stop.refusal stop.place

-- the table that an input of at most 65,536 bytes is
unfoldable pub import_of : List ℕ → Table
unfolding tabled
import_of b = cond (leb (length b) 65536) (tabled (judged (lines_of b)) (facts_of (statements (lines_of b)))) (refused refusals.Statement 0)
