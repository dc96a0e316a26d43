-- The meaning of a table: its bytes, its row of numbers, and which of them are accepted (document 01, "Table layout" and the
-- table of numbers).
-- Assumes nothing.
use Rattle.std.specs.Prelude.{Err, ◌≡◌, Bool, true, cond, ◌&&◌, List, [], ◌∷◌, ◌++◌, ℕ, ◌+◌, ◌-◌, ◌*◌, ◌/◌, ◌%◌, ◌≤◌, length, drop, get_or, T, leb, eqb}
use Rattle.columns.specs.Fields.{number_at}
use Rattle.columns.specs.Lines.{line, laid_out, over, flat, items_from}
use Rattle.facts.specs.declared.Fact.{Fact}
use Rattle.facts.specs.declared.Refusal.{Refusal}
use Rattle.facts.specs.declared.Refusal.TheVariants.{Size, Short}
use Rattle.facts.specs.Results.{Verdict, Answer, Done, Refused}
use Rattle.facts.specs.Facts.{fact, well_formed, before}
use Rattle.table.specs.Results.{Scan, Passes, Stops}
use Rattle.table.specs.Scans.{earns, tried, first_earned, scan}

-- ---- facts as numbers and as bytes

-- the three numbers of a fact
abbrev pub terms : Fact → List ℕ
terms f = f.subject ∷ f.predicate ∷ f.object ∷ []

-- a row: three numbers a fact
abbrev pub row_of : List Fact → List ℕ
row_of = flat terms

-- a fact's line, 16 bytes
abbrev pub line_of : Fact → List ℕ
line_of f = line (terms f)

-- a table's bytes: one line a fact
abbrev pub table_bytes : List Fact → List ℕ
table_bytes = flat line_of

-- the fact on line i of the bytes, counted from 0, by what its fields say
unfoldable pub line_fact : List ℕ → ℕ → Fact
line_fact b i = fact (number_at b (16 * i)) (number_at b (16 * i + 5)) (number_at b (16 * i + 10))

-- the fact at i of a row, counted from 0
unfoldable pub row_fact : List ℕ → ℕ → Fact
row_fact row i = fact (get_or row (3 * i) 0) (get_or row (3 * i + 1) 0) (get_or row (3 * i + 2) 0)

-- facts written over the front of a list of them
abbrev pub over_facts : List Fact → List Fact → List Fact
over_facts new old = new ++ drop (length new) old

-- ---- what is accepted

pub data Table : Type 0 where
  accepted : List Fact → Table
  refused : Refusal → ℕ → Table

-- a size is a multiple of k, and at most so much
unfoldable pub sized : ℕ → ℕ → ℕ → Bool
sized k most size = eqb (size % k) 0 && leb size most

-- what a scan of facts says
unfoldable pub meant : (ℕ → Fact) → Scan → Table
meant at (Passes n) = accepted (items_from at 0 n)
meant at (Err stop) = refused stop.refusal stop.place

-- the first of 2, 3, 4, 5, 12, 6 that line i of the bytes earns
unfoldable pub line_verdict : List ℕ → ℕ → Verdict
line_verdict b i = first_earned (earns (laid_out 3 b (16 * i)) (line_fact b) i) tried

-- size first, then the lines downward
unfoldable pub table_scan : List ℕ → Scan
table_scan b = cond (sized 16 16384 (length b)) (scan (line_verdict b) 0 (length b / 16)) (Stops Size 0)

-- the table that the bytes are
unfoldable pub table_of : List ℕ → Table
table_of b = meant (line_fact b) (table_scan b)

-- the first of 3, 4, 5, 12, 6 that the fact at i of a row earns
unfoldable pub row_verdict : List ℕ → ℕ → Verdict
row_verdict row i = first_earned (earns true (row_fact row) i) tried

unfoldable pub row_scan : List ℕ → Scan
row_scan row = cond (sized 3 3072 (length row)) (scan (row_verdict row) 0 (length row / 3)) (Stops Size 0)

-- the table that a row to write is
unfoldable pub table_of_row : List ℕ → Table
table_of_row row = meant (row_fact row) (row_scan row)

-- ---- what the paper accepts, in its own words

-- each fact above the one before it
unfoldable pub ascending : List Fact → Bool
ascending [] = true
ascending (a ∷ []) = true
ascending (a ∷ b ∷ fs) = before a b && ascending (b ∷ fs)

-- each fact well-formed
unfoldable pub all_formed : List Fact → Bool
all_formed [] = true
all_formed (f ∷ fs) = well_formed f && all_formed fs

-- facts that make up a table
pub record TableFacts (facts : List Fact) : Type 0 where
  pub formed : T (all_formed facts)
  pub ascends : T (ascending facts)
  pub few : length facts ≤ 1024

-- ---- reading and writing

-- the answer to a table of which `content` is put into lent memory of m numbers or bytes: its refusal, or 8, or done
unfoldable pub settled : (List Fact → List ℕ) → Table → ℕ → Answer
settled content (accepted facts) m = cond (leb (length (content facts)) m) (Done (length facts)) (Refused Short 0)
settled content (refused r place) m = Refused r place

-- what the lent memory then holds: the content and what was behind it, or all as before
unfoldable pub filled : (List Fact → List ℕ) → Table → List ℕ → List ℕ
filled content (accepted facts) old = cond (leb (length (content facts)) (length old)) (over (content facts) old) old
filled content (refused r place) old = old

-- such a call, as equations: its answer, and the lent memory afterwards
pub record Transfers (content : List Fact → List ℕ) (t : Table) (entry exit : List ℕ) (a : Answer) : Type 0 where
  pub answer : a ≡ settled content t (length entry)
  pub memory : exit ≡ filled content t entry

-- the scan that a table's meaning gives
unfoldable pub scan_of : Table → Scan
scan_of (accepted facts) = Passes (length facts)
scan_of (refused r place) = Stops r place

-- the lines that a scan has passed
unfoldable pub passed : Scan → ℕ
passed (Passes n) = n
passed (Err stop) = stop.place - 1

-- the facts on the lines before the first that is refused: all of them, where the table is accepted
unfoldable pub loaded : List ℕ → List Fact
loaded b = items_from (line_fact b) 0 (passed (table_scan b))
