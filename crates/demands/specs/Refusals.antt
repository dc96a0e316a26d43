-- Which refusal documents 01 and 02 (Points 1 and 2) lay down for an input: the first that applies, in the order in which they try them; and what
-- is sound, said of what it is. Nothing here speaks of a scan or an answer of the program. The tests of one line, and of the triple put
-- to the check, are those of the table's `earns`; those of a question's triple are `AskedRefused`. That a line is laid out as its numbers are
-- written is `Demand-1`, field `layout`.
-- Assumes nothing.
use Rattle.std.specs.Prelude.{◌≡◌, Bool, false, true, List, [], ◌∷◌, ℕ, suc, ◌-◌, ◌*◌, ◌≤◌, ◌<◌, length, T}
use Rattle.columns.specs.Lines.{laid_out}
use Rattle.facts.specs.declared.Fact.{Fact}
use Rattle.facts.specs.declared.Refusal.{Refusal}
use Rattle.facts.specs.declared.Refusal.TheVariants.{Size, Term, Blank, Part, Class, Allowance, Short, Form, Step, End}
use Rattle.facts.specs.Terms.{kind_of, is_literal, sc, sp, dom, range, type}
use Rattle.facts.specs.Facts.{well_formed, has_no_term, misplaced}
use Rattle.facts.specs.Gaps.{is_gap, Askable}
use Rattle.table.specs.Scans.{earns, tried, First}
use Rattle.table.specs.Tables.{TableFacts, row_of, table_bytes, line_fact, row_fact}
use Rattle.rules.specs.Graph.{◌∈◌}
use Rattle.rules.specs.Rules.{Rule}
use Rattle.rules.specs.Derivations.{Justified}
use Rattle.derivation.specs.Bytes.{line_at}
use Rattle.acceptance.specs.Check.{lines_of, DerivationOf}
use Rattle.question.specs.Question.{needed, Question}

-- ---- sound input

-- b is the bytes of well-formed, strictly ascending facts, at most 1,024 of them
pub record SoundTable (b : List ℕ) (facts : List Fact) : Type 0 where
  pub bytes : b ≡ table_bytes facts
  pub sound : TableFacts facts

-- row is the numbers of such facts
pub record SoundRow (row : List ℕ) (facts : List Fact) : Type 0 where
  pub numbers : row ≡ row_of facts
  pub sound : TableFacts facts

-- a sound table with these facts, a triple that may be asked, limit (document 01's allowance) and m bytes of output (its paper)
pub record SoundQuestion (q : Question) (facts : List Fact) (m : ℕ) : Type 0 where
  pub table : SoundTable q.table facts
  pub fact : Askable q.fact
  pub limited : q.limit ≤ 1024
  pub room : needed q.limit ≤ m

-- a sound table with these facts, and fact, and x a derivation of it with n table lines
pub record SoundCheck (b : List ℕ) (facts : List Fact) (t : Fact) (x : List ℕ) (n : ℕ) : Type 0 where
  pub table : SoundTable b facts
  pub fact : T (well_formed t)
  pub derivation : DerivationOf facts t x n

-- ---- a table, and a row to write

-- so many bytes or numbers are n lines of k, at most 1,024
pub record WholeLines (k size n : ℕ) : Type 0 where
  pub exact : size ≡ k * n
  pub few : n ≤ 1024

-- 1 with place 0; or the first line that earns any of 2, 3, 4, 5, 12, 6, by the first of these, in that order (`tried`), that it earns; lines
-- are counted from 1, and `earned i` is what line i + 1 earns
pub data LinesRefused (k size : ℕ) (earned : ℕ → Refusal → Bool) : Refusal → ℕ → Type 0 where
  by_size : ((n : ℕ) → WholeLines k size n → ⊥) → LinesRefused k size earned Size 0
  by-line : {n i : ℕ} {r : Refusal} → WholeLines k size n → i < n → ((j : ℕ) → j < i → (q : Refusal) → q ∈ tried → earned j q ≡ false)
      → First (earned i) tried r → LinesRefused k size earned r (suc i)

-- a table: lines of 16 bytes
abbrev pub TableRefused : List ℕ → Refusal → ℕ → Type 0
TableRefused b = LinesRefused 16 (length b) (λ i. earns (laid_out 3 b (16 * i)) (line_fact b) i)

-- a row to write: facts of 3 numbers, which have no layout to be tried for 2
abbrev pub RowRefused : List ℕ → Refusal → ℕ → Type 0
RowRefused row = LinesRefused 3 (length row) (earns true (row_fact row))

-- ---- reading and writing

-- reading: the table's refusal, then 8 where k numbers or records a fact do not fit into m
pub data ReadRefused (k : ℕ) (b : List ℕ) (m : ℕ) : Refusal → ℕ → Type 0 where
  by-table : {r : Refusal} {place : ℕ} → TableRefused b r place → ReadRefused k b m r place
  by-room : {facts : List Fact} → SoundTable b facts → m < k * length facts → ReadRefused k b m Short 0

-- writing: the row's refusal, then 8 where 16 bytes a fact do not fit into m
pub data WriteRefused (row : List ℕ) (m : ℕ) : Refusal → ℕ → Type 0 where
  by_row : {r : Refusal} {place : ℕ} → RowRefused row r place → WriteRefused row m r place
  by-room : {facts : List Fact} → SoundRow row facts → m < 16 * length facts → WriteRefused row m Short 0

-- ---- question and check

-- the first of 3, 4, 5, 12, in that order, that the triple put to the check earns
abbrev pub FactRefused : Fact → Refusal → Type 0
FactRefused t = First (earns true (λ i. t) 0) (Term ∷ Blank ∷ Part ∷ Class ∷ [])

-- "A blank predicate, two blanks in one triple, equal or not"
pub data Blanks (t : Fact) : Type 0 where
  in-predicate : is_gap t.predicate ≡ true → Blanks t
  two : is_gap t.subject ≡ true → is_gap t.object ≡ true → Blanks t

-- "A literal [...] as subject or object of sc, sp, dom or range, [or] as object of type"
pub data TextAsClass (t : Fact) : Type 0 where
  as-subject : is_literal (kind_of t.subject) ≡ true → t.predicate ∈ sc ∷ sp ∷ dom ∷ range ∷ [] → TextAsClass t
  as-object : is_literal (kind_of t.object) ≡ true → t.predicate ∈ sc ∷ sp ∷ dom ∷ range ∷ type ∷ [] → TextAsClass t

-- the first of 3, 4, 5, 12, in that order, that the triple of a question earns: 3, 5 and 12 as elsewhere, 4 for such blanks alone
pub data AskedRefused (t : Fact) : Refusal → Type 0 where
  by-term : has_no_term t ≡ true → AskedRefused t Term
  by-blank : has_no_term t ≡ false → Blanks t → AskedRefused t Blank
  by_part : has_no_term t ≡ false → (Blanks t → ⊥) → misplaced t ≡ true → AskedRefused t Part
  by-class : has_no_term t ≡ false → (Blanks t → ⊥) → misplaced t ≡ false → TextAsClass t → AskedRefused t Class

-- a question: the table's, the triple's, 7 for the limit, 8 for m bytes of output
pub data QuestionRefused (q : Question) (m : ℕ) : Refusal → ℕ → Type 0 where
  by-table : {r : Refusal} {place : ℕ} → TableRefused q.table r place → QuestionRefused q m r place
  by-fact : {facts : List Fact} {r : Refusal} → SoundTable q.table facts → AskedRefused q.fact r → QuestionRefused q m r 0
  by-limit : {facts : List Fact} → SoundTable q.table facts → Askable q.fact → 1024 < q.limit → QuestionRefused q m Allowance 0
  by-room : {facts : List Fact} → SoundTable q.table facts → Askable q.fact → q.limit ≤ 1024 → m < needed q.limit → QuestionRefused q m Short 0

-- 1 to 2,047 whole lines
pub record Lines (x : List ℕ) (n : ℕ) : Type 0 where
  pub size : length x ≡ 31 * n
  pub some-line : 0 < n
  pub short : n ≤ 2047

-- a check: the table's, the triple's, 9 for the size, 9 for the first line that is badly laid out, 10 for the first line that is not
-- justified, 11 where the last line is not the triple
pub data CheckRefused (b : List ℕ) (t : Fact) (x : List ℕ) : Refusal → ℕ → Type 0 where
  by-table : {r : Refusal} {place : ℕ} → TableRefused b r place → CheckRefused b t x r place
  by-fact : {facts : List Fact} {r : Refusal} → SoundTable b facts → FactRefused t r → CheckRefused b t x r 0
  by_size : {facts : List Fact} → SoundTable b facts → T (well_formed t) → ((n : ℕ) → Lines x n → ⊥) → CheckRefused b t x Form 0
  by_form : {facts : List Fact} {n i : ℕ} → SoundTable b facts → T (well_formed t) → Lines x n → i < n
      → ((j : ℕ) → j < i → laid_out 6 x (31 * j) ≡ true) → laid_out 6 x (31 * i) ≡ false → CheckRefused b t x Form (suc i)
  by-step : {facts : List Fact} {n i : ℕ} → SoundTable b facts → T (well_formed t) → Lines x n → i < n
      → ((j : ℕ) → j < n → laid_out 6 x (31 * j) ≡ true) → ((j : ℕ) → j < i → Justified Rule facts (lines_of x j) (line_at x j))
      → (Justified Rule facts (lines_of x i) (line_at x i) → ⊥) → CheckRefused b t x Step (suc i)
  by_end : {facts : List Fact} {n : ℕ} → SoundTable b facts → T (well_formed t) → Lines x n
      → ((j : ℕ) → j < n → laid_out 6 x (31 * j) ≡ true) → ((j : ℕ) → j < n → Justified Rule facts (lines_of x j) (line_at x j))
      → ((line_at x (n - 1)).fact ≡ t → ⊥) → CheckRefused b t x End n
