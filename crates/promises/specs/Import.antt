-- Tables from the planning office (document 02, Point 3), a field for each sentence. They take of a call its equations alone (`ImportCall`, what
-- the contract of `factbox_import` says), and speak of its result by the papers' numbers. What a line says is read off the grammar (`States`,
-- `NamesBlank`, `Silent`, `Foreign`), and the statements of an input off its lines (`Reads`).
-- Assumes nothing.
use Rattle.std.specs.Prelude.{◌≡◌, ◌↔◌, ◌⊎◌, true, false, List, [], ◌∷◌, ◌++◌, ℕ, suc, ◌+◌, ◌*◌, ◌≤◌, ◌<◌, length, get_or, take, T}
use Rattle.columns.specs.Lines.{over}
use Rattle.facts.specs.declared.Fact.{Fact}
use Rattle.facts.specs.declared.Refusal.{Refusal}
use Rattle.facts.specs.declared.Refusal.TheVariants as refusals
use Rattle.facts.specs.Answers.{DoneWith, RefusedWith}
use Rattle.table.specs.Scans.{earns, First}
use Rattle.table.specs.Tables.{TableFacts, ascending, row_of, table_bytes}
use Rattle.rules.specs.Graph.{◌∈◌}
use Rattle.ntriples.specs.Tokens.{Token}
use Rattle.ntriples.specs.Grammar.{Of, iri, literal, Silent}
use Rattle.ntriples.specs.Outcomes.{States, NamesBlank, Foreign, Outcomes}
use Rattle.ntriples.specs.Lexical.{Lexical}
use Rattle.numbering.specs.Numbering.{is_literal}
use Rattle.numbering.specs.Vocabulary.{sc, sp, dom, range, type, vocabulary, term_of}
use Rattle.numbering.specs.Appearance.{is_other, Different}
use Rattle.imports.specs.Lines.{lines_of, Parted, Statement, tokens}
use Rattle.imports.specs.Import.{known_by, fact_of}
use Rattle.packing.specs.Packed.{unpacked}
use Rattle.entail.specs.Calls.{ReadCall, ImportCall}

-- ---- what an input says

-- the statements of some lines, in order: each line says nothing, or states one of IRIs and perhaps a literal
pub data Reads : List (List ℕ) → List Statement → Type 0 where
  end : Reads [] []
  silent : {l : List ℕ} {ls : List (List ℕ)} {ss : List Statement} → Silent l → Reads ls ss → Reads (l ∷ ls) ss
  states : {l : List ℕ} {ls : List (List ℕ)} {s : Statement} {ss : List Statement} → States l s.subject s.predicate s.object → Reads ls ss → Reads (l ∷ ls) (s ∷ ss)

-- line i of an input, counted from 0
abbrev pub line_on : List ℕ → ℕ → List ℕ
line_on b i = get_or (lines_of b) i []

-- a token's number among those statements
abbrev pub term_in : List Statement → Token → ℕ
term_in ss t = term_of (known_by ss) t

-- the facts are those of the statements under that numbering, and no others
abbrev pub FactsOf : List Statement → List Fact → Type 0
FactsOf ss fs = (f : Fact) → f ∈ fs ↔ ((s : Statement) × (s ∈ ss) × (f ≡ fact_of (known_by ss) s))

-- ---- what is imported

-- an input of at most 65,536 bytes says just these facts, and they make up a table: well-formed, strictly ascending, at most 1,024
pub record Imported (b : List ℕ) (fs : List Fact) : Type 0 where
  pub size : length b ≤ 65536
  pub statements : List Statement
  pub reads : Reads (lines_of b) statements
  pub facts : FactsOf statements fs
  pub sound : TableFacts fs

-- ---- what is refused

-- 13 for a line outside the subset, 14 for one that is in it but for a blank node
pub data LineRefused (l : List ℕ) : Refusal → Type 0 where
  outside : Foreign l → LineRefused l refusals.Statement
  unknown : NamesBlank l → LineRefused l refusals.UnknownNode

-- the first of 5 and 12 that the fact of a line's statement earns
pub record FactRefused (ss : List Statement) (l : List ℕ) (r : Refusal) : Type 0 where
  pub statement : Statement
  pub states : States l statement.subject statement.predicate statement.object
  pub first : First (earns true (λ i. fact_of (known_by ss) statement) 0) (refusals.Part ∷ refusals.Class ∷ []) r

-- line i is the first that earns one
pub record FirstLine (earned : List ℕ → Refusal → Type 0) (b : List ℕ) (r : Refusal) (i : ℕ) : Type 0 where
  pub within : i < length (lines_of b)
  pub before : (j : ℕ) (q : Refusal) → j < i → earned (line_on b j) q → ⊥
  pub here : earned (line_on b i) r

-- which refusal is laid down for an input and m bytes of memory, the first that applies: the size; the first line's; when all lines are
-- read, the first fact's; the crowd; the room. Lines are counted from 1
pub data ImportRefused (b : List ℕ) (m : ℕ) : Refusal → ℕ → Type 0 where
  by_size : 65536 < length b → ImportRefused b m refusals.Statement 0
  by-line : {r : Refusal} {i : ℕ} → length b ≤ 65536 → FirstLine LineRefused b r i → ImportRefused b m r (suc i)
  by-fact : {ss : List Statement} {r : Refusal} {i : ℕ} → length b ≤ 65536 → Reads (lines_of b) ss → FirstLine (FactRefused ss) b r i → ImportRefused b m r (suc i)
  by-crowd : {ss : List Statement} {fs : List Fact} → length b ≤ 65536 → Reads (lines_of b) ss → ((i : ℕ) (q : Refusal) → i < length (lines_of b) → FactRefused ss (line_on b i) q → ⊥)
      → FactsOf ss fs → T (ascending fs) → 1024 < length fs → ImportRefused b m refusals.Crowd 0
  by-room : {fs : List Fact} → Imported b fs → m < 16 * length fs → ImportRefused b m refusals.Short 0

-- ---- the promises

pub record Import : Type 1 where
  -- "Answers: 13 [...] 14 [...] 15 [...] short memory comes last as 8.": the refusal laid down, with its place, and no other
  pub refused : {b entry exit : List ℕ} {n : ℕ} → ImportCall b entry exit n → (r : Refusal) (place : ℕ) → RefusedWith (unpacked n) r place ↔ ImportRefused b (length entry) r place
  pub unchanged : {b entry exit : List ℕ} {n : ℕ} → ImportCall b entry exit n → (r : Refusal) (place : ℕ) → RefusedWith (unpacked n) r place → exit ≡ entry
  -- "The import must hold the triples of the input under its numbering, no others", "Equal facts become one, and the result is sorted.", "Done is 0,
  -- with the written table's facts as count": the table is written into the front of the memory
  pub done : {b entry exit : List ℕ} {n : ℕ} {fs : List Fact} → ImportCall b entry exit n → Imported b fs → 16 * length fs ≤ length entry
      → DoneWith (unpacked n) (length fs) × (exit ≡ over (table_bytes fs) entry)
  pub done-only : {b entry exit : List ℕ} {n : ℕ} → ImportCall b entry exit n → (c : ℕ) → DoneWith (unpacked n) c
      → (fs : List Fact) × Imported b fs × (c ≡ length fs) × (exit ≡ over (table_bytes fs) entry)
  -- no answer names a term
  pub unnamed : {b entry exit : List ℕ} {n : ℕ} → ImportCall b entry exit n → (unpacked n).filling ≡ 0
  -- an input that gets no refusal is imported, as one table
  pub answered : (b : List ℕ) (m : ℕ) → ((r : Refusal) (place : ℕ) → ImportRefused b m r place → ⊥) ↔ ((fs : List Fact) × Imported b fs × (16 * length fs ≤ m))
  pub one_table : {b : List ℕ} {fs gs : List Fact} → Imported b fs → Imported b gs → fs ≡ gs
  -- the reader accepts what is written
  pub read_back : {b entry exit row row' : List ℕ} {n m : ℕ} {fs : List Fact} → ImportCall b entry exit n → Imported b fs → 16 * length fs ≤ length entry → 3 * length fs ≤ length row
      → ReadCall (take (16 * length fs) exit) row row' m → DoneWith (unpacked m) (length fs) × (row' ≡ over (row_of fs) row)
  -- "Lines end with byte 10, which the last may lack"
  pub lines : (b : List ℕ) (ls : List (List ℕ)) → Parted b ls ↔ (ls ≡ lines_of b)
  -- the executable reading of a line says what the grammar says, for all four outcomes; the statements of an input are one list
  pub line : (l : List ℕ) → Outcomes l
  pub one-reading : {ls : List (List ℕ)} {ss us : List Statement} → Reads ls ss → Reads ls us → ss ≡ us
  -- "No escapes are accepted.", "byte 13 gets 13", "Relative IRIs pass, bytes above 127 pass unread inside IRIs, a literal's quotes, blank labels and
  -- comments and nowhere else, and no space or tab stands between a literal's parts.": of the grammar, by the bytes alone
  pub lexical : Lexical
  -- "The five IRIs of the vocabulary become 1 to 5."
  pub fixed : (ss : List Statement) → (term_in ss sc ≡ 1) × (term_in ss sp ≡ 2) × (term_in ss dom ≡ 3) × (term_in ss range ≡ 4) × (term_in ss type ≡ 5)
  pub exactly : (ss : List Statement) (t : Token) → (t ∈ vocabulary) ↔ (term_in ss t < 6)
  -- "Other IRIs get numbers from 6, and literals from 40000, in order of first appearance.": a token behind the tokens us, among which it is not,
  -- gets 6 (40000) and how many different ones of its kind are among them
  pub iris : {ls : List (List ℕ)} {ss : List Statement} → Reads ls ss → (us : List Token) (t : Token) (vs : List Token) → tokens ss ≡ us ++ (t ∷ vs) → (t ∈ us → ⊥)
      → Of iri t → (t ∈ vocabulary → ⊥) → (ds : List Token) × Different is_other us ds × (term_in ss t ≡ 6 + length ds)
  pub literals : {ls : List (List ℕ)} {ss : List Statement} → Reads ls ss → (us : List Token) (t : Token) (vs : List Token) → tokens ss ≡ us ++ (t ∷ vs) → (t ∈ us → ⊥)
      → Of literal t → (ds : List Token) × Different is_literal us ds × (term_in ss t ≡ 40000 + length ds)
  -- whose kinds are those of the grammar
  pub kinds : {ls : List (List ℕ)} {ss : List Statement} → Reads ls ss → (t : Token) → t ∈ tokens ss → (Of iri t × (is_literal t ≡ false)) ⊎ (Of literal t × (is_literal t ≡ true))
  -- and there are numbers enough of each kind
  pub of-kind : (b : List ℕ) {ss : List Statement} → length b ≤ 65536 → Reads (lines_of b) ss → (t : Token) → t ∈ tokens ss
      → (Of iri t → (t ∈ vocabulary → ⊥) → (6 ≤ term_in ss t) × (term_in ss t < 40000)) × (Of literal t → (40000 ≤ term_in ss t) × (term_in ss t < 50000))
  -- "and never give two tokens one number."
  pub never-two : (b : List ℕ) {ss : List Statement} → length b ≤ 65536 → Reads (lines_of b) ss → (s t : Token) → s ∈ tokens ss → t ∈ tokens ss → term_in ss s ≡ term_in ss t → s ≡ t
