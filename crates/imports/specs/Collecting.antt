-- The facts of an input while they are gathered: the index of tokens and the row of keys after some of its statements.
-- Assumes nothing.
use Rattle.std.specs.Prelude.{◌≡◌, List, ◌++◌, ℕ, ◌+◌, ◌*◌, ◌≤◌, ◌<◌, length, drop}
use Rattle.ntriples.specs.declared.Span.{Span}
use Rattle.ntriples.specs.declared.Triple.{Triple}
use Rattle.ntriples.specs.Tokens.{Token, part}
use Rattle.numbering.specs.declared.Counts.{Counts}
use Rattle.numbering.specs.Numbering.{Known}
use Rattle.numbering.specs.Vocabulary.{term_of, with_term}
use Rattle.numbering.specs.Index.{entries, Kept}
use Rattle.gathering.specs.Keys.{Holds}
use Rattle.imports.specs.Lines.{lines_of, Statement, statements}
use Rattle.imports.specs.Import.{known_by, facts_of}

-- after a token, which stands from one place to another: its number, and the index with it, whose counts were c and are d
pub record Termed (input : List ℕ) (from to : ℕ) (after : List ℕ) (c d : Counts) (r : ℕ) (k : Known) : Type 0 where
  pub number : r ≡ term_of (with_term k (part input from to)) (part input from to)
  pub narrow : r < 65536
  pub kept : Kept input after d (with_term k (part input from to))
  pub more : entries d ≤ entries c + 1

-- so for whatever the index holds
abbrev pub GivesTerm : List ℕ → ℕ → ℕ → List ℕ → List ℕ → Counts → Counts → ℕ → Type 0
GivesTerm input from to before after c d r = (k : Known) → Kept input before c k → Termed input from to after c d r k

-- after the statements `done` the index has their tokens, and the row the keys of their n facts; a fact brings three tokens at most
pub record Gathers (input items : List ℕ) (c : Counts) (keys : List ℕ) (n : ℕ) (done : List Statement) : Type 0 where
  pub index : Kept input items c (known_by done)
  pub held : Holds keys n (facts_of done)
  pub tokens : entries c ≤ 3 * n

-- nothing gathered yet
abbrev pub begun : Counts
begun = record { names = 0; literals = 0 }

-- some statements are gathered, and there is room for a fact more
pub record Open (input items : List ℕ) (c : Counts) (keys : List ℕ) (n : ℕ) : Type 0 where
  pub done : List Statement
  pub gathers : Gathers input items c keys n done
  pub more : n ≤ 1024

-- a token stands at a span behind a place
pub record Stands (input : List ℕ) (at : ℕ) (s : Span) : Type 0 where
  pub some : s.from < s.to
  pub within : at + s.to ≤ length input

-- the three tokens of a statement do
pub record TripleStands (input : List ℕ) (at : ℕ) (t : Triple) : Type 0 where
  pub subject : Stands input at t.subject
  pub predicate : Stands input at t.predicate
  pub object : Stands input at t.object

-- the token there, and the statement of three
abbrev pub token_at : List ℕ → ℕ → Span → Token
token_at input at s = part input (at + s.from) (at + s.to)

abbrev pub statement_at : List ℕ → ℕ → Triple → Statement
statement_at input at t = record { subject = token_at input at t.subject; predicate = token_at input at t.predicate; object = token_at input at t.object }

-- some statements are gathered, whatever was gathered before them
abbrev pub Grows : List ℕ → List Statement → List ℕ → List ℕ → Counts → Counts → List ℕ → List ℕ → ℕ → ℕ → Type 0
Grows input ss items items' c c' keys keys' n n' = (done : List Statement) → Gathers input items c keys n done → Gathers input items' c' keys' n' (done ++ ss)

-- the statements of an input are gathered up to a place, with room for a fact more
pub record Underway (input items : List ℕ) (c : Counts) (keys : List ℕ) (n at : ℕ) : Type 0 where
  pub done : List Statement
  pub behind : statements (lines_of input) ≡ done ++ statements (lines_of (drop at input))
  pub gathers : Gathers input items c keys n done
  pub more : n ≤ 1024

-- what is collected from an input's statements: the keys of their facts, or more than 1,024
pub record Collected (ss : List Statement) (keys : List ℕ) (r : ℕ) : Type 0 where
  pub all : length (facts_of ss) ≤ 1024 → Holds keys r (facts_of ss)
  pub crowd : 1024 < length (facts_of ss) → r ≡ 1025
