-- What becomes of a line, by the grammar: it makes a statement of IRIs and perhaps a literal, it names a blank node, it says nothing, or it is
-- outside the subset (document 02, Point 3). `line_of` is how a line is read.
-- Assumes nothing.
use Rattle.std.specs.Prelude.{◌≡◌, ◌⊎◌, ◌↔◌, List, ℕ, None, Some, Ok, Err}
use Rattle.ntriples.specs.declared.Triple.{Triple}
use Rattle.ntriples.specs.declared.LineFault.TheVariants.{Outside, Unknown}
use Rattle.ntriples.specs.Grammar.{Of, blank, Says, Silent}
use Rattle.ntriples.specs.Lexed.{line_of}
use Rattle.ntriples.specs.Tokens.{Token, spanned}

-- a statement that names a blank node
abbrev pub NamesBlank : List ℕ → Type 0
NamesBlank l = (s : Token) × (p : Token) × (o : Token) × Says l s p o × (Of blank s ⊎ Of blank o)

-- a statement that names none
pub record States (l : List ℕ) (s p o : Token) : Type 0 where
  pub says : Says l s p o
  pub subject : Of blank s → ⊥
  pub object : Of blank o → ⊥

-- neither a statement nor a line that says nothing
pub record Foreign (l : List ℕ) : Type 0 where
  pub no-statement : (s p o : Token) → Says l s p o → ⊥
  pub not-silent : Silent l → ⊥

-- the line is read as a statement of these tokens
pub record ReadAs (l : List ℕ) (s p o : Token) : Type 0 where
  pub places : Triple
  pub line : line_of l ≡ Ok (Some places)
  pub subject : spanned l places.subject ≡ s
  pub predicate : spanned l places.predicate ≡ p
  pub object : spanned l places.object ≡ o

-- how a line is read is what the grammar says of it, for all four outcomes
pub record Outcomes (l : List ℕ) : Type 0 where
  pub triple : (s p o : Token) → ReadAs l s p o ↔ States l s p o
  pub unknown : line_of l ≡ Err Unknown ↔ NamesBlank l
  pub nothing : line_of l ≡ Ok None ↔ Silent l
  pub outside : line_of l ≡ Err Outside ↔ Foreign l
