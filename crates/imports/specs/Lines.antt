-- The lines of an input and the statements on them (document 02, Point 3: "Lines end with byte 10, which the last may lack").
-- Assumes nothing.
use Rattle.std.specs.Prelude.{◌≡◌, ◌⊎◌, cond, not, ℕ, ◌+◌, drop, eqb, None, Some, Ok, Err}
use Rattle.std.specs.List.{prefix_len}
use mathlib.Core.List.{List, [], ◌∷◌, ◌++◌, Memᴰ}
use Rattle.ntriples.specs.Lexed.{Line, line_of}
use Rattle.ntriples.specs.Tokens.{Token, spanned}

-- a byte before the first line
unfoldable pub on_first : ℕ → List (List ℕ) → List (List ℕ)
on_first b [] = (b ∷ []) ∷ []
on_first b (l ∷ ls) = (b ∷ l) ∷ ls

-- the lines, each without the byte 10 that ends it
unfoldable pub lines_of : List ℕ → List (List ℕ)
unfolding on_first
lines_of [] = []
lines_of (b ∷ s) = cond (eqb b 10) ([] ∷ lines_of s) (on_first b (lines_of s))

-- ---- the same, said of what they are

-- lines, each with byte 10 behind it
unfoldable pub ended : List (List ℕ) → List ℕ
ended [] = []
ended (l ∷ ls) = l ++ (10 ∷ ended ls)

-- the input is these lines: none holds byte 10, each is ended by one, and the last, which is then not empty, may lack it
pub record Parted (input : List ℕ) (ls : List (List ℕ)) : Type 0 where
  pub apart : (l : List ℕ) → Memᴰ l ls → Memᴰ 10 l → ⊥
  pub whole : (input ≡ ended ls) ⊎ ((ks : List (List ℕ)) × (b : ℕ) × (l : List ℕ) × (ls ≡ ks ++ ((b ∷ l) ∷ [])) × (input ≡ ended ks ++ (b ∷ l)))

-- ---- statements

-- the three tokens of a statement
pub record Statement : Type 0 where
  pub subject : Token
  pub predicate : Token
  pub object : Token

-- the statement that a line makes, if it makes one
unfoldable pub said_by : List ℕ → Line → List Statement
said_by l (Err e) = []
said_by l (Ok None) = []
said_by l (Ok (Some t)) = record { subject = spanned l t.subject; predicate = spanned l t.predicate; object = spanned l t.object } ∷ []

abbrev pub said : List ℕ → List Statement
said l = said_by l (line_of l)

-- the statements on some lines, in order
unfoldable pub statements : List (List ℕ) → List Statement
unfolding said_by
statements [] = []
statements (l ∷ ls) = said l ++ statements ls

-- their tokens, in reading order
unfoldable pub tokens : List Statement → List Token
tokens [] = []
tokens (s ∷ ss) = s.subject ∷ s.predicate ∷ s.object ∷ tokens ss

-- ---- by places

-- the bytes of the first line
unfoldable pub first_length : List ℕ → ℕ
first_length s = prefix_len (λ b. not (eqb b 10)) s

-- where the line ends that begins at a place
abbrev pub line_end : List ℕ → ℕ → ℕ
line_end input at = at + first_length (drop at input)
