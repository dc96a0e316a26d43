-- What "in order of first appearance" means (document 02, Point 3): a token's number counts the different tokens of its kind that appear
-- before it.
-- Assumes nothing.
use Rattle.std.specs.Prelude.{◌≡◌, Bool, true, not, ◌&&◌, ℕ, ◌+◌, length}
use mathlib.Core.List.{List, [], ◌∷◌, ◌++◌, Memᴰ}
use Rattle.ntriples.specs.Tokens.{Token}
use Rattle.numbering.specs.Numbering.{has, is_literal}
use Rattle.numbering.specs.Vocabulary.{vocabulary, term_of, known}

-- an IRI that is not of the vocabulary
abbrev pub is_other : Token → Bool
is_other t = not (is_literal t) && not (has t vocabulary)

-- no token stands among them twice
unfoldable pub Once : List Token → Type 0
Once [] = Unit {0}
Once (t ∷ ts) = (Memᴰ t ts → ⊥) × Once ts

-- ds are the different ones of a kind among ts
pub record Different (kind : Token → Bool) (ts ds : List Token) : Type 0 where
  pub once : Once ds
  pub all : (t : Token) → Memᴰ t ts → kind t ≡ true → Memᴰ t ds
  pub only : (t : Token) → Memᴰ t ds → Memᴰ t ts × (kind t ≡ true)

-- the number of t, which first appears behind the tokens us: `from` and how many different ones of its kind appear before it
abbrev pub Numbers : (Token → Bool) → ℕ → List Token → Token → List Token → Type 0
Numbers kind from us t vs = (ds : List Token) × Different kind us ds × (term_of (known (us ++ (t ∷ vs))) t ≡ from + length ds)
