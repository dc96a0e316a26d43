-- The Point's sentences on bytes (document 02, Point 3), and where it is silent those of RDF 1.1 N-Triples, section 7: laws of the grammar, by the
-- bytes alone. The classes that grammar and lexer share are not named here, so a wrong one fails these laws.
-- Assumes nothing.
use Rattle.std.specs.Prelude.{◌≡◌, ◌⊎◌, ◌↔◌, ℕ, ◌≤◌, ◌<◌}
use mathlib.Core.List.{List, [], ◌∷◌, ◌++◌, Memᴰ}
use Rattle.ntriples.specs.Grammar.{Of, iri, tag, quoted, datatype, literal, blank, white, rest, Says, Silent}
use Rattle.ntriples.specs.Outcomes.{Foreign}
use Rattle.ntriples.specs.Tokens.{Token}

-- all in a list are so
abbrev pub Every : {A : Type 0} → (A → Type 0) → List A → Type 0
Every {A} P l = (a : A) → Memᴰ a l → P a

-- one byte or more, and all are so
abbrev pub Word : (ℕ → Type 0) → List ℕ → Type 0
Word P u = (u ≡ [] → ⊥) × Every P u

-- none of these
abbrev pub NoneOf : List ℕ → ℕ → Type 0
NoneOf l b = Memᴰ b l → ⊥

-- the bytes of an IRI: above the space, and none of < > " { } | ^ ` \
abbrev pub IriByte : ℕ → Type 0
IriByte b = (32 < b) × NoneOf (60 ∷ 62 ∷ 34 ∷ 123 ∷ 125 ∷ 124 ∷ 94 ∷ 96 ∷ 92 ∷ []) b

-- of a literal's quotes: no quote, backslash or line end
abbrev pub QuotedByte : ℕ → Type 0
QuotedByte = NoneOf (34 ∷ 92 ∷ 10 ∷ 13 ∷ [])

-- of a comment: no line end
abbrev pub CommentByte : ℕ → Type 0
CommentByte = NoneOf (10 ∷ 13 ∷ [])

-- of white space: space and tab
abbrev pub WhiteByte : ℕ → Type 0
WhiteByte b = Memᴰ b (32 ∷ 9 ∷ [])

abbrev pub LetterByte : ℕ → Type 0
LetterByte b = ((65 ≤ b) × (b ≤ 90)) ⊎ ((97 ≤ b) × (b ≤ 122))

abbrev pub LetterDigitByte : ℕ → Type 0
LetterDigitByte b = LetterByte b ⊎ ((48 ≤ b) × (b ≤ 57))

-- of a blank label: a letter, a digit, _ : - . or a byte above 127
abbrev pub LabelByte : ℕ → Type 0
LabelByte b = (LetterDigitByte b ⊎ Memᴰ b (95 ∷ 58 ∷ 45 ∷ 46 ∷ [])) ⊎ (127 < b)

-- the further parts of a language tag, each behind a hyphen
unfoldable pub hyphened : List (List ℕ) → List ℕ
hyphened [] = []
hyphened (u ∷ us) = 45 ∷ (u ++ hyphened us)

-- bytes of a kind between two others
abbrev pub Enclosed : ℕ → (ℕ → Type 0) → ℕ → List ℕ → Type 0
Enclosed a P z t = (u : List ℕ) × (t ≡ a ∷ (u ++ (z ∷ []))) × Every P u

-- _: and bytes of labels, the first neither - nor ., the last no .
abbrev pub Labelled : List ℕ → Type 0
Labelled t = (b : ℕ) × (u : List ℕ) × (t ≡ 95 ∷ 58 ∷ b ∷ u) × Every LabelByte (b ∷ u) × NoneOf (45 ∷ 46 ∷ []) b × ((v : List ℕ) → t ≡ v ++ (46 ∷ []) → ⊥)

-- @ and letters, then parts of letters and digits
abbrev pub Tagged : List ℕ → Type 0
Tagged t = (u : List ℕ) × (us : List (List ℕ)) × (t ≡ 64 ∷ (u ++ hyphened us)) × Word LetterByte u × Every (Word LetterDigitByte) us

pub record Lexical : Type 0 where
  -- "byte 13 gets 13", and "Lines end with byte 10": neither stands in a line of the subset
  pub carriage-return : (l : List ℕ) → Memᴰ 13 l → Foreign l
  pub line-end : (l : List ℕ) → Memᴰ 10 l → Foreign l
  -- "No escapes are accepted.": no backslash in a statement's tokens
  pub no-escapes : (l : List ℕ) (s p o : Token) → Says l s p o → (t : Token) → Memᴰ t (s ∷ p ∷ o ∷ []) → Memᴰ 92 t → ⊥
  -- "Relative IRIs pass": whatever stands between < and >, but for the bytes that [8] IRIREF bars
  pub iris : (t : List ℕ) → Of iri t ↔ Enclosed 60 IriByte 62 t
  -- [9] STRING_LITERAL_QUOTE without escapes
  pub quotes : (t : List ℕ) → Of quoted t ↔ Enclosed 34 QuotedByte 34 t
  -- [141s] BLANK_NODE_LABEL
  pub labels : (t : List ℕ) → Of blank t ↔ Labelled t
  -- [144s] LANGTAG
  pub tags : (t : List ℕ) → Of tag t ↔ Tagged t
  -- "Comments, also after a full stop [...] are skipped": nothing, or # and bytes up to the line's end
  pub comments : (t : List ℕ) → Of rest t ↔ ((t ≡ []) ⊎ ((u : List ℕ) × (t ≡ 35 ∷ u) × Every CommentByte u))
  -- "nothing but spaces and tabs"
  pub spaces : (w : List ℕ) → Of white w ↔ Every WhiteByte w
  -- "bytes above 127 pass unread inside IRIs, a literal's quotes, blank labels and comments and nowhere else": by the laws above they do, as they are
  -- bytes of these, the label's first and last among them, and not of tags or white space
  pub above : (b : ℕ) → 127 < b → IriByte b × QuotedByte b × (LabelByte b × NoneOf (45 ∷ 46 ∷ []) b) × CommentByte b × (LetterDigitByte b → ⊥) × (WhiteByte b → ⊥)
  -- so in a statement's line they stand in a token or in the comment, in any other line of the subset in the comment
  pub in-statements : (l : List ℕ) (s p o : Token) (h : Says l s p o) (b : ℕ) → Memᴰ b l → 127 < b → Memᴰ b (s ++ (p ++ (o ++ h.r)))
  pub in-comments : (l : List ℕ) (h : Silent l) (b : ℕ) → Memᴰ b l → 127 < b → Memᴰ b h.r
  -- [2] to [5]: what a statement's three tokens are
  pub parts : (l : List ℕ) (s p o : Token) → Says l s p o → (Of iri s ⊎ Of blank s) × Of iri p × (Of iri o ⊎ (Of blank o ⊎ Of literal o))
  -- "A literal is its full token with language tag or datatype": its quotes, and right behind them nothing, a datatype or a tag
  pub literals : (t : List ℕ) → Of literal t ↔ ((q : List ℕ) × (r : List ℕ) × (t ≡ q ++ r) × Of quoted q × ((r ≡ []) ⊎ (Of datatype r ⊎ Of tag r)))
  -- "no space or tab stands between a literal's parts": behind its quotes @ or ^ comes first, behind ^^ the IRI
  pub adjoined : (q r : List ℕ) (b : ℕ) → Of quoted q → Of literal (q ++ (b ∷ r)) → (b ≡ 64) ⊎ (b ≡ 94)
  pub typed : (t : List ℕ) → Of datatype t ↔ ((u : List ℕ) × (t ≡ 94 ∷ 94 ∷ u) × Of iri u)
