-- Tokens: parts of a line, or of the input.
-- Assumes nothing.
use Rattle.std.specs.Prelude.{List, ℕ, ◌-◌, take, drop}
use Rattle.ntriples.specs.declared.Span.{Span}

-- a token: its bytes
abbrev pub Token : Type 0
Token = List ℕ

-- the bytes from one place to another
abbrev pub part : List ℕ → ℕ → ℕ → Token
part l from to = take (to - from) (drop from l)

-- the bytes of a span
abbrev pub spanned : List ℕ → Span → Token
spanned l s = part l s.from s.to
