-- Derivations as bytes: a line is rule number, first premise, second premise, subject, predicate, object (document 01,
-- "Derivation lines and their check").
-- Assumes nothing.
use Rattle.std.specs.Prelude.{List, [], ◌∷◌, ℕ, ◌+◌, ◌*◌}
use Rattle.columns.specs.Fields.{number_at}
use Rattle.columns.specs.Lines as lines
use Rattle.columns.specs.Lines.{flat}
use Rattle.facts.specs.Facts.{fact}
use Rattle.rules.specs.declared.Line.{Line}
use Rattle.rules.specs.Derivations.{derivation_line}

-- the six numbers of a line
abbrev pub line_numbers : Line → List ℕ
line_numbers l = l.rule ∷ l.first ∷ l.second ∷ l.fact.subject ∷ l.fact.predicate ∷ l.fact.object ∷ []

-- its 31 bytes
abbrev pub line_bytes : Line → List ℕ
line_bytes l = lines.line (line_numbers l)

-- the bytes of a derivation, line after line
abbrev pub derivation_bytes : List Line → List ℕ
derivation_bytes = flat line_bytes

-- line i of the bytes, counted from 0, by what its fields say
unfoldable pub line_at : List ℕ → ℕ → Line
line_at b i =
    derivation_line (number_at b (31 * i)) (number_at b (31 * i + 5)) (number_at b (31 * i + 10))
    (fact (number_at b (31 * i + 15)) (number_at b (31 * i + 20)) (number_at b (31 * i + 25)))
