-- A derivation line as it is read: where its bytes are not laid out as one, what each of its fields says by itself.
-- Assumes nothing.
use Rattle.std.specs.Prelude.{cond, List, ℕ, ◌+◌, ◌*◌, Option, Result, Ok, Err}
use Rattle.columns.specs.Fields.{field_read}
use Rattle.columns.specs.Lines.{laid_out, items_from}
use Rattle.rules.specs.declared.Line.{Line}
use Rattle.derivation.specs.Bytes.{line_at}

-- line i of the bytes, counted from 0, where it is laid out, and else its six fields
unfoldable pub read_at : List ℕ → ℕ → Result Line (List (Option ℕ))
read_at b i = cond (laid_out 6 b (31 * i)) (Ok (line_at b i)) (Err (items_from (λ k. field_read b (31 * i + 5 * k)) 0 6))
