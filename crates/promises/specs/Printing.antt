-- Constants for printing a field (document 02, Point 4). What the code works out is the definition `field`, by tenths; here stands what each
-- printed byte is by `shown`, which has no word of the code: of a field, of each line that `put_line` writes, of each line of a table and of a
-- derivation that the calls for C write, by the calls' equations, and of each reply of the program, wherever it stands in its output.
-- Assumes nothing.
use Rattle.std.specs.Prelude.{◌≡◌, List, [], ◌∷◌, ℕ, ◌+◌, ◌*◌, ◌≤◌, ◌<◌, length, get_or}
use Rattle.columns.specs.Fields as fields
use Rattle.columns.specs.Lines as lines
use Rattle.columns.specs.Lines.{Below, over}
use Rattle.columns.specs.Digits.{shown, Shows, ShowsLine}
use Rattle.facts.specs.declared.Fact.{Fact}
use Rattle.facts.specs.declared.Refusal.TheVariants.{Form}
use Rattle.facts.specs.Gaps.{filled_by}
use Rattle.facts.specs.Answers.{number_of, YesWith}
use Rattle.table.specs.Tables.{terms}
use Rattle.rules.specs.declared.Line.{Line}
use Rattle.derivation.specs.Bytes.{line_numbers}
use Rattle.question.specs.Question.{Prints}
use Rattle.entail.specs.Calls.{WriteCall, ImportCall}
use Rattle.batch.specs.declared.Query.{Query}
use Rattle.batch.specs.Output.{output_of}
use Rattle.batch.specs.Whole.{Laid}
use Rattle.demands.specs.Refusals.{SoundRow}
use Rattle.demands.specs.Demands.{Put, said, SoundPut, Shown, Reply}
use Rattle.promises.specs.Import.{Imported}

pub record Printing : Type 1 where
  -- "Every printed byte is the same, proved for each number of up to five digits.": the five bytes of a field show the number, no others do, and
  -- no digit is left out
  pub field : (n : ℕ) → n < 100000 → (length (fields.field n) ≡ 5) × Shows (fields.field n) 0 n
  pub only : (s : List ℕ) (n : ℕ) → length s ≡ 5 → Shows s 0 n → s ≡ fields.field n
  pub whole : (n k : ℕ) → n < 100000 → 5 ≤ k → shown n k ≡ 32
  -- a line, as the contract of `put_line` has it in the front of the memory
  pub line : (ns old : List ℕ) → Below ns → ShowsLine (over (lines.line ns) old) 0 ns
  -- each line of a table that the call for C writes, and of one that it imports
  pub written : {row entry exit : List ℕ} {n : ℕ} {facts : List Fact} → WriteCall row entry exit n → SoundRow row facts → 16 * length facts ≤ length entry
      → (i : ℕ) (z : Fact) → i < length facts → ShowsLine exit (16 * i) (terms (get_or facts i z))
  pub imported : {b entry exit : List ℕ} {n : ℕ} {facts : List Fact} → ImportCall b entry exit n → Imported b facts → 16 * length facts ≤ length entry
      → (i : ℕ) (z : Fact) → i < length facts → ShowsLine exit (16 * i) (terms (get_or facts i z))
  -- each line of the derivation that a yes prints, which `Demand-3`, field `printed`, has in the front of the output
  pub derivation : (p : Put) (facts : List Fact) → SoundPut p facts → (f x : ℕ) → YesWith (said p) f x
      → (d : List ℕ) → p.exit ≡ over d p.entry → (prints : Prints facts (filled_by p.question.fact x) f d)
      → (i : ℕ) (z : Line) → i < length prints.derivation → ShowsLine p.exit (31 * i) (line_numbers (get_or prints.derivation i z))
  -- each reply of the program, of which its output is made up (`Demand-3`, field `program`): the line of number, place and count, and each line
  -- of the derivation behind a yes
  pub heading : {table : List ℕ} {q : Query} {bytes : List ℕ} (r : Reply table q bytes) → ShowsLine bytes 0 ((said r.put).number ∷ (said r.put).place ∷ (said r.put).count ∷ [])
  pub behind : {table : List ℕ} {q : Query} {bytes : List ℕ} (r : Reply table q bytes) (f x : ℕ) (shows : Shown r.put f x r.derivation)
      → (i : ℕ) (z : Line) → i < length shows.prints.derivation → ShowsLine bytes (16 + 31 * i) (line_numbers (get_or shows.prints.derivation i z))
  -- and the one line for an input that is not laid out
  pub torn : (b : List ℕ) → ((table : List ℕ) (qs : List Query) → Laid b table qs → ⊥) → ShowsLine (output_of b) 0 (number_of Form ∷ 0 ∷ 0 ∷ [])
