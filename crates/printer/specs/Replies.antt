-- The replies that have been printed, and their length.
-- Assumes nothing.
use Rattle.std.specs.Prelude.{◌≡◌, Result, Ok, Err, IsOk, List, [], ◌++◌, ℕ, ◌≤◌, length}
use Rattle.columns.specs.Lines.{flat, items_from}
use Rattle.batch.specs.Output.{reply_in}
use Rattle.printer.specs.declared.Cut.{Cut}

-- the replies to the first n questions of an input whose table has so many bytes, each put into memory for the longest
abbrev pub replies : List ℕ → ℕ → ℕ → List ℕ
replies input table n = flat (λ k. reply_in input table k 63473) (items_from (λ k. k) 0 n)

-- the bytes that were printed, whether or not a write failed behind them
abbrev pub printed_bytes : Result ℕ Cut → ℕ
printed_bytes (Ok n) = n
printed_bytes (Err cut) = cut.printed

-- so many bytes are a front of the output, and all of it where no write failed
pub record Counted (output : List ℕ) (r : Result ℕ Cut) : Type 0 where
  pub front : List ℕ
  pub rest : List ℕ
  pub parts : output ≡ front ++ rest
  pub bytes : printed_bytes r ≡ length front
  pub whole : IsOk r → rest ≡ []

-- of n replies the front is the first ones, each of them whole
pub record CountedReplies (input : List ℕ) (table n : ℕ) (r : Result ℕ Cut) : Type 0 where
  pub count : ℕ
  pub within : count ≤ n
  pub bytes : printed_bytes r ≡ length (replies input table count)
  pub whole : IsOk r → count ≡ n
