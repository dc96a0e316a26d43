-- The lines before a line, of which the facts on the last two are at hand.
-- Assumes nothing.
use Rattle.std.specs.Prelude.{◌≡◌, Option, Some, List, ℕ, ◌-◌, ◌*◌, ◌≤◌, ◌<◌, length}
use Rattle.facts.specs.declared.Fact.{Fact}
use Rattle.derivation.specs.Bytes.{line_at}

-- i lines are there, and p and q are the facts on the last and the one before it, as far as there are such lines
pub record Behind (x : List ℕ) (i : ℕ) (p q : Option Fact) : Type 0 where
  pub there : 31 * i ≤ length x
  pub last : 0 < i → p ≡ Some (line_at x (i - 1)).fact
  pub before : 1 < i → q ≡ Some (line_at x (i - 2)).fact
