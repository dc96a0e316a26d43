-- `rule_steps::row` meets its contract: the row at a number's place in the table is the row of the rule.
-- Assumes nothing.
use Prim.Native.Nat.{ℕ, ◌-◌, ◌≤◌, ◌<◌}
use native.Mathlib.Omega.{arith}
use denote.Bor.{Bor}
use lib.ListN.{length}
use Rattle.std.specs.Prelude.{SomeIff, Option, None, Some}
use Rattle.std.specs.Option.{option_copied}
use Rattle.std.specs.Slice.{IsItemAt}
use Rattle.rules.specs.declared.Row.{Row}
use Rattle.rules.specs.Steps.{rows, row}
use Rattle.rule_steps.proofs.row.Goals as goal

at_place : (n : ℕ) (r : Option (Bor Row)) → 1 ≤ n → IsItemAt rows (n - 1) r → SomeIff (option_copied r) ((0 < n) × (n ≤ length rows)) (row n)
unfolding rows row
at_place n None h at = λ q. let l : length rows ≤ n - 1 = at.3 in omega (arith, q.1)
at_place n (Some x) h at = let l : n - 1 < length rows = at.3.0 in ((omega arith, omega arith), at.4 (omega arith) _)

pub returns : goal.returns
unfolding rows row
returns c = rw (c.copied.ensures) (at_place c.args.n c.get.result (c.in_ok-checked_sub.ensures).0 (rw (← (c.in_ok-checked_sub.ensures).1) c.get.ensures.lookup))
