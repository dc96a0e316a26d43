-- `input::table_lines` meets its contract: the table ends at the first zero line.
-- Assumes nothing.
use Rattle.std.proofs.Common.{◌≡◌, ◌*◌, rules, tests, true, false}
use Rattle.std.proofs.lemmas.Iterator.{first_from_Range}
use Rattle.batch.specs.Input.{is_zero_line}
use Rattle.batch.proofs.Inputs.{divided-first}
use Rattle.input.proofs.table_lines.Goals as goal

pub returns : goal.returns
returns c =
    let b = c.args.input.now in
    divided-first b _ _ (first_from_Range _ _ _ c.find.result (λ i. is_zero_line b (16 * i) ≡ true) (λ i. is_zero_line b (16 * i) ≡ false) c.find.ensures.ran (λ x q k. search (rules, tests)) (λ x q k. search (rules, tests)))
