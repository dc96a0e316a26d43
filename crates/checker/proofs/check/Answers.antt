-- `checker::check` meets its contract: the table, the fact put, then the derivation.
-- Assumes nothing.
use mathlib.Core.Path.{◌≡◌, sym, ◌∙◌}
use native.Mathlib.Omega.{arith}
use lib.Seq.{length-take-le}
use Rattle.std.proofs.Common.{rules, Err}
use Rattle.facts.specs.Results.{Refused}
use Rattle.table.specs.Tables.{table_of}
use Rattle.table.proofs.Rows.{passes-loaded, scan-stops}
use Rattle.acceptance.specs.Check.{check_answer, table_answer, fact_answer}
use Rattle.acceptance.proofs.Accepts.{check-told}
use Rattle.acceptance.proofs.Loaded.{loaded-ascends}
use Rattle.checker.proofs.check.Goals as goal

pub slice_bounds-facts-end : goal.slice_bounds-facts-end
slice_bounds-facts-end c = let p = passes-loaded _ _ _ _ c.in_ok-n.ensures.answer c.load.ensures.facts in omega (arith, c.load.auto.facts)

pub slice_bounds-facts-end-2 : goal.slice_bounds-facts-end-2
slice_bounds-facts-end-2 c =
    let p = passes-loaded _ _ _ _ c.in_ok-n.ensures.answer c.load.ensures.facts in sym (length-take-le c.in_ok-n.n c.load.new.facts (omega (arith, c.load.auto.facts)))

pub invariant_of-check_derivation : goal.invariant_of-check_derivation
invariant_of-check_derivation c =
    let p = passes-loaded _ _ _ _ c.in_ok-n.ensures.answer c.load.ensures.facts in record { ascends = rw p.4 (loaded-ascends _ p.0 p.1) }

pub returns-in_err-n : goal.returns-in_err-n
unfolding check_answer table_answer
returns-in_err-n c =
    let r : c.from_residual.result ≡ Err c.in_err-n.field-0.0 = search rules in
    let both = check-told _ _ _ _ (r ∙ rw (scan-stops (table_of c.args.table.now) _ _ (sym c.in_err-n.ensures.answer))) in record { call = both.0; meaning = both.1 }

pub returns-in_err-fault : goal.returns-in_err-fault
unfolding check_answer table_answer fact_answer
returns-in_err-fault c =
    let p = passes-loaded _ _ _ _ c.in_ok-n.ensures.answer c.load.ensures.facts in
    let r : c.from_residual-in_err-fault.result ≡ Refused c.in_err-fault.field-0.0 0 = search rules in
    let both = check-told _ _ _ _ (r ∙ rw (p.1, ← c.in_err-fault.ensures)) in record { call = both.0; meaning = both.1 }

pub returns : goal.returns
unfolding check_answer table_answer fact_answer
returns c =
    let p = passes-loaded _ _ _ _ c.in_ok-n.ensures.answer c.load.ensures.facts in
    let both = check-told _ _ _ _ (rw (p.1, ← c.in_ok-fault.ensures) (rw p.4 at c.check_derivation.ensures)) in record { call = both.0; meaning = both.1 }
