-- `line_layout::numbers_at` meets its contract: each field that is read leaves the rest of the line to be laid out.
-- Assumes nothing.
use Rattle.std.proofs.Common.{◌≡◌, ◌+◌, ◌*◌, ℕ, List, [], eqb, get_or, drop, replicate, refl, sym, ◌∙◌, add-zero, add-one, arith}
use native.Mathlib.Nat.{sub-zero}
use lib.ListN.{length-replicate, drop_of_length-le}
use mathlib.Core.List.{append-nil}
use Rattle.columns.specs.Fields.{number_at}
use Rattle.columns.specs.Lines.{numbers_at, items_from}
use Rattle.columns.proofs.Columns.{by_cases, some-field}
use Rattle.columns.proofs.Lists.{items_put, numbers-items}
use Rattle.columns.proofs.Torn.{left-on, numbers-torn, numbers-end}
use Rattle.line_layout.proofs.numbers_at.Goals as goal

pub loop-k-init : goal.loop-k-init
unfolding items_from
loop-k-init g c = record { left = rw (sub-zero, add-zero) refl; read = refl }

pub returns-in_err-number : goal.returns-in_err-number
returns-in_err-number g c =
    c.from_residual.ensures ∙ sym (numbers-torn g.row.N c.args.s.now c.args.at c.loop-k.k (omega arith) c.in_err-number.ensures c.loop-k.invariant.left)

pub loop-k-preserved : goal.loop-k-preserved
loop-k-preserved g c =
    let k = c.loop-k.k in
    let s = c.args.s.now in
    let at = c.args.at in
    let n = (some-field s (at + 5 * k) _ (sym c.in_ok-number.ensures)).1 in
    record {
      left = left-on g.row.N s at k (omega arith) c.in_ok-number.ensures c.loop-k.invariant.left;
      read = rw (← n, c.loop-k.invariant.read, add-one) (items_put (λ j. number_at s (at + 5 * j)) (replicate g.row.N 0) k (rw length-replicate (omega arith)));
    }

pub returns : goal.returns
returns g c =
    let n = g.row.N in
    let s = c.args.s.now in
    let at = c.args.at in
    let k : c.loop-k.k ≡ n = omega (arith, c.loop-k.auto.k-end, c.loop-k-test.false) in
    let zeros : List ℕ = replicate n 0 in
    let whole : drop n zeros ≡ [] = drop_of_length-le zeros (rw length-replicate (omega arith)) in
    let read : c.loop-k.number-items ≡ numbers_at n s at = c.loop-k.invariant.read ∙ rw (k, whole) (rw append-nil (sym (rw add-zero at (numbers-items n s at 0)))) in
    let told = numbers-end n s at (rw k at c.loop-k.invariant.left) in
    by_cases (eqb (get_or s (at + 5 * n) 0) 10) (λ e. c.then_some.ensures ∙ rw (e, read) (sym (rw e at told))) (λ e. c.then_some.ensures ∙ rw e (sym (rw e at told)))
