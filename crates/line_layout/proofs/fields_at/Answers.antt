-- `line_layout::fields_at` meets its contract: each field is read at its place.
-- Assumes nothing.
use Rattle.std.proofs.Common.{◌≡◌, ◌+◌, ◌*◌, ℕ, List, [], Option, None, drop, replicate, refl, ◌∙◌, add-one, arith}
use lib.ListN.{length-replicate, drop_of_length-le}
use mathlib.Core.List.{append-nil}
use Rattle.columns.specs.Fields.{field_read}
use Rattle.columns.specs.Lines.{items_from}
use Rattle.columns.proofs.Lists.{items_put}
use Rattle.line_layout.proofs.fields_at.Goals as goal

pub loop-k-init : goal.loop-k-init
unfolding items_from
loop-k-init g c = refl

pub loop-k-preserved : goal.loop-k-preserved
loop-k-preserved g c =
    let k = c.loop-k.k in
    rw (c.field_at.ensures, c.loop-k.invariant, add-one) (items_put (λ j. field_read c.args.s.now (c.args.at + 5 * j)) (replicate g.row.N None) k (rw length-replicate (omega arith)))

pub returns : goal.returns
returns g c =
    let n = g.row.N in
    let k : c.loop-k.k ≡ n = omega (arith, c.loop-k.auto.k-end, c.loop-k-test.false) in
    let nones : List (Option ℕ) = replicate n None in
    let whole : drop n nones ≡ [] = drop_of_length-le nones (rw length-replicate (omega arith)) in
    c.loop-k.invariant ∙ rw (k, whole) (append-nil _)
