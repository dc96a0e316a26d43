-- `search_order::print_order` meets its contract: a data fact that begins the path is put behind the sp facts; where none begins it nothing is moved.
-- Assumes nothing.
use Rattle.std.proofs.Common.{List, ℕ, ◌+◌, ◌≤◌, ◌++◌, drop, length, length-drop, sym, ap, arith}
use Rattle.std.proofs.lemmas.List.Sums.{prefix_len-le-length}
use Rattle.question.specs.Order.{chained}
use Rattle.question.proofs.Moved.{turned-print, print-same}
use Rattle.search_order.proofs.print_order.Goals as goal
use Rattle.search_order.proofs.print_order.Goals.{After-sp_run-k}

-- the run ends within the path
run-within : (c : After-sp_run-k) → c.sp_run-k.result + 1 ≤ length c.args.path.now
run-within c = omega (arith, prefix_len-le-length (chained c.args.facts.now) (drop 1 c.args.path.now), length-drop 1 c.args.path.now, c.sp_run-k.ensures, c.requires.some)

pub overflow_add-k : goal.overflow_add-k
overflow_add-k c = omega (arith, run-within (goal.at-overflow_add-k c).After-sp_run-k, c.well_formed)

pub slice_bounds-rotate_left-end : goal.slice_bounds-rotate_left-end
slice_bounds-rotate_left-end c = run-within (goal.at-slice_bounds-rotate_left-end c).After-sp_run-k

pub returns-then-is_name : goal.returns-then-is_name
returns-then-is_name c =
    turned-print c.args.facts.now c.args.path.now _ c.sp_run-k.result c.requires.some (sym c.if-is_name.ensures) c.sp_run-k.ensures
    (ap (λ (l : List ℕ). l ++ drop (c.sp_run-k.result + 1) c.args.path.now) c.rotate_left.ensures.after)

pub returns-else-is_name : goal.returns-else-is_name
returns-else-is_name c = print-same c.args.facts.now c.args.path.now c.requires.some (sym c.if-is_name.ensures)
