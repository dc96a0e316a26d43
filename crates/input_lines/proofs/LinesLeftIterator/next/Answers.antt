-- `input_lines::LinesLeft`'s `next` meets its contract: the first line comes, and those behind the byte that ends it are left.
-- Assumes nothing.
use Rattle.std.proofs.Common.{rules, ◌≡◌, length, ◌∷◌, ◌<◌}
use lib.ListN.{take}
use Rattle.imports.specs.Lines.{lines_of}
use Rattle.imports.proofs.Lines.{lines_over, lines_first}
use Rattle.input_lines.proofs.LinesLeftIterator.next.Goals as goal
use Rattle.input_lines.proofs.LinesLeftIterator.next.Goals.{After-from-self}

pub returns-then-is_empty-clause-steps : goal.returns-then-is_empty-clause-steps
returns-then-is_empty-clause-steps c = let e = lines_over c.args.self.now.rest.now (search rules) in (e, e)

stepped : (c : After-from-self) → lines_of c.args.self.now.rest.now ≡ take c.line_end-end.result c.args.self.now.rest.now ∷ lines_of c.from-self.result.now
stepped c =
    let s = c.args.self.now.rest.now in
    let h : 0 < length s = search rules in
    rw (c.from-self.ensures, c.line_end-end.ensures.value) (lines_first s h)

pub returns-clause-steps : goal.returns-clause-steps
returns-clause-steps c = stepped (goal.at-returns-clause-steps c).After-from-self

pub returns-clause-goes : goal.returns-clause-goes
returns-clause-goes c = let e = stepped (goal.at-returns-clause-goes c).After-from-self in search rules
