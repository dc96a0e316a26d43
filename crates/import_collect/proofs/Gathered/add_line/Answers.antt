-- `import_collect::Gathered::add_line` meets its contract: what the line says is gathered.
-- Assumes nothing.
use mathlib.Core.Path.{refl, sym, ◌∙◌}
use Rattle.imports.specs.Lines.{said_by}
use Rattle.imports.proofs.Collecting.{line-said, gathers-as, line-silent}
use Rattle.import_collect.proofs.Gathered.add_line.Goals as goal

pub add_statement-requires : goal.add_statement-requires
add_statement-requires c =
    (c.requires.0, (line-said _ c.args.at c.args.end c.in-Ok-Some.t c.requires.1 c.requires.2 (rw c.in-Ok-Some.field-0-is at (sym c.parse.ensures ∙ c.in-Ok-Some.is))).1)

pub returns-in-Ok-Some-clause-grows : goal.returns-in-Ok-Some-clause-grows
returns-in-Ok-Some-clause-grows c done q =
    gathers-as done (line-said _ c.args.at c.args.end c.in-Ok-Some.t c.requires.1 c.requires.2 (rw c.in-Ok-Some.field-0-is at (sym c.parse.ensures ∙ c.in-Ok-Some.is))).0 (c.add_statement.ensures.grows done q)

pub returns-in-Ok-None-clause-grows : goal.returns-in-Ok-None-clause-grows
unfolding said_by
returns-in-Ok-None-clause-grows c done q = line-silent done _ _ (rw c.in-Ok-None.field-0-is at (sym c.parse.ensures ∙ c.in-Ok-None.is)) refl q

pub returns-in-Err-clause-grows : goal.returns-in-Err-clause-grows
unfolding said_by
returns-in-Err-clause-grows c done q = line-silent done _ _ (sym c.parse.ensures ∙ c.in-Err.is) refl q
