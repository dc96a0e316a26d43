-- `import_judge::statement_fault` meets its contract: the spans lie within the line, and the fact is that of the three samples.
-- Assumes nothing.
use native.Mathlib.Omega.{arith}
use Rattle.ntriples.proofs.Spans.{triple-spans}
use Rattle.imports.specs.Lines.{said_by}
use Rattle.imports.specs.Import.{fact_refusal}
use Rattle.import_judge.proofs.statement_fault.Goals as goal

pub sample-requires : goal.sample-requires
sample-requires c = let s = triple-spans _ _ c.requires in (omega arith, omega arith)

pub sample-requires-2 : goal.sample-requires-2
sample-requires-2 c = let s = triple-spans _ _ c.requires in (omega arith, omega arith)

pub sample-requires-3 : goal.sample-requires-3
sample-requires-3 c = let s = triple-spans _ _ c.requires in (omega arith, omega arith)

pub returns : goal.returns
unfolding fact_refusal said_by
returns c = rw (c.fault.ensures, c.sample-3.ensures, c.sample-2.ensures, c.sample.ensures, c.requires)
