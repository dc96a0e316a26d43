-- `import_collect::term` meets its contract: a token has a number then.
-- Assumes nothing.
use native.Mathlib.Omega.{arith}
use Rattle.imports.proofs.Collecting.{termed-fixed, termed-other}
use Rattle.import_collect.proofs.term.Goals as goal

pub returns-in-Some-clause-gives : goal.returns-in-Some-clause-gives
returns-in-Some-clause-gives c k q = termed-fixed _ c.args.token.from c.args.token.to _ _ _ k q c.in-Some.ensures

pub returns-in-None-clause-gives : goal.returns-in-None-clause-gives
returns-in-None-clause-gives c k q = termed-other _ c.args.token.from c.args.token.to _ _ _ _ k (omega (arith, c.args.index.now.most, c.requires.2)) c.in-None.ensures (c.number.ensures.enters k q)
