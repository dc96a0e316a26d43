-- `fact_keys::Keys::add` meets its contract: a key that is found is there, and one that is not is put where it belongs.
-- Assumes nothing.
use Rattle.std.proofs.Common.{◌∙◌, arith}
use Rattle.gathering.proofs.Keys.{adds-held, adds-new, still-rises}
use Rattle.fact_keys.proofs.Keys.add.Goals as goal

pub invariant_of-self : goal.invariant_of-self
invariant_of-self c =
    record { rising = rw c.insert.ensures (still-rises _ _ c.args.self.now.rising c.key_of-key.result c.in-Err.k (omega arith) c.in-Err.ensures.0 c.in-Err.ensures.1) }

pub returns-in-Err-clause-adds : goal.returns-in-Err-clause-adds
returns-in-Err-clause-adds c gs held =
    let e = c.key_of-key.ensures in
    let p = rw e at c.in-Err.ensures in
    rw (c.insert.ensures, e) (adds-new _ _ gs held c.args.f c.requires.1 c.in-Err.k (omega arith) p.0 p.1)

pub returns-in_default-clause-adds : goal.returns-in_default-clause-adds
returns-in_default-clause-adds c gs held = adds-held _ _ gs held c.args.f c.requires.1 c.in_default.field-0 c.in_default.ensures.0 (c.in_default.ensures.1 ∙ c.key_of-key.ensures)
