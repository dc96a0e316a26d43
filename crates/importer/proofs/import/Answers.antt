-- `importer::import` meets its contract: the refusal, or the table of the facts collected.
-- Assumes nothing.
use native.Mathlib.Omega.{arith}
use Rattle.std.proofs.Common.{◌≡◌, Err, sym, ◌∙◌, rules}
use Rattle.facts.specs.declared.Refusal.TheVariants.{Statement, Crowd}
use Rattle.imports.specs.Lines.{lines_of, statements}
use Rattle.imports.specs.Import.{facts_of, import_of}
use Rattle.imports.proofs.Imported.{import-large, import-fault, import-crowd, import-table, refuses, collected-all, collected-crowd, keys-table, transfers-as}
use Rattle.importer.proofs.import.Goals as goal

pub returns-then-input-gt-INPUT_MOST : goal.returns-then-input-gt-INPUT_MOST
returns-then-input-gt-INPUT_MOST c =
    record { call = rw c.from.ensures (refuses (import_of c.args.input.now) _ Statement 0 (import-large c.args.input.now c.if-input-gt-INPUT_MOST.true)) }

pub returns-in_err-judge : goal.returns-in_err-judge
returns-in_err-judge c =
    let b = c.args.input.now in
    let e = c.in_err-judge.field-0.0 in
    let r : c.from_residual.result ≡ Err e = search rules in
    record { call = rw r (refuses (import_of b) _ e.refusal e.place (import-fault b c.if-input-gt-INPUT_MOST.false e.refusal e.place (sym c.in_err-judge.ensures))) }

pub returns-then-count-gt-PLACES : goal.returns-then-count-gt-PLACES
returns-then-count-gt-PLACES c =
    let b = c.args.input.now in
    let many = collected-crowd (statements (lines_of b)) _ _ c.collect-count.ensures (omega arith) in
    record { call = rw c.from-then-count-gt-PLACES.ensures (refuses (import_of b) _ Crowd 0 (import-crowd b c.if-input-gt-INPUT_MOST.false (sym c.in_ok-judge.ensures) many)) }

pub returns : goal.returns
returns c =
    let b = c.args.input.now in
    let fs = facts_of (statements (lines_of b)) in
    let k = collected-all (statements (lines_of b)) _ _ c.collect-count.ensures (omega arith) in
    let t = import-table b c.if-input-gt-INPUT_MOST.false (sym c.in_ok-judge.ensures) k.1 in
    record { call = transfers-as (keys-table _ _ fs k.0 t.1 ∙ sym t.0) c.write_keys.ensures }
