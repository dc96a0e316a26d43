-- `token_index::compare_last` meets its contract.
-- Assumes nothing.
use Rattle.std.proofs.Common.{◌≡◌, suc, ◌-◌, refl, sym, ◌∙◌, arith}
use lib.Seq.{take-length}
use Rattle.numbering.proofs.Weights.{from-behind, differ-decide, equal-pass}
use Rattle.token_index.proofs.compare_last.Goals as goal

pub loop-i-init : goal.loop-i-init
loop-i-init c = rw (take-length, c.requires, take-length) refl

pub returns-then-a-i : goal.returns-then-a-i
returns-then-a-i c =
    let k = c.loop-i.i in
    let e : suc (k - 1) ≡ k = omega arith in
    c.cmp.ensures ∙ sym (c.loop-i.invariant ∙ (rw e at (from-behind c.args.a.now c.args.b.now (k - 1) (omega arith) (omega arith))) ∙ differ-decide _ _ _ c.if-a-i.true)

pub loop-i-preserved : goal.loop-i-preserved
loop-i-preserved c =
    let k = c.loop-i.i in
    let e : suc (k - 1) ≡ k = omega arith in
    c.loop-i.invariant ∙ (rw e at (from-behind c.args.a.now c.args.b.now (k - 1) (omega arith) (omega arith))) ∙ equal-pass _ _ _ c.if-a-i.false

pub returns : goal.returns
returns c =
    let z : c.loop-i.i ≡ 0 = omega arith in
    sym (rw z at c.loop-i.invariant)
