-- `label_ends::tag_end` meets its contract: part by part.
-- Assumes nothing.
use Rattle.std.proofs.Common.{rules}
use mathlib.Core.Path.{sym, ◌∙◌}
use native.Mathlib.Omega.{arith}
use Rattle.ntriples.proofs.Lexed.{end-none, end-some}
use Rattle.ntriples.proofs.Tags.{tag-none, tag-begun, tag-bare, tag-further, tag-ended}
use Rattle.label_ends.proofs.tag_end.Goals as goal

pub returns-in_err-end : goal.returns-in_err-end
returns-in_err-end c = let e = end-none (tag-none _ _ c.in_err-end.ensures) in search rules

pub loop-end-init : goal.loop-end-init
loop-end-init c = let e = c.in_ok-end.ensures in rw e.0 (tag-begun _ _ (omega (arith, e)))

pub returns-in_err-end-2 : goal.returns-in_err-end-2
returns-in_err-end-2 c =
    let e = end-none (tag-bare _ _ _ c.loop-end.invariant (sym c.byte_at.ensures.value ∙ c.loop-end-test.true) c.in_err-end-2.ensures) in
    search rules

pub loop-end-preserved : goal.loop-end-preserved
loop-end-preserved c =
    let e = c.in_ok-end-2.ensures in
    rw e.0 (tag-further _ _ _ c.loop-end.invariant (sym c.byte_at.ensures.value ∙ c.loop-end-test.true) (omega (arith, e)))

pub returns : goal.returns
returns c = end-some (sym (tag-ended _ _ _ c.loop-end.invariant (λ e. c.loop-end-test.false (c.byte_at.ensures.value ∙ e)))) (omega arith)
