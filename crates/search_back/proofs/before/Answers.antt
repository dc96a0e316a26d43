-- `search_back::before` meets its contract: the queue is passed from `top` down, as far as it has places marked m.
-- Assumes nothing.
use Rattle.std.proofs.Common.{◌≡◌, ◌+◌, ◌-◌, arith}
use Rattle.question.proofs.Steps.{looking-stop, looking-all}
use Rattle.search_back.proofs.before.Goals as goal

pub returns-then-k-m : goal.returns-then-k-m
returns-then-k-m c =
    let l = c.loop-q in
    let e : l.q - 1 + 1 ≡ l.q = omega (arith, c.loop-q-test.true) in
    rw e (looking-stop _ _ _ _ _ _ _ l.at l.q c.requires l.invariant c.loop-q-test.true c.if-k-m.true)

pub returns : goal.returns
returns c = let l = c.loop-q in looking-all _ _ _ _ _ _ _ l.at l.q c.requires l.invariant c.loop-q-test.false
