-- `search_layers::seed` meets its contract: each start is marked and queued in the layer 1, up to one that is a goal.
-- Assumes nothing.
use Rattle.std.proofs.Common.{◌<◌, length, sym, subst, T, arith}
use Rattle.facts.proofs.Terms.{T_of}
use Rattle.question.proofs.Laws.{room}
use Rattle.question.proofs.Marks.{seeding-begin, seeding-push, seeding-skip, seeding-met, seeding-end}
use Rattle.search_layers.proofs.seed.Goals as goal
use Rattle.search_layers.proofs.seed.Goals.{then-starts+else-ends, else-starts}

pub loop-j-init : goal.loop-j-init
loop-j-init c =
    let d = c.starting-start.ensures in
    rw c.requires (seeding-begin _ _ _ _ (λ i l y. omega (arith, (d.all i (omega (arith, d.begins)) y).0)))

pub push-requires : goal.push-requires
push-requires c =
    let l = c.loop-j in
    let d = c.starting-start.ensures in
    let few = c.args.sought.rises.few in
    (omega (arith, d.within), omega arith, room _ l.s l.j few l.invariant.round.ordered (omega (arith, d.within)) (l.invariant.clear l.j (omega arith)))

pub returns-then-ends : goal.returns-then-ends
returns-then-ends c =
    let l = c.loop-j in
    rw c.push.ensures (seeding-met _ _ _ l.j l.s c.args.sought.rises.few l.invariant (omega (arith, c.starting-start.ensures.within)) (T_of _ (sym c.if-starts.ensures)) (T_of _ (sym c.if-ends.ensures)))

pub loop-j-preserved : goal.loop-j-preserved
loop-j-preserved c =
    let l = c.loop-j in
    let few = c.args.sought.rises.few in
    let here : l.j < length c.args.sought.facts.now = omega (arith, c.starting-start.ensures.within) in
    elim c.if-starts.branch [
      | then-starts+else-ends w ↦ rw (w.s-is, w.push.ensures) (seeding-push _ _ _ l.j l.s few l.invariant here (T_of _ (sym w.if-starts.ensures)) (λ x. subst T (sym w.if-ends.ensures) x))
      | else-starts w ↦ rw w.s-is (seeding-skip _ _ _ l.j l.s l.invariant (λ x. subst T (sym w.if-starts.ensures) x))
    ]

pub returns : goal.returns
returns c =
    let l = c.loop-j in
    record { round = seeding-end _ _ _ l.s l.j (λ i h y. omega (arith, (c.starting-start.ensures.all i h y).1, c.loop-j-test.false)) l.invariant; from = l.invariant.from }
