-- `search_back::trace` meets its contract. The loop's invariant, `Reading`: from the place i on, the chosen path is written, and what is left of it
-- leads to the place j; the places of the layers up to i are queued below `top`.
-- Assumes nothing.
use Rattle.std.proofs.Common.{Some, rules, ◌≡◌, ◌+◌, ◌-◌, set, sym, ◌∙◌, arith}
use Rattle.question.specs.State.{Met}
use Rattle.question.proofs.Steps.{all-queued}
use Rattle.question.proofs.Back.{Reading, end-found, back-found, reading-begin, reading_step, reading-end}
use Rattle.search_back.proofs.trace.Goals as goal
use Rattle.search_back.proofs.trace.Goals.{After-unwrap-k}

pub path_end-requires : goal.path_end-requires
path_end-requires c =
    let d = c.requires in
    (all-queued _ _ _ d.met.ordered, d.met.early _ (omega (arith, d.some)))

-- the place that a step back finds
stepped : (c : After-unwrap-k) (m : Met c.args.sought.facts.now c.args.sought.way c.args.sought.asked c.args.f c.args.s.now)
    → Reading c.args.sought.facts.now c.args.sought.way c.args.sought.asked c.args.f c.args.s.now m c.args.path.now (c.loop-i.i - 1) c.unwrap-k.result (set c.loop-i.path (c.loop-i.i - 1) c.unwrap-k.result)
stepped c m =
    let l = c.loop-i in
    let e : l.i - 1 + 1 ≡ l.i = omega (arith, c.loop-i-test.true) in
    reading_step _ _ _ _ _ m c.args.path.now l.i (l.i - 1) l.j c.unwrap-k.result l.path (omega (arith, c.loop-i-test.true)) c.requires.room (l.invariant.1 m) (sym c.unwrap-k.ensures ∙ (rw e at c.before-at.ensures.found))

-- there is a last place
pub unwrap-end-requires : goal.unwrap-end-requires
unwrap-end-requires c =
    let d = c.requires in
    let r = end-found _ _ _ _ _ d.met (c.args.f - 1) (omega (arith, d.some)) in
    let found : c.path_end.result ≡ Some r.0 = c.path_end.ensures ∙ r.1 in
    rw found (search rules)

pub overflow_cast-path : goal.overflow_cast-path
overflow_cast-path c =
    let d = c.requires in
    omega (arith, (reading-begin _ _ _ _ _ d.met c.args.path.now (c.args.f - 1) c.unwrap-end.result (omega (arith, d.some)) d.room (sym c.unwrap-end.ensures ∙ c.path_end.ensures)).inside, c.args.sought.rises.few)

pub loop-i-init : goal.loop-i-init
loop-i-init c =
    let d = c.requires in
    (all-queued _ _ _ d.met.ordered, λ m. reading-begin _ _ _ _ _ m c.args.path.now (c.args.f - 1) c.unwrap-end.result (omega (arith, d.some)) d.room (sym c.unwrap-end.ensures ∙ c.path_end.ensures))

pub offset_bounds-sought-j : goal.offset_bounds-sought-j
offset_bounds-sought-j c = omega (arith, (c.loop-i.invariant.1 c.requires.met).inside, c.args.sought.rises.few)

pub bounds-sought-j : goal.bounds-sought-j
bounds-sought-j c = (c.loop-i.invariant.1 c.requires.met).inside

pub unwrap-k-requires : goal.unwrap-k-requires
unwrap-k-requires c =
    let l = c.loop-i in
    let e : l.i - 1 + 1 ≡ l.i = omega (arith, c.loop-i-test.true) in
    let r = back-found _ _ _ _ _ c.requires.met c.args.path.now l.i (l.i - 1) l.j l.path (omega (arith, c.loop-i-test.true)) (l.invariant.1 c.requires.met) in
    let found : c.before-at.result.0 ≡ Some r.0 = (rw e at c.before-at.ensures.found) ∙ r.1 in
    rw found (search rules)

pub overflow_cast-path-in-loop-i : goal.overflow_cast-path-in-loop-i
overflow_cast-path-in-loop-i c = omega (arith, (stepped c c.requires.met).inside, c.args.sought.rises.few)

pub loop-i-preserved : goal.loop-i-preserved
loop-i-preserved c =
    let e : c.loop-i.i - 1 + 1 ≡ c.loop-i.i = omega (arith, c.loop-i-test.true) in
    (rw e at c.before-at.ensures.queued, λ m. stepped c m)

pub returns : goal.returns
returns c =
    let l = c.loop-i in
    reading-end _ _ _ _ _ c.requires.met c.args.path.now l.i l.j l.path (omega (arith, c.loop-i-test.false)) c.requires.room (l.invariant.1 c.requires.met)
