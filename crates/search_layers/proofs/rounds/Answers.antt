-- `search_layers::rounds` meets its contract. The invariants of its three passes are `Outer`, `Middle` and `Inner` of Passes, with what is noted
-- as passed; a goal that is met ends the search with the least number of facts, and an empty frontier with none.
-- Assumes nothing.
use Rattle.std.proofs.Common.{◌≤◌, ◌<◌, length, sym, subst, T, ◌∙◌, arith}
use Rattle.facts.proofs.Terms.{T_of}
use Rattle.question.proofs.Laws.{room, to-most, most-or}
use Rattle.question.proofs.Parts.{note-none, note-more, part-passed, none-passed, part-noted}
use Rattle.question.proofs.Passes.{inner-begin, inner-skip, inner-push, inner-stays, inner-met, inner-end, outer-again, outer-none, begun-outer, left-met}
use Rattle.search_layers.proofs.rounds.Goals as goal
use Rattle.search_layers.proofs.rounds.Goals.{then-s-j-eq0+then-follows+else-ends, else-s-j-eq0, else-s-j-eq0-via-then-s-j-eq0+else-follows, else-s-j-eq0-via-else-s-j-eq0, in-Some+else-loop-j-test, in_default, In-loop-s, In-loop-q, Then-follows}

-- bounds at the places of the passes
layer-few : (c : In-loop-s) → c.loop-s.layer ≤ 1024
layer-few c = omega (arith, c.loop-s.invariant.0.few, c.loop-s-test.true, to-most c.loop-s.invariant.0.round.ordered)

q-few : (c : In-loop-q) → c.loop-q.q < 1024
q-few c = omega (arith, c.loop-q-test.true, to-most c.loop-s.invariant.0.round.ordered)

pub loop-s-init : goal.loop-s-init
loop-s-init c = (begun-outer _ _ _ _ c.requires, note-none _ _ _ 2050)

pub offset_bounds-s-q : goal.offset_bounds-s-q
offset_bounds-s-q c = omega (arith, q-few (goal.at-offset_bounds-s-q c).In-loop-q)

pub bounds-s-q : goal.bounds-s-q
bounds-s-q c = q-few (goal.at-bounds-s-q c).In-loop-q

pub push-requires : goal.push-requires
push-requires c =
    let l = c.loop-j in
    let few = c.args.sought.rises.few in
    let here : l.j < length c.args.sought.facts.now = omega (arith, c.loop-j-test.true, c.in-Some.ensures.high.within) in (
      omega arith,
      omega (arith, c.loop-s.invariant.0.few, c.loop-s-test.true, to-most c.loop-s.invariant.0.round.ordered),
      room _ l.s l.j few l.invariant.0.middle.round.ordered here c.if-s-j-eq0.true,
    )

pub returns-then-ends : goal.returns-then-ends
returns-then-ends c =
    let l = c.loop-j in
    let here : l.j < length c.args.sought.facts.now = omega (arith, c.loop-j-test.true, c.in-Some.ensures.high.within) in
    rw c.push.ensures (left-met _ _ _ c.loop-s.layer _
    (inner-met _ _ _ l.j c.args.sought.rises.few l.invariant.0 here c.if-s-j-eq0.true (T_of _ (sym c.if-follows.ensures)) (T_of _ (sym c.if-ends.ensures))))

pub loop-j-preserved : goal.loop-j-preserved
loop-j-preserved c =
    let l = c.loop-j in
    let d = l.invariant.0 in
    let few = c.args.sought.rises.few in
    let here : l.j < length c.args.sought.facts.now = omega (arith, c.loop-j-test.true, c.in-Some.ensures.high.within) in
    elim c.if-s-j-eq0.branch [
      | then-s-j-eq0+then-follows+else-ends w ↦
          let x = T_of _ (sym w.if-follows.ensures) in
          let z = w.if-s-j-eq0.true in
          rw (w.s-is, w.push.ensures) (
            inner-push _ _ _ l.j few d here z x (λ y. subst T (sym w.if-ends.ensures) y),
            note-more _ _ (inner-stays _ _ _ l.j few d here z x) l.invariant.1,
            l.invariant.2,
          )
      | else-s-j-eq0 w ↦
          elim w.else-s-j-eq0.branch [
            | else-s-j-eq0-via-then-s-j-eq0+else-follows v ↦ rw w.s-is (inner-skip _ _ _ l.j d (λ x. absurd (subst T (sym v.if-follows.ensures) x)), l.invariant.1, l.invariant.2)
            | else-s-j-eq0-via-else-s-j-eq0 v ↦ rw w.s-is (inner-skip _ _ _ l.j d (λ x. most-or _ 0 (λ y. absurd (v.if-s-j-eq0.false (omega arith))) (λ y. y)), l.invariant.1, l.invariant.2)
          ]
    ]

pub loop-q-preserved : goal.loop-q-preserved
loop-q-preserved c =
    let l = c.loop-q in
    let rising = c.args.sought.rises in
    elim c.match-part_of.branch [
      | in-Some+else-loop-j-test w ↦
          let k = w.loop-j in
          let part = w.in-Some.ensures in
          let all = part-passed _ _ _ _ k.j part k.invariant.0.done w.loop-j-test.false in
          rw (w.s-is, w.done-is) (inner-end _ _ _ k.j k.invariant.0 all, part-noted _ _ _ _ rising.few part all k.invariant.1, k.invariant.2 ∙ l.invariant.2)
      | in_default w ↦
          let all = none-passed _ _ _ _ rising w.in_default.ensures l.invariant.1 in
          rw (w.s-is, w.done-is) (inner-end _ _ _ 0 (inner-begin _ _ _ _ _ _ _ 0 _ l.invariant.0 c.loop-q-test.true) all, l.invariant.1, l.invariant.2)
    ]

pub overflow_add-layer-in-loop-s : goal.overflow_add-layer-in-loop-s
overflow_add-layer-in-loop-s c = omega (arith, layer-few (goal.at-overflow_add-layer-in-loop-s c).In-loop-s)

pub loop-s-smaller : goal.loop-s-smaller
loop-s-smaller c = omega (arith, c.loop-s-test.true, to-most c.loop-s.invariant.0.round.ordered)

pub loop-s-preserved : goal.loop-s-preserved
loop-s-preserved c =
    let l = c.loop-q in
    let o = c.loop-s.invariant.0 in
    (outer-again _ _ _ l.invariant.0 (omega arith) o.one (omega (arith, o.few, l.invariant.2)) (omega (arith, c.loop-s-test.true, l.invariant.2)), l.invariant.1)

pub returns-after-loop-s : goal.returns-after-loop-s
returns-after-loop-s c = outer-none _ _ _ c.loop-s.invariant.0 c.loop-s-test.false
