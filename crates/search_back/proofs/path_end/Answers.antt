-- `search_back::path_end` meets its contract: a path of one fact ends where it begins. Else from each place marked m its part of the facts
-- is passed, once, and the first goal that may follow is kept.
-- Assumes nothing.
use Rattle.std.proofs.Common.{sym, ◌∙◌, refl, arith}
use Rattle.std.proofs.lemmas.Option.{IfSome_then}
use Rattle.question.proofs.Parts.{behind-passed}
use Rattle.question.proofs.Steps.{ending-begin, ending_skip, ending-more, ending-none, ending-end}
use Rattle.search_back.proofs.path_end.Goals as goal
use Rattle.search_back.proofs.path_end.Goals.{then-s-i+then-may_come_before+in-Some, then-s-i+then-may_come_before+in_default, else-s-i, else-s-i-via-then-s-i+else-may_come_before, else-s-i-via-else-s-i}

pub returns-then-m-eq0 : goal.returns-then-m-eq0
returns-then-m-eq0 c = c.first_alone.ensures ∙ rw c.if-m-eq0.true refl

pub loop-q-init : goal.loop-q-init
loop-q-init c = ending-begin _ _ _ _ _ _ 2050 _ c.requires.1

pub loop-q-preserved : goal.loop-q-preserved
loop-q-preserved c =
    let l = c.loop-q in
    let rises = c.args.sought.rises in
    elim c.if-s-i.branch [
      | then-s-i+then-may_come_before+in-Some w ↦ rw (w.best-is, w.done-is)
          (ending-more _ _ _ _ _ _ l.best _ l.done l.q rises (omega arith) (c.requires.0.inside l.q c.loop-q-test.true) w.if-s-i.true w.in-Some.ensures w.first_end-best.ensures l.invariant)
      | then-s-i+then-may_come_before+in_default w ↦ rw (w.best-is, w.done-is) (ending-none _ _ _ _ _ _ l.best l.done l.q rises w.in_default.ensures l.invariant)
      | else-s-i w ↦
          elim w.else-s-i.branch [
            | else-s-i-via-then-s-i+else-may_come_before v ↦
                rw (w.best-is, w.done-is) (ending_skip _ _ _ _ _ _ l.best l.done l.q l.invariant
                (λ e. behind-passed _ _ _ _ l.best rises (IfSome_then l.best l.invariant.is (λ i x. x.0)) (sym v.may_come_before.ensures ∙ v.if-may_come_before.false) (λ b h g. h)))
            | else-s-i-via-else-s-i v ↦ rw (w.best-is, w.done-is) (ending_skip _ _ _ _ _ _ l.best l.done l.q l.invariant (λ e. absurd (v.if-s-i.false e)))
          ]
    ]

pub returns : goal.returns
returns c = let l = c.loop-q in ending-end _ _ _ _ _ _ _ l.best l.done l.q c.requires.0 (omega arith) l.invariant c.loop-q-test.false
