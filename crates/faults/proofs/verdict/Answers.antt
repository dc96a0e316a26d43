-- `faults::verdict` meets its contract: a well-formed fact that ascends earns nothing, any other 3, 4, 5, 12 in this order, and 6 is left.
-- Assumes nothing.
use mathlib.Core.Path.{sym, ◌∙◌}
use Rattle.facts.specs.Facts.{verdict_of}
use Rattle.facts.proofs.Facts.{verdict-sound, left-order}
use Rattle.faults.proofs.verdict.Goals as goal

pub returns-then-is_well_formed-ascends : goal.returns-then-is_well_formed-ascends
returns-then-is_well_formed-ascends c = sym (verdict-sound _ _ (rw (← c.is_well_formed.ensures) c.if-is_well_formed-ascends.true))

pub returns-then-has_no_term : goal.returns-then-has_no_term
unfolding verdict_of
returns-then-has_no_term c = rw (← c.has_no_term.ensures, c.if-has_no_term.true)

pub returns-then-has_blank : goal.returns-then-has_blank
unfolding verdict_of
returns-then-has_blank c = rw (← c.has_no_term.ensures, c.if-has_no_term.false, ← c.has_blank.ensures, c.if-has_blank.true)

pub returns-then-part : goal.returns-then-part
unfolding verdict_of
returns-then-part c =
    let x = c in
    rw (← x.has_no_term.ensures, x.if-has_no_term.false, ← x.has_blank.ensures, x.if-has_blank.false, ← c.is_misplaced-part.ensures, ← c.is_text_as_class-class.ensures, c.if-part.true)

pub returns-then-class : goal.returns-then-class
unfolding verdict_of
returns-then-class c =
    let y = c in
    let x = y in
    rw (
      ← x.has_no_term.ensures,
      x.if-has_no_term.false,
      ← x.has_blank.ensures,
      x.if-has_blank.false,
      ← y.is_misplaced-part.ensures,
      y.if-part.false,
      ← y.is_text_as_class-class.ensures,
      c.if-class.true,
    )

pub returns : goal.returns
returns c =
    let y = c in
    let x = y in
    let z = x in
    sym (left-order _ _ (rw (← z.is_well_formed.ensures) z.if-is_well_formed-ascends.false) (sym z.has_no_term.ensures ∙ z.if-has_no_term.false)
    (sym x.has_blank.ensures ∙ x.if-has_blank.false) (sym y.is_misplaced-part.ensures ∙ y.if-part.false) (sym y.is_text_as_class-class.ensures ∙ c.if-class.false))
