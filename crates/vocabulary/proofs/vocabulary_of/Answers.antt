-- `vocabulary::vocabulary_of` meets its contract: the tests go down the vocabulary.
-- Assumes nothing.
use mathlib.Core.Path.{sym, ◌∙◌}
use mathlib.Core.List.{[], ◌∷◌}
use Rattle.numbering.specs.Vocabulary.{bytes, sc, sp, dom, range, type}
use Rattle.numbering.proofs.Vocabulary.{counted-here, counted-behind, counted-none}
use Rattle.vocabulary.proofs.vocabulary_of.Goals as goal

pub returns-then-is_same : goal.returns-then-is_same
unfolding sc bytes
returns-then-is_same c =
    counted-here 1 sc (sp ∷ dom ∷ range ∷ type ∷ []) _ (sym c.is_same.ensures ∙ c.if-is_same.true)

pub returns-then-is_same-2 : goal.returns-then-is_same-2
unfolding sc sp bytes
returns-then-is_same-2 c =
    counted-behind 1 sc (sp ∷ dom ∷ range ∷ type ∷ []) _ (sym c.is_same.ensures ∙ c.if-is_same.false)
    (counted-here 2 sp (dom ∷ range ∷ type ∷ []) _ (sym c.is_same-else-is_same.ensures ∙ c.if-is_same-2.true))

pub returns-then-is_same-3 : goal.returns-then-is_same-3
unfolding sc sp dom bytes
returns-then-is_same-3 c =
    counted-behind 1 sc (sp ∷ dom ∷ range ∷ type ∷ []) _ (sym c.is_same.ensures ∙ c.if-is_same.false)
    (counted-behind 2 sp (dom ∷ range ∷ type ∷ []) _ (sym c.is_same-else-is_same.ensures ∙ c.if-is_same-2.false)
    (counted-here 3 dom (range ∷ type ∷ []) _ (sym c.is_same-else-is_same-2.ensures ∙ c.if-is_same-3.true)))

pub returns-then-is_same-4 : goal.returns-then-is_same-4
unfolding sc sp dom range bytes
returns-then-is_same-4 c =
    counted-behind 1 sc (sp ∷ dom ∷ range ∷ type ∷ []) _ (sym c.is_same.ensures ∙ c.if-is_same.false)
    (counted-behind 2 sp (dom ∷ range ∷ type ∷ []) _ (sym c.is_same-else-is_same.ensures ∙ c.if-is_same-2.false)
    (counted-behind 3 dom (range ∷ type ∷ []) _ (sym c.is_same-else-is_same-2.ensures ∙ c.if-is_same-3.false)
    (counted-here 4 range (type ∷ []) _ (sym c.is_same-else-is_same-3.ensures ∙ c.if-is_same-4.true))))

pub returns-then-is_same-5 : goal.returns-then-is_same-5
unfolding sc sp dom range type bytes
returns-then-is_same-5 c =
    counted-behind 1 sc (sp ∷ dom ∷ range ∷ type ∷ []) _ (sym c.is_same.ensures ∙ c.if-is_same.false)
    (counted-behind 2 sp (dom ∷ range ∷ type ∷ []) _ (sym c.is_same-else-is_same.ensures ∙ c.if-is_same-2.false)
    (counted-behind 3 dom (range ∷ type ∷ []) _ (sym c.is_same-else-is_same-2.ensures ∙ c.if-is_same-3.false)
    (counted-behind 4 range (type ∷ []) _ (sym c.is_same-else-is_same-3.ensures ∙ c.if-is_same-4.false)
    (counted-here 5 type [] _ (sym c.is_same-else-is_same-4.ensures ∙ c.if-is_same-5.true)))))

pub returns-else-is_same-5 : goal.returns-else-is_same-5
unfolding sc sp dom range type bytes
returns-else-is_same-5 c =
    counted-behind 1 sc (sp ∷ dom ∷ range ∷ type ∷ []) _ (sym c.is_same.ensures ∙ c.if-is_same.false)
    (counted-behind 2 sp (dom ∷ range ∷ type ∷ []) _ (sym c.is_same-else-is_same.ensures ∙ c.if-is_same-2.false)
    (counted-behind 3 dom (range ∷ type ∷ []) _ (sym c.is_same-else-is_same-2.ensures ∙ c.if-is_same-3.false)
    (counted-behind 4 range (type ∷ []) _ (sym c.is_same-else-is_same-3.ensures ∙ c.if-is_same-4.false)
    (counted-behind 5 type [] _ (sym c.is_same-else-is_same-4.ensures ∙ c.if-is_same-5.false)
    (counted-none 6 _)))))
