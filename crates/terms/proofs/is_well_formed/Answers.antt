-- `terms::is_well_formed` meets its contract: subject and object are asked, and then what the predicate must be.
-- Assumes nothing.
use mathlib.Core.Path.{◌≡◌, refl, sym, ◌∙◌}
use denote.Enum.Bare.{sameb}
use Rattle.facts.specs.contracts.Kind.{the_type}
use Rattle.facts.specs.declared.Kind.{Kind}
use Rattle.facts.specs.declared.Kind.TheVariants.{NoTerm, Vocabulary, Name, Literal, BlankNode, Beyond}
use Rattle.facts.specs.Terms.{is_literal}
use Rattle.facts.proofs.Facts.{formed-names, formed-literal, formed-text}
use Rattle.terms.proofs.is_well_formed.Goals as goal

literal : (k : Kind) → sameb the_type k Literal ≡ is_literal k
literal NoTerm = refl
literal Vocabulary = refl
literal Name = refl
literal Literal = refl
literal BlankNode = refl
literal Beyond = refl

pub returns-then-is_name-2 : goal.returns-then-is_name-2
returns-then-is_name-2 c =
    c.is_predicate.ensures ∙ formed-names _ (sym c.is_name.ensures ∙ c.if-is_name.true)
    (sym c.is_name-then-is_name.ensures ∙ c.if-is_name-2.true)

pub returns-then-is_name : goal.returns-then-is_name
returns-then-is_name c =
    rw (c.is_name-then-is_name-2.ensures, c.eq.ensures, literal, c.kind_of.ensures)
    (formed-literal _ (sym c.is_name.ensures ∙ c.if-is_name.true)
    (sym c.is_name-then-is_name.ensures ∙ c.if-is_name-2.false))

pub returns : goal.returns
returns c =
    rw (c.is_node.ensures, c.is_name-2.ensures, c.eq-2.ensures, literal, c.kind_of-2.ensures)
    (formed-text _ (sym c.is_name.ensures ∙ c.if-is_name.false))
