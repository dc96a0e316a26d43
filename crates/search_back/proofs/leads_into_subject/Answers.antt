-- `search_back::leads_into_subject` meets its contract: there is a first place exactly where one of the facts passes.
-- Assumes nothing.
use Rattle.std.proofs.Common.{◌≡◌, Bool, List, [], ◌∷◌, length, ltb, is_some, position, refl, sym, ap, ◌∙◌, arith}
use Rattle.std.proofs.lemmas.Bool.Decides.{nat_tests}
use Rattle.std.proofs.lemmas.Grind.{common_steps}
use Rattle.std.specs.List.{list_any, position_or_len}
use Rattle.facts.specs.declared.Fact.{Fact}
use Rattle.facts.proofs.Terms.{by_cases}
use Rattle.question.specs.Trace.{into}
use Rattle.question.proofs.Steps.{position-least}
use Rattle.search_back.proofs.leads_into_subject.Goals as goal

-- the first place lies inside exactly where one passes
inside : (p : Fact → Bool) (xs : List Fact) → ltb (position_or_len p xs) (length xs) ≡ list_any p xs
inside p [] = refl
inside p (x ∷ xs) = grind (arith, common_steps, nat_tests, inside p xs)

within : (p : Fact → Bool) (xs : List Fact) → is_some (position p xs) ≡ list_any p xs
within p xs = by_cases (ltb (position_or_len p xs) (length xs)) (λ e. rw e (sym e ∙ inside p xs)) (λ e. rw e (sym e ∙ inside p xs))

pub returns : goal.returns
returns c =
    let p = into c.args.t.subject in
    let facts = c.args.facts.now in
    c.is_some.ensures ∙ ap is_some (c.first_into_subject.ensures ∙ sym (position-least p facts)) ∙ within p facts
