-- The tokens of a statement: IRIs, and perhaps a literal as its object, each with its first byte.
-- Assumes nothing.
use mathlib.Core.Path.{◌≡◌, ap, ◌∙◌}
use mathlib.Core.Logic.{◌⊎◌, inl, inr, ⊎_elim}
use mathlib.Core.List.{List, ◌++◌}
use Prim.Native.Nat.{ℕ}
use lib.ListN.{get_or}
use Rattle.ntriples.specs.Grammar.{Of, iri, quoted, literal, subject, object}
use Rattle.ntriples.specs.Outcomes.{States}
use Rattle.ntriples.specs.Tokens.{Token}

pub states-tokens : (l : List ℕ) (s p o : Token) → States l s p o → Of iri s × Of iri p × (Of iri o ⊎ Of literal o)
unfolding Of subject object
states-tokens l s p o h = (
  ⊎_elim (λ x. x) (λ x. absurd (h.subject x)) h.says.is-subject,
  h.says.is-predicate,
  ⊎_elim (λ x. inl x) (λ x. ⊎_elim (λ y. absurd (h.object y)) (λ y. inr y) x) h.says.is-object,
)

pub iri-first : (t : Token) → Of iri t → get_or t 0 0 ≡ 60
unfolding Of iri
iri-first t (u, v, e, x, y) = ap (λ (l : List ℕ). get_or l 0 0) (e ∙ ap (λ (l : List ℕ). l ++ v) x)

pub literal-first : (t : Token) → Of literal t → get_or t 0 0 ≡ 34
unfolding Of literal quoted
literal-first t (u, v, e, (w, x, f, y, z), o) = ap (λ (l : List ℕ). get_or l 0 0) (e ∙ ap (λ (l : List ℕ). l ++ v) (f ∙ ap (λ (l : List ℕ). l ++ x) y))
