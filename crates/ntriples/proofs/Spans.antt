-- Where the parts of a statement stand: one behind the other, inside the line, with the first bytes of IRIs and literals.
-- Assumes nothing.
use mathlib.Core.Path.{◌≡◌, sym, ◌∙◌}
use mathlib.Core.Logic.{◌⊎◌, inl, inr, ⊎_elim}
use mathlib.Core.Bool.{false}
use mathlib.Core.List.{List}
use Prim.Native.Nat.{ℕ, ◌+◌, ◌≤◌, ◌<◌}
use native.Mathlib.Omega.{arith}
use lib.ListN.{length, get_or}
use Rattle.facts.proofs.Terms.{neither}
use Rattle.std.specs.Prelude.{Some, Ok}
use Rattle.ntriples.specs.declared.Class.TheVariants.{White}
use Rattle.ntriples.specs.declared.Span.{Span}
use Rattle.ntriples.specs.declared.Triple.{Triple}
use Rattle.ntriples.specs.Grammar.{Of, iri, literal, subject, object}
use Rattle.ntriples.specs.Lexed.{byte_at, run_end, is_blank, line_of}
use Rattle.std.proofs.lemmas.List.{get_or_default}
use Rattle.ntriples.proofs.Lexed.{sits, never}
use Rattle.ntriples.proofs.Stands.{Stands, stands-as}
use Rattle.ntriples.proofs.Runs.{run-read}
use Rattle.ntriples.proofs.Nodes.{iri-opens, literal-opens, subject-kind, object-kind}
use Rattle.ntriples.proofs.Ends.{stops-read}
use Rattle.ntriples.proofs.Parts.{Parts, Parsed, blanks, parsed}
use Rattle.ntriples.proofs.Told.{told-read}

-- the parts have two bytes or more each, and the full stop stands behind them
pub record Spans (l : List ℕ) (a b c : Span) : Type 0 where
  pub subject : a.from + 2 ≤ a.to
  pub subject-predicate : a.to ≤ b.from
  pub predicate : b.from + 2 ≤ b.to
  pub predicate-object : b.to ≤ c.from
  pub object : c.from + 2 ≤ c.to
  pub inside : c.to < length l
  pub subject-first : get_or l a.from 0 ≡ 60
  pub predicate-first : get_or l b.from 0 ≡ 60
  pub object-first : (get_or l c.from 0 ≡ 60) ⊎ (get_or l c.from 0 ≡ 34)

-- a first byte, whatever stands behind the end
first : (l : List ℕ) (at b : ℕ) → byte_at l at ≡ b → (b ≡ 10 → ⊥) → get_or l at 0 ≡ b
first l at b e h = get_or_default l at 0 10 (sits l at b e h) ∙ e

-- a subject that is no blank node is an IRI, and an object an IRI or a literal
subject-named : {l : List ℕ} {at to : ℕ} → Stands subject l at to → is_blank l at ≡ false → Stands iri l at to
subject-named x e = ⊎_elim (λ k. stands-as x k.0) (λ k. never (sym e ∙ k.1)) (subject-kind x)

object-named : {l : List ℕ} {at to : ℕ} → Stands object l at to → is_blank l at ≡ false → Stands iri l at to ⊎ Stands literal l at to
unfolding Of
object-named x e = ⊎_elim (λ k. ⊎_elim (λ o. inl (stands-as x o)) (λ o. inr (stands-as x o)) k.0) (λ k. never (sym e ∙ k.1)) (object-kind x)

spans : (l : List ℕ) (a b c : Span) → Parts l a b c → blanks l a c ≡ false → Spans l a b c
spans l a b c q e =
    let n = neither (is_blank l a.from) (is_blank l c.from) (rw e tt) in
    let (s, p, o, t) = told-read l a b c q in
    let x = iri-opens (subject-named t.subject-stands n.0) in
    let y = iri-opens t.predicate-stands in
    let z = object-named t.object-stands n.1 in
    let at = run_end White l c.to in
    record {
      subject = x.1;
      subject-predicate = omega (arith, q.from-predicate, (run-read White l a.to).length-of);
      predicate = y.1;
      predicate-object = omega (arith, q.from-object, (run-read White l b.to).length-of);
      object = ⊎_elim (λ o. (iri-opens o).1) (λ o. (literal-opens o).1) z;
      inside = omega (arith, sits l at 46 (stops-read l at q.stop).0 (omega arith), (run-read White l c.to).length-of);
      subject-first = first l a.from 60 x.0 (omega arith);
      predicate-first = first l b.from 60 y.0 (omega arith);
      object-first = ⊎_elim (λ o. inl (first l c.from 60 (iri-opens o).0 (omega arith))) (λ o. inr (first l c.from 34 (literal-opens o).0 (omega arith))) z;
    }

pub triple-spans : (l : List ℕ) (t : Triple) → line_of l ≡ Ok (Some t) → Spans l t.subject t.predicate t.object
triple-spans l t e = let p : Parsed l (Ok (Some t)) = rw e at (parsed l) in spans l t.subject t.predicate t.object p.0 p.1

-- so a statement has seven bytes or more
pub triple-bytes : (l : List ℕ) (t : Triple) → line_of l ≡ Ok (Some t) → 7 ≤ length l
triple-bytes l t e = let s = triple-spans l t e in omega arith
