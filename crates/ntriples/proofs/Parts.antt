-- What the lexer found where it answers: the places of a line's parts.
-- Assumes nothing.
use mathlib.Core.Path.{◌≡◌, refl, sym, ap, ◌∙◌}
use mathlib.Core.Bool.{Bool, true, false, cond, ◌||◌}
use mathlib.Core.List.{List}
use Prim.Native.Nat.{ℕ}
use lib.Dec.{eqb}
use borrow.Author.Tests.{eqb-true, eqb-false}
use Rattle.facts.proofs.Terms.{by_cases}
use Rattle.std.specs.Prelude.{None, Some, Ok, Err}
use Rattle.ntriples.specs.declared.Class.TheVariants.{White}
use Rattle.ntriples.specs.declared.Span.{Span}
use Rattle.ntriples.specs.declared.LineFault.TheVariants.{Outside, Unknown}
use Rattle.ntriples.specs.Lexed.{run_end, iri_end, subject_end, object_end, ends, stops, span, is_blank, Line, triple, from_object, from_predicate, from_subject, line_of}
use Rattle.ntriples.proofs.Lines.{object-none, object-unstopped, object-unknown, object-triple, predicate-none, predicate-some, subject-none, subject-some, line-nothing, line-some}

-- the subject, the predicate and the object of a line, each behind white space, and the full stop
pub record Parts (l : List ℕ) (a b c : Span) : Type 0 where
  pub from-subject : a.from ≡ run_end White l 0
  pub subject : a.to ≡ subject_end l a.from
  pub has-subject : a.to ≡ 0 → ⊥
  pub from-predicate : b.from ≡ run_end White l a.to
  pub predicate : b.to ≡ iri_end l b.from
  pub has-predicate : b.to ≡ 0 → ⊥
  pub from-object : c.from ≡ run_end White l b.to
  pub object : c.to ≡ object_end l c.from
  pub has-object : c.to ≡ 0 → ⊥
  pub stop : stops l (run_end White l c.to) ≡ true

-- the subject or the object is a blank node, by its first byte
abbrev pub blanks : List ℕ → Span → Span → Bool
blanks l a c = is_blank l a.from || is_blank l c.from

abbrev pub Parsed : List ℕ → Line → Type 0
Parsed l (Err Outside) = Unit {0}
Parsed l (Err Unknown) = (a : Span) × (b : Span) × (c : Span) × Parts l a b c × (blanks l a c ≡ true)
Parsed l (Ok None) = ends l (run_end White l 0) ≡ true
Parsed l (Ok (Some t)) = Parts l t.subject t.predicate t.object × (blanks l t.subject t.object ≡ false)

from-object-on : (l : List ℕ) (a b : Span) → ((c : Span) → c.from ≡ run_end White l b.to → c.to ≡ object_end l c.from → (c.to ≡ 0 → ⊥) → stops l (run_end White l c.to) ≡ true → Parts l a b c)
    → Parsed l (from_object l a b (run_end White l b.to))
from-object-on l a b parts =
    let at = run_end White l b.to in
    let to = object_end l at in
    by_cases (eqb to 0)
    (λ e. rw (← object-none l a b at to refl (eqb-true to 0 e)) tt)
    (λ e.
    let n = eqb-false to 0 e in
    by_cases (stops l (run_end White l to))
    (λ f.
    let p : Parts l a b (span at to) = parts (span at to) refl refl n f in
    by_cases (blanks l a (span at to))
    (λ g. rw (← object-unknown l a b at to refl n f g) (a, b, span at to, p, g))
    (λ g. rw (← object-triple l a b at to refl n f g) (p, g)))
    (λ f. rw (← object-unstopped l a b at to refl n f) tt))

pub parsed : (l : List ℕ) → Parsed l (line_of l)
parsed l =
    by_cases (ends l (run_end White l 0))
    (λ e. rw (← line-nothing l e) e)
    (λ e. rw (← line-some l e) subject)
  where
    predicate : (a : Span) → a.from ≡ run_end White l 0 → a.to ≡ subject_end l a.from → (a.to ≡ 0 → ⊥) → Parsed l (from_predicate l a (run_end White l a.to))
    predicate a f s h =
        let at = run_end White l a.to in
        let to = iri_end l at in
        by_cases (eqb to 0)
        (λ e. rw (← predicate-none l a at to refl (eqb-true to 0 e)) tt)
        (λ e.
        let n = eqb-false to 0 e in
        rw (← predicate-some l a at to refl n)
        (from-object-on l a (span at to) (λ c i o k q. record {
          from-subject = f;
          subject = s;
          has-subject = h;
          from-predicate = refl;
          predicate = refl;
          has-predicate = n;
          from-object = i;
          object = o;
          has-object = k;
          stop = q;
        })))

    subject : Parsed l (from_subject l (run_end White l 0))
    subject =
        let at = run_end White l 0 in
        let to = subject_end l at in
        by_cases (eqb to 0)
        (λ e. rw (← subject-none l at to refl (eqb-true to 0 e)) tt)
        (λ e. let n = eqb-false to 0 e in rw (← subject-some l at to refl n) (predicate (span at to) refl refl n))

-- and so the line is read, where it does not end before its subject
pub parts-line : (l : List ℕ) (a b c : Span) → Parts l a b c → ends l a.from ≡ false → line_of l ≡ cond (blanks l a c) (Err Unknown) (Ok (Some (triple a b c)))
parts-line l a b c p e =
    sym (line-some l (rw (← p.from-subject) e))
    ∙ ap (from_subject l) (sym p.from-subject) ∙ sym (subject-some l a.from a.to p.subject p.has-subject)
    ∙ ap (from_predicate l a) (sym p.from-predicate) ∙ sym (predicate-some l a b.from b.to p.predicate p.has-predicate)
    ∙ ap (from_object l a b) (sym p.from-object)
    ∙ by_cases (blanks l a c)
    (λ g. rw g (sym (object-unknown l a b c.from c.to p.object p.has-object p.stop g)))
    (λ g. rw g (sym (object-triple l a b c.from c.to p.object p.has-object p.stop g)))
