-- Subjects and objects, both ways, and which of them are blank nodes.
-- Assumes nothing.
use mathlib.Core.Path.{◌≡◌, ap, ◌∙◌}
use mathlib.Core.Logic.{◌⊎◌, inl, inr, ⊎_elim}
use mathlib.Core.Bool.{Bool, true, false}
use mathlib.Core.List.{List}
use Prim.Native.Nat.{ℕ, ◌+◌, ◌≤◌}
use native.Mathlib.Omega.{arith}
use lib.Dec.{eqb}
use borrow.Author.Tests.{eqb-true, eqb-false, eq-eqb, ne_eqb}
use Rattle.facts.proofs.Terms.{by_cases}
use Rattle.ntriples.specs.declared.Class.TheVariants.{Iri, Quoted}
use Rattle.ntriples.specs.Grammar.{Grammar, or, Of, iri, quoted, literal, blank, subject, object}
use Rattle.ntriples.specs.Lexed.{byte_at, subject_end, object_end, is_blank}
use Rattle.ntriples.proofs.Lines.{subject-blank, subject-iri, object-literal, object-other}
use Rattle.ntriples.proofs.Stands.{Stands, stands-as, then-stands, byte-then, or-stands}
use Rattle.ntriples.proofs.Runs.{enclosed-wide, iri-read, iri-found}
use Rattle.ntriples.proofs.Literals.{literal-read, literal-found}
use Rattle.ntriples.proofs.Labels.{Follows, blank-read, blank-found}

-- ---- what the lexer finds is a subject, or an object

pub subject-read : (s : List ℕ) (at : ℕ) → (subject_end s at ≡ 0 → ⊥) → Stands subject s at (subject_end s at)
unfolding Of subject
subject-read s at h =
    by_cases (eqb (byte_at s at) 95)
    (λ p. let e = subject-blank s at (eqb-true (byte_at s at) 95 p) in let x = blank-read s at (λ z. h (e ∙ z)) in rw e (stands-as x (inr x.of)))
    (λ p. let e = subject-iri s at (eqb-false (byte_at s at) 95 p) in let x = iri-read s at (λ z. h (e ∙ z)) in rw e (stands-as x (inl x.of)))

pub object-read : (s : List ℕ) (at : ℕ) → (object_end s at ≡ 0 → ⊥) → Stands object s at (object_end s at)
unfolding Of subject object
object-read s at h =
    by_cases (eqb (byte_at s at) 34)
    (λ p. let e = object-literal s at (eqb-true (byte_at s at) 34 p) in let x = literal-read s at (λ z. h (e ∙ z)) in rw e (stands-as x (inr (inr x.of))))
    (λ p. let e = object-other s at (eqb-false (byte_at s at) 34 p) in let x = subject-read s at (λ z. h (e ∙ z)) in rw e (stands-as x (⊎_elim (λ o. inl o) (λ o. inr (inl o)) x.of)))

-- ---- their first bytes, and two bytes or more

pub iri-opens : {s : List ℕ} {at to : ℕ} → Stands iri s at to → (byte_at s at ≡ 60) × (at + 2 ≤ to)
unfolding iri
iri-opens x = enclosed-wide Iri x

pub blank-opens : {s : List ℕ} {at to : ℕ} → Stands blank s at to → (byte_at s at ≡ 95) × (at + 2 ≤ to)
unfolding blank
blank-opens x =
    let o = byte-then x in
    let p = byte-then o.1 in
    (o.0, omega (arith, p.1.length-of))

pub literal-opens : {s : List ℕ} {at to : ℕ} → Stands literal s at to → (byte_at s at ≡ 34) × (at + 2 ≤ to)
unfolding literal quoted
literal-opens x =
    let m = then-stands x in
    let w = enclosed-wide Quoted m.1 in
    (w.0, omega (arith, w.1, m.2.length-of))

-- ---- and they are found

module _ {s : List ℕ} {at to : ℕ} where
  found-iri : Stands iri s at to → subject_end s at ≡ to
  found-iri x = subject-iri s at (λ z. absurd (omega (arith, (iri-opens x).0))) ∙ iri-found x

  found-blank : Stands blank s at to → Follows s to → subject_end s at ≡ to
  found-blank x f = subject-blank s at (blank-opens x).0 ∙ blank-found x f

  pub subject-found : Stands subject s at to → Follows s to → subject_end s at ≡ to
  unfolding subject
  subject-found x f = ⊎_elim (λ (y : Stands iri s at to). found-iri y) (λ (y : Stands blank s at to). found-blank y f) (or-stands x)

  pub object-found : Stands object s at to → Follows s to → object_end s at ≡ to
  unfolding object
  object-found x f =
      ⊎_elim (λ (y : Stands iri s at to). object-other s at (λ z. absurd (omega (arith, (iri-opens y).0))) ∙ found-iri y)
      (λ (y : Stands (or blank literal) s at to).
      ⊎_elim (λ (z : Stands blank s at to). object-other s at (λ q. absurd (omega (arith, (blank-opens z).0))) ∙ found-blank z f)
      (λ (z : Stands literal s at to). object-literal s at (literal-opens z).0 ∙ literal-found z f.delimiter)
      (or-stands y))
      (or-stands x)

  -- a test that fails on their first bytes
  pub subject-opens : (t : ℕ → Bool) → t 60 ≡ false → t 95 ≡ false → Stands subject s at to → (t (byte_at s at) ≡ false) × (at + 2 ≤ to)
  unfolding subject
  subject-opens t e f x =
      ⊎_elim (λ (y : Stands iri s at to). let o = iri-opens y in (ap t o.0 ∙ e, o.1))
      (λ (y : Stands blank s at to). let o = blank-opens y in (ap t o.0 ∙ f, o.1))
      (or-stands x)

  pub object-opens : (t : ℕ → Bool) → t 60 ≡ false → t 95 ≡ false → t 34 ≡ false → Stands object s at to → (t (byte_at s at) ≡ false) × (at + 2 ≤ to)
  unfolding subject object Of
  object-opens t e f g x =
      ⊎_elim (λ (o : Of iri x.token). subject-opens t e f (stands-as x (inl o)))
      (λ (o : Of (or blank literal) x.token). ⊎_elim (λ (b : Of blank x.token). subject-opens t e f (stands-as x (inr b)))
      (λ (y : Of literal x.token). let w = literal-opens (stands-as x y) in (ap t w.0 ∙ g, w.1)) o)
      x.of

-- ---- which are blank nodes: the first byte tells

abbrev pub Kind : Grammar → List ℕ → List ℕ → ℕ → Type 0
Kind g t s at = (Of g t × (is_blank s at ≡ false)) ⊎ (Of blank t × (is_blank s at ≡ true))

pub blank-tells : {g : Grammar} {s : List ℕ} {at to : ℕ} (x : Stands g s at to) → Of blank x.token → is_blank s at ≡ true
blank-tells {g} {s} {at} {to} x o = eq-eqb (byte_at s at) 95 (blank-opens (stands-as x o)).0

pub iri-tells : {g : Grammar} {s : List ℕ} {at to : ℕ} (x : Stands g s at to) → Of iri x.token → is_blank s at ≡ false
iri-tells {g} {s} {at} {to} x o = let e : byte_at s at ≡ 60 = (iri-opens (stands-as x o)).0 in ne_eqb (byte_at s at) 95 (omega arith)

pub literal-tells : {g : Grammar} {s : List ℕ} {at to : ℕ} (x : Stands g s at to) → Of literal x.token → is_blank s at ≡ false
literal-tells {g} {s} {at} {to} x o = let e : byte_at s at ≡ 34 = (literal-opens (stands-as x o)).0 in ne_eqb (byte_at s at) 95 (omega arith)

pub subject-kind : {s : List ℕ} {at to : ℕ} (x : Stands subject s at to) → Kind iri x.token s at
unfolding Of subject
subject-kind x = ⊎_elim (λ o. inl (o, iri-tells x o)) (λ o. inr (o, blank-tells x o)) x.of

pub object-kind : {s : List ℕ} {at to : ℕ} (x : Stands object s at to) → Kind (or iri literal) x.token s at
unfolding Of object
object-kind x = ⊎_elim (λ o. inl (inl o, iri-tells x o)) (λ o. ⊎_elim (λ b. inr (b, blank-tells x b)) (λ b. inl (inr b, literal-tells x b)) o) x.of
