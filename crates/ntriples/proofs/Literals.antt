-- Literals, both ways.
-- Assumes nothing.
use mathlib.Core.Path.{◌≡◌, refl, sym, ap, ◌∙◌}
use mathlib.Core.Logic.{inl, inr, ⊎_elim}
use mathlib.Core.List.{List}
use Prim.Native.Nat.{ℕ, ◌+◌}
use native.Mathlib.Omega.{arith}
use lib.Dec.{eqb}
use borrow.Author.Tests.{eqb-true, eqb-false}
use Rattle.facts.proofs.Terms.{by_cases}
use Rattle.ntriples.specs.declared.Class.TheVariants.{Quoted}
use Rattle.ntriples.specs.Classes.{belongs}
use Rattle.ntriples.specs.Grammar.{Grammar, nothing, or, Of, tag, quoted, datatype, literal, perhaps}
use Rattle.ntriples.specs.Lexed.{byte_at, run_end, iri_end, suffix_end, literal_end}
use Rattle.ntriples.proofs.Lexed.{suffix-tag, suffix-none, suffix-half, suffix-type, literal-unopened, literal-unclosed, literal-some}
use Rattle.ntriples.proofs.Stands.{Stands, stands-nothing, stands-byte, stands-then, stands-as, then-stands, byte-then, or-stands, nothing-stands}
use Rattle.ntriples.proofs.Runs.{enclosed-read, enclosed-found, iri-read, iri-found}
use Rattle.ntriples.proofs.Delimits.{Delimits}
use Rattle.ntriples.proofs.Tags.{tag_read, tag-found}

abbrev suffix : Grammar
suffix = perhaps (or datatype tag)

-- ---- what the lexer finds is a literal

type-read : (s : List ℕ) (at : ℕ) → byte_at s at ≡ 94 → byte_at s (at + 1) ≡ 94 → (iri_end s (at + 2) ≡ 0 → ⊥) → Stands datatype s at (iri_end s (at + 2))
unfolding datatype
type-read s at o c h =
    let two : at + 1 + 1 ≡ at + 2 = omega arith in
    stands-then (stands-byte s at 94 o (omega arith)) (stands-then (stands-byte s (at + 1) 94 c (omega arith)) (rw two (iri-read s (at + 2) h)))

suffix-read : (s : List ℕ) (at : ℕ) → (suffix_end s at ≡ 0 → ⊥) → Stands suffix s at (suffix_end s at)
unfolding Of tag
suffix-read s at h =
    by_cases (eqb (byte_at s at) 64)
    (λ p. let o = eqb-true (byte_at s at) 64 p in
    let e = suffix-tag s at o in
    let x = stands-then (stands-byte s at 64 o (omega arith)) (tag_read s (at + 1) (λ z. h (e ∙ z))) in
    rw e (stands-as x (inr (inr x.of))))
    (λ p. let n = eqb-false (byte_at s at) 64 p in
    by_cases (eqb (byte_at s at) 94)
    (λ q. let o = eqb-true (byte_at s at) 94 q in
    by_cases (eqb (byte_at s (at + 1)) 94)
    (λ r. let c = eqb-true (byte_at s (at + 1)) 94 r in
    let e = suffix-type s at n o c in
    let x = type-read s at o c (λ z. h (e ∙ z)) in
    rw e (stands-as x (inr (inl x.of))))
    (λ r. absurd (h (suffix-half s at n o (eqb-false (byte_at s (at + 1)) 94 r)))))
    (λ q. let x = stands-nothing s at in rw (suffix-none s at n (eqb-false (byte_at s at) 94 q)) (stands-as x (inl x.of))))

pub literal-read : (s : List ℕ) (at : ℕ) → (literal_end s at ≡ 0 → ⊥) → Stands literal s at (literal_end s at)
unfolding literal quoted
literal-read s at h =
    let e = run_end Quoted s (at + 1) in
    by_cases (eqb (byte_at s at) 34)
    (λ p. let o = eqb-true (byte_at s at) 34 p in
    by_cases (eqb (byte_at s e) 34)
    (λ q. let c = eqb-true (byte_at s e) 34 q in
    let l = literal-some s at o c in
    rw l (stands-then (enclosed-read 34 34 Quoted s at (omega arith) (omega arith) o c) (suffix-read s (e + 1) (λ z. h (l ∙ z)))))
    (λ q. absurd (h (literal-unclosed s at o (eqb-false (byte_at s e) 34 q)))))
    (λ p. absurd (h (literal-unopened s at (eqb-false (byte_at s at) 34 p))))

-- ---- and a literal is found, where a delimiter follows

type-found : {s : List ℕ} {at to : ℕ} → Stands datatype s at to → suffix_end s at ≡ to
unfolding datatype
type-found {s} {at} {to} x =
    let a = byte-then x in
    let b = byte-then a.1 in
    let two : at + 1 + 1 ≡ at + 2 = omega arith in
    suffix-type s at (λ z. absurd (omega (arith, a.0))) a.0 b.0 ∙ iri-found (rw two at b.1)

suffix-found : {s : List ℕ} {at to : ℕ} → Stands suffix s at to → Delimits (byte_at s to) → suffix_end s at ≡ to
unfolding tag
suffix-found {s} {at} {to} x d =
    ⊎_elim (λ (n : Stands nothing s at to). let e = nothing-stands n in
    let f : Delimits (byte_at s at) = rw e at d in
    suffix-none s at (eqb-false (byte_at s at) 64 (f (λ b. eqb b 64) refl refl refl refl)) (eqb-false (byte_at s at) 94 (f (λ b. eqb b 94) refl refl refl refl)) ∙ sym e)
    (λ (y : Stands (or datatype tag) s at to). ⊎_elim (λ (z : Stands datatype s at to). type-found z) (λ (z : Stands tag s at to). let a = byte-then z in suffix-tag s at a.0 ∙ tag-found a.1 d) (or-stands y))
    (or-stands x)

pub literal-found : {s : List ℕ} {at to : ℕ} → Stands literal s at to → Delimits (byte_at s to) → literal_end s at ≡ to
unfolding literal quoted belongs
literal-found {s} {at} {to} x d =
    let m = then-stands x in
    let q = enclosed-found 34 34 Quoted refl m.1 in
    literal-some s at q.0 q.1 ∙ ap (suffix_end s) (sym q.2) ∙ suffix-found m.2 d
