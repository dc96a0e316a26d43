-- Runs of a class and IRIs, both ways: what the lexer finds is of the grammar, and what is of the grammar it finds.
-- Assumes nothing.
use mathlib.Core.Path.{◌≡◌, refl, sym, ap, ◌∙◌}
use mathlib.Core.Bool.{true, false}
use mathlib.Core.List.{List}
use Prim.Native.Nat.{ℕ, zero, suc, ◌+◌, ◌≤◌, ◌<◌}
use native.Mathlib.Nat.{add-zero}
use native.Mathlib.Omega.{arith}
use lib.ListN.{length}
use lib.Dec.{eqb}
use borrow.Author.Tests.{eqb-true, eqb-false}
use Rattle.facts.proofs.Terms.{by_cases}
use Rattle.ntriples.specs.declared.Class.{Class}
use Rattle.ntriples.specs.declared.Class.TheVariants.{Iri}
use Rattle.ntriples.specs.Classes.{belongs}
use Rattle.ntriples.specs.Grammar.{Grammar, byte, one, then, many, iri}
use Rattle.ntriples.specs.Lexed.{byte_at, run_end, iri_end}
use Rattle.ntriples.proofs.Lexed.{no-line-end, run-over, run-stops, run-goes-on, iri-some, iri-unopened, iri-unclosed}
use Rattle.ntriples.proofs.Stands.{Stands, stands-byte, stands_one, stands-then, stands-none, stands-more, byte-stands, one-stands, then-stands, byte-then, many-fold}

abbrev pub run_of : Class → Grammar
run_of c = many (one (belongs c))

pub run-read : (c : Class) (s : List ℕ) (at : ℕ) → Stands (run_of c) s at (run_end c s at)
run-read c s at = go (length s) at (omega arith)
  where
    go : (n at : ℕ) → length s ≤ at + n → Stands (run_of c) s at (run_end c s at)
    go zero at h = rw (run-over c s at (omega arith)) (stands-none (one (belongs c)) s at)
    go (suc n) at h =
        by_cases (belongs c (byte_at s at))
        (λ e. rw (run-goes-on c s at e) (stands-more (stands_one (belongs c) s at (no-line-end c) e) (go n (at + 1) (omega arith))))
        (λ e. rw (run-stops c s at e) (stands-none (one (belongs c)) s at))

pub run-found : (c : Class) {s : List ℕ} {at to : ℕ} → Stands (run_of c) s at to → belongs c (byte_at s to) ≡ false → run_end c s at ≡ to
run-found c {s} {at} {to} x e =
    many-fold (λ from. run_end c s from ≡ to) x (run-stops c s to e)
    (λ from m o h. let b = one-stands o in run-goes-on c s from b.0 ∙ ap (run_end c s) (sym b.1) ∙ h)

-- a run is where every byte is of the class
pub run-bytes : (c : Class) {s : List ℕ} {at to : ℕ} → Stands (run_of c) s at to → (i : ℕ) → at ≤ i → i < to → belongs c (byte_at s i) ≡ true
run-bytes c {s} {at} {to} x i =
    many-fold (λ from. from ≤ i → i < to → belongs c (byte_at s i) ≡ true) x (λ h k. absurd (omega arith))
    (λ from m o f h k.
    let b = one-stands o in
    by_cases (eqb i from)
    (λ e. ap (λ (n : ℕ). belongs c (byte_at s n)) (eqb-true i from e) ∙ b.0)
    (λ e. f (omega (arith, b.1, eqb-false i from e)) k))

pub bytes_run : (c : Class) (s : List ℕ) (n at : ℕ) → ((i : ℕ) → at ≤ i → i < at + n → belongs c (byte_at s i) ≡ true) → Stands (run_of c) s at (at + n)
bytes_run c s zero at h = rw add-zero (stands-none (one (belongs c)) s at)
bytes_run c s (suc n) at h =
    let e : at + suc n ≡ at + 1 + n = omega arith in
    rw e (stands-more (stands_one (belongs c) s at (no-line-end c) (h at (omega arith) (omega arith))) (bytes_run c s n (at + 1) (λ i a b. h i (omega arith) (omega arith))))

-- ---- a run between two bytes: IRIs and quotes

abbrev pub enclosed : ℕ → Class → ℕ → Grammar
enclosed a c b = then (byte a) (then (run_of c) (byte b))

pub enclosed-read : (a b : ℕ) (c : Class) (s : List ℕ) (at : ℕ) → (a ≡ 10 → ⊥) → (b ≡ 10 → ⊥) → byte_at s at ≡ a → byte_at s (run_end c s (at + 1)) ≡ b
    → Stands (enclosed a c b) s at (run_end c s (at + 1) + 1)
enclosed-read a b c s at h k o e = stands-then (stands-byte s at a o h) (stands-then (run-read c s (at + 1)) (stands-byte s (run_end c s (at + 1)) b e k))

pub enclosed-found : (a b : ℕ) (c : Class) {s : List ℕ} {at to : ℕ} → belongs c b ≡ false → Stands (enclosed a c b) s at to
    → (byte_at s at ≡ a) × (byte_at s (run_end c s (at + 1)) ≡ b) × (to ≡ run_end c s (at + 1) + 1)
enclosed-found a b c {s} {at} {to} h x =
    let o = byte-then x in
    let m = then-stands o.1 in
    let e = byte-stands m.2 in
    let n : run_end c s (at + 1) ≡ m.0 = run-found c m.1 (ap (belongs c) e.0 ∙ h) in
    (o.0, ap (byte_at s) n ∙ e.0, e.1 ∙ ap (λ (k : ℕ). k + 1) (sym n))

pub enclosed-wide : {a b : ℕ} (c : Class) {s : List ℕ} {at to : ℕ} → Stands (enclosed a c b) s at to → (byte_at s at ≡ a) × (at + 2 ≤ to)
enclosed-wide c x =
    let o = byte-then x in
    let m = then-stands o.1 in
    let e = byte-stands m.2 in
    (o.0, omega (arith, m.1.length-of, e.1))

pub iri-read : (s : List ℕ) (at : ℕ) → (iri_end s at ≡ 0 → ⊥) → Stands iri s at (iri_end s at)
unfolding iri
iri-read s at h =
    let e = run_end Iri s (at + 1) in
    by_cases (eqb (byte_at s at) 60)
    (λ p. by_cases (eqb (byte_at s e) 62)
    (λ q.
    let o = eqb-true (byte_at s at) 60 p in
    let c = eqb-true (byte_at s e) 62 q in
    rw (iri-some s at o c) (enclosed-read 60 62 Iri s at (omega arith) (omega arith) o c))
    (λ q. absurd (h (iri-unclosed s at (eqb-true (byte_at s at) 60 p) (eqb-false (byte_at s e) 62 q)))))
    (λ p. absurd (h (iri-unopened s at (eqb-false (byte_at s at) 60 p))))

pub iri-found : {s : List ℕ} {at to : ℕ} → Stands iri s at to → iri_end s at ≡ to
unfolding iri belongs
iri-found {s} {at} {to} x = let m = enclosed-found 60 62 Iri refl x in iri-some s at m.0 m.1 ∙ sym m.2
