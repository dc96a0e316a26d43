-- Facts gathered: ascending, and those put in and no others.
-- Assumes nothing.
use mathlib.Core.Path.{◌≡◌, refl}
use mathlib.Core.Logic.{◌⊎◌, inl, inr, ⊎_elim}
use mathlib.Core.Bool.{true, false}
use mathlib.Core.List.{List, [], ◌∷◌, Memᴰ}
use Prim.Native.Nat.{suc, ◌≤◌}
use native.Mathlib.Omega.{arith}
use lib.ListN.{length}
use lib.Dec.{T}
use mir.Facts.{and_yes, yes_and}
use Rattle.facts.specs.declared.Fact.{Fact}
use Rattle.facts.specs.Facts.{before}
use Rattle.facts.proofs.Terms.{by_cases, T_of, of_T}
use Rattle.facts.proofs.Facts.{before-irreflexive, before-transitive, before-total}
use Rattle.table.specs.Tables.{ascending}
use Rattle.gathering.specs.Gathered.{with, gathered_with}

-- ---- the order

pub tail-ascends : (g : Fact) (gs : List Fact) → T (ascending (g ∷ gs)) → T (ascending gs)
unfolding ascending
tail-ascends g [] a = tt
tail-ascends g (h ∷ gs) a = (and_yes (before g h) (ascending (h ∷ gs)) a).1

pub with-ascends : (f : Fact) (gs : List Fact) → T (ascending gs) → T (ascending (with f gs))
unfolding with ascending
with-ascends f [] a = tt
with-ascends f (g ∷ gs) a =
    by_cases (before f g) (λ p. rw p (yes_and (before f g) (ascending (g ∷ gs)) (T_of (before f g) p) a))
    (λ p. by_cases (before g f) (λ q. rw (p, q) (join g f gs (T_of (before g f) q) a (with-ascends f gs (tail-ascends g gs a)))) (λ q. rw (p, q) a))
  where
    join : (g f : Fact) (gs : List Fact) → T (before g f) → T (ascending (g ∷ gs)) → T (ascending (with f gs)) → T (ascending (g ∷ with f gs))
    join g f [] b a w = yes_and (before g f) true b tt
    join g f (h ∷ gs) b a w =
        by_cases (before f h)
        (λ p. rw p (yes_and (before g f) (ascending (f ∷ h ∷ gs)) b (rw p at w)))
        (λ p. by_cases (before h f)
        (λ q. rw (p, q) (yes_and (before g h) (ascending (h ∷ with f gs)) (and_yes (before g h) (ascending (h ∷ gs)) a).0 (rw (p, q) at w)))
        (λ q. rw (p, q) a))

pub gathered-ascends : (gs fs : List Fact) → T (ascending gs) → T (ascending (gathered_with gs fs))
unfolding gathered_with
gathered-ascends gs [] a = a
gathered-ascends gs (f ∷ fs) a = gathered-ascends (with f gs) fs (with-ascends f gs a)

-- ---- the members

-- neither before nor behind: the same
same-fact : (f g : Fact) → before f g ≡ false → before g f ≡ false → f ≡ g
same-fact f g p q =
    ⊎_elim (λ (t : T (before f g)). absurd (rw p at t)) (λ r. ⊎_elim (λ (e : f ≡ g). e) (λ (t : T (before g f)). absurd (rw q at t)) r) (before-total f g)

with-has : (f : Fact) (gs : List Fact) → Memᴰ f (with f gs)
unfolding with
with-has f [] = mathlib.Core.List.Memᴰ.head refl
with-has f (g ∷ gs) =
    by_cases (before f g) (λ p. rw p (mathlib.Core.List.Memᴰ.head refl))
    (λ p. by_cases (before g f) (λ q. rw (p, q) (mathlib.Core.List.Memᴰ.tail (with-has f gs))) (λ q. rw (p, q) (mathlib.Core.List.Memᴰ.head (same-fact f g p q))))

with-still : (f x : Fact) (gs : List Fact) → Memᴰ x gs → Memᴰ x (with f gs)
unfolding with
with-still f x [] m = absurd (mathlib.Core.List.Memᴰ.not-nil m)
with-still f x (g ∷ gs) m =
    by_cases (before f g) (λ p. rw p (mathlib.Core.List.Memᴰ.tail m))
    (λ p. by_cases (before g f)
    (λ q. rw (p, q) (⊎_elim (λ (e : x ≡ g). mathlib.Core.List.Memᴰ.head e) (λ (l : Memᴰ x gs). mathlib.Core.List.Memᴰ.tail (with-still f x gs l)) (mathlib.Core.List.Memᴰ.cases_cons m)))
    (λ q. rw (p, q) m))

pub with-only : (f x : Fact) (gs : List Fact) → Memᴰ x (with f gs) → (x ≡ f) ⊎ Memᴰ x gs
unfolding with
with-only f x [] m = ⊎_elim (λ (e : x ≡ f). inl e) (λ (l : Memᴰ x []). inr l) (mathlib.Core.List.Memᴰ.cases_cons m)
with-only f x (g ∷ gs) m =
    by_cases (before f g)
    (λ p. ⊎_elim (λ (e : x ≡ f). inl e) (λ (l : Memᴰ x (g ∷ gs)). inr l) (mathlib.Core.List.Memᴰ.cases_cons (rw p at m)))
    (λ p. by_cases (before g f)
    (λ q. ⊎_elim (λ (e : x ≡ g). inr (mathlib.Core.List.Memᴰ.head e)) (λ (l : Memᴰ x (with f gs)). ⊎_elim (λ (e : x ≡ f). inl e) (λ (r : Memᴰ x gs). inr (mathlib.Core.List.Memᴰ.tail r)) (with-only f x gs l)) (mathlib.Core.List.Memᴰ.cases_cons (rw (p, q) at m)))
    (λ q. inr (rw (p, q) at m)))

pub gathered-only : (x : Fact) (gs fs : List Fact) → Memᴰ x (gathered_with gs fs) → Memᴰ x gs ⊎ Memᴰ x fs
unfolding gathered_with
gathered-only x gs [] m = inl m
gathered-only x gs (f ∷ fs) m =
    ⊎_elim (λ (l : Memᴰ x (with f gs)). ⊎_elim (λ (e : x ≡ f). inr (mathlib.Core.List.Memᴰ.head e)) (λ (r : Memᴰ x gs). inl r) (with-only f x gs l))
    (λ (l : Memᴰ x fs). inr (mathlib.Core.List.Memᴰ.tail l)) (gathered-only x (with f gs) fs m)

gathered-still : (x : Fact) (gs fs : List Fact) → Memᴰ x gs → Memᴰ x (gathered_with gs fs)
unfolding gathered_with
gathered-still x gs [] m = m
gathered-still x gs (f ∷ fs) m = gathered-still x (with f gs) fs (with-still f x gs m)

pub gathered-has : (x : Fact) (gs fs : List Fact) → Memᴰ x fs → Memᴰ x (gathered_with gs fs)
unfolding gathered_with
gathered-has x gs [] m = absurd (mathlib.Core.List.Memᴰ.not-nil m)
gathered-has x gs (f ∷ fs) m =
    ⊎_elim (λ (e : x ≡ f). rw e (gathered-still f (with f gs) fs (with-has f gs))) (λ (l : Memᴰ x fs). gathered-has x (with f gs) fs l) (mathlib.Core.List.Memᴰ.cases_cons m)

-- ---- a fact that is held, and one that is not

-- of two facts only one comes before the other
pub before-not : (f g : Fact) → T (before g f) → before f g ≡ false
before-not f g b = by_cases (before f g) (λ p. absurd (before-irreflexive f (before-transitive f g f (T_of _ p) b))) (λ p. p)

-- the first of ascending facts comes before the others
pub first-before : (g f : Fact) (gs : List Fact) → T (ascending (g ∷ gs)) → Memᴰ f gs → T (before g f)
unfolding ascending
first-before g f [] a m = absurd (mathlib.Core.List.Memᴰ.not-nil m)
first-before g f (h ∷ gs) a m =
    let p = and_yes (before g h) (ascending (h ∷ gs)) a in
    ⊎_elim (λ (e : f ≡ h). rw e p.0) (λ (l : Memᴰ f gs). before-transitive g h f p.0 (first-before h f gs p.1 l)) (mathlib.Core.List.Memᴰ.cases_cons m)

pub with-held : (f : Fact) (gs : List Fact) → Memᴰ f gs → T (ascending gs) → with f gs ≡ gs
unfolding with
with-held f [] m a = absurd (mathlib.Core.List.Memᴰ.not-nil m)
with-held f (g ∷ gs) m a =
    ⊎_elim same (λ (l : Memᴰ f gs). let b = first-before g f gs a l in rw (before-not f g b, of_T (before g f) b, with-held f gs l (tail-ascends g gs a))) (mathlib.Core.List.Memᴰ.cases_cons m)
  where
    same : f ≡ g → with f (g ∷ gs) ≡ g ∷ gs
    same e = let n : before g g ≡ false = by_cases (before g g) (λ p. absurd (before-irreflexive g (T_of _ p))) (λ p. p) in rw (e, n)

-- a fact is held, or there is one more
pub held-or-new : (f : Fact) (gs : List Fact) → Memᴰ f gs ⊎ (length (with f gs) ≡ suc (length gs))
unfolding with
held-or-new f [] = inr refl
held-or-new f (g ∷ gs) =
    by_cases (before f g) (λ p. inr (rw p))
    (λ p. by_cases (before g f)
    (λ q. ⊎_elim (λ (m : Memᴰ f gs). inl (mathlib.Core.List.Memᴰ.tail m)) (λ (e : length (with f gs) ≡ suc (length gs)). inr (rw (p, q, e))) (held-or-new f gs))
    (λ q. inl (mathlib.Core.List.Memᴰ.head (same-fact f g p q))))

-- the number of facts never falls
pub with-length : (f : Fact) (gs : List Fact) → length gs ≤ length (with f gs)
unfolding with
with-length f [] = omega arith
with-length f (g ∷ gs) =
    by_cases (before f g) (λ p. rw p (omega arith)) (λ p. by_cases (before g f) (λ q. rw (p, q) (omega (arith, with-length f gs))) (λ q. rw (p, q) (omega arith)))
