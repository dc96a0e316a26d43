-- Laws of pushes onto the queue.
-- Assumes nothing.
use mathlib.Core.Path.{◌≡◌, refl, sym, ap, ◌∙◌}
use mathlib.Core.List.{List, [], ◌∷◌}
use Prim.Native.Nat.{ℕ, zero, suc, ◌≤◌, ◌<◌}
use native.Mathlib.Omega.{arith}
use lib.ListN.{length, get_or, set, replicate, length-set}
use lib.Seq.{get_or-set_same, get_or-set_other}
use lib.Dec.{eqb, leb}
use borrow.Author.Tests.{eqb-true, eqb-false, leb-true, leb-false}
use Rattle.facts.proofs.Terms.{by_cases}
use Rattle.question.specs.declared.State.{State}
use Rattle.question.specs.State.{mark_at, place_at, marked, Ordered, empty, pushed}

-- two numbers are equal or not, and the first is at most the second or above it
pub equal-or : {X : Type 0} (i j : ℕ) → (i ≡ j → X) → ((i ≡ j → ⊥) → X) → X
equal-or i j f g = by_cases (eqb i j) (λ e. f (eqb-true i j e)) (λ e. g (eqb-false i j e))

pub most-or : {X : Type 0} (i j : ℕ) → (i ≤ j → X) → (j < i → X) → X
most-or i j f g = by_cases (leb i j) (λ e. f (leb-true i j e)) (λ e. g (leb-false i j e))

-- ---- marks

marked-set : (l : List ℕ) (j m : ℕ) → j < length l → get_or l j 0 ≡ 0 → marked (set l j (suc m)) ≡ suc (marked l)
unfolding marked
marked-set [] j m h z = absurd (omega arith)
marked-set (zero ∷ l) zero m h z = refl
marked-set (suc a ∷ l) zero m h z = absurd (omega (arith, z))
marked-set (zero ∷ l) (suc j) m h z = marked-set l j m (omega arith) z
marked-set (suc a ∷ l) (suc j) m h z = ap suc (marked-set l j m (omega arith) z)

marked-most : (l : List ℕ) → marked l ≤ length l
unfolding marked
marked-most [] = omega arith
marked-most (zero ∷ l) = omega (arith, marked-most l)
marked-most (suc a ∷ l) = omega (arith, marked-most l)

marked-room : (l : List ℕ) (j : ℕ) → j < length l → get_or l j 0 ≡ 0 → marked l < length l
unfolding marked
marked-room [] j h z = absurd (omega arith)
marked-room (zero ∷ l) zero h z = omega (arith, marked-most l)
marked-room (suc a ∷ l) zero h z = absurd (omega (arith, z))
marked-room (zero ∷ l) (suc j) h z = omega (arith, marked-room l j (omega arith) z)
marked-room (suc a ∷ l) (suc j) h z = omega (arith, marked-room l j (omega arith) z)

pub to-most : {n : ℕ} {s : State} → Ordered n s → s.to ≤ 1024
to-most {s = s} o = omega (arith, marked-most s.mark, o.all, o.marks)

-- ---- one push

pub old-place : (s : State) (j m q : ℕ) → q < s.to → place_at (pushed s j m) q ≡ place_at s q
old-place s j m q l = get_or-set_other s.queue s.to q j 0 (λ e. omega (arith, e))

pub old-mark : (s : State) (j m i : ℕ) → (i ≡ j → ⊥) → mark_at (pushed s j m) i ≡ mark_at s i
old-mark s j m i e = get_or-set_other s.mark j i m 0 e

module _ (n : ℕ) (s : State) (j : ℕ) (few : n ≤ 1024) (o : Ordered n s) (h : j < n) (z : mark_at s j ≡ 0) where
  pub room : s.to < 1024
  room = omega (arith, marked-room s.mark j (omega (arith, o.marks)) z, o.all, o.marks)

  pub new-place : (m : ℕ) → place_at (pushed s j m) s.to ≡ j
  new-place m = get_or-set_same s.queue s.to j 0 (omega (arith, room, o.places))

  pub new-mark : (m : ℕ) → mark_at (pushed s j m) j ≡ m
  new-mark m = get_or-set_same s.mark j m 0 (omega (arith, o.marks))

  -- a mark stays a mark
  pub stays : (m i : ℕ) → 0 < mark_at s i → 0 < mark_at (pushed s j m) i
  stays m i l = omega (arith, old-mark s j m i (λ e. omega (arith, l, ap (mark_at s) e, z)))

  -- what was queued stays as it was, and the new place stands behind it
  pub kept : (m q : ℕ) → q < s.to → mark_at (pushed s j m) (place_at (pushed s j m) q) ≡ mark_at s (place_at s q)
  kept m q l = ap (mark_at (pushed s j m)) (old-place s j m q l) ∙ old-mark s j m (place_at s q) (λ e. omega (arith, (o.queued q l).1, ap (mark_at s) e, z))

  pub mark-at-end : (m : ℕ) → mark_at (pushed s j m) (place_at (pushed s j m) s.to) ≡ m
  mark-at-end m = ap (mark_at (pushed s j m)) (new-place m) ∙ new-mark m

  -- where no mark is higher than the new one
  pub push-ordered : (m : ℕ) → ((i : ℕ) → mark_at s i ≤ suc m) → Ordered n (pushed s j (suc m))
  push-ordered m most = record {
    marks = length-set s.mark j (suc m) ∙ o.marks;
    places = length-set s.queue s.to j ∙ o.places;
    all = omega (arith, marked-set s.mark j m (omega (arith, o.marks)) z, o.all);
    queued = λ q l. equal-or q s.to (λ e. rw (e, new-place (suc m)) (h, omega (arith, new-mark (suc m))))
        (λ e. let b = o.queued q (omega (arith, e)) in rw (old-place s j (suc m) q (omega (arith, e))) (b.0, stays (suc m) (place_at s q) b.1));
    listed = λ i l. equal-or i j (λ e. (s.to, omega arith, new-place (suc m) ∙ sym e))
        (λ e. let d = o.listed i (omega (arith, old-mark s j (suc m) i e)) in (d.0, omega (arith, d.1), old-place s j (suc m) d.0 d.1 ∙ d.2));
    rising = λ p q l u. equal-or q s.to
        (λ e. equal-or p s.to (λ g. rw (e, g) (omega arith)) (λ g. rw e (omega (arith, mark-at-end (suc m), kept (suc m) p (omega (arith, g)), most (place_at s p)))))
        (λ e. omega (arith, kept (suc m) p (omega (arith, e)), kept (suc m) q (omega (arith, e)), o.rising p q l (omega (arith, e))));
  }

-- ---- the empty state

pub blank-at : {A : Type 0} (d : A) (m k : ℕ) → get_or (replicate m d) k d ≡ d
blank-at d zero k = refl
blank-at d (suc m) zero = refl
blank-at d (suc m) (suc k) = blank-at d m k

zeros-marked : (m : ℕ) → marked (replicate m 0) ≡ 0
unfolding marked
zeros-marked zero = refl
zeros-marked (suc m) = zeros-marked m

pub unmarked : (i : ℕ) → mark_at empty i ≡ 0
unmarked i = blank-at 0 1024 i

pub empty-ordered : (n : ℕ) → Ordered n empty
empty-ordered n = record {
  marks = refl;
  places = refl;
  all = sym (zeros-marked 1024);
  queued = λ q l. absurd (omega arith);
  listed = λ i l. absurd (omega (
    arith,
    unmarked i,
  ));
  rising = λ p q l u. absurd (omega arith);
}
