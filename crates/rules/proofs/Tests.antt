-- Laws of tests and of lists by tests.
-- Assumes nothing.
use mathlib.Core.Path.{◌≡◌, refl}
use mathlib.Core.Logic.{⊎_elim}
use mathlib.Core.Bool.{Bool, true, false, not, ◌||◌, beq}
use mathlib.Core.List.Memᴰ
use mathlib.Core.List.{List, [], ◌∷◌}
use Prim.Native.Nat.{◌≤◌, ◌<◌}
use native.Mathlib.Omega.{arith}
use lib.ListN.{length}
use lib.Dec.{T}
use mir.Facts.{or_yes}
use Rattle.facts.proofs.Terms.{by_cases, of_T, of-F}
use Rattle.rules.specs.Graph.{◌∈◌, keep, any}

pub or_l : (a b : Bool) → T a → T (a || b)
or_l true b t = tt
or_l false b t = absurd t

pub or_r : (a b : Bool) → T b → T (a || b)
or_r true b t = tt
or_r false b t = t

pub beq-yes : (a b : Bool) → T (beq a b) → a ≡ b
beq-yes true true t = refl
beq-yes false false t = refl
beq-yes true false t = absurd t
beq-yes false true t = absurd t

pub beq-self : (b : Bool) → T (beq b b)
beq-self true = tt
beq-self false = tt

module _ {A : Type 0} (p : A → Bool) where
  pub keep-in : {a : A} (l : List A) → a ∈ keep p l → (a ∈ l) × T (p a)
  unfolding keep
  keep-in [] m = absurd (Memᴰ.not-nil m)
  keep-in {a} (x ∷ xs) m =
      let later : a ∈ keep p xs → (a ∈ x ∷ xs) × T (p a) = λ i. let h = keep-in xs i in (Memᴰ.tail h.0, h.1) in
      by_cases (p x)
      (λ e. ⊎_elim (λ (h : a ≡ x). (Memᴰ.head h, rw (h, e) tt)) later (Memᴰ.cases_cons (rw e at m)))
      (λ e. later (rw e at m))

  pub in-keep : {a : A} {l : List A} → a ∈ l → T (p a) → a ∈ keep p l
  unfolding keep
  in-keep (Memᴰ.head {x} e) t = rw (of_T (p x) (rw e at t)) (Memᴰ.head e)
  in-keep (Memᴰ.tail {x} m) t = by_cases (p x) (λ e. rw e (Memᴰ.tail (in-keep m t))) (λ e. rw e (in-keep m t))

  keep-length : (l : List A) → length (keep p l) ≤ length l
  unfolding keep
  keep-length [] = omega arith
  keep-length (x ∷ xs) = by_cases (p x) (λ e. rw e (omega (arith, keep-length xs))) (λ e. rw e (omega (arith, keep-length xs)))

  pub keep-shorter : {a : A} {l : List A} → a ∈ l → T (not (p a)) → length (keep p l) < length l
  unfolding keep
  keep-shorter (Memᴰ.head {x} {xs} e) t = rw (of-F (p x) (rw e at t)) (omega (arith, keep-length xs))
  keep-shorter (Memᴰ.tail {x} m) t = by_cases (p x) (λ e. rw e (omega (arith, keep-shorter m t))) (λ e. rw e (omega (arith, keep-shorter m t)))

  pub any-in : (l : List A) → T (any p l) → (a : A) × (a ∈ l) × T (p a)
  unfolding any
  any-in [] t = absurd t
  any-in (x ∷ xs) t =
      ⊎_elim (λ (h : T (p x)). (x, Memᴰ.head refl, h)) (λ (h : T (any p xs)). let r = any-in xs h in (r.0, Memᴰ.tail r.1, r.2))
      (or_yes (p x) (any p xs) t)

  pub in-any : {a : A} {l : List A} → a ∈ l → T (p a) → T (any p l)
  unfolding any
  in-any (Memᴰ.head {x} {xs} e) t = or_l (p x) (any p xs) (rw e at t)
  in-any (Memᴰ.tail {x} {xs} m) t = or_r (p x) (any p xs) (in-any m t)
