-- Paths in a finite graph: layers, that a shortest path needs no node twice, the least number that passes, and places.
-- Assumes nothing.
use mathlib.Core.Path.{◌≡◌, refl, sym, ap}
use mathlib.Core.Logic.{◌⊎◌, inl, inr, ⊎_elim}
use mathlib.Core.Bool.{Bool, false, not}
use mathlib.Core.Option.{Option, none, some}
use mathlib.Core.List.Memᴰ
use mathlib.Core.List.{List, [], ◌∷◌, ◌++◌}
use Prim.Native.Nat.{ℕ, zero, suc, ◌+◌, ◌≤◌, ◌<◌, suc-le-suc}
use native.Mathlib.Nat.{eq-or-lt_of_le}
use native.Mathlib.Omega.{arith}
use lib.ListN.{length, get_or}
use lib.Dec.{T}
use mir.Facts.{T_not}
use Rattle.rules.specs.Graph.{◌∈◌, keep, any, Path, first, step, nodes, layer, least}
use Rattle.facts.proofs.Terms.{by_cases, T_of, of_T}
use Rattle.rules.proofs.Tests.{keep-in, in-keep, keep-shorter, any-in, in-any}

module _ {A : Type 0} where
  -- another start, other steps, other nodes: a path stays a path where each test still passes
  pub map-path : {st st' : A → Bool} {nx nx' : A → A → Bool} {S S' : List A} {a : A} {k : ℕ}
      → ((b : A) → b ∈ S → b ∈ S') → ((b : A) → T (st b) → T (st' b)) → ((b c : A) → T (nx b c) → T (nx' b c))
      → Path st nx S a k → Path st' nx' S' a k
  map-path f g h (first m s) = first (f _ m) (g _ s)
  map-path f g h (step p m n) = step (map-path f g h p) (f _ m) (h _ _ n)

  pub end-in : {st : A → Bool} {nx : A → A → Bool} {S : List A} {a : A} {k : ℕ} → Path st nx S a k → a ∈ S
  end-in (first m s) = m
  end-in (step p m n) = m

  -- a path goes on along another one whose starts may follow its end
  pub append-path : {st st' : A → Bool} {nx nx' : A → A → Bool} {S : List A} {a c : A} {j k : ℕ}
      → ((b c : A) → T (nx' b c) → T (nx b c)) → Path st nx S a j → Path st' nx' S c k → ((b : A) → T (st' b) → T (nx a b))
      → (i : ℕ) × Path st nx S c i
  append-path h p (first m s) f = (_, step p m (f _ s))
  append-path h p (step q m n) f = let r = append-path h p q f in (_, step r.1 m (h _ _ n))

  -- the first node of a path: any start that takes it begins a path of the same nodes
  pub record Begins {st : A → Bool} {nx : A → A → Bool} {S : List A} {b : A} {k : ℕ} (p : Path st nx S b k) : Type 0 where
    pub head : A
    pub inside : head ∈ S
    pub starts : T (st head)
    pub again : (st' : A → Bool) → T (st' head) → (q : Path st' nx S b k) × (nodes q ≡ nodes p)

  pub begins : {st : A → Bool} {nx : A → A → Bool} {S : List A} {b : A} {k : ℕ} (p : Path st nx S b k) → Begins p
  unfolding nodes
  begins (first {a} m s) = record { head = a; inside = m; starts = s; again = λ st' t. (first m t, refl) }
  begins (step {b = b} p m n) =
      let r = begins p in
      record { head = r.head; inside = r.inside; starts = r.starts; again = λ st' t. let q = r.again st' t in (step q.0 m n, ap (λ (l : List A). l ++ (b ∷ [])) q.1) }

module _ {A : Type 0} (st : A → Bool) (nx : A → A → Bool) where
  -- the k-th layer holds the ends of the paths of k nodes
  pub path-layer : (S : List A) {a : A} {k : ℕ} → Path st nx S a k → a ∈ layer st nx S k
  unfolding layer
  path-layer S (first m s) = in-keep st m s
  path-layer S (step {b = b} (first m' s') m n) = in-keep _ m (in-any (λ a. nx a b) (in-keep st m' s') n)
  path-layer S (step {b = b} (step p m' n') m n) = in-keep _ m (in-any (λ a. nx a b) (path-layer S (step p m' n')) n)

  pub layer-path : (S : List A) {a : A} (k : ℕ) → a ∈ layer st nx S k → Path st nx S a k
  unfolding layer
  layer-path S zero m = absurd (Memᴰ.not-nil m)
  layer-path S (suc zero) m = let h = keep-in st S m in first h.0 h.1
  layer-path S {a = a} (suc (suc k)) m =
      let h = keep-in (λ b. any (λ c. nx c b) (layer st nx S (suc k))) S m in
      let r = any-in (λ c. nx c a) (layer st nx S (suc k)) h.1 in
      step (layer-path S {a = r.0} (suc k) r.1) h.0 r.2

module _ {A : Type 0} (st : A → Bool) (nx : A → A → Bool) (same : A → A → Bool) (eq : (a b : A) → T (same a b) → a ≡ b) (self : (a : A) → T (same a a)) where
  without : A → List A → List A
  without b S = keep (λ a. not (same a b)) S

  -- how a path first comes to b: b is a start, or it follows a node to which a path leads that keeps clear of b
  abbrev Arrives : List A → A → Type 0
  Arrives S b = T (st b) ⊎ ((a : A) × (j : ℕ) × Path st nx (without b S) a j × T (nx a b))

  -- a path keeps clear of b, or it comes to b
  clear : {S : List A} {a : A} {k : ℕ} (b : A) → Path st nx S a k → Path st nx (without b S) a k ⊎ Arrives S b
  unfolding without
  clear b (first {a} m s) =
      by_cases (same a b) (λ e. inr (inl (rw (eq a b (T_of _ e)) at s))) (λ e. inl (first (in-keep _ m (rw e tt)) s))
  clear b (step {a} {b = c} {k} p m n) =
      ⊎_elim (λ q. by_cases (same c b) (λ e. inr (inr (a, k, q, rw (eq c b (T_of _ e)) at n))) (λ e. inl (step q (in-keep _ m (rw e tt)) n)))
      (λ r. inr r) (clear b p)

  -- a path to a of at most n nodes
  abbrev Within : ℕ → List A → A → Type 0
  Within n S a = (j : ℕ) × (j ≤ n) × Path st nx S a j

  fewer : {S : List A} {a : A} → a ∈ S → length (without a S) < length S
  unfolding without
  fewer {S} {a} m = keep-shorter _ m (rw (of_T (same a a) (self a)) tt)

  -- from a path to the last node but one that keeps clear of the last
  cut : (S : List A) (a : A) {k : ℕ} → a ∈ S → ((b : A) (j : ℕ) → Path st nx (without a S) b j → Within (length (without a S)) (without a S) b)
      → Path st nx (without a S) a k ⊎ Arrives S a → Within (length S) S a
  unfolding without
  cut S a m rec (inl p) = absurd (T_not (same a a) (self a) (keep-in _ S (end-in p)).1)
  cut S a m rec (inr (inl s)) = (1, omega (arith, fewer m), first m s)
  cut S a m rec (inr (inr (b, j, q, n))) =
      let r = rec b j q in
      (suc r.0, omega (arith, fewer m, r.1), step (map-path (λ c i. (keep-in _ S i).0) (λ c t. t) (λ c d t. t) r.2) m n)

  within : (n : ℕ) {S : List A} {a : A} {k : ℕ} → Path st nx S a k → length S ≤ n → Within (length S) S a
  within zero {S} {a} p h = let z : length (without a S) < length S = fewer (end-in p) in absurd (omega arith)
  within (suc n) {S} {a} p h =
      let z : length (without a S) < length S = fewer (end-in p) in
      cut S a (end-in p) (λ b j q. within n q (omega arith)) (clear a p)

  -- a path over S can be cut to one of at most as many nodes as S has
  pub short : {S : List A} {a : A} {k : ℕ} → Path st nx S a k → Within (length S) S a
  short {S} p = within (length S) p (omega arith)

-- ---- the least number that passes

module _ (p : ℕ → Bool) where
  -- what an answer of `least p i n` says
  abbrev pub Answer : ℕ → ℕ → Option ℕ → Type 0
  Answer i n none = (j : ℕ) → i ≤ j → j < i + n → T (p j) → ⊥
  Answer i n (some k) = (i ≤ k) × T (p k) × ((j : ℕ) → i ≤ j → T (p j) → k ≤ j)

  -- where i does not pass, the answer from the next number on is the answer from i on
  later : (i n : ℕ) (r : Option ℕ) → p i ≡ false → Answer (suc i) n r → Answer i (suc n) r
  later i n none e a = λ j h l t. ⊎_elim (λ (q : i ≡ j). rw (← q, e) at t) (λ (q : i < j). a j q (omega arith) t) (eq-or-lt_of_le h)
  later i n (some k) e a = (omega arith, a.1, λ j h t. ⊎_elim (λ (q : i ≡ j). absurd (rw (← q, e) at t)) (λ (q : i < j). a.2 j q t) (eq-or-lt_of_le h))

  pub least-answer : (i n : ℕ) → Answer i n (least p i n)
  unfolding least
  least-answer i zero = λ j h l t. omega arith
  least-answer i (suc n) = by_cases (p i) (λ e. rw e (omega arith, T_of _ e, λ j h t. h)) (λ e. rw e (later i n (least p (suc i) n) e (least-answer (suc i) n)))

-- ---- places

-- a node of a list is at a place of it, and what is at a place is a node
pub place : {A : Type 0} (d : A) {a : A} {S : List A} → a ∈ S → (i : ℕ) × (i < length S) × (get_or S i d ≡ a)
place d (Memᴰ.head e) = (0, omega arith, sym e)
place d (Memᴰ.tail m) = let r = place d m in (suc r.0, suc-le-suc r.1, r.2)

pub at_place : {A : Type 0} (d : A) (S : List A) (i : ℕ) → i < length S → get_or S i d ∈ S
at_place d [] i h = absurd (omega arith)
at_place d (x ∷ S) zero h = Memᴰ.head refl
at_place d (x ∷ S) (suc i) h = Memᴰ.tail (at_place d S i (omega arith))
