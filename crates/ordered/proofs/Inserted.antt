-- What stands where, after a number is put among others.
-- Assumes nothing.
use mathlib.Core.Path.{◌≡◌, ap, ◌∙◌}
use mathlib.Core.List.{List, ◌∷◌, ◌++◌, append_assoc}
use Prim.Native.Nat.{ℕ, zero, suc, ◌+◌, ◌-◌, ◌≤◌, ◌<◌}
use native.Mathlib.Omega.{arith}
use native.Mathlib.Decide.{dec_lt}
use lib.ListN.{length, get_or, take, drop, length-append, length-drop, get_or-append}
use lib.Seq.{slice, length-slice, length-take-le, take_at, get_or-take, get_or-drop, get_or_at, get_or-append-add}
use Rattle.ordered.specs.Inserted.{inserted}

module _ (l : List ℕ) (n k v : ℕ) (h : k ≤ n) (g : n < length l) where
  -- before k as it was, v at k, behind it one place further
  pub low : (i : ℕ) → i < k → get_or (inserted l n k v) i 0 ≡ get_or l i 0
  unfolding inserted
  low i p =
      let e : length (take k l) ≡ k = length-take-le k l (omega arith) in
      get_or-append (take k l) (v ∷ (slice k n l ++ drop (suc n) l)) 0 i (omega arith) ∙ get_or-take k l i 0 p

  pub here : get_or (inserted l n k v) k 0 ≡ v
  unfolding inserted
  here = get_or_at (take k l) v (slice k n l ++ drop (suc n) l) 0 k (length-take-le k l (omega arith))

  here-at : (i : ℕ) → i ≡ k → get_or (inserted l n k v) i 0 ≡ v
  here-at i e = ap (λ (j : ℕ). get_or (inserted l n k v) j 0) e ∙ here

  pub high : (i : ℕ) → k ≤ i → i < n → get_or (inserted l n k v) (suc i) 0 ≡ get_or l i 0
  unfolding inserted
  high i p q =
      let e : length (take k l) ≡ k = length-take-le k l (omega arith) in
      let a : suc i ≡ length (take k l) + suc (i - k) = omega arith in
      let b : k + (i - k) ≡ i = omega arith in
      ap (λ (j : ℕ). get_or (inserted l n k v) j 0) a
      ∙ get_or-append-add (take k l) (v ∷ (slice k n l ++ drop (suc n) l)) (suc (i - k)) 0
      ∙ get_or-append (slice k n l) (drop (suc n) l) 0 (i - k) (omega (arith, length-slice k n l (omega arith)))
      ∙ get_or-drop k (take n l) (i - k) 0
      ∙ ap (λ (j : ℕ). get_or (take n l) j 0) b
      ∙ get_or-take n l i 0 q

  pub inserted-length : length (inserted l n k v) ≡ length l
  unfolding inserted
  inserted-length =
      let e : length (take k l) ≡ k = length-take-le k l (omega arith) in
      let s : length (slice k n l) ≡ n - k = length-slice k n l (omega arith) in
      let rest : List ℕ = slice k n l ++ drop (suc n) l in
      omega (arith, length-append (take k l) (v ∷ rest), length-append (slice k n l) (drop (suc n) l), length-drop (suc n) l)

  -- the first n and v
  pub front : take (suc n) (inserted l n k v) ≡ take k l ++ (v ∷ slice k n l)
  unfolding inserted
  front =
      let e : length (take k l) ≡ k = length-take-le k l (omega arith) in
      let s : length (slice k n l) ≡ n - k = length-slice k n l (omega arith) in
      rw (← append_assoc (take k l) (v ∷ slice k n l) (drop (suc n) l))
      (take_at (take k l ++ (v ∷ slice k n l)) (drop (suc n) l) (suc n) (omega (arith, length-append (take k l) (v ∷ slice k n l))))

  -- what holds of v and of all that was there holds of all that is there
  pub each : (P : ℕ → Type 0) → ((i : ℕ) → i < n → P (get_or l i 0)) → P v → (i : ℕ) → i < suc n → P (get_or (inserted l n k v) i 0)
  each P a b zero p = go (dec_lt zero k)
    where
      go : Dec (zero < k) → P (get_or (inserted l n k v) zero 0)
      go (yes q) = rw (low zero q) (a zero (omega arith))
      go (no q) = rw (here-at zero (omega arith)) b
  each P a b (suc i) p = go (dec_lt (suc i) k)
    where
      go : Dec (suc i < k) → P (get_or (inserted l n k v) (suc i) 0)
      go (yes q) = rw (low (suc i) q) (a (suc i) (omega arith))
      go (no q) = last (dec_lt i k)
        where
          last : Dec (i < k) → P (get_or (inserted l n k v) (suc i) 0)
          last (yes r) = rw (here-at (suc i) (omega arith)) b
          last (no r) = rw (high i (omega arith) (omega arith)) (a i (omega arith))

  -- and each that was there stands somewhere
  pub still : (i : ℕ) → i < n → (j : ℕ) × (j < suc n) × (get_or (inserted l n k v) j 0 ≡ get_or l i 0)
  still i p = go (dec_lt i k)
    where
      go : Dec (i < k) → (j : ℕ) × (j < suc n) × (get_or (inserted l n k v) j 0 ≡ get_or l i 0)
      go (yes q) = (i, omega arith, low i q)
      go (no q) = (suc i, omega arith, high i (omega arith) p)

  further : (w : ℕ → ℕ) → ((i : ℕ) → suc i < n → w (get_or l i 0) < w (get_or l (suc i) 0)) → (i : ℕ) → k < i → suc i < suc n
      → w (get_or (inserted l n k v) i 0) < w (get_or (inserted l n k v) (suc i) 0)
  further w r zero p q = absurd (omega arith)
  further w r (suc i) p q = rw (high i (omega arith) (omega arith), high (suc i) (omega arith) (omega arith)) (r i (omega arith))

  -- weights that rise still rise, where v is heavier than those before k and lighter than those behind
  pub rises : (w : ℕ → ℕ) → ((i : ℕ) → suc i < n → w (get_or l i 0) < w (get_or l (suc i) 0))
      → ((i : ℕ) → i < k → w (get_or l i 0) < w v) → ((i : ℕ) → k ≤ i → i < n → w v < w (get_or l i 0))
      → (i : ℕ) → suc i < suc n → w (get_or (inserted l n k v) i 0) < w (get_or (inserted l n k v) (suc i) 0)
  rises w r b a i p = go (dec_lt (suc i) k)
    where
      go : Dec (suc i < k) → w (get_or (inserted l n k v) i 0) < w (get_or (inserted l n k v) (suc i) 0)
      go (yes q) = rw (low i (omega arith), low (suc i) q) (r i (omega arith))
      go (no q) = next (dec_lt i k)
        where
          next : Dec (i < k) → w (get_or (inserted l n k v) i 0) < w (get_or (inserted l n k v) (suc i) 0)
          next (yes s) = rw (low i s, here-at (suc i) (omega arith)) (b i s)
          next (no s) = behind (dec_lt k i)
            where
              behind : Dec (k < i) → w (get_or (inserted l n k v) i 0) < w (get_or (inserted l n k v) (suc i) 0)
              behind (yes t) = further w r i t (omega arith)
              behind (no t) = rw (here-at i (omega arith), high i (omega arith) (omega arith)) (a i (omega arith) (omega arith))
