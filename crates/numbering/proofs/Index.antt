-- Laws of the index: a token is held, or its entry belongs at a place.
-- Assumes nothing.
use mathlib.Core.Path.{◌≡◌, refl, sym, ap, ◌∙◌}
use mathlib.Core.List.{List}
use Prim.Native.Nat.{ℕ, suc, ◌+◌, ◌-◌, ◌≤◌, ◌<◌}
use native.Mathlib.Omega.{arith}
use native.Mathlib.Decide.{dec_lt}
use lib.ListN.{length, get_or, take, drop, length-take, get_or-eq_default}
use lib.Seq.{get_or-take, get_or-drop, length-take-le}
use Rattle.std.specs.declared.cmp.Ordering.{Ordering}
use Rattle.std.specs.declared.cmp.Ordering.TheVariants.{Less, Equal, Greater}
use Rattle.std.specs.Ordering.{MatchOrdering, nat_cmp, ordering_index}
use Rattle.std.specs.Prelude.{Result, Ok, Err}
use Rattle.std.specs.List.{HoldsAt}
use Rattle.std.specs.List.Sorted.{IsNonDecreasingBy, IsPartitionPoint}
use Rattle.std.proofs.lemmas.List.{get_or_default}
use borrow.Author.Tests.{le-leb}
use Rattle.std.proofs.lemmas.Cmp.{ranked}
use Rattle.ntriples.specs.Tokens.{Token, part}
use Rattle.numbering.specs.Weights.{weight, Bytes, token_cmp}
use Rattle.numbering.specs.Index.{from_of, to_of, token_of, token_at, found, number_of, Ordered, Held, Missing, Sought}
use Rattle.numbering.proofs.Weights.{weight-injective, weights-compared}
use Rattle.ordered.proofs.Rising.{lighter}

bytes-part : (input : List ℕ) (from to : ℕ) → Bytes input → Bytes (part input from to)
bytes-part input from to h i = go (dec_lt i (to - from))
  where
    go : Dec (i < to - from) → get_or (part input from to) i 0 < 256
    go (yes p) = rw (get_or-take (to - from) (drop from input) i 0 p, get_or-drop from input i 0) (h (from + i))
    go (no p) =
        let e : get_or (part input from to) i 0 ≡ 0 = get_or-eq_default (part input from to) 0 {n = i} (omega (arith, length-take (to - from) (drop from input))) in
        omega arith

bytes-token : (input : List ℕ) (v : ℕ) → Bytes input → Bytes (token_of input v)
unfolding token_of
bytes-token input v h = bytes-part input (from_of v) (to_of v) h

-- ---- the search

index-rises : (m k x : ℕ) → m ≤ k → ordering_index (nat_cmp m x) ≤ ordering_index (nat_cmp k x)
index-rises m k x h = go (nat_cmp m x) (nat_cmp k x) (ranked m x _ refl) (ranked k x _ refl)
  where
    go : (p q : Ordering) → MatchOrdering p (m < x) (m ≡ x) (x < m) → MatchOrdering q (k < x) (k ≡ x) (x < k) → ordering_index p ≤ ordering_index q
    go Less q a b = omega arith
    go Equal Less a b = absurd (omega arith)
    go Equal Equal a b = omega arith
    go Equal Greater a b = omega arith
    go Greater Less a b = absurd (omega arith)
    go Greater Equal a b = absurd (omega arith)
    go Greater Greater a b = omega arith

module _ (input items : List ℕ) (o : Ordered input items (length items)) (t : Token) (b : Bytes input) (d : Bytes t) where
  -- the order of the entry at i and the token is that of their weights
  order-at : (i e : ℕ) → i < length items → token_cmp (found input (get_or items i e)) t ≡ nat_cmp (weight (token_at input items i)) (weight t)
  order-at i e h =
      let w = o.whole i h in
      let a : get_or items i e ≡ get_or items i 0 = get_or_default items i e 0 h in
      let f : found input (get_or items i 0) ≡ token_at input items i = rw (le-leb _ _ w.forward, le-leb _ _ w.within) refl in
      ap (λ (v : ℕ). token_cmp (found input v) t) a ∙ ap (λ (x : Token). token_cmp x t) f ∙ weights-compared (token_at input items i) t (bytes-token input (get_or items i 0) b) d

  weights-rise : (i j : ℕ) → i ≤ j → j < length items → weight (token_at input items i) ≤ weight (token_at input items j)
  weights-rise i j h l = go (dec_lt i j)
    where
      go : Dec (i < j) → weight (token_at input items i) ≤ weight (token_at input items j)
      go (yes p) = omega (arith, lighter (λ k. weight (token_at input items k)) (length items) o.rising j i p l)
      go (no p) = let e : i ≡ j = omega arith in rw e (omega arith)

  pub searchable : IsNonDecreasingBy (λ v. ordering_index (token_cmp (found input v) t)) items
  searchable i j e h l = rw (order-at i e (omega arith), order-at j e l) (index-rises _ _ (weight t) (weights-rise i j h l))

  pub held-at : (k : ℕ) → k < length items → HoldsAt (λ v. token_cmp (found input v) t ≡ Equal) items k → Held input items (length items) t (number_of (get_or items k 0))
  held-at k h p =
      record {
        at = k;
        within = h;
        token = weight-injective (token_at input items k) t (bytes-token input (get_or items k 0) b) d (ranked _ _ Equal (sym (p 0) ∙ order-at k 0 h));
        number = refl;
      }

  pub missing-at : (k : ℕ) → k ≤ length items
      → IsPartitionPoint (λ v. token_cmp (found input v) t ≡ Less) (λ v. token_cmp (found input v) t ≡ Greater) items k → Missing input items (length items) t k
  missing-at k h p =
      record {
        within = h;
        below = λ i l. ranked _ _ Less (sym (p.0 i 0 (omega arith) l) ∙ order-at i 0 (omega arith));
        above = λ i l m. ranked _ _ Greater (sym (p.1 i 0 l m) ∙ order-at i 0 m);
      }

-- ---- the entries in the front of a row, as a list

module _ (input items : List ℕ) (n : ℕ) (room : n ≤ length items) where
  at-front : (i : ℕ) → i < n → get_or (take n items) i 0 ≡ get_or items i 0
  at-front i h = get_or-take n items i 0 h

  token-front : (i : ℕ) → i < n → token_at input (take n items) i ≡ token_at input items i
  token-front i h = ap (token_of input) (at-front i h)

  pub ordered-front : Ordered input items n → Ordered input (take n items) (length (take n items))
  ordered-front o =
      rw (length-take-le n items room)
      (record {
        room = omega (arith, length-take-le n items room);
        whole = λ i h. rw (at-front i h) (o.whole i h);
        rising = λ i h. rw (token-front i (omega arith), token-front (suc i) h) (o.rising i h);
      })

  pub sought-front : (t : Token) (r : Result ℕ ℕ) → Sought input (take n items) (length (take n items)) t r → Sought input items n t r
  unfolding Sought
  sought-front t (Ok v) h =
      let l : h.at < n = omega (arith, h.within, length-take-le n items room) in
      record { at = h.at; within = l; token = rw (token-front h.at l) at h.token; number = rw (at-front h.at l) at h.number }
  sought-front t (Err r) m =
      let e = length-take-le n items room in
      let g : r ≤ n = omega (arith, m.within) in
      record {
        within = g;
        below = λ i l. rw (token-front i (omega arith)) at (m.below i l);
        above = λ i l h. rw (token-front i h) at (m.above i l (omega arith));
      }
