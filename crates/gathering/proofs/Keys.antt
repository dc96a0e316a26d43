-- Keys: in order as their facts are, one for each fact; and what a row of them holds after one more.
-- Assumes nothing.
use mathlib.Core.Path.{◌≡◌, refl, sym, ap, ◌∙◌}
use mathlib.Core.Bool.{false}
use mathlib.Core.Logic.{◌⊎◌, inl, inr, ⊎_elim, ◌↔◌}
use mathlib.Core.List.{List, [], ◌∷◌, ◌++◌, map, Memᴰ}
use Prim.Native.Nat.{ℕ, zero, suc, ◌+◌, ◌≤◌, ◌<◌}
use native.Mathlib.Omega.{arith}
use native.Mathlib.Numerals.{add-one}
use lib.ListN.{length, get_or, take, drop, length-map, get_or-map}
use lib.Seq.{length-take-le, get_or-take, take-take}
use lib.Dec.{T, ltb, eqb}
use Rattle.facts.specs.declared.Fact.{Fact}
use Rattle.facts.specs.Facts.{fact, before}
use Rattle.facts.proofs.Terms.{of_T}
use Rattle.facts.proofs.Facts.{fact-eq, Before, by-subject, by-predicate, by-object, before-iff, before-total}
use Rattle.table.proofs.Lists.{ascends-at}
use Rattle.ordered.specs.Inserted.{inserted}
use Rattle.ordered.proofs.Inserted.{inserted-length, front}
use Rattle.ordered.proofs.Inserted as ordered
use Rattle.ordered.proofs.Rising.{lighter}
use Rattle.std.specs.List.Sorted.{IsPartitionPoint, IsNonDecreasingBy, IsSearchInRange, IsBinarySearchResult}
use Rattle.std.specs.Prelude.{Result, Ok, Err}
use Rattle.std.specs.Result.{IfOk}
use Rattle.std.specs.List.{HoldsAt}
use Rattle.std.specs.Ordering.{nat_cmp, is_lt, ordering_index}
use Rattle.std.proofs.Common.{Less, Equal, Greater}
use Rattle.std.proofs.lemmas.Cmp.{nat_cmp_total}
use Rattle.std.specs.Cmp.{ranked}
use Rattle.std.proofs.lemmas.List.Sorted.{searchable_from_sorted}
use Rattle.facts.proofs.Terms.{by_cases}
use Rattle.std.proofs.lemmas.List.{get_or_default}
use native.Mathlib.Decide.{dec_lt}
use borrow.Author.Tests.{le-ltb}
use Rattle.gathering.specs.Gathered.{with}
use Rattle.gathering.specs.Keys.{key_of, fact_of_key, Narrow, Holds, Rises, Cut, Found, Adds}
use Rattle.gathering.proofs.Gathered.{with-only, with-ascends, with-held, before-not}

-- ---- keys

-- keys of two facts are in order as the facts are
key-less : (a b : Fact) → Narrow a → Narrow b → T (before a b) → key_of a < key_of b
unfolding key_of
key-less a b m n t = go ((before-iff a b).0 t)
  where
    go : Before a b → key_of a < key_of b
    go (by-subject h) = omega arith
    go (by-predicate e h) = omega arith
    go (by-object e g h) = omega arith

before-keys : (a b : Fact) → Narrow a → Narrow b → T (before a b) ↔ (key_of a < key_of b)
before-keys a b m n = (key-less a b m n, λ h. go h (before-total a b))
  where
    go : key_of a < key_of b → T (before a b) ⊎ ((a ≡ b) ⊎ T (before b a)) → T (before a b)
    go h (inl t) = t
    go h (inr (inl e)) = absurd (omega (arith, ap key_of e))
    go h (inr (inr t)) = absurd (omega (arith, key-less b a n m t))

-- a key gives its fact back
key-fact : (f : Fact) → Narrow f → fact_of_key (key_of f) ≡ f
unfolding fact_of_key key_of
key-fact f n = fact-eq _ f (omega arith) (omega arith) (omega arith)

key-injective : (a b : Fact) → Narrow a → Narrow b → key_of a ≡ key_of b → a ≡ b
key-injective a b m n e = sym (key-fact a m) ∙ ap fact_of_key e ∙ key-fact b n

-- ---- a row of numbers that rise

-- of two numbers, the larger is not below the other
not-less : (x y : ℕ) → x < y → is_lt (nat_cmp y x) ≡ false
not-less x y h =
    let t : ltb y x ≡ false = le-ltb y x (omega arith) in
    by_cases (eqb y x) (λ q. rw (t, q)) (λ q. rw (t, q))

module _ (row : List ℕ) (n : ℕ) (rises : Rises row n) where
  at-place : (i d : ℕ) → i < n → get_or (take n row) i d ≡ get_or row i 0
  at-place i d h = get_or-take n row i d h ∙ get_or_default row i d 0 (omega (arith, rises.room))

  in-order : (i j : ℕ) → i ≤ j → j < n → get_or row i 0 ≤ get_or row j 0
  in-order i j h g = go (dec_lt i j)
    where
      go : Dec (i < j) → get_or row i 0 ≤ get_or row j 0
      go (yes p) = omega (arith, lighter (λ k. get_or row k 0) n rises.rising j i p g)
      go (no p) = let e : i ≡ j = omega arith in rw e (omega arith)

  long : length (take n row) ≡ n
  long = length-take-le n row rises.room

  -- against a key, what comes later answers no less
  searchable : (key : ℕ) → IsNonDecreasingBy (λ y. ordering_index (nat_cmp y key)) (take n row)
  searchable key =
      searchable_from_sorted nat_cmp_total (λ y. y) (take n row) key
      (λ k d _ h.
      let l : k + 1 < n = omega (arith, long) in
      let e : k + 1 ≡ suc k = omega arith in
      let rise : get_or row k 0 < get_or row (k + 1) 0 = rw e (rises.rising k (omega arith)) in
      rw (at-place k d (omega arith), at-place (k + 1) d l) (not-less _ _ rise))

  -- what a search of the keys finds
  held-key : (key r : ℕ) → r < length (take n row) → HoldsAt (λ y. nat_cmp y key ≡ Equal) (take n row) r → (r < n) × (get_or row r 0 ≡ key)
  held-key key r h p = let l : r < n = omega (arith, long) in (l, ranked _ _ Equal (sym (rw (at-place r 0 l) at (p 0))))

  missing-key : (key r : ℕ) → r ≤ length (take n row) → IsPartitionPoint (λ y. nat_cmp y key ≡ Less) (λ y. nat_cmp y key ≡ Greater) (take n row) r
      → Cut row n key r × (r < n → get_or row r 0 ≡ key → ⊥)
  missing-key key r h p =
      let above : (i : ℕ) → r ≤ i → i < n → key < get_or row i 0 = λ i l g. ranked _ _ Greater (sym (rw (at-place i 0 g) at (p.1 i 0 l (omega (arith, long))))) in (
        record { within = omega (arith, long); below = λ i l. ranked _ _ Less (sym (rw (at-place i 0 (omega (arith, long))) at (p.0 i 0 (omega (arith, long)) l))); above = λ i l g. omega (arith, above i l g) },
        λ l e. omega (arith, above r (omega arith) l),
      )

  pub key-found : (key : ℕ) (r : Result ℕ ℕ) → IsSearchInRange r (length (take n row)) → IfOk r (HoldsAt (λ y. nat_cmp y key ≡ Equal) (take n row))
      → IsBinarySearchResult (λ y. nat_cmp y key) (take n row) r → Found row n key r
  key-found key (Ok k) b h s = held-key key k b h
  key-found key (Err k) b h s = missing-key key k b (s (searchable key))

  -- one more, in its place
  pub still-rises : (key r : ℕ) → n < length row → Cut row n key r → (r < n → get_or row r 0 ≡ key → ⊥) → Rises (inserted row n r key) (n + 1)
  still-rises key r more cut other =
      record {
        room = omega (arith, inserted-length row n r key cut.within more);
        rising = λ i h. ordered.rises row n r key cut.within more (λ k. k) rises.rising cut.below above i (omega arith);
      }
    where
      above : (i : ℕ) → r ≤ i → i < n → key < get_or row i 0
      above i h l = go (dec_lt r i)
        where
          go : Dec (r < i) → key < get_or row i 0
          go (yes p) = omega (arith, cut.above r (omega arith) (omega arith), lighter (λ k. get_or row k 0) n rises.rising i r p l)
          go (no p) = let e : i ≡ r = omega arith in rw e (omega (arith, cut.above r (omega arith) (omega arith), other (omega arith)))

-- ---- a row of keys

-- the fact at i
abbrev at : List Fact → ℕ → Fact
at gs i = get_or gs i (fact 0 0 0)

at_in : (gs : List Fact) (i : ℕ) → i < length gs → Memᴰ (at gs i) gs
at_in [] i h = absurd (omega arith)
at_in (g ∷ gs) zero h = Memᴰ.head refl
at_in (g ∷ gs) (suc i) h = Memᴰ.tail (at_in gs i (omega arith))

-- the keys with that of f, where the facts before place r come before f and the one at r behind it
with_keys : (f : Fact) (gs : List Fact) (r : ℕ) → r ≤ length gs → ((i : ℕ) → i < r → T (before (at gs i) f)) → (r < length gs → T (before f (at gs r)))
    → map key_of (with f gs) ≡ take r (map key_of gs) ++ (key_of f ∷ drop r (map key_of gs))
unfolding with
with_keys f [] zero w b a = refl
with_keys f [] (suc r) w b a = absurd (omega arith)
with_keys f (g ∷ gs) zero w b a = rw (of_T (before f g) (a (omega arith)))
with_keys f (g ∷ gs) (suc r) w b a =
    let t : T (before g f) = b zero (omega arith) in
    rw (before-not f g t, of_T (before g f) t, with_keys f gs r (omega arith) (λ i h. b (suc i) (omega arith)) (λ h. a (omega arith)))

module _ (keys : List ℕ) (n : ℕ) (gs : List Fact) (held : Holds keys n gs) where
  key-at : (i : ℕ) → i < n → get_or keys i 0 ≡ key_of (at gs i)
  key-at i h = sym (get_or-take n keys i 0 h) ∙ ap (λ (l : List ℕ). get_or l i 0) held.keys_of ∙ unfold key_of in get_or-map key_of gs i (fact 0 0 0)

  narrow_at : (i : ℕ) → i < n → Narrow (at gs i)
  narrow_at i h = held.narrow (at gs i) (at_in gs i (omega (arith, held.count)))

  pub keys-rise : Rises keys n
  keys-rise = record { room = held.room; rising = rising }
    where
      rising : (i : ℕ) → suc i < n → get_or keys i 0 < get_or keys (suc i) 0
      rising i h =
          rw (key-at i (omega arith), key-at (suc i) h)
          ((before-keys (at gs i) (at gs (suc i)) (narrow_at i (omega arith)) (narrow_at (suc i) h)).0 (ascends-at gs i (fact 0 0 0) held.ascends (omega (arith, held.count))))

  -- read back, the keys are the facts
  pub facts-back : map fact_of_key (take n keys) ≡ gs
  facts-back = ap (map fact_of_key) held.keys_of ∙ back gs held.narrow
    where
      back : (fs : List Fact) → ((f : Fact) → Memᴰ f fs → Narrow f) → map fact_of_key (map key_of fs) ≡ fs
      back [] m = refl
      back (f ∷ fs) m = let e : fact_of_key (key_of f) ≡ f = key-fact f (m f (Memᴰ.head refl)) in rw (e, back fs (λ g l. m g (Memᴰ.tail l)))

  -- ---- one more

  module _ (f : Fact) (narrow : Narrow f) where
    -- a fact whose key is there is held
    key-held : (r : ℕ) → r < n → get_or keys r 0 ≡ key_of f → Memᴰ f gs
    key-held r h e = rw (key-injective f (at gs r) narrow (narrow_at r h) (sym e ∙ key-at r h)) (at_in gs r (omega (arith, held.count)))

    pub adds-held : (r : ℕ) → r < n → get_or keys r 0 ≡ key_of f → Adds f keys keys n gs
    adds-held r h e = record { size = refl; held = rw (with-held f gs (key-held r h e) held.ascends) held }

    pub adds-new : (r : ℕ) → n < length keys → Cut keys n (key_of f) r → (r < n → get_or keys r 0 ≡ key_of f → ⊥) → Adds f keys (inserted keys n r (key_of f)) (n + 1) gs
    adds-new r more cut other =
        record {
          size = size;
          held = record {
            count = count;
            room = omega (arith, size);
            keys_of = rw add-one keys_of;
            narrow = λ g m. ⊎_elim (λ (e : g ≡ f). rw e narrow) (λ (l : Memᴰ g gs). held.narrow g l) (with-only f g gs m);
            ascends = with-ascends f gs held.ascends;
          };
        }
      where
        size : length (inserted keys n r (key_of f)) ≡ length keys
        size = inserted-length keys n r (key_of f) cut.within more

        below : (i : ℕ) → i < r → T (before (at gs i) f)
        below i h =
            let l : i < n = omega (arith, cut.within) in
            (before-keys (at gs i) f (narrow_at i l) narrow).1 (rw (key-at i l) at (cut.below i h))

        above : r < length gs → T (before f (at gs r))
        above h =
            let l : r < n = omega (arith, held.count) in
            let k : key_of f < get_or keys r 0 = omega (arith, cut.above r (omega arith) l, other l) in
            (before-keys f (at gs r) narrow (narrow_at r l)).1 (rw (key-at r l) at k)

        placed : map key_of (with f gs) ≡ take r (map key_of gs) ++ (key_of f ∷ drop r (map key_of gs))
        placed = with_keys f gs r (omega (arith, cut.within, held.count)) below above

        keys_of : take (suc n) (inserted keys n r (key_of f)) ≡ map key_of (with f gs)
        keys_of = front keys n r (key_of f) cut.within more ∙ rw (← take-take r n keys cut.within, held.keys_of, placed)

        count : n + 1 ≡ length (with f gs)
        count = add-one n ∙ sym (length-take-le (suc n) (inserted keys n r (key_of f)) (omega (arith, size))) ∙ ap length keys_of ∙ length-map (with f gs) key_of
