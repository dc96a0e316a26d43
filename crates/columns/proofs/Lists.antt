-- Laws of lists whose items are laid out one behind the other: their lengths, their parts, and lists of lines read back.
-- Assumes nothing.
use mathlib.Core.Path.{◌≡◌, refl, sym, ap, ◌∙◌}
use mathlib.Core.Bool.{true}
use mathlib.Core.List.{List, [], ◌∷◌, ◌++◌, append_assoc, append-nil}
use Prim.Native.Nat.{ℕ, zero, suc, ◌+◌, ◌*◌, ◌≤◌, ◌<◌}
use native.Mathlib.Omega.{arith}
use native.Mathlib.Nat.{add-zero, zero-add, add_comm, mul-zero, mul-suc, mul-le-mul_left}
use native.Mathlib.Numerals.{add-one}
use lib.ListN.{length, get_or, set, drop, length-append, drop_of_length-le}
use lib.Seq.{drop_at, drop-drop, drop-cons, set_at}
use Rattle.columns.specs.Fields.{number_at}
use Rattle.columns.specs.Lines.{line, width, numbers_at, laid_out, Below, flat, items_from}
use Rattle.columns.proofs.Lines.{line-length, line_read, line-written}

module _ {A : Type 0} where
  pub flat_append : (g : A → List ℕ) (xs ys : List A) → flat g (xs ++ ys) ≡ flat g xs ++ flat g ys
  unfolding flat
  flat_append g [] ys = refl
  flat_append g (x ∷ xs) ys = rw (flat_append g xs ys) (sym (append_assoc (g x) (flat g xs) (flat g ys)))

  pub flat-length : (g : A → List ℕ) (k : ℕ) → ((a : A) → length (g a) ≡ k) → (xs : List A) → length (flat g xs) ≡ k * length xs
  unfolding flat
  flat-length g k h [] = sym (mul-zero k)
  flat-length g k h (x ∷ xs) = rw (length-append, h x, flat-length g k h xs) (rw mul-suc (add_comm k (k * length xs)))

  pub flat-drop : (g : A → List ℕ) (k : ℕ) → ((a : A) → length (g a) ≡ k) → (xs : List A) (i : ℕ) → i ≤ length xs → drop (k * i) (flat g xs) ≡ flat g (drop i xs)
  unfolding flat
  flat-drop g k h xs zero p = rw mul-zero
  flat-drop g k h [] (suc i) p = absurd (omega arith)
  flat-drop g k h (x ∷ xs) (suc i) p = rw (mul-suc, add_comm (k * i) k, ← drop-drop (k * i) k, drop_at (g x) (flat g xs) k (h x)) (flat-drop g k h xs i (omega arith))

  -- the item in its place, and those behind it
  pub flat-at : (g : A → List ℕ) (k : ℕ) → ((a : A) → length (g a) ≡ k) → (xs : List A) (i : ℕ) (d : A) → i < length xs
      → drop (k * i) (flat g xs) ≡ g (get_or xs i d) ++ flat g (drop (suc i) xs)
  unfolding flat
  flat-at g k h xs i d p = flat-drop g k h xs i (omega arith) ∙ rw (drop-cons xs i d p)

  pub items-length : (at : ℕ → A) (i n : ℕ) → length (items_from at i n) ≡ n
  unfolding items_from
  items-length at i zero = refl
  items-length at i (suc n) = ap suc (items-length at (suc i) n)

  pub items_at : (at : ℕ → A) (i n j : ℕ) (d : A) → j < n → get_or (items_from at i n) j d ≡ at (i + j)
  unfolding items_from
  items_at at i zero j d h = absurd (omega arith)
  items_at at i (suc n) zero d h = rw add-zero
  items_at at i (suc n) (suc j) d h = let e : i + suc j ≡ suc i + j = omega arith in rw e (items_at at (suc i) n j d (omega arith))

  -- one item more
  pub items_more : (at : ℕ → A) (i n : ℕ) → items_from at i (suc n) ≡ items_from at i n ++ (at (i + n) ∷ [])
  unfolding items_from
  items_more at i zero = rw add-zero
  items_more at i (suc n) = let e : i + suc n ≡ suc i + n = omega arith in rw (e, ← items_more at (suc i) n)

  -- and put behind those that stand over the front of a list
  pub items_put : (at : ℕ → A) (old : List A) (i : ℕ) → i < length old → set (items_from at 0 i ++ drop i old) i (at i) ≡ items_from at 0 (suc i) ++ drop (suc i) old
  items_put at old i h =
      rw (drop-cons old i (at i) h, items_more at 0 i, zero-add, append_assoc) (set_at (items_from at 0 i) _ (drop (suc i) old) (at i) i (items-length at 0 i))

  pub flat-more : (g : A → List ℕ) (at : ℕ → A) (i : ℕ) → flat g (items_from at 0 (i + 1)) ≡ flat g (items_from at 0 i) ++ g (at i)
  flat-more g at i = rw (add-one, items_more, flat_append, zero-add) (ap (λ l. flat g (items_from at 0 i) ++ l) (unfold flat in append-nil (g (at i))))

  -- items that stand at their places are the list
  pub items-listed : (at : ℕ → A) (xs : List A) (i : ℕ) (d : A) → ((j : ℕ) → j < length xs → at (i + j) ≡ get_or xs j d) → items_from at i (length xs) ≡ xs
  unfolding items_from
  items-listed at [] i d h = refl
  items-listed at (x ∷ xs) i d h =
      rw (rw add-zero at (h 0 (omega arith)))
      (ap (λ l. x ∷ l) (items-listed at xs (suc i) d (λ j k. let t : suc i + j ≡ i + suc j = omega arith in rw t (h (suc j) (omega arith)))))

-- the numbers of k fields, one by one
pub numbers-items : (k : ℕ) (s : List ℕ) (at i : ℕ) → numbers_at k s (at + 5 * i) ≡ items_from (λ j. number_at s (at + 5 * j)) i k
unfolding numbers_at items_from
numbers-items zero s at i = refl
numbers-items (suc k) s at i =
    let e : at + 5 * i + 5 ≡ at + 5 * suc i = omega arith in
    ap (λ l. number_at s (at + 5 * i) ∷ l) (rw e (numbers-items k s at (suc i)))

-- ---- lists of lines of k fields, whose items have k numbers each

module _ {A : Type 0} (k : ℕ) (numbers : A → List ℕ) where
  -- a list of lines of which each is laid out is that of the items that the lines say
  pub lines-written : (b : List ℕ) (at : ℕ → A) → ((i : ℕ) → numbers_at k b (width k * i) ≡ numbers (at i)) → (n m i : ℕ) → length b ≡ width k * n → i + m ≡ n
      → ((j : ℕ) → j < n → laid_out k b (width k * j) ≡ true) → drop (width k * i) b ≡ flat (λ a. line (numbers a)) (items_from at i m)
  unfolding flat items_from
  lines-written b at says n zero i e h laid = let l : length b ≤ width k * i = rw (e, ← h, add-zero) (omega arith) in drop_of_length-le b l
  lines-written b at says n (suc m) i e h laid =
      let s : width k * i + width k ≡ width k * suc i = sym (mul-suc (width k) i) in
      let room : width k * i + width k ≤ length b = rw (s, e) (mul-le-mul_left (width k) (omega arith)) in
      (line-written k b (width k * i) room (laid i (omega arith))).0 ∙ rw (says i, s, lines-written b at says n m (suc i) e (omega arith) laid)

  -- an item's line in its place is laid out, and says its numbers
  pub line-placed : ((a : A) → length (numbers a) ≡ k) → (xs : List A) (i : ℕ) (d : A) → i < length xs → Below (numbers (get_or xs i d))
      → (laid_out k (flat (λ a. line (numbers a)) xs) (width k * i) ≡ true) × (numbers_at k (flat (λ a. line (numbers a)) xs) (width k * i) ≡ numbers (get_or xs i d))
  line-placed long xs i d h below =
      let a = get_or xs i d in
      let b = flat (λ a. line (numbers a)) xs in
      let wide : (a : A) → length (line (numbers a)) ≡ width k = λ a. line-length (numbers a) ∙ rw (long a) in
      let e = flat-at (λ a. line (numbers a)) (width k) wide xs i d h in
      rw (long a) at (line_read (numbers a) b (flat (λ a. line (numbers a)) (drop (suc i) xs)) (width k * i) below e)
