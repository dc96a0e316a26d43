-- The chosen path: it is a path, has the fewest facts, and is the first of those, read from the end.
-- Assumes nothing.
use mathlib.Core.Path.{◌≡◌, refl, sym, ap, ◌∙◌, subst}
use mathlib.Core.Logic.{⊎_elim}
use mathlib.Core.Bool.{Bool, true, false, ◌&&◌}
use mathlib.Core.Option
use mathlib.Core.Option.{Option, none, some}
use mathlib.Core.List.Memᴰ
use mathlib.Core.List.{List, [], ◌∷◌, ◌++◌, map, map-append, append-nil}
use Prim.Native.Nat.{ℕ, zero, suc, ◌+◌, ◌≤◌, ◌<◌}
use native.Mathlib.Nat.{eq-or-lt_of_le}
use native.Mathlib.Omega.{arith}
use lib.ListN.{length, get_or, length-append}
use lib.Dec.{T, eqb}
use mir.Facts.{and_yes, yes_and}
use Rattle.facts.specs.declared.Fact.{Fact}
use Rattle.facts.specs.Terms.{sp, dom, range, type}
use Rattle.facts.specs.Facts.{fact, well_formed}
use Rattle.facts.specs.Gaps.{Fills, Askable}
use Rattle.facts.proofs.Terms.{by_cases, T_of, of_T}
use Rattle.rules.specs.Graph.{◌∈◌, any, Path, first, step, nodes, layer, least}
use Rattle.rules.specs.Paths.{named, next, start_for, goal_for, HasPathFor, reaches, fewest}
use Rattle.rules.specs.Printed.{behind, print_order, Printable}
use Rattle.rules.specs.Chosen.{first_of, arrives, leads, back, back_from, way_of, chosen_by, chosen_of, chosen, fact_in, PathPlaces, place_behind, print_places, Along, begin, go_on, NotBehind, same, lower, agree}
use Rattle.rules.proofs.Tests.{any-in, in-any}
use Rattle.rules.proofs.Graph.{Answer, least-answer, layer-path, path-layer, end-in, place, at_place}
use Rattle.rules.proofs.Printed.{path-pos, path-printable}
use Rattle.rules.proofs.Fillings.{path-filling}
use Rattle.rules.proofs.Fewest.{Best, fewest-best}

-- ---- the first that passes

module _ (p : ℕ → Bool) where
  pub least-below : (i n k : ℕ) → least p i n ≡ some k → k < i + n
  unfolding least
  least-below i zero k e = let z : ◌≡◌ {A = ℕ} 0 1 = cc in absurd (omega arith)
  least-below i (suc n) k e =
      by_cases (p i) (λ y. let z : some i ≡ some k = rw y at e in let u : i ≡ k = cc in omega arith)
      (λ y. omega (arith, least-below (suc i) n k (rw y at e)))

  -- where one of the first n passes, so does the least of them
  pub least-some : (n j : ℕ) → j < n → T (p j) → (i : ℕ) × (least p 0 n ≡ some i) × (i < n) × T (p i)
  least-some n j h t = go (least p 0 n) refl (least-answer p 0 n)
    where
      go : (o : Option ℕ) → least p 0 n ≡ o → Answer p 0 n o → (i : ℕ) × (least p 0 n ≡ some i) × (i < n) × T (p i)
      go none e a = absurd (a j (omega arith) (omega arith) t)
      go (some i) e a = (i, e, omega (arith, least-below 0 n i e), a.1)

  pub least-none : (n : ℕ) → ((j : ℕ) → j < n → T (p j) → ⊥) → least p 0 n ≡ none
  least-none n h = go (least p 0 n) refl (least-answer p 0 n)
    where
      go : (o : Option ℕ) → least p 0 n ≡ o → Answer p 0 n o → least p 0 n ≡ none
      go none e a = e
      go (some i) e a = absurd (h i (omega (arith, least-below 0 n i e)) a.1)

-- two tests that agree
pub least-same : (p q : ℕ → Bool) (i n : ℕ) → ((j : ℕ) → i ≤ j → j < i + n → p j ≡ q j) → least p i n ≡ least q i n
unfolding least
least-same p q i zero h = refl
least-same p q i (suc n) h = rw (h i (omega arith) (omega arith), least-same p q (suc i) n (λ j a b. h j (omega arith) (omega arith))) refl

pub first_says : {A : Type 0} (p : A → Bool) (d : A) {a : A} {l : List A} → a ∈ l → T (p a) → (first_of p d l ∈ l) × T (p (first_of p d l))
unfolding first_of
first_says p d (Memᴰ.head {x} e) t = rw (of_T (p x) (rw e at t)) (Memᴰ.head refl, rw e at t)
first_says p d (Memᴰ.tail {x} m) t =
    by_cases (p x) (λ e. rw e (Memᴰ.head refl, T_of (p x) e)) (λ e. let r = first_says p d m t in rw e (Memᴰ.tail r.0, r.1))

-- ---- the path read back

module _ {A : Type 0} (st : A → Bool) (nx : A → A → Bool) (S : List A) where
  pub arrives-says : (k : ℕ) {b : A} → b ∈ S → T (arrives st nx S k b) → Path st nx S b k
  unfolding arrives
  arrives-says zero m t = absurd t
  arrives-says (suc zero) m t = first m t
  arrives-says (suc (suc k)) m t = let r = any-in _ (layer st nx S (suc k)) t in step (layer-path st nx S (suc k) r.1) m r.2

  pub arrives-is : {b : A} {k : ℕ} → Path st nx S b k → T (arrives st nx S k b)
  unfolding arrives
  arrives-is (first m s) = s
  arrives-is (step {b = b} (first m' s') m n) = in-any (λ a. nx a b) (path-layer st nx S (first m' s')) n
  arrives-is (step {b = b} (step p m' n') m n) = in-any (λ a. nx a b) (path-layer st nx S (step p m' n')) n

  module _ (d : A) where
    abbrev at : ℕ → A
    at i = get_or S i d

    -- the places are those of a path of k nodes to b
    pub record Read (b : A) (k : ℕ) (places : List ℕ) : Type 0 where
      pub path : Path st nx S b k
      pub facts : map at places ≡ nodes path
      pub long : length places ≡ k
      pub inside : (i : ℕ) → i ∈ places → i < length S

    read_first : (j : ℕ) → j < length S → T (st (at j)) → Read (at j) 1 (j ∷ [])
    unfolding nodes
    read_first j h t = record { path = first (at_place d S j h) t; facts = refl; long = refl; inside = λ i m. subst (λ (y : ℕ). y < length S) (sym (Memᴰ.eq_of_singleton m)) h }

    read_step : {a : A} {k : ℕ} {l : List ℕ} (j : ℕ) → j < length S → Read a k l → T (nx a (at j)) → Read (at j) (suc k) (l ++ (j ∷ []))
    unfolding nodes
    read_step {l = l} j h r t = record {
      path = step r.path (at_place d S j h) t;
      facts = map-append at l (j ∷ []) ∙ ap (λ (x : List A). x ++ (at j ∷ [])) r.facts;
      long = omega (arith, length-append l (j ∷ []), r.long);
      inside = λ i m. ⊎_elim (λ x. r.inside i x) (λ x. subst (λ (y : ℕ). y < length S) (sym (Memᴰ.eq_of_singleton x)) h) (Memᴰ.append_cases l m);
    }

    -- where a path of k nodes leads to j, some place leads there
    pub leads-some : (k j : ℕ) → T (arrives st nx S (suc (suc k)) (at j))
        → (i : ℕ) × (least (leads st nx S d (suc k) (at j)) 0 (length S) ≡ some i) × (i < length S) × T (arrives st nx S (suc k) (at i)) × T (nx (at i) (at j))
    unfolding arrives
    leads-some k j t =
        let r = any-in (λ a. nx a (at j)) (layer st nx S (suc k)) t in
        let p = layer-path st nx S (suc k) r.1 in
        let q = place d (end-in p) in
        let u = least-some (leads st nx S d (suc k) (at j)) (length S) q.0 q.1 (rw q.2 (yes_and (arrives st nx S (suc k) r.0) (nx r.0 (at j)) (arrives-is p) r.2)) in
        let v = and_yes (arrives st nx S (suc k) (at u.0)) (nx (at u.0) (at j)) u.3 in
        (u.0, u.1, u.2, v.0, v.1)

    pub back_one : (j : ℕ) → back st nx S d 1 j ≡ j ∷ []
    unfolding back
    back_one j = rw (least-none (leads st nx S d 0 (at j)) (length S) (λ i l t. t))

    pub back_read : (k j : ℕ) → j < length S → T (arrives st nx S k (at j)) → Read (at j) k (back st nx S d k j)
    unfolding back
    back_read zero j h t = absurd t
    back_read (suc zero) j h t = rw (back_one j) (read_first j h t)
    back_read (suc (suc k)) j h t =
        let r = leads-some k j t in
        rw r.1 (read_step j h (back_read (suc k) r.0 r.2 r.3) r.4)

    -- where a path of k nodes leads to a node that passes, one leads to the first place of such a node
    pub from_some : (p : A → Bool) (k : ℕ) {b : A} → Path st nx S b k → T (p b)
        → (j : ℕ) × (least (λ i. arrives st nx S k (at i) && p (at i)) 0 (length S) ≡ some j) × (j < length S) × T (arrives st nx S k (at j)) × T (p (at j))
    from_some p k {b} x g =
        let q = place d (end-in x) in
        let u = least-some (λ j. arrives st nx S k (at j) && p (at j)) (length S) q.0 q.1 (rw q.2 (yes_and (arrives st nx S k b) (p b) (arrives-is x) g)) in
        let v = and_yes (arrives st nx S k (at u.0)) (p (at u.0)) u.3 in
        (u.0, u.1, u.2, v.0, v.1)

    pub from_is : (p : A → Bool) (k j : ℕ) → least (λ i. arrives st nx S k (at i) && p (at i)) 0 (length S) ≡ some j → back_from st nx S d p k ≡ back st nx S d k j
    unfolding back_from
    from_is p k j e = rw (e, append-nil) refl

-- ---- and it is the first, read from the end

least-low : (p : ℕ → Bool) (n i j : ℕ) → least p 0 n ≡ some i → T (p j) → i ≤ j
least-low p n i j e t = go (least p 0 n) e (least-answer p 0 n)
  where
    go : (o : Option ℕ) → o ≡ some i → Answer p 0 n o → i ≤ j
    go none z a = let u : ◌≡◌ {A = ℕ} 0 1 = cc in absurd (omega arith)
    go (some k) z a = let u : k ≡ i = cc in omega (arith, a.2 j (omega arith) t)

module _ {A : Type 0} (st : A → Bool) (nx : A → A → Bool) (S : List A) (d : A) where
  along-path : {k j : ℕ} {l : List ℕ} → Along st nx S d k j l → Path st nx S (get_or S j d) k
  along-path (begin h t) = first (at_place d S _ h) t
  along-path (go_on p h t) = step (along-path p) (at_place d S _ h) t

  along-end : {k j : ℕ} {l : List ℕ} → Along st nx S d k j l → (m : List ℕ) × (l ≡ m ++ (j ∷ []))
  along-end (begin h t) = ([], refl)
  along-end (go_on {l = l} p h t) = (l, refl)

  back_end : (k j : ℕ) → T (arrives st nx S (suc k) (get_or S j d)) → (m : List ℕ) × (back st nx S d (suc k) j ≡ m ++ (j ∷ []))
  unfolding back
  back_end zero j t = ([], back_one st nx S d j)
  back_end (suc k) j t = let r = leads-some st nx S d k j t in (back st nx S d (suc k) r.0, rw r.1 refl)

  -- a path to the lower of two places does not come behind one to the other
  lower-first : (k : ℕ) {i j : ℕ} {l : List ℕ} → T (arrives st nx S (suc k) (get_or S i d)) → Along st nx S d (suc k) j l → i ≤ j
      → (i ≡ j → NotBehind (back st nx S d (suc k) i) l) → NotBehind (back st nx S d (suc k) i) l
  lower-first k {i} {j} t p h f =
      let a = back_end k i t in
      let b = along-end p in
      ⊎_elim f (λ (x : i < j). rw (a.1, b.1) (lower a.0 b.0 x)) (eq-or-lt_of_le h)

  next-first : (k : ℕ) {i j : ℕ} {l : List ℕ} → Along st nx S d (suc k) i l → j < length S → T (nx (get_or S i d) (get_or S j d)) → NotBehind (back st nx S d (suc k) i) l
      → NotBehind (back st nx S d (suc (suc k)) j) (l ++ (j ∷ []))
  unfolding back
  next-first k {i} {j} {l} p h t f =
      let r = leads-some st nx S d k j (arrives-is st nx S (step (along-path p) (at_place d S j h) t)) in
      let low = least-low _ (length S) r.0 i r.1 (yes_and (arrives st nx S (suc k) (get_or S i d)) (nx (get_or S i d) (get_or S j d)) (arrives-is st nx S (along-path p)) t) in
      rw r.1 (agree j (lower-first k r.3 p low (λ e. subst (λ (y : ℕ). NotBehind (back st nx S d (suc k) y) l) (sym e) f)))

  back-first : {k j : ℕ} {l : List ℕ} → Along st nx S d k j l → NotBehind (back st nx S d k j) l
  back-first (begin {j} h t) = rw (back_one st nx S d j) same
  back-first (go_on (begin u v) h t) = next-first 0 (begin u v) h t (back-first (begin u v))
  back-first (go_on (go_on {k} p u v) h t) = next-first k (go_on p u v) h t (back-first (go_on p u v))

  -- of the paths of k nodes to a node that passes, the one read back
  pub from_first : (p : A → Bool) (k : ℕ) {j : ℕ} {l : List ℕ} → Along st nx S d (suc k) j l → T (p (get_or S j d)) → NotBehind (back_from st nx S d p (suc k)) l
  from_first p k {j} {l} a t =
      let r = from_some st nx S d p (suc k) (along-path a) t in
      let low = least-low _ (length S) r.0 j r.1 (yes_and (arrives st nx S (suc k) (get_or S j d)) (p (get_or S j d)) (arrives-is st nx S (along-path a)) t) in
      rw (from_is st nx S d p (suc k) r.0 r.1) (lower-first k r.3 a low (λ e. subst (λ (y : ℕ). NotBehind (back st nx S d (suc k) y) l) (sym e) (back-first a)))

-- ---- the chosen path for a question

module _ (table : List Fact) (t : Fact) where
  -- the chosen path of k facts by w
  pub by_read : (w k : ℕ) {b : Fact} → Path (start_for w t) (next w) table b k → T (goal_for t b)
      → (e : Fact) × Read (start_for w t) (next w) table (fact 0 0 0) e k (chosen_by table t w k) × T (goal_for t e)
  unfolding chosen_by
  by_read w k p g =
      let r = from_some (start_for w t) (next w) table (fact 0 0 0) (goal_for t) k p g in
      (get_or table r.0 (fact 0 0 0), rw (from_is _ _ table _ (goal_for t) k r.0 r.1) (back_read _ _ table _ k r.0 r.2 r.3), r.4)

  chosen-some : (k : ℕ) → (h : HasPathFor table t) → h.count ≡ k → (PathPlaces table t (chosen_by table t (way_of table t k) k)) × (length (chosen_by table t (way_of table t k) k) ≡ k)
  unfolding way_of
  chosen-some k h e =
      let test : ℕ → Bool = λ w. any (goal_for t) (layer (start_for w t) (next w) table k) in
      let u = first_says test sp h.asked (in-any (goal_for t) (path-layer _ _ table (rw e at h.path)) h.goal) in
      let w : ℕ = way_of table t k in
      let y = any-in (goal_for t) (layer (start_for w t) (next w) table k) u.1 in
      let r = by_read w k (layer-path _ _ table k y.1) y.2 in
      let d = r.1 in
      (record { path = record { way = w; asked = u.0; end = r.0; count = k; path = d.path; goal = r.2 }; count = sym d.long; facts = d.facts; inside = d.inside }, d.long)

  -- of the paths of k facts by w, read from the end, it is the first
  by_first : (w k : ℕ) {j : ℕ} {l : List ℕ} → Along (start_for w t) (next w) table (fact 0 0 0) k j l → T (goal_for t (fact_in table j)) → NotBehind (chosen_by table t w k) l
  unfolding chosen_by
  by_first w zero a g = absurd (omega (arith, path-pos (along-path _ _ table _ a)))
  by_first w (suc k) a g = from_first (start_for w t) (next w) table (fact 0 0 0) (goal_for t) k a g

  -- the way: by neither, by dom where a path of so few facts goes by dom, and else by range
  pub way-plain : (k : ℕ) → eqb t.predicate type ≡ false → way_of table t k ≡ sp
  unfolding way_of
  way-plain k e = rw e (by_cases (any (goal_for t) (layer (start_for sp t) (next sp) table k)) (λ y. rw y refl) (λ y. rw y refl))

  pub way-dom : (k : ℕ) {b : Fact} → eqb t.predicate type ≡ true → Path (start_for dom t) (next dom) table b k → T (goal_for t b) → way_of table t k ≡ dom
  unfolding way_of
  way-dom k e p g = rw (e, of_T (any (goal_for t) (layer (start_for dom t) (next dom) table k)) (in-any (goal_for t) (path-layer _ _ table p) g)) refl

  pub way-range : (k : ℕ) {b : Fact} → eqb t.predicate type ≡ true → ((a : Fact) → Path (start_for dom t) (next dom) table a k → T (goal_for t a) → ⊥)
      → Path (start_for range t) (next range) table b k → T (goal_for t b) → way_of table t k ≡ range
  unfolding way_of
  way-range k e out p g =
      by_cases (any (goal_for t) (layer (start_for dom t) (next dom) table k))
      (λ y. let r = any-in (goal_for t) (layer (start_for dom t) (next dom) table k) (T_of _ y) in absurd (out r.0 (layer-path _ _ table k r.1) r.2))
      (λ y. rw (e, y, of_T (any (goal_for t) (layer (start_for range t) (next range) table k)) (in-any (goal_for t) (path-layer _ _ table p) g)) refl)

  -- what the chosen places of an answer are
  abbrev Says : Option ℕ → Option (List ℕ) → Type 0
  Says none r = r ≡ none
  Says (some k) r = (r ≡ some (chosen_by table t (way_of table t k) k)) × (length (chosen_by table t (way_of table t k) k) ≡ k) × PathPlaces table t (chosen_by table t (way_of table t k) k)

  says : (o : Option ℕ) → Best table t o → Says o (chosen_of table t o)
  unfolding chosen_of
  says none b = refl
  says (some k) b = let c = chosen-some k b.0.0 b.0.1 in (refl, c.1, c.0)

  chosen-says : Says (fewest table t) (chosen table t)
  unfolding chosen
  chosen-says = says (fewest table t) (fewest-best table t)

  -- the chosen path has the fewest facts, and there is none exactly where there is no path
  pub chosen-fewest : Option.map length (chosen table t) ≡ fewest table t
  chosen-fewest = go (fewest table t) (chosen table t) chosen-says
    where
      go : (o : Option ℕ) (r : Option (List ℕ)) → Says o r → Option.map length r ≡ o
      go none r s = rw s refl
      go (some k) r (e, f, p) = rw (e, f) refl

  -- it has at most as many facts as the table
  pub fewest-few : (k : ℕ) → fewest table t ≡ some k → k ≤ length table
  unfolding fewest
  fewest-few k e = omega (arith, least-below (reaches table t) 1 (length table) k e)

  module _ (places : List ℕ) (is : chosen table t ≡ some places) where
    -- the chosen places, and their number
    chosen_along : (o : Option ℕ) (r : Option (List ℕ)) → Says o r → r ≡ some places → PathPlaces table t places × (places ≡ chosen_by table t (way_of table t (length places)) (length places))
    chosen_along none r s e = let z : none ≡ some places = cc in let u : ◌≡◌ {A = ℕ} 0 1 = cc in absurd (omega arith)
    chosen_along (some k) r (x, f, p) e = let u : chosen_by table t (way_of table t k) k ≡ places = cc in let n : length places ≡ k = sym (ap length u) ∙ f in (rw u at p, rw n (sym u))

    -- it is a path
    pub chosen-path : PathPlaces table t places
    chosen-path = (chosen_along (fewest table t) (chosen table t) chosen-says is).0

    -- and of the paths of so few facts by its way, read from the end, it is the first
    pub chosen-first : {j : ℕ} {l : List ℕ} → Along (start_for (way_of table t (length places)) t) (next (way_of table t (length places))) table (fact 0 0 0) (length places) j l
        → T (goal_for t (fact_in table j)) → NotBehind places l
    chosen-first {l = l} a g =
        let e = (chosen_along (fewest table t) (chosen table t) chosen-says is).1 in
        subst (λ (x : List ℕ). NotBehind x l) (sym e) (by_first (way_of table t (length places)) (length places) a g)

-- ---- and can be printed

module _ (at : ℕ → Fact) where
  behind_places : (q : ℕ) (xs : List ℕ) → map at (place_behind at q xs) ≡ behind (at q) (map at xs)
  unfolding place_behind behind
  behind_places q [] = refl
  behind_places q (x ∷ xs) = by_cases (eqb (at x).predicate sp) (λ e. rw e (ap (λ (l : List Fact). at x ∷ l) (behind_places q xs))) (λ e. rw e refl)

  -- the facts at the places in printed order are the facts in printed order
  pub print-places : (l : List ℕ) → map at (print_places at l) ≡ print_order (map at l)
  unfolding print_places print_order
  print-places [] = refl
  print-places (x ∷ xs) = by_cases (named (at x).predicate) (λ e. rw e (behind_places x xs)) (λ e. rw e refl)

module _ (table : List Fact) (wf : (f : Fact) → f ∈ table → T (well_formed f)) (t : Fact) (ask : Askable t) (places : List ℕ) (is : chosen table t ≡ some places) where
  -- the facts at the chosen places, in printed order, are a derivation of a filling of t with as many table lines as places
  pub chosen-printable : (u : Fact) × Fills t u × Printable table u (print_order (map (fact_in table) places))
  chosen-printable =
      let s = chosen-path table t places is in
      let p = path-filling t wf ask s.path in
      (p.filling, p.fills, subst (λ (l : List Fact). Printable table p.filling (print_order l)) (p.facts ∙ sym s.facts) (path-printable table wf p.run))
