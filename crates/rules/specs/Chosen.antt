-- Which of the shortest paths for a question is meant: by domain, and by range only where that is shorter; of those the one whose
-- last fact stands first in the table, then whose last but one, and so on.
-- Assumes nothing.
use Rattle.std.specs.Prelude.{◌≡◌, Bool, ◌&&◌, length, get_or, T, eqb}
use Rattle.std.proofs.Math.Bool.{false, cond}
use Rattle.std.proofs.Math.Option.{Option, none, some}
use mathlib.Core.List.{List, [], ◌∷◌, ◌++◌, map}
use Prim.Native.Nat.{ℕ, zero, suc, ◌<◌}
use Rattle.facts.specs.declared.Fact.{Fact}
use Rattle.facts.specs.Terms.{kind_of, sp}
use Rattle.facts.specs.Facts.{fact}
use Rattle.rules.specs.Graph.{◌∈◌, any, nodes, layer, least}
use Rattle.rules.specs.Paths.{named, start_for, next, goal_for, ways, HasPathFor, fewest}

-- the first element that passes, or else d
unfoldable pub first_of : {A : Type 0} → (A → Bool) → A → List A → A
first_of p d [] = d
first_of p d (x ∷ xs) = cond (p x) x (first_of p d xs)

-- the places that f gives for a place, if there is one, and then l
unfoldable pub grown : (ℕ → List ℕ) → Option ℕ → List ℕ → List ℕ
grown f none l = l
grown f (some i) l = f i ++ l

module _ {A : Type 0} (start : A → Bool) (next : A → A → Bool) (S : List A) where
  -- a path of k nodes of S leads to b
  unfoldable pub arrives : ℕ → A → Bool
  unfolding any layer
  arrives zero b = false
  arrives (suc zero) b = start b
  arrives (suc (suc k)) b = any (λ a. next a b) (layer start next S (suc k))

module _ {A : Type 0} (start : A → Bool) (next : A → A → Bool) (S : List A) (d : A) where
  -- the place i ends a path of k nodes, and b may follow it
  abbrev pub leads : ℕ → A → ℕ → Bool
  leads k b i = arrives start next S k (get_or S i d) && next (get_or S i d) b

  -- the places of a path of k nodes to the place j: before each stands the first place that leads there
  unfoldable pub back : ℕ → ℕ → List ℕ
  unfolding grown least arrives
  back zero j = []
  back (suc k) j = grown (back k) (least (leads k (get_or S j d)) 0 (length S)) (j ∷ [])

  -- the places of a path of k nodes to the first place that passes
  unfoldable pub back_from : (A → Bool) → ℕ → List ℕ
  unfolding grown least arrives back
  back_from goal k = grown (back k) (least (λ j. arrives start next S k (get_or S j d) && goal (get_or S j d)) 0 (length S)) []

  -- the places of a path of k nodes to the place j
  pub data Along : ℕ → ℕ → List ℕ → Type 0 where
    begin : {j : ℕ} → j < length S → T (start (get_or S j d)) → Along 1 j (j ∷ [])
    go_on : {k i j : ℕ} {l : List ℕ} → Along k i l → j < length S → T (next (get_or S i d) (get_or S j d)) → Along (suc k) j (l ++ (j ∷ []))

-- read from the end, the places l do not come behind m: they are the same, or where they first differ l has the lower
pub data NotBehind : List ℕ → List ℕ → Type 0 where
  same : {l : List ℕ} → NotBehind l l
  lower : (l m : List ℕ) {i j : ℕ} → i < j → NotBehind (l ++ (i ∷ [])) (m ++ (j ∷ []))
  agree : {l m : List ℕ} (i : ℕ) → NotBehind l m → NotBehind (l ++ (i ∷ [])) (m ++ (i ∷ []))

-- the way of the shortest paths of k facts: by dom, if one goes by dom
unfoldable pub way_of : List Fact → Fact → ℕ → ℕ
unfolding first_of any layer start_for next goal_for ways
way_of table t k = first_of (λ w. any (goal_for t) (layer (start_for w t) (next w) table k)) sp (ways t)

-- the places, counted from 0, of the chosen path of k facts by w
unfoldable pub chosen_by : List Fact → Fact → ℕ → ℕ → List ℕ
unfolding back_from start_for next goal_for
chosen_by table t w k = back_from (start_for w t) (next w) table (fact 0 0 0) (goal_for t) k

-- that of k facts, if a number is given
unfoldable pub chosen_of : List Fact → Fact → Option ℕ → Option (List ℕ)
unfolding way_of chosen_by
chosen_of table t none = none
chosen_of table t (some k) = some (chosen_by table t (way_of table t k) k)

-- the places of the chosen path for t, if there is a path
unfoldable pub chosen : List Fact → Fact → Option (List ℕ)
unfolding chosen_of fewest
chosen table t = chosen_of table t (fewest table t)

-- the fact at a place of a table
abbrev pub fact_in : List Fact → ℕ → Fact
fact_in table i = get_or table i (fact 0 0 0)

-- the facts at the places, in order, are those of a path for t
pub record PathPlaces (table : List Fact) (t : Fact) (places : List ℕ) : Type 0 where
  pub path : HasPathFor table t
  pub count : path.count ≡ length places
  pub facts : map (fact_in table) places ≡ nodes path.path
  pub inside : (i : ℕ) → i ∈ places → i < length table

module _ (at : ℕ → Fact) where
  -- the place q behind the places of sp facts that come first
  unfoldable pub place_behind : ℕ → List ℕ → List ℕ
  place_behind q [] = q ∷ []
  place_behind q (x ∷ xs) = let r = place_behind q xs in cond (eqb (at x).predicate sp) (x ∷ r) (q ∷ x ∷ xs)

  -- the places of a path in the order in which their facts are printed
  unfoldable pub print_places : List ℕ → List ℕ
  unfolding place_behind kind_of
  print_places [] = []
  print_places (x ∷ xs) = cond (named (at x).predicate) (place_behind x xs) (x ∷ xs)
