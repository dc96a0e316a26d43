-- The answer of the search.
-- Assumes nothing.
use Rattle.std.specs.Prelude.{◌≡◌, Bool, true, false, Option as Maybe, None, Some, List, ℕ, ◌≤◌, length, ltb}
use Rattle.std.proofs.Math.Option.{Option, none, some}
use Rattle.facts.specs.declared.Fact.{Fact}
use Rattle.rules.specs.Chosen.{chosen, chosen_by}
use Rattle.question.specs.declared.State.{State}
use Rattle.question.specs.State.{Left}
use Rattle.columns.specs.Lines.{over}

-- the number of a path's places, if there is a path
abbrev pub found_of : Option (List ℕ) → Maybe ℕ
found_of none = None
found_of (some places) = Some (length places)

-- and what is then in the lent places
abbrev pub places_of : Option (List ℕ) → List ℕ → List ℕ
places_of none before = before
places_of (some places) before = over places before

-- the answer is that for the chosen path, and its places are written
pub record Finds (facts : List Fact) (t : Fact) (before after : List ℕ) (r : Maybe ℕ) : Type 0 where
  pub result : r ≡ found_of (chosen facts t)
  pub places : after ≡ places_of (chosen facts t) before

-- what the answer from one search needs, that met a goal after f facts, or none, and left the state s
pub record Given (facts : List Fact) (w : ℕ) (t : Fact) (f : Maybe ℕ) (s : State) (size : ℕ) : Type 0 where
  pub left : Left facts w t f s
  pub room : length facts ≤ size

-- and what it is
abbrev pub FindsBy : List Fact → ℕ → Fact → Maybe ℕ → List ℕ → List ℕ → Maybe ℕ → Type 0
FindsBy facts w t None before after r = (r ≡ None) × (after ≡ before)
FindsBy facts w t (Some f) before after r = (r ≡ Some f) × (after ≡ over (chosen_by facts t w f) before)

-- a search met a goal after fewer facts than another
abbrev pub shorter : Maybe ℕ → Maybe ℕ → Bool
shorter None g = false
shorter (Some f) None = true
shorter (Some f) (Some g) = ltb f g
