-- A fact as one number, its key: keys are in order as their facts are. And a row that has the keys of facts in its front.
-- Assumes nothing.
use Rattle.std.specs.Prelude.{◌≡◌, ℕ, suc, ◌+◌, ◌*◌, ◌/◌, ◌%◌, ◌≤◌, ◌<◌, length, get_or, take, T, Result, Ok, Err}
use mathlib.Core.List.{List, map, Memᴰ}
use Rattle.facts.specs.declared.Fact.{Fact}
use Rattle.facts.specs.Facts.{fact}
use Rattle.table.specs.Tables.{ascending}
use Rattle.gathering.specs.Gathered.{with}

unfoldable pub key_of : Fact → ℕ
key_of f = (f.subject * 65536 + f.predicate) * 65536 + f.object

-- the fact that a key is of
unfoldable pub fact_of_key : ℕ → Fact
fact_of_key k = fact (k / 4294967296) (k / 65536 % 65536) (k % 65536)

-- each of its numbers has 16 bits
pub record Narrow (f : Fact) : Type 0 where
  pub subject : f.subject < 65536
  pub predicate : f.predicate < 65536
  pub object : f.object < 65536

-- the first n numbers of a row are the keys of these facts, which ascend
pub record Holds (keys : List ℕ) (n : ℕ) (gs : List Fact) : Type 0 where
  pub count : n ≡ length gs
  pub room : n ≤ length keys
  pub keys_of : take n keys ≡ map key_of gs
  pub narrow : (g : Fact) → Memᴰ g gs → Narrow g
  pub ascends : T (ascending gs)

-- ---- where a key belongs

-- the first n numbers of a row rise
pub record Rises (keys : List ℕ) (n : ℕ) : Type 0 where
  pub room : n ≤ length keys
  pub rising : (i : ℕ) → suc i < n → get_or keys i 0 < get_or keys (suc i) 0

-- the first r of n numbers are below the key, and the others are not
pub record Cut (keys : List ℕ) (n key r : ℕ) : Type 0 where
  pub within : r ≤ n
  pub below : (i : ℕ) → i < r → get_or keys i 0 < key
  pub above : (i : ℕ) → r ≤ i → i < n → key ≤ get_or keys i 0

-- the place at which the key stands, or else the one at which it belongs
abbrev pub Found : List ℕ → ℕ → ℕ → Result ℕ ℕ → Type 0
Found keys n key (Ok k) = (k < n) × (get_or keys k 0 ≡ key)
Found keys n key (Err k) = Cut keys n key k × (k < n → get_or keys k 0 ≡ key → ⊥)

-- ---- one more fact

-- f's key is put among them, unless it is there, and r of them are held then
pub record Adds (f : Fact) (before after : List ℕ) (r : ℕ) (gs : List Fact) : Type 0 where
  pub size : length after ≡ length before
  pub held : Holds after r (with f gs)

-- so for whatever facts they were
abbrev pub AddsTo : Fact → List ℕ → List ℕ → ℕ → ℕ → Type 0
AddsTo f before after n r = (gs : List Fact) → Holds before n gs → Adds f before after r gs
