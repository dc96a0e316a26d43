-- What a line or a fact is judged by: itself and the fact before it.
-- Assumes nothing.
use Rattle.std.specs.Prelude.{◌≡◌, Bool, true, cond, ◌&&◌, List, ℕ, zero, suc, ◌+◌, ◌-◌, ◌*◌, ◌/◌, ◌≤◌, ◌<◌, length, get_or, eqb, Option, Some, None, Result, Ok, Err}
use Rattle.columns.specs.Fields.{field_at}
use Rattle.columns.specs.Lines.{laid_out}
use Rattle.facts.specs.declared.Fact.{Fact}
use Rattle.facts.specs.declared.Refusal.{Refusal}
use Rattle.facts.specs.declared.Refused.{Refused}
use Rattle.facts.specs.Results.{Verdict, Sound, Faulty, refused_at}
use Rattle.facts.specs.Facts.{fact, well_formed, order_of, verdict_of, before}
use Rattle.facts.specs.declared.Refusal.TheVariants.{Size}
use Rattle.table.specs.Scans.{above}
use Rattle.table.specs.Tables.{line_fact, line_verdict, sized}

-- the first of 3, 4, 5, 12, 6 that f earns, with last the fact before it, if there is one
unfoldable pub judged : Option Fact → Fact → Verdict
unfolding verdict_of
judged None f = verdict_of true f
judged (Some last) f = verdict_of (before last f) f

-- the fact before the one at i: the first has none
unfoldable pub last_before : (ℕ → Fact) → ℕ → Option Fact
last_before at zero = None
last_before at (suc i) = Some (at i)

-- the fact on line i, if the line is laid out
unfoldable pub line_read : List ℕ → ℕ → Option Fact
line_read b i = cond (laid_out 3 b (16 * i)) (Some (line_fact b i)) None

-- line i is there, and last is the fact on the line before, if there is one: on the first line it may be anything
pub record NextLine (b : List ℕ) (i : ℕ) (last : Option Fact) : Type 0 where
  pub there : 16 * i + 16 ≤ length b
  pub before : 0 < i → last ≡ Some (line_fact b (i - 1))

-- a fact that earns nothing, or the refusal that it earns
unfoldable pub told : Verdict → Fact → Result Fact Refusal
told Sound f = Ok f
told (Faulty r) f = Err r

-- line i's fact where it earns nothing, or else the first refusal that it earns
abbrev pub LineJudged : List ℕ → ℕ → Result Fact Refusal → Type 0
LineJudged b i r = r ≡ told (line_verdict b i) (line_fact b i)

-- the fields of line i say a well-formed fact, and byte 10 ends it
unfoldable pub formed_line : List ℕ → ℕ → Bool
formed_line b i = well_formed (fact (field_at b (16 * i)) (field_at b (16 * i + 5)) (field_at b (16 * i + 10))) && eqb (get_or b (16 * i + 15) 0) 10

-- line i is laid out, and only its order is left to be tried
pub record ByOrder (b : List ℕ) (i : ℕ) (r : Result Fact Refusal) : Type 0 where
  pub laid : laid_out 3 b (16 * i) ≡ true
  pub order : r ≡ told (order_of (above (line_fact b) i)) (line_fact b i)

-- what is found on line i, counted from 0, with the place of a refusal
unfoldable pub on_line : {A : Type 0} → ℕ → Result A Refusal → Result A Refused
on_line i (Ok x) = Ok x
on_line i (Err r) = Err (refused_at r (i + 1))

-- how many lines or facts of k bytes or numbers make up a size that is at most so much
unfoldable pub counted : ℕ → ℕ → ℕ → Result ℕ Refusal
unfolding sized
counted k most size = cond (sized k most size) (Ok (size / k)) (Err Size)
