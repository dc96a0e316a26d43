-- Laws of judging line by line: one pass finds the first 13 or 14, and else the first 5 or 12.
-- Assumes nothing.
use Rattle.std.specs.Prelude.{Err}
use mathlib.Core.Path.{◌≡◌, refl}
use mathlib.Core.List.{List, [], ◌∷◌}
use Prim.Native.Nat.{ℕ, ◌+◌}
use native.Mathlib.Numerals.{add-one}
use Rattle.facts.specs.declared.Fact.{Fact}
use Rattle.facts.specs.declared.Refusal.{Refusal}
use Rattle.facts.specs.Results.{Verdict, Sound, Faulty}
use Rattle.ntriples.specs.Lexed.{line_of}
use Rattle.imports.specs.Results.{Finding, Clear, Fault}
use Rattle.imports.specs.Lines.{Statement, said}
use Rattle.imports.specs.Import.{line_refusal, fact_refusal, found_on, first_on, or_else, judged_by}

-- what is found or else held, or else found next
else-assoc : (f g h : Finding) → or_else f (or_else g h) ≡ or_else (or_else f g) h
unfolding or_else
else-assoc Clear g h = refl
else-assoc (Err stop) g h = refl

-- a verdict on a line, and then what is found behind it
found-next : (v : Verdict) (i : ℕ) (later : Finding) → found_on v i later ≡ or_else (found_on v i Clear) later
unfolding found_on or_else
found-next Sound i later = refl
found-next (Faulty r) i later = refl

pub else-clear : (f : Finding) → or_else f Clear ≡ f
unfolding or_else
else-clear Clear = refl
else-clear (Err stop) = refl

module _ (f : Statement → Fact) where
  -- what the lines from line i on come to, where `held` is the first 5 or 12 of those before
  unfoldable pub onward : Finding → ℕ → List (List ℕ) → Finding
  unfolding or_else line_refusal fact_refusal first_on
  onward held i ls = or_else (first_on (λ l. line_refusal (line_of l)) i ls) (or_else held (first_on (λ l. fact_refusal f (said l)) i ls))

  pub onward-all : (ls : List (List ℕ)) → onward Clear 0 ls ≡ judged_by f ls
  unfolding onward judged_by
  onward-all ls = refl

  pub onward-none : (held : Finding) (i : ℕ) → onward held i [] ≡ held
  unfolding onward
  onward-none held i = else-clear held

  -- a line that earns 13 or 14 ends it
  pub onward_stops : (held : Finding) (i : ℕ) (l : List ℕ) (ls : List (List ℕ)) (r : Refusal) → line_refusal (line_of l) ≡ Faulty r → onward held i (l ∷ ls) ≡ Fault r (i + 1)
  unfolding onward
  onward_stops held i l ls r e = rw (e, add-one i)

  -- after any other what its fact earns is held, where nothing was
  pub onward-next : (held : Finding) (i : ℕ) (l : List ℕ) (ls : List (List ℕ)) → line_refusal (line_of l) ≡ Sound
      → onward held i (l ∷ ls) ≡ onward (or_else held (found_on (fact_refusal f (said l)) i Clear)) (i + 1) ls
  unfolding onward
  onward-next held i l ls e = rw (e, found-next (fact_refusal f (said l)) i, else-assoc held, add-one i)
