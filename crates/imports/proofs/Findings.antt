-- What is found on lines: the first fault and its place, or none.
-- Assumes nothing.
use Rattle.std.specs.Prelude.{Err}
use mathlib.Core.Path.{◌≡◌, refl, sym, ap, ◌∙◌}
use mathlib.Core.Logic.{◌⊎◌, inl, inr, ⊎_elim}
use mathlib.Core.List.Memᴰ
use mathlib.Core.List.{List, [], ◌∷◌, Memᴰ}
use Prim.Native.Nat.{ℕ, zero, suc, ◌+◌, ◌<◌}
use native.Mathlib.Omega.{arith}
use lib.ListN.{length, get_or}
use Rattle.facts.proofs.Results.{same_parts}
use Rattle.facts.specs.declared.Fact.{Fact}
use Rattle.facts.specs.declared.Refusal.{Refusal}
use Rattle.facts.specs.Results.{Verdict, Sound, Faulty}
use Rattle.ntriples.specs.Lexed.{line_of}
use Rattle.imports.specs.Results.{Finding, Clear, Fault}
use Rattle.imports.specs.Lines.{Statement, said}
use Rattle.imports.specs.Import.{line_refusal, fact_refusal, found_on, first_on, or_else, judged_by}

not_found : {X : Type 0} {r : Refusal} {place : ℕ} → Fault r place ≡ Clear → X
not_found e = absurd (let z : ◌≡◌ {A = ℕ} 0 1 = ap told (sym e) in omega arith)
  where
    told : Finding → ℕ
    told Clear = 0
    told (Err stop) = 1

-- nothing found by either
pub both-clear : (f g : Finding) → or_else f g ≡ Clear → (f ≡ Clear) × (g ≡ Clear)
unfolding or_else
both-clear Clear g e = (refl, e)
both-clear (Err stop) g e = not_found e

-- a verdict on a line, and what is found behind it
pub found-clear : (v : Verdict) (i : ℕ) (later : Finding) → found_on v i later ≡ Clear → (v ≡ Sound) × (later ≡ Clear)
unfolding found_on
found-clear Sound i later e = (refl, e)
found-clear (Faulty r) i later e = not_found e

found-sound : (i : ℕ) (later : Finding) → later ≡ found_on Sound i later
unfolding found_on
found-sound i later = refl

found-faulty : (r : Refusal) (i : ℕ) (later : Finding) → Fault r (suc i) ≡ found_on (Faulty r) i later
unfolding found_on
found-faulty r i later = refl

-- nothing found: every line passes
pub all-clear : (judge : List ℕ → Verdict) (i : ℕ) (ls : List (List ℕ)) → first_on judge i ls ≡ Clear → (l : List ℕ) → Memᴰ l ls → judge l ≡ Sound
unfolding first_on
all-clear judge i [] e l m = absurd (Memᴰ.not-nil m)
all-clear judge i (x ∷ ls) e l m =
    let c = found-clear (judge x) i (first_on judge (suc i) ls) e in
    ⊎_elim (λ (q : l ≡ x). rw q c.0) (λ (n : Memᴰ l ls). all-clear judge (suc i) ls c.1 l n) (Memᴰ.cases_cons m)

-- line `at` of these is the first that a judgement refuses; lines are counted from i, and places from 1
pub record FirstFault (judge : List ℕ → Verdict) (i : ℕ) (ls : List (List ℕ)) (r : Refusal) (place : ℕ) : Type 0 where
  pub at : ℕ
  pub counted : place ≡ suc (i + at)
  pub within : at < length ls
  pub before : (j : ℕ) → j < at → judge (get_or ls j []) ≡ Sound
  pub here : judge (get_or ls at []) ≡ Faulty r

module _ (judge : List ℕ → Verdict) (i : ℕ) (l : List ℕ) (ls : List (List ℕ)) (r : Refusal) (place : ℕ) where
  first-behind : judge l ≡ Sound → FirstFault judge (suc i) ls r place → FirstFault judge i (l ∷ ls) r place
  first-behind e f = record { at = suc f.at; counted = omega (arith, f.counted); within = omega (arith, f.within); before = go; here = f.here }
    where
      go : (j : ℕ) → j < suc f.at → judge (get_or (l ∷ ls) j []) ≡ Sound
      go zero h = e
      go (suc j) h = f.before j (omega arith)

pub first_says : (judge : List ℕ → Verdict) (i : ℕ) (ls : List (List ℕ)) (r : Refusal) (place : ℕ) → first_on judge i ls ≡ Fault r place → FirstFault judge i ls r place
unfolding first_on
first_says judge i [] r place e = not_found (sym e)
first_says judge i (l ∷ ls) r place e = go (judge l) refl e (first_says judge (suc i) ls r place)
  where
    go : (v : Verdict) → judge l ≡ v → found_on v i (first_on judge (suc i) ls) ≡ Fault r place → (first_on judge (suc i) ls ≡ Fault r place → FirstFault judge (suc i) ls r place)
        → FirstFault judge i (l ∷ ls) r place
    go Sound p q later = first-behind judge i l ls r place p (later (found-sound i (first_on judge (suc i) ls) ∙ q))
    go (Faulty u) p q later =
        let w : Fault u (suc i) ≡ Fault r place = found-faulty u i (first_on judge (suc i) ls) ∙ q in
        let parts = same_parts w in
        let x : u ≡ r = parts.0 in
        let y : suc i ≡ place = parts.1 in
        record { at = 0; counted = omega arith; within = omega arith; before = λ j h. absurd (omega arith); here = p ∙ ap Faulty x }

first-is : (judge : List ℕ → Verdict) (i : ℕ) (ls : List (List ℕ)) (r : Refusal) (at : ℕ) → at < length ls → ((j : ℕ) → j < at → judge (get_or ls j []) ≡ Sound)
    → judge (get_or ls at []) ≡ Faulty r → first_on judge i ls ≡ Fault r (suc (i + at))
unfolding first_on
first-is judge i [] r at w b h = absurd (omega arith)
first-is judge i (l ∷ ls) r zero w b h =
    let e : suc i ≡ suc (i + 0) = omega arith in
    ap (λ (v : Verdict). found_on v i (first_on judge (suc i) ls)) h ∙ sym (found-faulty r i (first_on judge (suc i) ls)) ∙ ap (Fault r) e
first-is judge i (l ∷ ls) r (suc at) w b h =
    let e : suc (suc i + at) ≡ suc (i + suc at) = omega arith in
    ap (λ (v : Verdict). found_on v i (first_on judge (suc i) ls)) (b 0 (omega arith)) ∙ sym (found-sound i (first_on judge (suc i) ls))
    ∙ first-is judge (suc i) ls r at (omega arith) (λ j n. b (suc j) (omega arith)) h ∙ ap (Fault r) e

pub says_first : (judge : List ℕ → Verdict) (i : ℕ) (ls : List (List ℕ)) (r : Refusal) (place : ℕ) → FirstFault judge i ls r place → first_on judge i ls ≡ Fault r place
says_first judge i ls r place f = first-is judge i ls r f.at f.within f.before f.here ∙ ap (Fault r) (sym f.counted)

pub sound-clear : (judge : List ℕ → Verdict) (i : ℕ) (ls : List (List ℕ)) → ((j : ℕ) → j < length ls → judge (get_or ls j []) ≡ Sound) → first_on judge i ls ≡ Clear
unfolding first_on
sound-clear judge i [] h = refl
sound-clear judge i (l ∷ ls) h = ap (λ (v : Verdict). found_on v i (first_on judge (suc i) ls)) (h 0 (omega arith)) ∙ sym (found-sound i (first_on judge (suc i) ls)) ∙ sound-clear judge (suc i) ls (λ j n. h (suc j) (omega arith))

-- the first fault is a line's, or else, where no line has one, a fact's
pub else-fault : (f g : Finding) (r : Refusal) (place : ℕ) → or_else f g ≡ Fault r place → (f ≡ Fault r place) ⊎ ((f ≡ Clear) × (g ≡ Fault r place))
unfolding or_else
else-fault Clear g r place e = inr (refl, e)
else-fault (Err stop) g r place e = inl e

pub judged-fault : (f : Statement → Fact) (ls : List (List ℕ)) (r : Refusal) (place : ℕ) → judged_by f ls ≡ Fault r place
    → FirstFault (λ l. line_refusal (line_of l)) 0 ls r place ⊎ ((first_on (λ l. line_refusal (line_of l)) 0 ls ≡ Clear) × FirstFault (λ l. fact_refusal f (said l)) 0 ls r place)
unfolding judged_by
judged-fault f ls r place e =
    let line : List ℕ → Verdict = λ l. line_refusal (line_of l) in
    let fact : List ℕ → Verdict = λ l. fact_refusal f (said l) in
    ⊎_elim (λ (p : first_on line 0 ls ≡ Fault r place). inl (first_says line 0 ls r place p))
    (λ (p : (first_on line 0 ls ≡ Clear) × (first_on fact 0 ls ≡ Fault r place)). inr (p.0, first_says fact 0 ls r place p.1)) (else-fault (first_on line 0 ls) (first_on fact 0 ls) r place e)
