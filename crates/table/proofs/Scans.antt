-- Laws of verdicts and scans.
-- Assumes nothing.
use mathlib.Core.Path.{◌≡◌, refl, sym, ◌∙◌}
use mathlib.Core.Bool.{Bool, true, false, cond, not, ◌||◌}
use Prim.Native.Nat.{ℕ, zero, suc, ◌+◌, ◌-◌, ◌<◌}
use native.Mathlib.Omega.{arith}
use native.Mathlib.Numerals.{add-one}
use lib.Dec.{eqb}
use Rattle.std.specs.Prelude.{Some, None}
use borrow.Author.Tests.{eqb-false, ne_eqb}
use Rattle.facts.specs.declared.Fact.{Fact}
use Rattle.facts.specs.declared.Refusal.{Refusal}
use Rattle.facts.specs.declared.Refusal.TheVariants.{Term, Blank, Part, Class, Order}
use Rattle.facts.specs.Results.{Verdict, Sound, Faulty}
use Rattle.facts.specs.Facts.{well_formed, has_no_term, has_blank, misplaced, text_as_class, fault_of, order_of, verdict_of, before, or_else}
use Rattle.facts.proofs.Terms.{by_cases}
use Rattle.facts.proofs.Facts.{verdict-formed}
use Rattle.table.specs.Results.{Passes, Stops}
use Rattle.table.specs.Scans.{above, earns, tried, first_earned, onward, scan}
use Rattle.table.specs.Judged.{judged, last_before}

-- tests in a row, the last of them apart
in-turn : (a b c d e : Bool) (x y z w v : Refusal)
    → cond a (Faulty x) (cond b (Faulty y) (cond c (Faulty z) (cond d (Faulty w) (cond (not e) (Faulty v) Sound))))
    ≡ or_else (cond a (Faulty x) (cond b (Faulty y) (cond c (Faulty z) (cond d (Faulty w) Sound)))) (cond e Sound (Faulty v))
unfolding or_else
in-turn true b c d e x y z w v = refl
in-turn false true c d e x y z w v = refl
in-turn false false true d e x y z w v = refl
in-turn false false false true e x y z w v = refl
in-turn false false false false true x y z w v = refl
in-turn false false false false false x y z w v = refl

positive : (i : ℕ) → (i ≡ 0 → ⊥) → 0 < i
positive zero n = absurd (n refl)
positive (suc i) n = omega arith

above-last : (at : ℕ → Fact) (i : ℕ) (last : Fact) → (0 < i → last ≡ at (i - 1)) → above at i ≡ eqb i 0 || before last (at i)
unfolding above
above-last at i last h = by_cases (eqb i 0) (λ e. rw e) (λ e. let n = eqb-false i 0 e in rw (e, h (positive i n)))

-- a line that is laid out earns what its fact does, with last the fact before it, if there is one
pub verdict-line : (at : ℕ → Fact) (i : ℕ) (last : Fact) → (0 < i → last ≡ at (i - 1)) → verdict_of (eqb i 0 || before last (at i)) (at i) ≡ first_earned (earns true at i) tried
unfolding first_earned earns verdict_of order_of fault_of
verdict-line at i last h =
    rw (← above-last at i last h)
    (sym (in-turn (has_no_term (at i)) (has_blank (at i)) (misplaced (at i)) (text_as_class (at i)) (above at i) Term Blank Part Class Order))

-- where its fact is well-formed, by its order alone
pub ordered-line : (at : ℕ → Fact) (i : ℕ) (last : Fact) → (0 < i → last ≡ at (i - 1)) → well_formed (at i) ≡ true
    → order_of (eqb i 0 || before last (at i)) ≡ first_earned (earns true at i) tried
ordered-line at i last h w = sym (verdict-formed (at i) (eqb i 0 || before last (at i)) w) ∙ verdict-line at i last h

-- a line that is laid out is judged by its fact and the fact before it
pub judged-line : (at : ℕ → Fact) (i : ℕ) → first_earned (earns true at i) tried ≡ judged (last_before at i) (at i)
unfolding judged last_before
judged-line at zero = sym (verdict-line at 0 (at 0) (λ h. absurd (omega arith)))
judged-line at (suc i) =
    let n : suc i - 1 ≡ i = omega arith in
    let z : eqb (suc i) 0 ≡ false = ne_eqb (suc i) 0 (λ e. omega (arith, e)) in
    sym (rw z at (verdict-line at (suc i) (at i) (λ h. rw n refl)))

-- the first has no fact before it, and any other the one at the place before
pub last-none : (at : ℕ → Fact) (i : ℕ) → i ≡ 0 → last_before at i ≡ None
unfolding last_before
last-none at i e = rw e

pub last-some : (at : ℕ → Fact) (i : ℕ) → 0 < i → last_before at i ≡ Some (at (i - 1))
unfolding last_before
last-some at zero h = absurd (omega arith)
last-some at (suc i) h = let n : suc i - 1 ≡ i = omega arith in rw n

-- a scan goes on behind a line that is sound, and stops at one that is not
pub scan-on : (judge : ℕ → Verdict) (n i : ℕ) → i < n → judge i ≡ Sound → scan judge i (n - i) ≡ scan judge (i + 1) (n - (i + 1))
unfolding scan onward
scan-on judge n i h e = let m : n - i ≡ suc (n - (i + 1)) = omega arith in rw (m, e, add-one)

pub scan-stop : (judge : ℕ → Verdict) (n i : ℕ) {r : Refusal} → i < n → judge i ≡ Faulty r → scan judge i (n - i) ≡ Stops r (i + 1)
unfolding scan onward
scan-stop judge n i h e = let m : n - i ≡ suc (n - (i + 1)) = omega arith in rw (m, e, add-one)

pub scan-end : (judge : ℕ → Verdict) (n i : ℕ) → i ≡ n → scan judge i (n - i) ≡ Passes n
unfolding scan
scan-end judge n i e = let m : n - i ≡ zero = omega arith in rw (m, e)
