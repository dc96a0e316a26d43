-- Lists of facts read one by one: what a scan that passes says of them, and when a scan passes.
-- Assumes nothing.
use mathlib.Core.Path.{◌≡◌, refl, sym, ◌∙◌}
use mathlib.Core.Logic.{◌↔◌, ⊎_elim}
use mathlib.Core.Bool.{Bool, true, false, cond}
use mathlib.Core.List.Memᴰ
use mathlib.Core.List.{List, [], ◌∷◌, Memᴰ}
use Prim.Native.Nat.{ℕ, zero, suc, ◌+◌, ◌-◌, ◌<◌}
use native.Mathlib.Omega.{arith}
use native.Mathlib.Nat.{add-zero, zero-add}
use lib.ListN.{length, get_or}
use lib.Dec.{T}
use mir.Facts.{and_yes, yes_and}
use borrow.Author.Tests.{ne_eqb}
use Rattle.columns.specs.Lines.{items_from}
use Rattle.columns.proofs.Lists.{items-listed}
use Rattle.facts.specs.declared.Fact.{Fact}
use Rattle.facts.specs.declared.Refusal.{Refusal}
use Rattle.facts.specs.declared.Refusal.TheVariants.{Order}
use Rattle.facts.specs.Results.{Verdict, Sound, Faulty}
use Rattle.facts.specs.Facts.{well_formed, fault_of, order_of, verdict_of, before, or_else}
use Rattle.facts.proofs.Terms.{T_of, of_T}
use Rattle.facts.proofs.Facts.{fault-none}
use Rattle.table.specs.Results.{Passes, Stops}
use Rattle.table.specs.Scans.{above, earns, tried, first_earned, onward, scan}
use Rattle.table.specs.Tables.{ascending, all_formed}
use Rattle.table.proofs.Scans.{verdict-line}

-- ---- scans

-- where a scan passes, each line is sound
pub scan-sound : (judge : ℕ → Verdict) (n i m : ℕ) → scan judge i n ≡ Passes m → (j : ℕ) → j < n → judge (i + j) ≡ Sound
unfolding scan onward
scan-sound judge zero i m e j h = absurd (omega arith)
scan-sound judge (suc n) i m e j h = go (judge i) refl j h (scan-sound judge n (suc i) m)
  where
    go : (v : Verdict) → judge i ≡ v → (j : ℕ) → j < suc n → (scan judge (suc i) n ≡ Passes m → (k : ℕ) → k < n → judge (suc i + k) ≡ Sound) → judge (i + j) ≡ Sound
    go (Faulty r) p j h rest = let q : Stops r (suc i) ≡ Passes m = rw p at e in let z : ◌≡◌ {A = ℕ} 0 1 = cc in absurd (omega arith)
    go Sound p zero h rest = rw add-zero p
    go Sound p (suc j) h rest = let s : i + suc j ≡ suc i + j = omega arith in rw s (rest (rw p at e) j (omega arith))

-- where each line is sound, a scan passes
pub scan-all : (judge : ℕ → Verdict) (n i : ℕ) → ((j : ℕ) → j < n → judge (i + j) ≡ Sound) → scan judge i n ≡ Passes (i + n)
unfolding scan onward
scan-all judge zero i h = rw add-zero
scan-all judge (suc n) i h =
    let s : i + suc n ≡ suc i + n = omega arith in
    rw (rw add-zero at (h 0 (omega arith)), s)
    (scan-all judge n (suc i) (λ j k. let t : suc i + j ≡ i + suc j = omega arith in rw t (h (suc j) (omega arith))))

-- ---- one line

-- a verdict that is sound has two parts
or_sound : (v w : Verdict) → or_else v w ≡ Sound → (v ≡ Sound) × (w ≡ Sound)
unfolding or_else
or_sound Sound w e = (refl, e)
or_sound (Faulty r) w e = let z : ◌≡◌ {A = ℕ} 0 1 = cc in absurd (omega arith)

in_order : (b : Bool) (r : Refusal) → cond b Sound (Faulty r) ≡ Sound → b ≡ true
in_order true r e = refl
in_order false r e = let z : ◌≡◌ {A = ℕ} 0 1 = cc in absurd (omega arith)

-- a line earns nothing exactly where it is laid out, its fact is well-formed, and it is above the one before
pub earns-none : (laid : Bool) (at : ℕ → Fact) (i : ℕ) → first_earned (earns laid at i) tried ≡ Sound ↔ ((laid ≡ true) × T (well_formed (at i)) × (above at i ≡ true))
unfolding first_earned earns above verdict_of order_of
earns-none false at i = (λ e. let z : ◌≡◌ {A = ℕ} 0 1 = cc in absurd (omega arith), λ h. let z : ◌≡◌ {A = ℕ} 0 1 = cc h.0 in absurd (omega arith))
earns-none true at i =
    let j = sym (verdict-line at i (at (i - 1)) (λ h. refl)) in (
      λ e. let p = or_sound (fault_of (at i)) _ (sym j ∙ e) in (refl, (fault-none (at i)).0 p.0, in_order (above at i) Order p.1),
      λ h. j ∙ rw ((fault-none (at i)).1 h.1, h.2) (unfold or_else in refl),
    )

-- ---- facts one by one

pub formed-from : (at : ℕ → Fact) (n i : ℕ) → ((j : ℕ) → j < n → T (well_formed (at (i + j)))) → T (all_formed (items_from at i n))
unfolding all_formed items_from
formed-from at zero i h = tt
formed-from at (suc n) i h =
    yes_and (well_formed (at i)) _ (rw add-zero at (h 0 (omega arith)))
    (formed-from at n (suc i) (λ j k. let t : suc i + j ≡ i + suc j = omega arith in rw t (h (suc j) (omega arith))))

pub ascends-from : (at : ℕ → Fact) (n i : ℕ) → ((j : ℕ) → suc j < n → T (before (at (i + j)) (at (i + suc j)))) → T (ascending (items_from at i n))
unfolding ascending items_from
ascends-from at zero i h = tt
ascends-from at (suc zero) i h = tt
ascends-from at (suc (suc n)) i h =
    let s : i + 1 ≡ suc i = omega arith in
    yes_and (before (at i) (at (suc i))) _ (rw (add-zero, s) at (h 0 (omega arith)))
    (ascends-from at (suc n) (suc i) (λ j k.
    let t : suc i + j ≡ i + suc j = omega arith in
    let u : suc i + suc j ≡ i + suc (suc j) = omega arith in
    rw (t, u) (h (suc j) (omega arith))))

pub formed-at : (facts : List Fact) (i : ℕ) (d : Fact) → T (all_formed facts) → i < length facts → T (well_formed (get_or facts i d))
unfolding all_formed
formed-at [] i d t h = absurd (omega arith)
formed-at (f ∷ fs) zero d t h = (and_yes (well_formed f) (all_formed fs) t).0
formed-at (f ∷ fs) (suc i) d t h = formed-at fs i d (and_yes (well_formed f) (all_formed fs) t).1 (omega arith)

pub ascends-at : (facts : List Fact) (i : ℕ) (d : Fact) → T (ascending facts) → suc i < length facts → T (before (get_or facts i d) (get_or facts (suc i) d))
unfolding ascending
ascends-at [] i d t h = absurd (omega arith)
ascends-at (a ∷ []) i d t h = absurd (omega arith)
ascends-at (a ∷ b ∷ fs) zero d t h = (and_yes (before a b) (ascending (b ∷ fs)) t).0
ascends-at (a ∷ b ∷ fs) (suc i) d t h = ascends-at (b ∷ fs) i d (and_yes (before a b) (ascending (b ∷ fs)) t).1 (omega arith)

-- ---- the facts that a scan passes

module _ (laid : ℕ → Bool) (at : ℕ → Fact) where
  abbrev Judge : ℕ → Verdict
  Judge i = first_earned (earns (laid i) at i) tried

  -- what passes is laid out, well-formed and ascending
  pub passes-says : (n m : ℕ) → scan Judge 0 n ≡ Passes m → ((i : ℕ) → i < n → laid i ≡ true) × T (all_formed (items_from at 0 n)) × T (ascending (items_from at 0 n))
  unfolding above
  passes-says n m e =
      let sound : (i : ℕ) → i < n → (laid i ≡ true) × T (well_formed (at i)) × (above at i ≡ true) =
      λ i h. (earns-none (laid i) at i).0 (rw zero-add at (scan-sound Judge n 0 m e i h)) in (
        λ i h. (sound i h).0,
        formed-from at n 0 (λ j h. rw zero-add (sound j h).1),
        ascends-from at n 0 (λ j h.
            let p = (sound (suc j) h).2 in
            let k : suc j - 1 ≡ j = omega arith in
            rw (zero-add, zero-add) (T_of _ (rw (ne_eqb (suc j) 0 (λ q. omega arith), k) at p))),
      )

  -- facts that are well-formed and ascending pass, where each stands in its place on a line that is laid out
  pub says-passes : (facts : List Fact) (d : Fact) → T (all_formed facts) → T (ascending facts)
      → ((i : ℕ) → i < length facts → (laid i ≡ true) × (at i ≡ get_or facts i d))
      → (scan Judge 0 (length facts) ≡ Passes (length facts)) × (items_from at 0 (length facts) ≡ facts)
  unfolding above
  says-passes facts d formed ascends placed =
      let above_at : (i : ℕ) → i < length facts → above at i ≡ true = λ i h. go i h in (
        rw zero-add at (scan-all Judge (length facts) 0 (λ j h. rw zero-add ((earns-none (laid j) at j).1 ((placed j h).0, rw (placed j h).1 (formed-at facts j d formed h), above_at j h)))),
        items-listed at facts 0 d (λ j h. rw zero-add (placed j h).1),
      )
    where
      go : (i : ℕ) → i < length facts → above at i ≡ true
      go zero h = refl
      go (suc i) h =
          let k : suc i - 1 ≡ i = omega arith in
          rw (ne_eqb (suc i) 0 (λ q. omega arith), k, (placed i (omega arith)).1, (placed (suc i) h).1) (of_T _ (ascends-at facts i d ascends h))

-- ---- facts of a list

pub formed-in : (facts : List Fact) (f : Fact) → T (all_formed facts) → Memᴰ f facts → T (well_formed f)
unfolding all_formed
formed-in [] f t m = absurd (Memᴰ.not-nil m)
formed-in (g ∷ fs) f t m =
    let p = and_yes (well_formed g) (all_formed fs) t in
    ⊎_elim (λ (e : f ≡ g). rw e p.0) (λ (l : Memᴰ f fs). formed-in fs f p.1 l) (Memᴰ.cases_cons m)
