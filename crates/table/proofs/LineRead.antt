-- A line read field by field: it has a fact exactly where each field is one and byte 10 ends it.
-- Assumes nothing.
use Rattle.std.proofs.Common.{◌≡◌, true, false, List, ℕ, ◌+◌, ◌-◌, ◌*◌, get_or, Option, Some, None, Result, Ok, Err, refl, sym, ap, ◌∙◌, add_assoc, arith}
use Rattle.columns.proofs.Torn.{unread-torn, read-laid}
use Rattle.columns.specs.Lines.{laid_out, numbers_at, numbers_read}
use Rattle.facts.specs.declared.Fact.{Fact}
use Rattle.facts.specs.Facts.{fact}
use Rattle.facts.specs.declared.Refusal.{Refusal}
use Rattle.facts.specs.declared.Refusal.TheVariants.{Column}
use Rattle.facts.specs.declared.Refused.{Refused}
use Rattle.facts.specs.Results.{Verdict, Sound, Faulty, refused_at}
use Rattle.table.specs.Scans.{above, earns, first_earned}
use Rattle.table.specs.Tables.{line_fact, line_verdict}
use Rattle.table.specs.Judged.{line_read, judged, last_before, told, on_line, LineJudged, formed_line, ByOrder}
use Rattle.facts.proofs.Terms.{by_cases}
use Rattle.table.proofs.Scans.{ordered-line, judged-line}
use Rattle.table.proofs.Torn.{formed-laid}

-- a line is read by its numbers
pub numbers-none : (b : List ℕ) (i : ℕ) → None ≡ numbers_read 3 b (16 * i) → line_read b i ≡ None
unfolding line_read
numbers-none b i e = rw (unread-torn 3 b (16 * i) e)

pub numbers-some : (b : List ℕ) (i : ℕ) (ns : List ℕ) → Some ns ≡ numbers_read 3 b (16 * i) → line_read b i ≡ Some (fact (get_or ns 0 0) (get_or ns 1 0) (get_or ns 2 0))
unfolding line_read numbers_at line_fact
numbers-some b i ns e = let r = read-laid 3 b (16 * i) ns e in rw (r.0, ← r.1) (simp add_assoc)

-- what is laid out has its fact, and what is not has none
pub torn-read : (b : List ℕ) (i : ℕ) → laid_out 3 b (16 * i) ≡ false → line_read b i ≡ None
unfolding line_read
torn-read b i e = rw e

pub laid-read : (b : List ℕ) (i : ℕ) → laid_out 3 b (16 * i) ≡ true → line_read b i ≡ Some (line_fact b i)
unfolding line_read
laid-read b i e = rw e

-- a line without a fact earns 2
pub torn-told : (b : List ℕ) (i : ℕ) → line_read b i ≡ None → told (line_verdict b i) (line_fact b i) ≡ Err Column
unfolding line_verdict first_earned earns told
torn-told b i e = by_cases (laid_out 3 b (16 * i)) (λ l. let z : Some (line_fact b i) ≡ None = sym (laid-read b i l) ∙ e in absurd (cc)) (λ l. rw l)

-- and one with a fact earns what that does
pub line-told : (b : List ℕ) (i : ℕ) (last : Option Fact) (f : Fact) → last ≡ last_before (line_fact b) i → line_read b i ≡ Some f → told (judged last f) f ≡ told (line_verdict b i) (line_fact b i)
unfolding line_verdict
line-told b i last f h e =
    by_cases (laid_out 3 b (16 * i))
    (λ l. let g : Some (line_fact b i) ≡ Some f = sym (laid-read b i l) ∙ e in
    let k : line_fact b i ≡ f = cc in
    rw (← k, l, h) (ap (λ v. told v (line_fact b i)) (sym (judged-line (line_fact b) i))))
    (λ l. let z : None ≡ Some f = sym (torn-read b i l) ∙ e in absurd (cc))

-- where its fields say a well-formed fact, only its order is left to be tried
pub by-order : (b : List ℕ) (i : ℕ) (r : Result Fact Refusal) → LineJudged b i r → formed_line b i ≡ true → ByOrder b i r
unfolding line_verdict formed_line above
by-order b i r j e =
    let f = formed-laid b i e in
    let laid : laid_out 3 b (16 * i) ≡ true = f.0 in
    let o = ordered-line (line_fact b) i (line_fact b (i - 1)) (λ h. refl) f.1 in
    record { laid = laid; order = j ∙ rw laid (ap (λ v. told v (line_fact b i)) (sym o)) }

-- what is told of a verdict tells the verdict
pub told-fact : (v : Verdict) (f g : Fact) → Ok g ≡ told v f → (v ≡ Sound) × (g ≡ f)
unfolding told
told-fact Sound f g e = (refl, cc)
told-fact (Faulty r) f g e = let z : ◌≡◌ {A = ℕ} 0 1 = cc in absurd (omega arith)

pub told-refusal : (v : Verdict) (f : Fact) (r : Refusal) → Err r ≡ told v f → v ≡ Faulty r
unfolding told
told-refusal Sound f r e = let z : ◌≡◌ {A = ℕ} 0 1 = cc in absurd (omega arith)
told-refusal (Faulty q) f r e = cc

-- what is found on a line, told by what is said with its place
pub placed-ok : {A : Type 0} (v : Result A Refusal) (i : ℕ) (x : A) → Ok x ≡ on_line i v → v ≡ Ok x
unfolding on_line
placed-ok (Ok y) i x e = let z : y ≡ x = cc in ap Ok z
placed-ok (Err r) i x e = let z : ◌≡◌ {A = ℕ} 0 1 = cc in absurd (omega arith)

pub placed-err : {A : Type 0} (v : Result A Refusal) (i : ℕ) (s : Refused) → Err s ≡ on_line i v → (r : Refusal) × (v ≡ Err r) × (s ≡ refused_at r (i + 1))
unfolding on_line
placed-err (Ok y) i s e = let z : ◌≡◌ {A = ℕ} 0 1 = cc in absurd (omega arith)
placed-err (Err r) i s e = (r, refl, cc)
