-- Lines as the grammar has them: which are refused, and the statements of those that are not.
-- Assumes nothing.
use mathlib.Core.Path.{◌≡◌, refl, sym, ap, subst, ◌∙◌}
use mathlib.Core.Logic.{◌↔◌}
use mathlib.Core.List.{List, [], ◌∷◌, ◌++◌}
use Prim.Native.Nat.{ℕ, suc}
use native.Mathlib.Omega.{arith}
use Rattle.facts.specs.declared.Refusal.{Refusal}
use Rattle.facts.specs.declared.Refusal.TheVariants as refusals
use Rattle.facts.specs.Results.{Verdict, Sound, Faulty}
use Rattle.std.specs.Prelude.{Some, None, Ok, Err}
use Rattle.ntriples.specs.declared.Triple.{Triple}
use Rattle.ntriples.specs.declared.LineFault.TheVariants.{Outside, Unknown}
use Rattle.ntriples.specs.Tokens.{spanned}
use Rattle.ntriples.specs.Grammar.{Silent}
use Rattle.ntriples.specs.Lexed.{Line, line_of}
use Rattle.ntriples.specs.Outcomes.{States, ReadAs}
use Rattle.ntriples.proofs.Outcomes.{outcomes}
use Rattle.imports.specs.Results.{Finding, Clear}
use Rattle.imports.specs.Lines.{Statement, said_by, said, statements}
use Rattle.imports.specs.Import.{line_refusal, found_on, first_on}
use Rattle.imports.proofs.Findings.{found-clear}
use Rattle.promises.specs.Import.{Reads, end, silent, states, LineRefused, outside, unknown}

-- what earns nothing earns no refusal
pub not-faulty : {X : Type 0} {v : Verdict} {r : Refusal} → v ≡ Sound → v ≡ Faulty r → X
not-faulty {X} {v} {r} p q = let w : Sound ≡ Faulty r = sym p ∙ q in let z : ◌≡◌ {A = ℕ} 0 1 = cc in absurd (omega arith)

-- ---- what a line earns

earned : (l : List ℕ) (v : Line) (r : Refusal) → line_of l ≡ v → line_refusal v ≡ Faulty r → LineRefused l r
unfolding line_refusal
earned l (Err Outside) r e h = let q : refusals.Statement ≡ r = cc in subst (LineRefused l) q (outside ((outcomes l).outside.0 e))
earned l (Err Unknown) r e h = let q : refusals.UnknownNode ≡ r = cc in subst (LineRefused l) q (unknown ((outcomes l).unknown.0 e))
earned l (Ok t) r e h = not-faulty refl h

earns : {l : List ℕ} {r : Refusal} → LineRefused l r → line_refusal (line_of l) ≡ Faulty r
unfolding line_refusal
earns {l} (outside s) = ap line_refusal ((outcomes l).outside.1 s)
earns {l} (unknown s) = ap line_refusal ((outcomes l).unknown.1 s)

pub line_refused : (l : List ℕ) (r : Refusal) → line_refusal (line_of l) ≡ Faulty r ↔ LineRefused l r
line_refused l r = (earned l (line_of l) r refl, earns)

-- ---- what the lines say

-- the statement that is read off a line
read_as : (l : List ℕ) (s : Statement) → ReadAs l s.subject s.predicate s.object → said l ≡ s ∷ []
unfolding said_by
read_as l s h = ap (said_by l) h.line ∙ rw (h.subject, h.predicate, h.object) refl

pub states-said : (l : List ℕ) (s : Statement) → States l s.subject s.predicate s.object → said l ≡ s ∷ []
states-said l s h = read_as l s (((outcomes l).triple s.subject s.predicate s.object).1 h)

pub silent-said : (l : List ℕ) → Silent l → said l ≡ []
unfolding said_by
silent-said l h = ap (said_by l) ((outcomes l).nothing.1 h)

-- a line that says something states it
pub said-states : (l : List ℕ) (t : Triple) → line_of l ≡ Ok (Some t) → States l (spanned l t.subject) (spanned l t.predicate) (spanned l t.object)
said-states l t e =
    ((outcomes l).triple (spanned l t.subject) (spanned l t.predicate) (spanned l t.object)).0 (record { places = t; line = e; subject = refl; predicate = refl; object = refl })

-- lines that earn neither 13 nor 14 are read
pub clear_reads : (i : ℕ) (ls : List (List ℕ)) → first_on (λ l. line_refusal (line_of l)) i ls ≡ Clear → Reads ls (statements ls)
unfolding first_on statements
clear_reads i [] e = end
clear_reads i (l ∷ ls) e =
    let c = found-clear (line_refusal (line_of l)) i (first_on (λ l. line_refusal (line_of l)) (suc i) ls) e in
    go (line_of l) refl c.0 (clear_reads (suc i) ls c.1)
  where
    go : (v : Line) → line_of l ≡ v → line_refusal (line_of l) ≡ Sound → Reads ls (statements ls) → Reads (l ∷ ls) (said l ++ statements ls)
    go (Err Outside) e s r = not-faulty s ((line_refused l refusals.Statement).1 (outside ((outcomes l).outside.0 e)))
    go (Err Unknown) e s r = not-faulty s ((line_refused l refusals.UnknownNode).1 (unknown ((outcomes l).unknown.0 e)))
    go (Ok None) e s r = let h = (outcomes l).nothing.0 e in rw (silent-said l h) (silent h r)
    go (Ok (Some p)) e s r =
        let h = said-states l p e in
        let t : Statement = record { subject = spanned l p.subject; predicate = spanned l p.predicate; object = spanned l p.object } in
        rw (states-said l t h) (states h r)

-- and what is read is what those lines say
pub reads-said : {ls : List (List ℕ)} {ss : List Statement} → Reads ls ss → ss ≡ statements ls
unfolding statements
reads-said end = refl
reads-said (silent {l} {ls} {ss} h r) = reads-said r ∙ sym (ap (λ (x : List Statement). x ++ statements ls) (silent-said l h))
reads-said (states {l} {ls} {s} {ss} h r) = ap (λ (x : List Statement). s ∷ x) (reads-said r) ∙ sym (ap (λ (x : List Statement). x ++ statements ls) (states-said l s h))

line-sound : (l : List ℕ) (v : Line) → line_of l ≡ v → line_refusal v ≡ Sound → (i : ℕ) (later : Finding) → later ≡ Clear → found_on (line_refusal (line_of l)) i later ≡ Clear
unfolding found_on
line-sound l v e s i later c = ap (λ (x : Verdict). found_on x i later) (ap line_refusal e ∙ s) ∙ c

pub reads-clear : {ls : List (List ℕ)} {ss : List Statement} (i : ℕ) → Reads ls ss → first_on (λ l. line_refusal (line_of l)) i ls ≡ Clear
unfolding first_on line_refusal
reads-clear i end = refl
reads-clear i (silent {l} {ls} {ss} h r) = line-sound l (Ok None) ((outcomes l).nothing.1 h) refl i _ (reads-clear (suc i) r)
reads-clear i (states {l} {ls} {s} {ss} h r) =
    let t = ((outcomes l).triple s.subject s.predicate s.object).1 h in
    line-sound l (Ok (Some t.places)) t.line refl i _ (reads-clear (suc i) r)
