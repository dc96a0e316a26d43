-- What the demands say of a question without a gap: it is what they said before.
-- Assumes nothing.
use mathlib.Core.Path.{◌≡◌, refl, sym, ap, ◌∙◌, subst}
use mathlib.Core.Logic.{◌↔◌, inr}
use mathlib.Core.Bool.{false}
use mathlib.Core.List.{List}
use Prim.Native.Nat.{ℕ}
use lib.ListN.{length}
use lib.Dec.{T}
use Rattle.facts.specs.declared.Fact.{Fact}
use Rattle.facts.specs.declared.Code.{Code}
use Rattle.facts.specs.declared.Refusal.{Refusal}
use Rattle.facts.specs.Facts.{well_formed, has_blank, fault_of}
use Rattle.facts.specs.Gaps.{Fills, Askable, gapless, question_fault}
use Rattle.facts.specs.Answers.{YesWith}
use Rattle.facts.proofs.Facts.{fault-none}
use Rattle.facts.proofs.Gaps.{question-none, fills-only, gapless-stays, blankless-passes}
use Rattle.rules.specs.Rules.{Rule}
use Rattle.rules.specs.Derivations.{Derivable, Refuted}
use Rattle.rules.specs.Fillings.{DerivableFilling, RefutedFillings}
use Rattle.rules.proofs.Fillings.{no-gap-least}
use Rattle.question.specs.Question.{Prints}
use Rattle.demands.specs.Refusals.{SoundTable, FactRefused, AskedRefused, QuestionRefused}
use Rattle.demands.specs.Demands.{Put, said, SoundPut, Accepts, Shown}
use Rattle.demands.specs.Gapless.{GaplessPut, Gapless}
use Rattle.demands.proofs.Refusals.{fact-refused, triple-refused}
use Rattle.demands.proofs.Demands.{demand-2, demand-3}

-- without a blank a question's triple has the fault of the fact
same-fault : (t : Fact) → has_blank t ≡ false → question_fault t ≡ fault_of t
unfolding question_fault fault_of
same-fault t e = rw (blankless-passes t e, e)

refused-alike : (t : Fact) → has_blank t ≡ false → (r : Refusal) → AskedRefused t r ↔ FactRefused t r
refused-alike t e r =
    let f = same-fault t e in
    (λ h. (fact-refused t r).0 (sym f ∙ (triple-refused t r).1 h), λ h. (triple-refused t r).0 (f ∙ (fact-refused t r).1 h))

asked-alike : (t : Fact) → has_blank t ≡ false → Askable t ↔ T (well_formed t)
asked-alike t e = (λ a. (fault-none t).0 (sym (same-fault t e) ∙ (question-none t).1 a), gapless)

module _ (t : Fact) (w : T (well_formed t)) where
  itself : Fills t t
  itself = (fills-only t t w).1 refl

  derivable-alike : (table : List Fact) → DerivableFilling Rule table t ↔ Derivable Rule table t
  derivable-alike table = (λ h. subst (λ (u : Fact). Derivable Rule table u) ((fills-only t h.0 w).0 h.1) h.2, λ d. (t, itself, d))

  refuted-alike : (table : List Fact) → RefutedFillings Rule table t ↔ Refuted Rule table t
  refuted-alike table = (
    λ r. (r.0, r.1, r.2, λ m. r.3 t itself m),
    λ r. (r.0, r.1, r.2, λ u f m. r.3 (subst (λ (v : Fact). r.0 v) ((fills-only t u w).0 f) m)),
  )

module _ (p : Put) (facts : List Fact) (g : GaplessPut p facts) where
  abbrev t : Fact
  t = p.question.fact

  sound : SoundPut p facts
  sound = record { table = g.table; fact = gapless g.fact; limited = g.limited; room = g.room }

  names-none : (f x : ℕ) → YesWith (said p) f x → x ≡ 0
  names-none f x e = sym (ap (λ (c : Code). c.filling) e) ∙ demand-3.unnamed p (inr g.fact)

  yes-plain : {f : ℕ} → ((x : ℕ) × YesWith (said p) f x) ↔ YesWith (said p) f 0
  yes-plain {f} = (λ h. subst (λ (y : ℕ). YesWith (said p) f y) (names-none f h.0 h.1) h.1, λ e. (0, e))

sound-alike : (p : Put) → has_blank p.question.fact ≡ false
    → ((facts : List Fact) × GaplessPut p facts) ↔ ((r : Refusal) (place : ℕ) → QuestionRefused p.question (length p.entry) r place → ⊥)
sound-alike p e =
    let h = demand-2.question-sound p.question (length p.entry) in (
      λ g. h.0 (g.0, sound p g.0 g.1),
      λ n. let s = h.1 n in (s.0, record { table = s.1.table; fact = (asked-alike p.question.fact e).0 s.1.fact; limited = s.1.limited; room = s.1.room }),
    )

shown-alike : (p : Put) (f x : ℕ) (d : List ℕ) → T (well_formed p.question.fact) → Shown p f x d
    → (x ≡ 0) × ((facts : List Fact) × SoundTable p.question.table facts × Prints facts p.question.fact f d) × Accepts p.question.table p.question.fact d f
shown-alike p f x d w s =
    let z = gapless-stays p.question.fact x w in (
      sym (ap (λ (c : Code). c.filling) s.yes) ∙ demand-3.unnamed p (inr w),
      (s.facts, s.table, subst (λ (u : Fact). Prints s.facts u f d) z s.prints),
      subst (λ (u : Fact). Accepts p.question.table u d f) z s.accepted,
    )

pub gapless-demands : Gapless
gapless-demands = record {
  asked = asked-alike;
  refused = refused-alike;
  question-sound = sound-alike;
  answered = λ p facts g. demand-2.answered p facts (sound p facts g);
  follows = λ p facts g.
      let h = demand-2.follows p facts (sound p facts g) in
      let a = derivable-alike p.question.fact g.fact facts in (λ x. a.0 (h.0 x), λ d. h.1 (a.1 d));
  refuted = λ p facts g.
      let h = demand-2.refuted p facts (sound p facts g) in
      let a = refuted-alike p.question.fact g.fact facts in (λ x. a.0 (h.0 x), λ d. h.1 (a.1 d));
  least = λ p facts g f h.
      let l = demand-3.least p facts (sound p facts g) f h in (((no-gap-least Rule facts p.question.fact l.0.0 f g.fact).0 l.0.1).1, l.1);
  no-fewer = λ p facts g f h part in-facts d e. demand-3.no-fewer p facts (sound p facts g) f h part in-facts p.question.fact (itself p.question.fact g.fact) d e;
  no-fewer-checked = λ p facts g f h b part s in-facts x n c k e.
      demand-3.no-fewer-checked p facts (sound p facts g) f h b part s in-facts p.question.fact (itself p.question.fact g.fact) x n c k e;
  same_count = λ p facts g f h p' limit e g'.
      let c = demand-3.same_count p facts (sound p facts g) f h p' limit e (sound p' facts g') in
      let y = yes-plain p' facts g' in ((λ l. y.0 (c.0.0 l), λ z. c.0.1 (y.1 z)), c.1);
  unnamed = names-none;
  printed = λ p facts g f e.
      let d = demand-3.printed p facts (sound p facts g) f 0 e in
      let z = gapless-stays p.question.fact 0 g.fact in
      (d.0, d.1, subst (λ (u : Fact). Prints facts u f d.0) z d.2, subst (λ (u : Fact). Accepts p.question.table u d.0 f) z d.3);
  none = λ p facts g e part in-facts. demand-3.none p facts (sound p facts g) e part in-facts p.question.fact (itself p.question.fact g.fact);
  shown = shown-alike;
}
