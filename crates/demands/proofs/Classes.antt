-- Point 2's sentences (specs/Classes) hold.
-- Assumes nothing.
use mathlib.Core.Path.{◌≡◌, sym, ◌∙◌}
use mathlib.Core.Logic.{inl, inr, ⊎_elim, ⊎_map}
use mathlib.Core.Bool.{Bool, true, false, cond, not, ◌&&◌, true≢false}
use mathlib.Core.List.{List}
use Prim.Native.Nat.{ℕ, suc}
use lib.Dec.{T}
use mir.Facts.{and_yes, or_yes}
use Rattle.facts.specs.declared.Fact.{Fact}
use Rattle.facts.specs.declared.Refusal.TheVariants.{Term, Blank, Part, Class, Step}
use Rattle.facts.specs.Results.{Sound, Faulty}
use Rattle.facts.specs.Terms.{kind_of, is_name, is_literal, is_vocabulary}
use Rattle.facts.specs.Facts.{named_subject, named_object, is_node, is_predicate, well_formed, has_no_term, has_blank, misplaced, text_as_class, fault_of}
use Rattle.facts.specs.Gaps.{Askable, blank_refused, question_fault}
use Rattle.facts.proofs.Terms.{by_cases, T_of, of_T, of-F}
use Rattle.facts.proofs.Facts.{parts, whole, name-stands, passed, fault-none}
use Rattle.facts.proofs.Gaps.{question-none}
use Rattle.rules.specs.Graph.{◌∈◌}
use Rattle.table.proofs.Lists.{formed-in}
use Rattle.rules.proofs.Tests.{or_l, or_r}
use Rattle.rules.proofs.Formed.{gives-formed, line-formed, derives-formed, derives-unbarred}
use Rattle.demands.specs.Refusals as refusals
use Rattle.demands.specs.Refusals.{SoundTable, TextAsClass}
use Rattle.demands.specs.Classes.{NameOrLiteral, Triple, Classes}
use Rattle.demands.proofs.Refusals.{subject-says, object-says, class-says}
use Rattle.demands.proofs.Demands.{demand-1}

-- what may stand where: a name, and a literal where no name is asked for
stands : (named : Bool) (n : ℕ) → NameOrLiteral n → (is_literal (kind_of n) ≡ true → named ≡ false) → T (is_node named n)
unfolding is_node
stands named n (inl e) h = name-stands named n e
stands named n (inr e) h = rw (e, h e) (or_r (is_name (kind_of n)) true tt)

stands-says : (named : Bool) (n : ℕ) → T (is_node named n) → NameOrLiteral n
unfolding is_node
stands-says named n t =
    ⊎_elim (λ h. inl (of_T (is_name (kind_of n)) h)) (λ h. inr (of_T (is_literal (kind_of n)) (and_yes (is_literal (kind_of n)) (not named) h).0))
    (or_yes (is_name (kind_of n)) (is_literal (kind_of n) && not named) t)

module _ (f : Fact) where
  -- a triple that earns none of the refusals is no text as a class
  untold : text_as_class f ≡ false → TextAsClass f → ⊥
  untold e h = true≢false (sym ((class-says f).1 h) ∙ e)

  -- whichever blanks earn 4
  last-passed : (blanks : Bool) → cond (has_no_term f) (Faulty Term) (cond blanks (Faulty Blank) (cond (misplaced f) (Faulty Part) (cond (text_as_class f) (Faulty Class) Sound))) ≡ Sound
      → text_as_class f ≡ false
  last-passed blanks e =
      let a = passed (has_no_term f) _ _ e in
      let b = passed blanks _ _ a.1 in
      let c = passed (misplaced f) _ _ b.1 in
      of-F (text_as_class f) (passed (text_as_class f) _ _ c.1).0

  formed-plain : T (well_formed f) → text_as_class f ≡ false
  unfolding fault_of
  formed-plain w = last-passed (has_blank f) ((fault-none f).1 w)

  asked-plain : Askable f → text_as_class f ≡ false
  unfolding question_fault
  asked-plain q = last-passed (blank_refused f) ((question-none f).1 q)

  triple-of : T (well_formed f) → Triple f
  unfolding is_predicate
  triple-of w =
      let p = parts f w in
      record {
        subject = stands-says _ _ p.0;
        predicate = ⊎_map (of_T (is_name (kind_of f.predicate))) (of_T (is_vocabulary (kind_of f.predicate))) (or_yes (is_name (kind_of f.predicate)) (is_vocabulary (kind_of f.predicate)) p.1);
        object = stands-says _ _ p.2;
      }

  of-triple : Triple f → (TextAsClass f → ⊥) → T (well_formed f)
  unfolding is_predicate
  of-triple t none =
      whole f
      (stands _ _ t.subject (λ l. by_cases (named_subject f.predicate) (λ n. absurd (none (refusals.as-subject l ((subject-says _).0 n)))) (λ n. n)))
      (⊎_elim (λ n. or_l (is_name (kind_of f.predicate)) _ (T_of _ n)) (λ n. or_r (is_name (kind_of f.predicate)) _ (T_of _ n)) t.predicate)
      (stands _ _ t.object (λ l. by_cases (named_object f.predicate) (λ n. absurd (none (refusals.as-object l ((object-says _).0 n)))) (λ n. n)))

all-formed : {b : List ℕ} {facts : List Fact} → SoundTable b facts → (f : Fact) → f ∈ facts → T (well_formed f)
all-formed {facts = facts} s f m = formed-in facts f s.sound.formed m

pub classes : Classes
classes = record {
  class = class-says;
  formed = λ f. (λ w. (triple-of f w, untold f (formed-plain f w)), λ h. of-triple f h.0 h.1);
  in_tables = λ s f m. untold f (formed-plain f (all-formed s f m));
  in-questions = λ {t} q. untold t (asked-plain t q);
  in-fillings = λ {t} {u} f. untold u (formed-plain u f.formed);
  in-derivations = λ {b} {facts} s. derives-formed facts (all-formed s);
  given = gives-formed;
  unbarred = λ {b} {facts} s. derives-unbarred facts (all-formed s);
  line_refused = λ {b} {t} {x} {r} call {facts} s w {n} {i} lines laid h before e. (demand-1.check-refused call Step (suc i)).1
      (refusals.by-step s w lines h laid before (λ j. true≢false (sym (of_T _ (line-formed facts (all-formed s) j)) ∙ e)));
}
