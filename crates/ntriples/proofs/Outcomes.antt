-- How a line is read is what the grammar says of it, for all four outcomes.
-- Assumes nothing.
use mathlib.Core.Path.{◌≡◌, refl, sym, ap, ◌∙◌}
use mathlib.Core.Logic.{◌⊎◌, inl, inr, ⊎_elim}
use mathlib.Core.Bool.{Bool, true, false, cond, ◌||◌}
use mathlib.Core.List.{List}
use Prim.Native.Nat.{ℕ, ◌<◌}
use native.Mathlib.Omega.{arith}
use lib.ListN.{length, drop}
use lib.Dec.{eqb}
use borrow.Author.Tests.{eqb-false}
use Rattle.std.specs.Prelude.{None, Some, Ok, Err}
use Rattle.ntriples.specs.declared.Class.TheVariants.{White}
use Rattle.ntriples.specs.declared.Span.{Span}
use Rattle.ntriples.specs.declared.LineFault.TheVariants.{Outside, Unknown}
use Rattle.ntriples.specs.Classes.{belongs}
use Rattle.ntriples.specs.Grammar.{or, Of, iri, literal, blank, white, rest, Silent}
use Rattle.ntriples.specs.Lexed.{byte_at, run_end, ends, is_blank, Line, triple, line_of}
use Rattle.ntriples.specs.Outcomes.{NamesBlank, States, Foreign, ReadAs, Outcomes}
use Rattle.ntriples.specs.Tokens.{Token, spanned}
use Rattle.ntriples.proofs.Lexed.{inside, never}
use Rattle.ntriples.proofs.Lines.{ends-not, line-nothing}
use Rattle.ntriples.proofs.Stands.{front, stands-part}
use Rattle.ntriples.proofs.Runs.{run-read, run-found}
use Rattle.ntriples.proofs.Nodes.{Kind, blank-tells, subject-kind, object-kind, subject-opens}
use Rattle.ntriples.proofs.Ends.{ends_read, ends_found, rest-fails}
use Rattle.ntriples.proofs.Parts.{Parsed, blanks, parsed, parts-line}
use Rattle.ntriples.proofs.Told.{Told, told-read, told-found}

module _ {l : List ℕ} {a b c : Span} {s p o : Token} (t : Told l a b c s p o) where
  -- such a line is read as its parts are
  told_line : line_of l ≡ cond (blanks l a c) (Err Unknown) (Ok (Some (triple a b c)))
  told_line =
      let at = a.from in
      let x = t.subject-stands in
      let w : at < length l = inside l at (eqb-false (byte_at l at) 10 (subject-opens (λ b. eqb b 10) refl refl x).0) in
      parts-line l a b c t.parts (ends-not l at w (eqb-false (byte_at l at) 35 (subject-opens (λ b. eqb b 35) refl refl x).0))

  told-subject : spanned l a ≡ s
  told-subject = stands-part t.subject-stands ∙ t.subject-token

  told-predicate : spanned l b ≡ p
  told-predicate = stands-part t.predicate-stands ∙ t.predicate-token

  told-object : spanned l c ≡ o
  told-object = stands-part t.object-stands ∙ t.object-token

  -- it names a blank node if the first byte of its subject or object says so, and only then
  blank-named : Of blank s ⊎ Of blank o → blanks l a c ≡ true
  blank-named =
      ⊎_elim (λ k. rw (blank-tells t.subject-stands (rw t.subject-token k)))
      (λ k. rw (blank-tells t.object-stands (rw t.object-token k)) (either (is_blank l a.from)))
    where
      either : (x : Bool) → x || true ≡ true
      either true = refl
      either false = refl

  kind-subject : Kind iri s l a.from
  kind-subject = rw (← t.subject-token) (subject-kind t.subject-stands)

  kind-object : Kind (or iri literal) o l c.from
  kind-object = rw (← t.object-token) (object-kind t.object-stands)

  none_named : (Of blank s → ⊥) → (Of blank o → ⊥) → blanks l a c ≡ false
  none_named h k = ⊎_elim (λ x. ⊎_elim (λ y. rw (x.1, y.1)) (λ y. absurd (k y.0)) kind-object) (λ x. absurd (h x.0)) kind-subject

  named_blank : blanks l a c ≡ true → Of blank s ⊎ Of blank o
  named_blank e = ⊎_elim (λ x. ⊎_elim (λ y. never (let z : blanks l a c ≡ false = rw (x.1, y.1) in sym z ∙ e)) (λ y. inr y.0) kind-object) (λ x. inl x.0) kind-subject

-- ---- a statement of IRIs and perhaps a literal

read-states : (l : List ℕ) (s p o : Token) → ReadAs l s p o → States l s p o
read-states l s p o r =
    let q : Parsed l (Ok (Some r.places)) = rw r.line at (parsed l) in
    let (s', p', o', t) = told-read l r.places.subject r.places.predicate r.places.object q.0 in
    let e : s' ≡ s = sym (told-subject t) ∙ r.subject in
    let f : p' ≡ p = sym (told-predicate t) ∙ r.predicate in
    let g : o' ≡ o = sym (told-object t) ∙ r.object in
    record {
      says = rw (← e, ← f, ← g) t.says;
      subject = λ h. never (sym q.1 ∙ blank-named t (inl (rw e h)));
      object = λ h. never (sym q.1 ∙ blank-named t (inr (rw g h)));
    }

states-read : (l : List ℕ) (s p o : Token) → States l s p o → ReadAs l s p o
states-read l s p o h =
    let (a, b, c, t) = told-found l s p o h.says in
    record { places = triple a b c; line = told_line t ∙ rw (none_named t h.subject h.object); subject = told-subject t; predicate = told-predicate t; object = told-object t }

-- ---- a statement that names a blank node

unknown-names : (l : List ℕ) → line_of l ≡ Err Unknown → NamesBlank l
unknown-names l e =
    let (a, b, c, q, f) = rw e at (parsed l) in
    let (s, p, o, t) = told-read l a b c q in
    (s, p, o, t.says, named_blank t f)

names-unknown : (l : List ℕ) → NamesBlank l → line_of l ≡ Err Unknown
names-unknown l (s, p, o, h, n) = let (a, b, c, t) = told-found l s p o h in told_line t ∙ rw (blank-named t n)

-- ---- nothing

nothing-silent : (l : List ℕ) → line_of l ≡ Ok None → Silent l
nothing-silent l e =
    let q : Parsed l (Ok None) = rw e at (parsed l) in
    let x = run-read White l 0 in
    record { w = x.token; r = drop (run_end White l 0) l; line = x.there; is_white = x.of; is-rest = ends_read l (run_end White l 0) q }

silent-nothing : (l : List ℕ) → Silent l → line_of l ≡ Ok None
unfolding belongs
silent-nothing l h =
    let (m, x, n, e) = front white l h.w h.r 0 h.line h.is_white in
    let o : Of rest (drop m l) = rw e h.is-rest in
    sym (line-nothing l (ap (ends l) (run-found White x (rest-fails (belongs White) l m refl refl o)) ∙ ends_found l m o))

-- ---- and neither of these

outside-foreign : (l : List ℕ) → line_of l ≡ Err Outside → Foreign l
outside-foreign l e =
    record {
      no-statement = λ s p o h. let (a, b, c, t) = told-found l s p o h in other (blanks l a c) a b c (sym (told_line t) ∙ e);
      not-silent = λ h. let f : Ok None ≡ Err Outside = sym (silent-nothing l h) ∙ e in let z : ◌≡◌ {A = ℕ} 0 1 = cc in omega arith;
    }
  where
    other : (v : Bool) (a b c : Span) → cond v (Err Unknown) (Ok (Some (triple a b c))) ≡ Err Outside → ⊥
    other true a b c f = let z : ◌≡◌ {A = ℕ} 0 1 = cc in omega arith
    other false a b c f = let z : ◌≡◌ {A = ℕ} 0 1 = cc in omega arith

foreign-outside : (l : List ℕ) → Foreign l → line_of l ≡ Err Outside
foreign-outside l h = go (line_of l) refl
  where
    go : (v : Line) → line_of l ≡ v → v ≡ Err Outside
    go (Err Outside) e = refl
    go (Err Unknown) e = let (s, p, o, k, n) = unknown-names l e in absurd (h.no-statement s p o k)
    go (Ok None) e = absurd (h.not-silent (nothing-silent l e))
    go (Ok (Some t)) e =
        let a = t.subject in
        let b = t.predicate in
        let c = t.object in
        absurd (h.no-statement (spanned l a) (spanned l b) (spanned l c)
        (read-states l (spanned l a) (spanned l b) (spanned l c) (record { places = t; line = e; subject = refl; predicate = refl; object = refl })).says)

pub outcomes : (l : List ℕ) → Outcomes l
outcomes l = record {
  triple = λ s p o. (read-states l s p o, states-read l s p o);
  unknown = (unknown-names l, names-unknown l);
  nothing = (nothing-silent l, silent-nothing l);
  outside = (outside-foreign l, foreign-outside l);
}
