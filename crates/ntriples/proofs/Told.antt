-- A line that makes a statement, both ways: by the grammar and by the places of its parts.
-- Assumes nothing.
use mathlib.Core.Path.{◌≡◌, refl, sym, ap, ◌∙◌}
use mathlib.Core.List.{List, [], ◌∷◌, ◌++◌}
use Prim.Native.Nat.{ℕ, ◌+◌}
use native.Mathlib.Omega.{arith}
use lib.ListN.{drop}
use lib.Dec.{eqb}
use borrow.Author.Tests.{eqb-true, eqb-false}
use Rattle.facts.proofs.Terms.{by_cases}
use Rattle.ntriples.specs.declared.Class.TheVariants.{White, Label}
use Rattle.ntriples.specs.declared.Span.{Span}
use Rattle.ntriples.specs.Classes.{belongs}
use Rattle.ntriples.specs.Grammar.{byte, Of, white, iri, subject, object, rest, Says}
use Rattle.ntriples.specs.Lexed.{byte_at, run_end, ends, stops, span}
use Rattle.ntriples.specs.Tokens.{Token}
use Rattle.ntriples.proofs.Lexed.{never}
use Rattle.ntriples.proofs.Lines.{stops-some}
use Rattle.ntriples.proofs.Stands.{Stands, front, stands-byte, byte-stands}
use Rattle.ntriples.proofs.Runs.{run-read, run-found, run-bytes, iri-read, iri-found}
use Rattle.ntriples.proofs.Delimits.{white-front}
use Rattle.ntriples.proofs.Labels.{Follows}
use Rattle.ntriples.proofs.Nodes.{subject-read, object-read, iri-opens, subject-found, object-found, subject-opens, object-opens}
use Rattle.ntriples.proofs.Ends.{ends_found, rest-fails, stops-read}
use Rattle.ntriples.proofs.Parts.{Parts}

-- the line says these tokens, and they stand where the lexer finds its parts
pub record Told (l : List ℕ) (a b c : Span) (s p o : Token) : Type 0 where
  pub says : Says l s p o
  pub parts : Parts l a b c
  pub subject-stands : Stands subject l a.from a.to
  pub predicate-stands : Stands iri l b.from b.to
  pub object-stands : Stands object l c.from c.to
  pub subject-token : subject-stands.token ≡ s
  pub predicate-token : predicate-stands.token ≡ p
  pub object-token : object-stands.token ≡ o

pub told-read : (l : List ℕ) (a b c : Span) → Parts l a b c → (s : Token) × (p : Token) × (o : Token) × Told l a b c s p o
unfolding Of
told-read l a b c q =
    let x0 : Stands white l 0 a.from = rw q.from-subject (run-read White l 0) in
    let x1 : Stands subject l a.from a.to = rw q.subject (subject-read l a.from (λ z. q.has-subject (q.subject ∙ z))) in
    let x2 : Stands white l a.to b.from = rw q.from-predicate (run-read White l a.to) in
    let x3 : Stands iri l b.from b.to = rw q.predicate (iri-read l b.from (λ z. q.has-predicate (q.predicate ∙ z))) in
    let x4 : Stands white l b.to c.from = rw q.from-object (run-read White l b.to) in
    let x5 : Stands object l c.from c.to = rw q.object (object-read l c.from (λ z. q.has-object (q.object ∙ z))) in
    let at = run_end White l c.to in
    let x6 = run-read White l c.to in
    let e = stops-read l at q.stop in
    let x7 = stands-byte l at 46 e.0 (omega arith) in
    let x8 = run-read White l (at + 1) in
    let stop : drop at l ≡ 46 ∷ (x8.token ++ drop (run_end White l (at + 1)) l) = x7.there ∙ ap (λ (t : List ℕ). t ++ drop (at + 1) l) x7.of ∙ ap (λ (t : List ℕ). 46 ∷ t) x8.there in
    let from-object = x5.there ∙ ap (λ (t : List ℕ). x5.token ++ t) (x6.there ∙ ap (λ (t : List ℕ). x6.token ++ t) stop) in
    let from-predicate = x3.there ∙ ap (λ (t : List ℕ). x3.token ++ t) (x4.there ∙ ap (λ (t : List ℕ). x4.token ++ t) from-object) in
    let from-subject = x1.there ∙ ap (λ (t : List ℕ). x1.token ++ t) (x2.there ∙ ap (λ (t : List ℕ). x2.token ++ t) from-predicate) in (
      x1.token,
      x3.token,
      x5.token,
      record {
        says = record {
          w0 = x0.token;
          w1 = x2.token;
          w2 = x4.token;
          w3 = x6.token;
          w4 = x8.token;
          r = drop (run_end White l (at + 1)) l;
          line = x0.there ∙ ap (λ (t : List ℕ). x0.token ++ t) from-subject;
          white0 = x0.of;
          white1 = x2.of;
          white2 = x4.of;
          white3 = x6.of;
          white4 = x8.of;
          is-subject = x1.of;
          is-predicate = x3.of;
          is-object = x5.of;
          is-rest = e.1;
        };
        parts = q;
        subject-stands = x1;
        predicate-stands = x3;
        object-stands = x5;
        subject-token = refl;
        predicate-token = refl;
        object-token = refl;
      },
    )

-- ---- what follows a subject, and an object

subject-follows : {s : List ℕ} {at to : ℕ} → Stands white s at to → byte_at s to ≡ 60 → Follows s at
subject-follows {s} {at} {to} x e =
    record {
      delimiter = λ t a b c d. white-front t a b x (ap t e ∙ c);
      stop = λ z. absurd (eqb-false (byte_at s at) 46 (white-front (λ b. eqb b 46) refl refl x (ap (λ (b : ℕ). eqb b 46) e)) z);
    }

object-follows : {s : List ℕ} {at stop to : ℕ} → Stands white s at stop → byte_at s stop ≡ 46 → Stands white s (stop + 1) to → Of rest (drop to s) → Follows s at
unfolding belongs
object-follows {s} {at} {stop} {to} x e y o =
    record {
      delimiter = λ t a b c d. white-front t a b x (ap t e ∙ d);
      stop = λ z.
          by_cases (eqb at stop)
          (λ q. rw (eqb-true at stop q) (white-front (belongs Label) refl refl y (rest-fails (belongs Label) s to refl refl o)))
          (λ q. never (sym (ap (belongs White) z) ∙ run-bytes White x at (omega arith) (omega (arith, x.length-of, eqb-false at stop q))));
    }

-- the lexer finds the parts of a line where they stand
parts-found : {l : List ℕ} {p0 p1 p2 p3 p4 p5 p6 to : ℕ} → Stands white l 0 p0 → Stands subject l p0 p1 → Stands white l p1 p2 → Stands iri l p2 p3 → Stands white l p3 p4
    → Stands object l p4 p5 → Stands white l p5 p6 → byte_at l p6 ≡ 46 → Stands white l (p6 + 1) to → Of rest (drop to l) → Parts l (span p0 p1) (span p2 p3) (span p4 p5)
unfolding belongs
parts-found {l} {p0} {p1} {p2} {p3} {p4} {p5} {p6} {to} x0 x1 x2 x3 x4 x5 x6 stop x7 o =
    let s = subject-opens (belongs White) refl refl x1 in
    let p = iri-opens x3 in
    let q = object-opens (belongs White) refl refl refl x5 in
    record {
      from-subject = sym (run-found White x0 s.0);
      subject = sym (subject-found x1 (subject-follows x2 p.0));
      has-subject = omega (arith, s.1);
      from-predicate = sym (run-found White x2 (ap (belongs White) p.0));
      predicate = sym (iri-found x3);
      has-predicate = omega (arith, p.1);
      from-object = sym (run-found White x4 q.0);
      object = sym (object-found x5 (object-follows x6 stop x7 o));
      has-object = omega (arith, q.1);
      stop = ap (stops l) (run-found White x6 (ap (belongs White) stop)) ∙ stops-some l p6 stop ∙ ap (ends l) (run-found White x7 (rest-fails (belongs White) l to refl refl o)) ∙ ends_found l to o;
    }

pub told-found : (l : List ℕ) (s p o : Token) → Says l s p o → (a : Span) × (b : Span) × (c : Span) × Told l a b c s p o
unfolding Of
told-found l s p o h =
    let (p0, x0, n0, e0) = front white l h.w0 _ 0 h.line h.white0 in
    let (p1, x1, n1, e1) = front subject l s _ p0 e0 h.is-subject in
    let (p2, x2, n2, e2) = front white l h.w1 _ p1 e1 h.white1 in
    let (p3, x3, n3, e3) = front iri l p _ p2 e2 h.is-predicate in
    let (p4, x4, n4, e4) = front white l h.w2 _ p3 e3 h.white2 in
    let (p5, x5, n5, e5) = front object l o _ p4 e4 h.is-object in
    let (p6, x6, n6, e6) = front white l h.w3 _ p5 e5 h.white3 in
    let (p7, x7, n7, e7) = front (byte 46) l (46 ∷ []) (h.w4 ++ h.r) p6 e6 refl in
    let b = byte-stands {at = p6} {to = p7} x7 in
    let (p8, x8, n8, e8) = front white l h.w4 h.r (p6 + 1) (rw b.1 at e7) h.white4 in (
      span p0 p1,
      span p2 p3,
      span p4 p5,
      record {
        says = h;
        parts = parts-found {p4 = p4} {p5 = p5} {p6 = p6} {to = p8} x0 x1 x2 x3 x4 x5 x6 b.0 x8 (rw e8 h.is-rest);
        subject-stands = x1;
        predicate-stands = x3;
        object-stands = x5;
        subject-token = n1;
        predicate-token = n3;
        object-token = n5;
      },
    )
