-- The facts of statements, one behind the other: later statements change no fact, and a fact that is held brings no new token.
-- Assumes nothing.
use mathlib.Core.Path.{◌≡◌, refl, sym, ap, ◌∙◌}
use mathlib.Core.Logic.{⊎_elim}
use mathlib.Core.List.{List, [], ◌∷◌, ◌++◌, map, Memᴰ}
use Prim.Native.Nat.{◌≤◌}
use lib.ListN.{length}
use Rattle.facts.specs.declared.Fact.{Fact}
use Rattle.ntriples.specs.Tokens.{Token}
use Rattle.numbering.specs.Numbering.{Known}
use Rattle.numbering.specs.Vocabulary.{with_term, known_after, unknown, known}
use Rattle.numbering.proofs.Terms.{Numbered, after-append, after-still, after-numbered, after_kept, term-injective}
use Rattle.gathering.specs.Gathered.{with, gathered_with, gathered}
use Rattle.gathering.proofs.Gathered.{gathered-only}
use Rattle.imports.specs.Lines.{Statement, tokens}
use Rattle.imports.specs.Import.{known_by, fact_of, facts_of}
use Rattle.imports.proofs.Sizes.{tokens-among}

-- the tokens of one statement
abbrev three : Statement → List Token
three s = s.subject ∷ s.predicate ∷ s.object ∷ []

tokens_append : (ss us : List Statement) → tokens (ss ++ us) ≡ tokens ss ++ tokens us
unfolding tokens
tokens_append [] us = refl
tokens_append (s ∷ ss) us = ap (λ (l : List Token). s.subject ∷ s.predicate ∷ s.object ∷ l) (tokens_append ss us)

after_one : (ss : List Statement) (s : Statement) → known_by (ss ++ (s ∷ [])) ≡ known_after (known_by ss) (three s)
unfolding tokens
after_one ss s = ap known (tokens_append ss (s ∷ [])) ∙ after-append unknown (tokens ss) (three s)

pub known-snoc : (ss : List Statement) (s : Statement) → known_by (ss ++ (s ∷ [])) ≡ with_term (with_term (with_term (known_by ss) s.subject) s.predicate) s.object
unfolding known_after
known-snoc ss s = after_one ss s

-- ---- tokens of statements have numbers

-- the three tokens of a statement have numbers
record Whole (k : Known) (s : Statement) : Type 0 where
  subject : Numbered k s.subject
  predicate : Numbered k s.predicate
  object : Numbered k s.object

whole_of : (k : Known) (s : Statement) → ((t : Token) → Memᴰ t (three s) → Numbered k t) → Whole k s
whole_of k s h =
    record {
      subject = h s.subject (mathlib.Core.List.Memᴰ.head refl);
      predicate = h s.predicate (mathlib.Core.List.Memᴰ.tail (mathlib.Core.List.Memᴰ.head refl));
      object = h s.object (mathlib.Core.List.Memᴰ.tail (mathlib.Core.List.Memᴰ.tail (mathlib.Core.List.Memᴰ.head refl)));
    }

of-whole : (k : Known) (s : Statement) → Whole k s → (t : Token) → Memᴰ t (three s) → Numbered k t
of-whole k s w t m =
    ⊎_elim (λ (e : t ≡ s.subject). rw e w.subject)
    (λ l. ⊎_elim (λ (e : t ≡ s.predicate). rw e w.predicate)
    (λ n. ⊎_elim (λ (e : t ≡ s.object). rw e w.object) (λ o. absurd (mathlib.Core.List.Memᴰ.not-nil o)) (mathlib.Core.List.Memᴰ.cases_cons n)) (mathlib.Core.List.Memᴰ.cases_cons l)) (mathlib.Core.List.Memᴰ.cases_cons m)

all_whole : (ss : List Statement) (s : Statement) → Memᴰ s ss → Whole (known_by ss) s
all_whole ss s m =
    let t = tokens-among s ss m in
    record {
      subject = after-numbered unknown (tokens ss) s.subject t.0;
      predicate = after-numbered unknown (tokens ss) s.predicate t.1;
      object = after-numbered unknown (tokens ss) s.object t.2;
    }

-- later tokens change no fact
later : (k : Known) (ts : List Token) (s : Statement) → Whole k s → Whole (known_after k ts) s × (fact_of (known_after k ts) s ≡ fact_of k s)
later k ts s w =
    let a = after-still k ts s.subject w.subject in
    let b = after-still k ts s.predicate w.predicate in
    let c = after-still k ts s.object w.object in
    (record { subject = a.0; predicate = b.0; object = c.0 }, rw (a.1, b.1, c.1))

-- ---- one statement more

map_same : (f g : Statement → Fact) (ss : List Statement) → ((u : Statement) → Memᴰ u ss → f u ≡ g u) → map f ss ≡ map g ss
map_same f g [] h = refl
map_same f g (s ∷ ss) h =
    let a : f s ≡ g s = h s (mathlib.Core.List.Memᴰ.head refl) in
    rw a (ap (λ (l : List Fact). g s ∷ l) (map_same f g ss (λ u m. h u (mathlib.Core.List.Memᴰ.tail m))))

map_snoc : (f : Statement → Fact) (ss : List Statement) (s : Statement) → map f (ss ++ (s ∷ [])) ≡ map f ss ++ (f s ∷ [])
map_snoc f [] s = refl
map_snoc f (u ∷ ss) s = ap (λ (l : List Fact). f u ∷ l) (map_snoc f ss s)

gathered_snoc : (gs fs : List Fact) (f : Fact) → gathered_with gs (fs ++ (f ∷ [])) ≡ with f (gathered_with gs fs)
unfolding gathered_with
gathered_snoc gs [] f = refl
gathered_snoc gs (g ∷ fs) f = gathered_snoc (with g gs) fs f

-- its fact is put among those there
pub facts-snoc : (ss : List Statement) (s : Statement) → facts_of (ss ++ (s ∷ [])) ≡ with (fact_of (known_by (ss ++ (s ∷ []))) s) (facts_of ss)
facts-snoc ss s =
    let k = known_by ss in
    let n = known_by (ss ++ (s ∷ [])) in
    let same : map (fact_of n) ss ≡ map (fact_of k) ss = map_same (fact_of n) (fact_of k) ss (λ u m. ap (λ (x : Known). fact_of x u) (after_one ss s) ∙ (later k (three s) u (all_whole ss u m)).1) in
    ap gathered (map_snoc (fact_of n) ss s ∙ ap (λ (l : List Fact). l ++ (fact_of n s ∷ [])) same) ∙ gathered_snoc [] (map (fact_of k) ss) (fact_of n s)

pub in_map : (f : Statement → Fact) (ss : List Statement) (x : Fact) → Memᴰ x (map f ss) → (u : Statement) × Memᴰ u ss × (x ≡ f u)
in_map f [] x m = absurd (mathlib.Core.List.Memᴰ.not-nil m)
in_map f (s ∷ ss) x m =
    ⊎_elim (λ (e : x ≡ f s). (s, mathlib.Core.List.Memᴰ.head refl, e)) (λ (l : Memᴰ x (map f ss)). let r = in_map f ss x l in (r.0, mathlib.Core.List.Memᴰ.tail r.1, r.2)) (mathlib.Core.List.Memᴰ.cases_cons m)

-- a statement whose fact is held already brings no new token: so the index never has more than three entries for each fact
pub fact-held : (ss : List Statement) (s : Statement) → length (known_by (ss ++ (s ∷ []))).names ≤ 39994
    → Memᴰ (fact_of (known_by (ss ++ (s ∷ []))) s) (facts_of ss) → known_by (ss ++ (s ∷ [])) ≡ known_by ss
fact-held ss s few m =
    let f = fact_of (known_by (ss ++ (s ∷ []))) s in
    ⊎_elim (λ (l : Memᴰ f []). absurd (mathlib.Core.List.Memᴰ.not-nil l))
    (λ (l : Memᴰ f (map (fact_of (known_by ss)) ss)). let r = in_map (fact_of (known_by ss)) ss f l in kept r.0 r.1 r.2) (gathered-only f [] (map (fact_of (known_by ss)) ss) m)
  where
    kept : (u : Statement) → Memᴰ u ss → fact_of (known_by (ss ++ (s ∷ []))) s ≡ fact_of (known_by ss) u → known_by (ss ++ (s ∷ [])) ≡ known_by ss
    kept u i e =
        let k = known_by ss in
        let n = known_after k (three s) in
        let o : known_by (ss ++ (s ∷ [])) ≡ n = after_one ss s in
        let h : length n.names ≤ 39994 = rw o at few in
        let ws : Whole n s = whole_of n s (λ t l. after-numbered k (three s) t l) in
        let w : Whole k u = all_whole ss u i in
        let wu = later k (three s) u w in
        let g : fact_of n s ≡ fact_of n u = ap (λ (x : Known). fact_of x s) (sym o) ∙ e ∙ sym wu.1 in
        let x : s.subject ≡ u.subject = term-injective n s.subject u.subject h ws.subject wu.0.subject (ap (λ (y : Fact). y.subject) g) in
        let y : s.predicate ≡ u.predicate = term-injective n s.predicate u.predicate h ws.predicate wu.0.predicate (ap (λ (y : Fact). y.predicate) g) in
        let z : s.object ≡ u.object = term-injective n s.object u.object h ws.object wu.0.object (ap (λ (y : Fact). y.object) g) in
        o ∙ after_kept k (three s) (of-whole k s (record { subject = rw x w.subject; predicate = rw y w.predicate; object = rw z w.object }))
