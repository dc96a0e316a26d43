-- Numbers go by first appearance: the names and the literals that are known after some tokens are the different ones among these, and the
-- number of the next new token counts them.
-- Assumes nothing.
use mathlib.Core.Path.{◌≡◌, sym, ap, ◌∙◌}
use mathlib.Core.Logic.{◌⊎◌, inl, inr, ⊎_elim}
use mathlib.Core.Bool.{Bool, true, false, not, true≢false, and-eq-true_iff}
use mathlib.Core.List.Memᴰ
use mathlib.Core.List.{List, [], ◌∷◌, ◌++◌, append_assoc, append-nil, Memᴰ}
use borrow.Author.Tests.{not-true}
use Rattle.facts.proofs.Terms.{by_cases}
use Rattle.ntriples.specs.Tokens.{Token}
use Rattle.numbering.specs.Numbering.{has, added, is_literal, Known, with_token, knows, number_in}
use Rattle.numbering.specs.Vocabulary.{vocabulary, term_of, with_term, known_after, known, unknown}
use Rattle.numbering.specs.Appearance.{is_other, Once, Different, Numbers}
use Rattle.numbering.proofs.Numbering.{has-member, member-has, added-has, added-still, added_more, new-name, new-literal}
use Rattle.numbering.proofs.Terms.{vocabulary-names, literal-other, numbered-new, after-append, after-still}

-- ---- one more token

once_more : (ds : List Token) (x : Token) → Once ds → (Memᴰ x ds → ⊥) → Once (ds ++ (x ∷ []))
unfolding Once
once_more [] x o n = (Memᴰ.not-nil, tt)
once_more (d ∷ ds) x o n = (
  λ m. ⊎_elim o.0 (λ (l : Memᴰ d (x ∷ [])). n (Memᴰ.head (sym (Memᴰ.eq_of_singleton l)))) (Memᴰ.append_cases ds m),
  once_more ds x o.1 (λ m. n (Memᴰ.tail m)),
)

added-once : (ds : List Token) (x : Token) → Once ds → Once (added ds x)
unfolding added
added-once ds x o = by_cases (has x ds) (λ p. rw p o) (λ p. rw p (once_more ds x o (λ m. true≢false (sym (member-has x ds m) ∙ p))))

module _ (kind : Token → Bool) (us ds : List Token) (x : Token) (h : Different kind us ds) where
  -- es has what ds has, and x where it is of the kind
  grown : (es : List Token) → Once es → ((t : Token) → Memᴰ t ds → Memᴰ t es) → (kind x ≡ true → Memᴰ x es)
      → ((t : Token) → Memᴰ t es → Memᴰ t ds ⊎ ((t ≡ x) × (kind x ≡ true))) → Different kind (us ++ (x ∷ [])) es
  grown es o s n b =
      record {
        once = o;
        all = λ t m q. ⊎_elim (λ (l : Memᴰ t us). s t (h.all t l q))
            (λ (l : Memᴰ t (x ∷ [])). let e : t ≡ x = Memᴰ.eq_of_singleton l in Memᴰ.cast e (n (sym (ap kind e) ∙ q))) (Memᴰ.append_cases us m);
        only = λ t m. ⊎_elim (λ (l : Memᴰ t ds). (Memᴰ.append_left (x ∷ []) (h.only t l).0, (h.only t l).1))
            (λ (l : (t ≡ x) × (kind x ≡ true)). (Memᴰ.append_right us (Memᴰ.head l.0), ap kind l.0 ∙ l.1)) (b t m);
      }

  different-other : kind x ≡ false → Different kind (us ++ (x ∷ [])) ds
  different-other p = grown ds h.once (λ t m. m) (λ q. absurd (true≢false (sym q ∙ p))) (λ t m. inl m)

  different-more : kind x ≡ true → Different kind (us ++ (x ∷ [])) (added ds x)
  different-more p =
      grown (added ds x) (added-once ds x h.once) (λ t m. has-member t (added ds x) (added-still ds x t (member-has t ds m)))
      (λ q. has-member x (added ds x) (added-has ds x))
      (λ t m. ⊎_elim (λ (e : has t ds ≡ true). inl (has-member t ds e)) (λ (e : t ≡ x). inr (e, p)) (added_more ds x t (member-has t (added ds x) m)))

-- ---- some tokens

-- what is known are the different names and the different literals among some tokens
record Apart (us : List Token) (k : Known) : Type 0 where
  names : Different is_other us k.names
  literals : Different is_literal us k.literals

apart_more : (us : List Token) (k : Known) (x : Token) → Apart us k → Apart (us ++ (x ∷ [])) (with_term k x)
unfolding with_term with_token
apart_more us k x a = by_cases (has x vocabulary)
    (λ p. let l = vocabulary-names x p in rw p (record { names = other (rw (l, p)); literals = different-other is_literal us k.literals x a.literals l }))
    (λ p. by_cases (is_literal x)
    (λ l. rw (p, l) (record { names = other (rw l); literals = different-more is_literal us k.literals x a.literals l }))
    (λ l. rw (p, l) (record { names = different-more is_other us k.names x a.names (rw (l, p)); literals = different-other is_literal us k.literals x a.literals l })))
  where
    other : is_other x ≡ false → Different is_other (us ++ (x ∷ [])) k.names
    other = different-other is_other us k.names x a.names

apart-after : (us : List Token) (k : Known) (ts : List Token) → Apart us k → Apart (us ++ ts) (known_after k ts)
unfolding known_after
apart-after us k [] a = rw append-nil a
apart-after us k (t ∷ ts) a = rw append_assoc at (apart-after (us ++ (t ∷ [])) (with_term k t) ts (apart_more us k t a))

none : (kind : Token → Bool) → Different kind [] []
unfolding Once
none kind = record { once = tt; all = λ t m q. m; only = λ t m. absurd (Memᴰ.not-nil m) }

apart : (us : List Token) → Apart us (known us)
apart us = apart-after [] unknown us (record { names = none is_other; literals = none is_literal })

-- a token that is known stands among them
known-stands : (us : List Token) (k : Known) (t : Token) → Apart us k → knows k t ≡ true → Memᴰ t us
unfolding knows
known-stands us k t a e =
    by_cases (is_literal t)
    (λ l. (a.literals.only t (has-member t k.literals (rw l at e))).0)
    (λ l. (a.names.only t (has-member t k.names (rw l at e))).0)

-- ---- the next new token

module _ (us : List Token) (t : Token) (vs : List Token) (new : Memᴰ t us → ⊥) where
  fresh : knows (known us) t ≡ false
  fresh = by_cases (knows (known us) t) (λ e. absurd (new (known-stands us (known us) t (apart us) e))) (λ e. e)

  -- it keeps the number that it gets, whatever stands behind it
  given : has t vocabulary ≡ false → term_of (known (us ++ (t ∷ vs))) t ≡ number_in (with_token (known us) t) t
  unfolding known_after with_term term_of
  given p =
      ap (λ (k : Known). term_of k t) (after-append unknown us (t ∷ vs))
      ∙ (after-still (with_term (known us) t) vs t (numbered-new (known us) t)).1
      ∙ rw p

  pub appearance : (is_other t ≡ true → Numbers is_other 6 us t vs) × (is_literal t ≡ true → Numbers is_literal 40000 us t vs)
  appearance = (name, literal)
    where
      name : is_other t ≡ true → Numbers is_other 6 us t vs
      name o =
          let b = (and-eq-true_iff (not (is_literal t)) (not (has t vocabulary))).0 o in
          ((known us).names, (apart us).names, given (not-true _ b.1) ∙ (new-name (known us) t (not-true _ b.0) fresh).0)

      literal : is_literal t ≡ true → Numbers is_literal 40000 us t vs
      literal l = ((known us).literals, (apart us).literals, given (literal-other t l) ∙ (new-literal (known us) t l fresh).0)
