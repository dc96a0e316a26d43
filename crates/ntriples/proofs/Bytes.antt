-- The classes of bytes are those of the laws (specs/Lexical).
-- Assumes nothing.
use mathlib.Core.Path.{◌≡◌, refl}
use mathlib.Core.Logic.{◌⊎◌, inl, inr, ⊎_elim, ◌↔◌}
use mathlib.Core.Bool.{Bool, true, false, not, ◌&&◌, ◌||◌}
use mathlib.Core.List.Memᴰ
use mathlib.Core.List.{List, [], ◌∷◌, Memᴰ}
use Prim.Native.Nat.{ℕ, ◌≤◌}
use lib.Dec.{eqb, leb}
use borrow.Author.Tests.{eqb-true, eq-eqb, leb-true, le-leb, ltb-true, lt-ltb}
use Rattle.ntriples.specs.declared.Class.TheVariants.{White, Iri, Quoted, Comment, Letter, LetterDigit, Label}
use Rattle.ntriples.specs.Classes.{belongs}
use Rattle.ntriples.specs.Grammar.{begins, closes}
use Rattle.ntriples.specs.Lexical.{NoneOf, IriByte, QuotedByte, CommentByte, WhiteByte, LetterByte, LetterDigitByte, LabelByte}
use Rattle.ntriples.proofs.Lexed.{never}

-- a test says this
abbrev pub Tests : Bool → Type 0 → Type 0
Tests x P = (x ≡ true) ↔ P

both : {x y : Bool} {P Q : Type 0} → Tests x P → Tests y Q → Tests (x && y) (P × Q)
both {x} {y} {P} {Q} f g = (to x f, λ h. rw (f.1 h.0, g.1 h.1))
  where
    to : (x : Bool) → Tests x P → x && y ≡ true → P × Q
    to true f e = (f.0 refl, g.0 e)
    to false f e = never e

either : {x y : Bool} {P Q : Type 0} → Tests x P → Tests y Q → Tests (x || y) (P ⊎ Q)
either {x} {y} {P} {Q} f g = (to x f, ⊎_elim (λ p. rw (f.1 p)) (λ q. from x (g.1 q)))
  where
    to : (x : Bool) → Tests x P → x || y ≡ true → P ⊎ Q
    to true f e = inl (f.0 refl)
    to false f e = inr (g.0 e)

    from : (x : Bool) → y ≡ true → x || y ≡ true
    from true e = refl
    from false e = e

fails : {x : Bool} {P : Type 0} → Tests x P → Tests (not x) (P → ⊥)
fails {x} {P} f = (to x f, from x f)
  where
    to : (x : Bool) → Tests x P → not x ≡ true → P → ⊥
    to true f e p = never e
    to false f e p = never (f.1 p)

    from : (x : Bool) → Tests x P → (P → ⊥) → not x ≡ true
    from true f h = absurd (h (f.0 refl))
    from false f h = refl

is : (b c : ℕ) → Tests (eqb b c) (b ≡ c)
is b c = (eqb-true b c, eq-eqb b c)

between : (a b c : ℕ) → Tests (leb a b && leb b c) ((a ≤ b) × (b ≤ c))
between a b c = both (leb-true a b, le-leb a b) (leb-true b c, le-leb b c)

-- a test, or the byte is one of these
abbrev or_among : Bool → ℕ → List ℕ → Bool
or_among x b [] = x
or_among x b (c ∷ l) = or_among (x || eqb b c) b l

or-among : {x : Bool} {P : Type 0} (b : ℕ) (l : List ℕ) → Tests x P → Tests (or_among x b l) (P ⊎ Memᴰ b l)
or-among b [] f = (λ e. inl (f.0 e), ⊎_elim f.1 (λ m. absurd (Memᴰ.not-nil m)))
or-among {x} {P} b (c ∷ l) f =
    let g = or-among {x = x || eqb b c} {P = P ⊎ (b ≡ c)} b l (either f (is b c)) in (
      λ e. ⊎_elim (λ (h : P ⊎ (b ≡ c)). ⊎_elim (λ p. inl p) (λ (e : b ≡ c). inr (Memᴰ.head e)) h) (λ (m : Memᴰ b l). inr (Memᴰ.tail m)) (g.0 e),
      λ h. g.1 (⊎_elim (λ (p : P). inl (inl p)) (λ (m : Memᴰ b (c ∷ l)). ⊎_elim (λ (e : b ≡ c). inl (inr e)) (λ (n : Memᴰ b l). inr n) (Memᴰ.cases_cons m)) h),
    )

among : (b c : ℕ) (l : List ℕ) → Tests (or_among (eqb b c) b l) (Memᴰ b (c ∷ l))
among b c l =
    let g = or-among b l (is b c) in
    (λ e. ⊎_elim (λ (p : b ≡ c). Memᴰ.head p) (λ (m : Memᴰ b l). Memᴰ.tail m) (g.0 e), λ m. g.1 (Memᴰ.cases_cons m))

-- ---- the classes

pub white-byte : (b : ℕ) → Tests (belongs White b) (WhiteByte b)
unfolding belongs
white-byte b = among b 32 (9 ∷ [])

pub iri-byte : (b : ℕ) → Tests (belongs Iri b) (IriByte b)
unfolding belongs
iri-byte b = both (ltb-true 32 b, lt-ltb 32 b) (fails (among b 60 (62 ∷ 34 ∷ 123 ∷ 125 ∷ 124 ∷ 94 ∷ 96 ∷ 92 ∷ [])))

pub quoted-byte : (b : ℕ) → Tests (belongs Quoted b) (QuotedByte b)
unfolding belongs
quoted-byte b = fails (among b 34 (92 ∷ 10 ∷ 13 ∷ []))

pub comment-byte : (b : ℕ) → Tests (belongs Comment b) (CommentByte b)
unfolding belongs
comment-byte b = fails (among b 10 (13 ∷ []))

pub letter-byte : (b : ℕ) → Tests (belongs Letter b) (LetterByte b)
unfolding belongs
letter-byte b = either (between 65 b 90) (between 97 b 122)

pub letter-digit-byte : (b : ℕ) → Tests (belongs LetterDigit b) (LetterDigitByte b)
unfolding belongs
letter-digit-byte b = either (letter-byte b) (between 48 b 57)

pub label-byte : (b : ℕ) → Tests (belongs Label b) (LabelByte b)
unfolding belongs
label-byte b = either (or-among b (95 ∷ 58 ∷ 45 ∷ 46 ∷ []) (letter-digit-byte b)) (ltb-true 127 b, lt-ltb 127 b)

-- a label's first byte and its last
pub begins-byte : (b : ℕ) → Tests (begins b) (LabelByte b × NoneOf (45 ∷ 46 ∷ []) b)
begins-byte b = both (label-byte b) (fails (among b 45 (46 ∷ [])))

pub closes-byte : (b : ℕ) → Tests (closes b) (LabelByte b × (b ≡ 46 → ⊥))
closes-byte b = both (label-byte b) (fails (is b 46))
