-- A field read from the left, spaces first and then digit by digit, is the field that its five bytes are.
-- Assumes nothing.
use mathlib.Core.Path.{◌≡◌, refl, sym, ap, ◌∙◌}
use mathlib.Core.Bool.{Bool, true, false, cond}
use mathlib.Core.List.{List, [], ◌∷◌}
use Prim.Native.Nat.{ℕ, zero, suc, ◌+◌, ◌-◌, ◌*◌, ◌/◌, ◌%◌, ◌≤◌, ◌<◌}
use native.Mathlib.Omega.{arith}
use native.Mathlib.Nat.{zero-add}
use lib.ListN.{length, get_or, drop, take}
use lib.Seq.{drop-cons}
use native.Mathlib.Numerals.{add-one}
use lib.Dec.{eqb}
use borrow.Author.Tests.{eqb-true, eqb-false, eq-eqb, ne_eqb}
use Rattle.std.proofs.lemmas.List.{at_drop_more}
use Rattle.std.proofs.lemmas.Option.{cond_some, none-some}
use Rattle.std.specs.Prelude.{fold, Option, Some, None, unwrap_or}
use Rattle.columns.specs.Fields.{column, joined, number_at, is_field, field_at, field_read}
use Rattle.columns.specs.Columns.{with_digit, first_digit, digit_more, digits}
use Rattle.columns.proofs.Fields.{column-digit, bytes_of, has-field, field_below}

pub by_cases : {X : Type 0} (b : Bool) → (b ≡ true → X) → (b ≡ false → X) → X
by_cases true f g = f refl
by_cases false f g = g refl

-- what is there only where a test holds
pub cond_none : {X : Type 0} (b : Bool) (x : X) → cond b (Some x) None ≡ None → b ≡ false
cond_none true x e = absurd (none-some x (sym e))
cond_none false x e = refl

-- ---- one column

column-none : column 0 ≡ 32
unfolding column
column-none = refl

column-some : (n : ℕ) → (n ≡ 0 → ⊥) → column n ≡ 48 + n % 10
unfolding column
column-some n h = rw (ne_eqb n 0 h)

digit_not : (n b : ℕ) → (b ≡ 48 + joined n b % 10 → ⊥) → with_digit n b ≡ None
unfolding with_digit
digit_not n b h = rw (ne_eqb b (48 + joined n b % 10) h)

digit-is : (n b : ℕ) → b ≡ 48 + joined n b % 10 → with_digit n b ≡ Some (joined n b)
unfolding with_digit
digit-is n b h = rw (eq-eqb b (48 + joined n b % 10) h)

-- the cases of the code
pub digit-none : (n b : ℕ) → (48 ≤ b → b ≤ 57 → ⊥) → with_digit n b ≡ None
digit-none n b h = digit_not n b (λ e. h (omega arith) (omega arith))

pub digit-some : (n b : ℕ) → 48 ≤ b → b ≤ 57 → with_digit n b ≡ Some (n * 10 + (b - 48))
digit-some n b l h = let e : joined n b ≡ n * 10 + (b - 48) = omega arith in digit-is n b (omega arith) ∙ ap Some e

pub ruleset digit_cases = (digit-none, digit-some)

-- no digit, or the digit 0
pub first-none : (b : ℕ) → (49 ≤ b → b ≤ 57 → ⊥) → first_digit b ≡ None
unfolding first_digit
first-none b h = by_cases (eqb b 48) (λ e. rw e) (λ e. let z = eqb-false _ _ e in rw e (digit-none 0 b (λ l u. h (omega arith) u)))

first_some : (b : ℕ) → (b ≡ 48 → ⊥) → first_digit b ≡ with_digit 0 b
unfolding first_digit
first_some b h = rw (ne_eqb b 48 h)

pub first-some : (b : ℕ) → 49 ≤ b → b ≤ 57 → first_digit b ≡ Some (b - 48)
first-some b l h = first_some b (λ e. omega arith) ∙ digit-some 0 b (omega arith) h ∙ rw zero-add

pub ruleset first_cases = (first-none, first-some)

-- ---- bytes read one after the other

-- bytes read as spaces, then a first digit, then more digits; in the last column any digit is right
unfoldable pub scanned : List ℕ → Option ℕ
scanned [] = None
scanned (b ∷ []) = with_digit 0 b
scanned (b ∷ c ∷ bs) = cond (eqb b 32) (scanned (c ∷ bs)) (digits b (c ∷ bs))

-- what the bytes behind n say, whatever they are
abbrev total : ℕ → List ℕ → ℕ
total n [] = n
total n (b ∷ bs) = total (joined n b) bs

-- the bytes behind n are the ones that writing gives: in the last column always a digit
abbrev Right : ℕ → List ℕ → Type 0
Right n [] = ⊥
Right n (b ∷ []) = b ≡ 48 + joined n b % 10
Right n (b ∷ c ∷ bs) = (b ≡ column (joined n b)) × Right (joined n b) (c ∷ bs)

-- r is what they say where they are right, and else none
record Reads (n : ℕ) (bs : List ℕ) (r : Option ℕ) : Type 0 where
  right : Right n bs → r ≡ Some (total n bs)
  wrong : (Right n bs → ⊥) → r ≡ None

right-byte : (n b c : ℕ) (r : Option ℕ) (bs : List ℕ) → b ≡ column (joined n b) → Reads (joined n b) (c ∷ bs) r → Reads n (b ∷ c ∷ bs) r
right-byte n b c r bs e k = record { right = λ p. k.right p.1; wrong = λ z. k.wrong (λ p. z (e, p)) }

wrong_byte : (n b c : ℕ) (r : Option ℕ) (bs : List ℕ) → (b ≡ column (joined n b) → ⊥) → r ≡ None → Reads n (b ∷ c ∷ bs) r
wrong_byte n b c r bs z e = record { right = λ p. absurd (z p.0); wrong = λ _. e }

last_byte : (n b : ℕ) → Reads n (b ∷ []) (with_digit n b)
last_byte n b = record { right = digit-is n b; wrong = digit_not n b }

-- behind a byte that is no digit nothing is read
pub digits-none : (bs : List ℕ) → fold digit_more None bs ≡ None
unfolding digit_more
digits-none [] = refl
digits-none (b ∷ bs) = digits-none bs

pub digits-more : (n b : ℕ) (bs : List ℕ) → fold digit_more (Some n) (b ∷ bs) ≡ fold digit_more (with_digit n b) bs
unfolding digit_more
digits-more n b bs = refl

-- m is what a digit makes of n, and not 0: then come the digits behind it
digit-read : (n : ℕ) (m : Option ℕ) (b c : ℕ) (bs : List ℕ) → 0 < joined n b → m ≡ with_digit n b → Reads (joined n b) (c ∷ bs) (fold digit_more (Some (joined n b)) (c ∷ bs))
    → Reads n (b ∷ c ∷ bs) (fold digit_more m (c ∷ bs))
digit-read n m b c bs p e k =
    let s = column-some (joined n b) (λ z. omega arith) in
    by_cases (eqb b (48 + joined n b % 10))
    (λ t. let d = eqb-true _ _ t in right-byte n b c _ bs (d ∙ sym s) (rw (e, digit-is n b d) k))
    (λ t. let z = eqb-false _ _ t in wrong_byte n b c _ bs (λ q. z (q ∙ s)) (rw (e, digit_not n b z) (digits-none (c ∷ bs))))

digits-read : (n b : ℕ) (bs : List ℕ) → 0 < n → Reads n (b ∷ bs) (fold digit_more (Some n) (b ∷ bs))
digits-read n b [] p = rw digits-more (last_byte n b)
digits-read n b (c ∷ bs) p = rw digits-more (digit-read n (with_digit n b) b c bs (omega arith) refl (digits-read (joined n b) c bs (omega arith)))

first_read : (b c : ℕ) (bs : List ℕ) → (b ≡ 32 → ⊥) → Reads 0 (b ∷ c ∷ bs) (digits b (c ∷ bs))
unfolding digits
first_read b c bs z =
    by_cases (eqb (joined 0 b) 0)
    (λ t. let e : joined 0 b ≡ 0 = eqb-true _ _ t in
    wrong_byte 0 b c _ bs (λ q. z (q ∙ rw (e, column-none))) (rw (first-none b (λ l u. omega arith)) (digits-none (c ∷ bs))))
    (λ t. let e : joined 0 b ≡ 0 → ⊥ = eqb-false _ _ t in
    digit-read 0 (first_digit b) b c bs (omega arith) (first_some b (λ y. e (rw y))) (digits-read (joined 0 b) c bs (omega arith)))

pub space-scanned : (b c : ℕ) (bs : List ℕ) → b ≡ 32 → scanned (b ∷ c ∷ bs) ≡ scanned (c ∷ bs)
unfolding scanned
space-scanned b c bs e = rw (eq-eqb b 32 e)

pub digit-scanned : (b c : ℕ) (bs : List ℕ) → (b ≡ 32 → ⊥) → scanned (b ∷ c ∷ bs) ≡ digits b (c ∷ bs)
unfolding scanned
digit-scanned b c bs z = rw (ne_eqb b 32 z)

scan-read : (b : ℕ) (bs : List ℕ) → Reads 0 (b ∷ bs) (scanned (b ∷ bs))
scan-read b [] = unfold scanned in last_byte 0 b
scan-read b (c ∷ bs) =
    by_cases (eqb b 32)
    (λ t. let e = eqb-true b 32 t in rw (space-scanned b c bs e, e) (right-byte 0 32 c _ bs (sym column-none) (scan-read c bs)))
    (λ t. let z = eqb-false b 32 t in rw (digit-scanned b c bs z) (first_read b c bs z))

-- ---- the five bytes of a field

module _ (s : List ℕ) (at : ℕ) where
  abbrev pub bytes : List ℕ
  bytes = get_or s at 0 ∷ get_or s (at + 1) 0 ∷ get_or s (at + 2) 0 ∷ get_or s (at + 3) 0 ∷ get_or s (at + 4) 0 ∷ []

  -- the numbers that the first columns say, one after the other
  abbrev says₁ : ℕ
  says₁ = joined 0 (get_or s at 0)

  abbrev says₂ : ℕ
  says₂ = joined says₁ (get_or s (at + 1) 0)

  abbrev says₃ : ℕ
  says₃ = joined says₂ (get_or s (at + 2) 0)

  abbrev says₄ : ℕ
  says₄ = joined says₃ (get_or s (at + 3) 0)

  abbrev says₅ : ℕ
  says₅ = joined says₄ (get_or s (at + 4) 0)

  -- a byte's digit, by what it is
  digit-of : (b m : ℕ) → b ≡ column m → b % 16 ≡ m % 10
  digit-of b m e = rw e (column-digit m)

  field-right : is_field s at ≡ true → Right 0 bytes
  unfolding is_field number_at
  field-right e =
      let n = number_at s at in
      let b = bytes_of s at n e in
      let small = field_below s at (unfold is_field in e) in
      let d₁ = digit-of (get_or s at 0) (n / 10 / 10 / 10 / 10) b.b₀ in
      let d₂ = digit-of (get_or s (at + 1) 0) (n / 10 / 10 / 10) b.b₁ in
      let d₃ = digit-of (get_or s (at + 2) 0) (n / 10 / 10) b.b₂ in
      let d₄ = digit-of (get_or s (at + 3) 0) (n / 10) b.b₃ in
      let e₁ : says₁ ≡ n / 10 / 10 / 10 / 10 = omega arith in
      let e₂ : says₂ ≡ n / 10 / 10 / 10 = rw e₁ (omega arith) in
      let e₃ : says₃ ≡ n / 10 / 10 = rw e₂ (omega arith) in
      let e₄ : says₄ ≡ n / 10 = rw e₃ (omega arith) in
      (b.b₀ ∙ ap column (sym e₁), (b.b₁ ∙ ap column (sym e₂), (b.b₂ ∙ ap column (sym e₃), (b.b₃ ∙ ap column (sym e₄), b.b₄))))

  right-field : Right 0 bytes → is_field s at ≡ true
  unfolding is_field number_at
  right-field (c₁, (c₂, (c₃, (c₄, c₅)))) =
      let d₂ = digit-of (get_or s (at + 1) 0) says₂ c₂ in
      let d₃ = digit-of (get_or s (at + 2) 0) says₃ c₃ in
      let d₄ = digit-of (get_or s (at + 3) 0) says₄ c₄ in
      let d₅ : get_or s (at + 4) 0 % 16 ≡ says₅ % 10 = rw c₅ (omega arith) in
      let q₄ : says₅ / 10 ≡ says₄ = omega arith in
      let q₃ : says₄ / 10 ≡ says₃ = omega arith in
      let q₂ : says₃ / 10 ≡ says₂ = omega arith in
      let q₁ : says₂ / 10 ≡ says₁ = omega arith in
      has-field s at says₅ (record {
        b₀ = c₁ ∙ ap column (sym (rw (q₄, q₃, q₂) q₁));
        b₁ = c₂ ∙ ap column (sym (rw (q₄, q₃) q₂));
        b₂ = c₃ ∙ ap column (sym (rw q₄ q₃));
        b₃ = c₄ ∙ ap column (sym q₄);
        b₄ = c₅;
      })

  -- what the bytes are read as is the number of the field, if they are one
  pub field-scanned : scanned bytes ≡ field_read s at
  unfolding field_read number_at
  field-scanned =
      let k = scan-read (get_or s at 0) (get_or s (at + 1) 0 ∷ get_or s (at + 2) 0 ∷ get_or s (at + 3) 0 ∷ get_or s (at + 4) 0 ∷ []) in
      by_cases (is_field s at)
      (λ e. rw e (k.right (field-right e)))
      (λ e. rw e (k.wrong (λ p. let z : ◌≡◌ {A = ℕ} 0 1 = cc (right-field p) in omega arith)))

-- ---- the number of a field, and of no field

pub read-some : (s : List ℕ) (at : ℕ) → is_field s at ≡ true → field_read s at ≡ Some (number_at s at)
unfolding field_read
read-some s at e = rw e

pub read-none : (s : List ℕ) (at : ℕ) → is_field s at ≡ false → field_read s at ≡ None
unfolding field_read
read-none s at e = rw e

-- the number that a field has, or else 100,000
pub field-or : (s : List ℕ) (at : ℕ) → unwrap_or (field_read s at) 100000 ≡ field_at s at
unfolding field_read field_at
field-or s at = by_cases (is_field s at) (λ e. rw e) (λ e. rw e)

-- where a number was read, a field stands that has it
pub some-field : (s : List ℕ) (at n : ℕ) → field_read s at ≡ Some n → (is_field s at ≡ true) × (number_at s at ≡ n)
unfolding field_read
some-field s at n e = cond_some _ _ _ e

pub none-field : (s : List ℕ) (at : ℕ) → field_read s at ≡ None → is_field s at ≡ false
unfolding field_read
none-field s at e = cond_none _ _ e

pub field-number : (s : List ℕ) (at : ℕ) → is_field s at ≡ true → field_at s at ≡ number_at s at
unfolding field_at
field-number s at e = rw e

pub field-none : (s : List ℕ) (at : ℕ) → field_at s at ≡ 100000 → is_field s at ≡ false
field-none s at e = by_cases (is_field s at) (λ t. absurd (omega (arith, field-number s at t, field_below s at t))) (λ t. t)

pub field-some : (s : List ℕ) (at : ℕ) → (field_at s at ≡ 100000 → ⊥) → is_field s at ≡ true
unfolding field_at
field-some s at h = by_cases (is_field s at) (λ t. t) (λ t. absurd (h (rw t)))

-- ---- a field's bytes from a column on, as a part of a list

-- one byte, and those behind it
first_of : (s : List ℕ) (i n : ℕ) → i < length s → take (suc n) (drop i s) ≡ get_or s i 0 ∷ take n (drop (i + 1) s)
first_of s i n h = rw (drop-cons s i 0 h, add-one)

-- the same of n + 2 bytes, of which the second is there too
first_of_some : (s : List ℕ) (i n m : ℕ) → m ≡ n + 2 → i + 1 < length s → (take m (drop i s) ≡ get_or s i 0 ∷ get_or s (i + 1) 0 ∷ take n (drop (i + 1 + 1) s)) × (take (n + 1) (drop (i + 1) s) ≡ get_or s (i + 1) 0 ∷ take n (drop (i + 1 + 1) s))
first_of_some s i n m e h =
    let k : m ≡ suc (suc n) = omega arith in
    let j : n + 1 ≡ suc n = omega arith in
    (rw (k, first_of s i (suc n) (omega arith), first_of s (i + 1) n h), rw (j, first_of s (i + 1) n h))

pub field_bytes : (s : List ℕ) (at : ℕ) → at + 5 ≤ length s → take 5 (drop at s) ≡ bytes s at
field_bytes s at h =
    let e₁ : at + 1 + 1 ≡ at + 2 = omega arith in
    let e₂ : at + 2 + 1 ≡ at + 3 = omega arith in
    let e₃ : at + 3 + 1 ≡ at + 4 = omega arith in
    rw (first_of s at 4 (omega arith), first_of s (at + 1) 3 (omega arith), e₁, first_of s (at + 2) 2 (omega arith), e₂, first_of s (at + 3) 1 (omega arith), e₃, first_of s (at + 4) 0 (omega arith))

pub field_start : (s : List ℕ) (at : ℕ) → at + 5 ≤ length s → scanned (take 5 (drop at s)) ≡ field_read s at
field_start s at h = rw (field_bytes s at h) (field-scanned s at)

-- a space is passed over
pub field-passed : (s : List ℕ) (i m : ℕ) → 1 < m → i + 1 < length s → get_or s i 0 ≡ 32 → scanned (take m (drop i s)) ≡ scanned (take (m - 1) (drop (i + 1) s))
field-passed s i m l h e =
    let p = first_of_some s i (m - 2) m (omega arith) h in
    let k : m - 1 ≡ m - 2 + 1 = omega arith in
    rw (p.0, k, p.1) (space-scanned _ _ _ e)

-- at any other byte the digits begin
pub field-digits : (s : List ℕ) (i m : ℕ) → 1 < m → i + 1 < length s → (get_or s i 0 ≡ 32 → ⊥) → scanned (take m (drop i s)) ≡ digits (get_or s i 0) (take (m - 1) (drop (i + 1) s))
field-digits s i m l h z =
    let p = first_of_some s i (m - 2) m (omega arith) h in
    let k : m - 1 ≡ m - 2 + 1 = omega arith in
    rw (p.0, k, p.1) (digit-scanned _ _ _ z)

pub field-last : (s : List ℕ) (i : ℕ) → i < length s → scanned (take 1 (drop i s)) ≡ with_digit 0 (get_or s i 0)
unfolding scanned
field-last s i h = rw (first_of s i 0 h)

-- ---- the columns joined from the left

pub number-joined : (s : List ℕ) (at : ℕ) → at + 5 ≤ length s → fold joined 0 (take 5 (drop at s)) ≡ number_at s at
unfolding number_at
number-joined s at h = rw (field_bytes s at h)

-- ---- digits behind a first one, read one after the other

-- the digit at i ends the reading, or is followed by the others
pub more-none : (n i : ℕ) (bs : List ℕ) → i < length bs → None ≡ with_digit n (get_or bs i 0) → fold digit_more (Some n) (drop i bs) ≡ None
more-none n i bs h e = at_drop_more (fold digit_more (Some n)) bs i 0 h ∙ rw (digits-more, ← e) (digits-none (drop (i + 1) bs))

pub more-some : (n m i : ℕ) (bs : List ℕ) → i < length bs → Some m ≡ with_digit n (get_or bs i 0) → fold digit_more (Some n) (drop i bs) ≡ fold digit_more (Some m) (drop (i + 1) bs)
more-some n m i bs h e = at_drop_more (fold digit_more (Some n)) bs i 0 h ∙ rw (digits-more, ← e)

-- ---- room for digits

-- what the number so far is below where k digits follow
abbrev pub room : ℕ → ℕ
room zero = 100000
room (suc k) = room k / 10

pub room_most : (k : ℕ) → room k ≤ 100000
room_most zero = omega arith
room_most (suc k) = omega (arith, room_most k)

pub room_least : (k : ℕ) → k ≤ 4 → 10 ≤ room k
room_least zero h = omega arith
room_least (suc zero) h = omega arith
room_least (suc (suc zero)) h = omega arith
room_least (suc (suc (suc zero))) h = omega arith
room_least (suc (suc (suc (suc zero)))) h = omega arith
room_least (suc (suc (suc (suc (suc k))))) h = absurd (omega arith)

pub room-next : (k n i : ℕ) → i < k → n < room (k - i) → n * 10 + 10 ≤ room (k - (i + 1))
room-next k n i h l = let e : k - i ≡ suc (k - (i + 1)) = omega arith in let m = rw e at l in omega arith
