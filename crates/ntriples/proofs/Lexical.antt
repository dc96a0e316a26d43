-- The Point's sentences on bytes (specs/Lexical) hold.
-- Assumes nothing.
use mathlib.Core.Path.{◌≡◌, refl, sym, ap, subst, ◌∙◌}
use mathlib.Core.Logic.{◌⊎◌, inl, inr, ⊎_elim, ◌↔◌}
use mathlib.Core.Bool.{Bool, true, not, ◌&&◌}
use mathlib.Core.List.Memᴰ
use mathlib.Core.List.{List, [], ◌∷◌, ◌++◌, append_assoc, Memᴰ, head-eq_of_cons-eq, tail-eq_of_cons-eq}
use Prim.Native.Nat.{ℕ, ◌<◌}
use native.Mathlib.Omega.{arith}
use lib.ListN.{length, length-append}
use lib.Seq.{drop-append_seam}
use lib.Dec.{T, eqb, leb}
use mir.Facts.{and_yes, T_not, yes_eqb, leb_yes}
use Rattle.facts.proofs.Terms.{T_of}
use Rattle.ntriples.specs.declared.Class.TheVariants.{Letter, LetterDigit, Label}
use Rattle.ntriples.specs.Classes.{belongs}
use Rattle.ntriples.specs.Grammar.{Grammar, nothing, byte, one, then, or, many, joined, Each, Of, perhaps, some, closes, iri, tag, quoted, datatype, literal, blank, subject, object, white, rest, Says, Silent}
use Rattle.ntriples.specs.Outcomes.{Foreign}
use Rattle.ntriples.specs.Tokens.{Token}
use Rattle.ntriples.specs.Lexical.{Every, Word, NoneOf, IriByte, QuotedByte, CommentByte, WhiteByte, LetterByte, LetterDigitByte, LabelByte, hyphened, Enclosed, Labelled, Tagged, Lexical}
use Rattle.ntriples.proofs.Bytes.{Tests, white-byte, iri-byte, quoted-byte, comment-byte, letter-byte, letter-digit-byte, label-byte, begins-byte, closes-byte}

-- ---- what holds of all bytes of a list

module _ (P : ℕ → Type 0) where
  every-nothing : Every P []
  every-nothing a m = absurd (Memᴰ.not-nil m)

  every_first : {b : ℕ} {l : List ℕ} → P b → Every P l → Every P (b ∷ l)
  every_first {b} {l} p h a m = ⊎_elim (λ (e : a ≡ b). subst P (sym e) p) (h a) (Memᴰ.cases_cons m)

  every_append : (u : List ℕ) {v : List ℕ} → Every P u → Every P v → Every P (u ++ v)
  every_append u h k a m = ⊎_elim (h a) (k a) (Memᴰ.append_cases u m)

  every-joined : (Q : List ℕ → Type 0) → ((u : List ℕ) → Q u → Every P u) → (us : List (List ℕ)) → Each Q us → Every P (joined us)
  unfolding joined Each
  every-joined Q h [] q = every-nothing
  every-joined Q h (u ∷ us) (q, qs) = every_append u (h u q) (every-joined Q h us qs)

-- ---- bytes that stand nowhere in a grammar

unfoldable lacks : ℕ → Grammar → Bool
lacks x nothing = true
lacks x (byte b) = not (eqb x b)
lacks x (one p) = not (p x)
lacks x (then g h) = lacks x g && lacks x h
lacks x (or g h) = lacks x g && lacks x h
lacks x (many g) = lacks x g

abbrev Other : ℕ → ℕ → Type 0
Other x b = x ≡ b → ⊥

-- no token of the grammar has the byte
absent : (x : ℕ) (g : Grammar) → T (lacks x g) → (t : List ℕ) → Of g t → Every (Other x) t
unfolding lacks Of joined Each
absent x nothing l t e = subst (Every (Other x)) (sym e) (every-nothing (Other x))
absent x (byte b) l t e = subst (Every (Other x)) (sym e) (every_first (Other x) (λ z. T_not (eqb x b) (yes_eqb z) l) (every-nothing (Other x)))
absent x (one p) l t (b, e, h) = subst (Every (Other x)) (sym e) (every_first (Other x) (λ z. T_not (p x) (T_of (p x) (ap p z ∙ h)) l) (every-nothing (Other x)))
absent x (then g h) l t (u, v, e, a, b) =
    let k = and_yes (lacks x g) (lacks x h) l in
    subst (Every (Other x)) (sym e) (every_append (Other x) u (absent x g k.0 u a) (absent x h k.1 v b))
absent x (or g h) l t o = let k = and_yes (lacks x g) (lacks x h) l in ⊎_elim (absent x g k.0 t) (absent x h k.1 t) o
absent x (many g) l t (us, e, a) = subst (Every (Other x)) (sym e) (every-joined (Other x) (Of g) (absent x g l) us a)

-- a line that says nothing; one that makes a statement, from its object on, from its predicate on, and as a whole
abbrev silence : Grammar
silence = then white rest

abbrev from_object : Grammar
from_object = then object (then white (then (byte 46) silence))

abbrev from_predicate : Grammar
from_predicate = then iri (then white from_object)

abbrev statement : Grammar
statement = then white (then subject (then white from_predicate))

says-statement : (l s p o : Token) → Says l s p o → Of statement l
unfolding Of
says-statement l s p o h =
    let z : Of silence (h.w4 ++ h.r) = (h.w4, h.r, refl, h.white4, h.is-rest) in
    let y : Of from_object (o ++ (h.w3 ++ (46 ∷ (h.w4 ++ h.r)))) = (o, _, refl, h.is-object, (h.w3, _, refl, h.white3, (46 ∷ [], _, refl, refl, z))) in
    let x : Of from_predicate (p ++ (h.w2 ++ (o ++ (h.w3 ++ (46 ∷ (h.w4 ++ h.r)))))) = (p, _, refl, h.is-predicate, (h.w2, _, refl, h.white2, y)) in
    (h.w0, _, h.line, h.white0, (s, _, refl, h.is-subject, (h.w1, _, refl, h.white1, x)))

silent-silence : (l : List ℕ) → Silent l → Of silence l
unfolding Of
silent-silence l h = (h.w, h.r, h.line, h.is_white, h.is-rest)

-- a line with a byte that no line of the grammar has
foreign : (x : ℕ) → T (lacks x statement) → T (lacks x silence) → (l : List ℕ) → Memᴰ x l → Foreign l
foreign x a b l m =
    record { no-statement = λ s p o h. absent x statement a l (says-statement l s p o h) x m refl; not-silent = λ h. absent x silence b l (silent-silence l h) x m refl }

carriage-return : (l : List ℕ) → Memᴰ 13 l → Foreign l
unfolding lacks subject object rest belongs
carriage-return = foreign 13 tt tt

line-end : (l : List ℕ) → Memᴰ 10 l → Foreign l
unfolding lacks subject object rest belongs
line-end = foreign 10 tt tt

no-escapes : (l : List ℕ) (s p o : Token) → Says l s p o → (t : Token) → Memᴰ t (s ∷ p ∷ o ∷ []) → Memᴰ 92 t → ⊥
unfolding lacks subject object belongs
no-escapes l s p o h t m n =
    ⊎_elim (λ (e : t ≡ s). absent 92 subject tt t (subst (Of subject) (sym e) h.is-subject) 92 n refl)
    (λ (m : Memᴰ t (p ∷ o ∷ [])). ⊎_elim (λ (e : t ≡ p). absent 92 iri tt t (subst (Of iri) (sym e) h.is-predicate) 92 n refl)
    (λ (m : Memᴰ t (o ∷ [])). absent 92 object tt t (subst (Of object) (sym (Memᴰ.eq_of_singleton m)) h.is-object) 92 n refl)
    (Memᴰ.cases_cons m)) (Memᴰ.cases_cons m)

-- ---- runs of bytes, and runs between two bytes

module _ (p : ℕ → Bool) (P : ℕ → Type 0) (says : (b : ℕ) → Tests (p b) (P b)) where
  one_byte : (t : List ℕ) → Of (one p) t → Every P t
  unfolding Of
  one_byte t (b, e, h) = subst (Every P) (sym e) (every_first P ((says b).0 h) (every-nothing P))

  run_of : (t : List ℕ) → Every P t → Of (many (one p)) t
  unfolding Of joined Each
  run_of [] h = ([], refl, tt)
  run_of (b ∷ l) h =
      let r = run_of l (λ a m. h a (Memᴰ.tail m)) in
      ((b ∷ []) ∷ r.0, ap (λ (k : List ℕ). b ∷ k) r.1, ((b, refl, (says b).1 (h b (Memᴰ.head refl))), r.2))

  runs : (t : List ℕ) → Of (many (one p)) t ↔ Every P t
  unfolding Of
  runs t = (λ h. subst (Every P) (sym h.1) (every-joined P (Of (one p)) one_byte h.0 h.2), run_of t)

  enclosed : (a z : ℕ) (t : List ℕ) → Of (then (byte a) (then (many (one p)) (byte z))) t ↔ Enclosed a P z t
  unfolding Of
  enclosed a z t = (λ (s, r, e, x, (u, v, f, y, w)). (u, rw (e, x, f, w), (runs u).0 y), λ (u, e, h). (a ∷ [], u ++ (z ∷ []), e, refl, (u, z ∷ [], refl, (runs u).1 h, refl)))

  words : (t : List ℕ) → Of (then (one p) (many (one p))) t ↔ Word P t
  unfolding Of
  words t = (to t, from t)
    where
      to : (t : List ℕ) → Of (then (one p) (many (one p))) t → Word P t
      to t (u, v, e, (b, f, x), y) =
          let g : t ≡ b ∷ v = e ∙ ap (λ (l : List ℕ). l ++ v) f in
          (λ n. omega (arith, ap length (sym g ∙ n)), subst (Every P) (sym g) (every_first P ((says b).0 x) ((runs v).0 y)))

      from : (t : List ℕ) → Word P t → Of (then (one p) (many (one p))) t
      from [] (n, h) = absurd (n refl)
      from (b ∷ v) (n, h) = (b ∷ [], v, refl, (b, refl, (says b).1 (h b (Memᴰ.head refl))), (runs v).1 (λ a m. h a (Memᴰ.tail m)))

iris : (t : List ℕ) → Of iri t ↔ Enclosed 60 IriByte 62 t
unfolding iri
iris = enclosed _ IriByte iri-byte 60 62

quotes : (t : List ℕ) → Of quoted t ↔ Enclosed 34 QuotedByte 34 t
unfolding quoted
quotes = enclosed _ QuotedByte quoted-byte 34 34

spaces : (w : List ℕ) → Of white w ↔ Every WhiteByte w
spaces = runs _ WhiteByte white-byte

comments : (t : List ℕ) → Of rest t ↔ ((t ≡ []) ⊎ ((u : List ℕ) × (t ≡ 35 ∷ u) × Every CommentByte u))
unfolding Of rest
comments t = (
  ⊎_elim (λ n. inl n) (λ (s, u, e, x, y). inr (u, rw (e, x), (runs _ CommentByte comment-byte u).0 y)),
  ⊎_elim (λ n. inl n) (λ (u, e, h). inr (35 ∷ [], u, e, refl, (runs _ CommentByte comment-byte u).1 h)),
)

-- ---- blank labels

last-same : (v w : List ℕ) (a b : ℕ) → v ++ (a ∷ []) ≡ w ++ (b ∷ []) → a ≡ b
last-same v w a b e =
    let n : length v ≡ length w = omega (arith, ap length e, length-append v (a ∷ []), length-append w (b ∷ [])) in
    let f : a ∷ [] ≡ b ∷ [] = sym (drop-append_seam v (a ∷ [])) ∙ rw (e, n) (drop-append_seam w (b ∷ [])) in
    head-eq_of_cons-eq f

-- a list that is not empty has a last byte
last_of : (b : ℕ) (u : List ℕ) → (v : List ℕ) × (c : ℕ) × (b ∷ u ≡ v ++ (c ∷ []))
last_of b [] = ([], b, refl)
last_of b (c ∷ u) = let r = last_of c u in (b ∷ r.0, r.1, ap (λ (l : List ℕ). b ∷ l) r.2)

-- a label behind its first byte
abbrev tail : Grammar
tail = perhaps (then (many (one (belongs Label))) (one closes))

abbrev Tail : List ℕ → Type 0
Tail u = Every LabelByte u × ((v : List ℕ) → u ≡ v ++ (46 ∷ []) → ⊥)

tails : (u : List ℕ) → Of tail u ↔ Tail u
unfolding Of
tails u = (⊎_elim none more, from u)
  where
    none : u ≡ [] → Tail u
    none e = (subst (Every LabelByte) (sym e) (every-nothing LabelByte), λ v z. omega (arith, ap length (sym e ∙ z), length-append v (46 ∷ [])))

    more : Of (then (many (one (belongs Label))) (one closes)) u → Tail u
    more (v, w, e, x, (c, f, y)) =
        let k = (closes-byte c).0 y in
        let g : u ≡ v ++ (c ∷ []) = rw (e, f) in
        (subst (Every LabelByte) (sym g) (every_append LabelByte v ((runs _ LabelByte label-byte v).0 x) (every_first LabelByte k.0 (every-nothing LabelByte))), λ w z. k.1 (last-same v w c 46 (sym g ∙ z)))

    from : (u : List ℕ) → Tail u → Of tail u
    from [] h = inl refl
    from (b ∷ u) (h, n) =
        let (v, c, e) = last_of b u in
        let k = subst (Every LabelByte) e h in
        inr (v, c ∷ [], e, (runs _ LabelByte label-byte v).1 (λ a m. k a (Memᴰ.append_left (c ∷ []) m)), (c, refl, (closes-byte c).1 (k c (Memᴰ.append_right v (Memᴰ.head refl)), λ z. n v (e ∙ ap (λ (x : ℕ). v ++ (x ∷ [])) z))))

-- a label's token ends as the bytes behind its first do
stop-last : (b : ℕ) (u : List ℕ) → NoneOf (45 ∷ 46 ∷ []) b → ((v : List ℕ) → u ≡ v ++ (46 ∷ []) → ⊥) → (v : List ℕ) → 95 ∷ 58 ∷ b ∷ u ≡ v ++ (46 ∷ []) → ⊥
stop-last b u first last [] e = omega (arith, ap length e)
stop-last b u first last (x ∷ []) e = omega (arith, ap length e)
stop-last b u first last (x ∷ y ∷ []) e = first (Memᴰ.tail (Memᴰ.head (head-eq_of_cons-eq (tail-eq_of_cons-eq (tail-eq_of_cons-eq e)))))
stop-last b u first last (x ∷ y ∷ z ∷ w) e = last w (tail-eq_of_cons-eq (tail-eq_of_cons-eq (tail-eq_of_cons-eq e)))

labels : (t : List ℕ) → Of blank t ↔ Labelled t
unfolding Of blank
labels t = (to, from)
  where
    to : Of blank t → Labelled t
    to (x, l, e, f, (y, m, g, h, (z, u, i, (b, j, k), o))) =
        let q : t ≡ 95 ∷ 58 ∷ b ∷ u = rw (e, f, g, h, i, j) in
        let first = (begins-byte b).0 k in
        let (every, last) = (tails u).0 o in
        (b, u, q, every_first LabelByte first.0 every, first.1, λ v n. stop-last b u first.1 last v (sym q ∙ n))

    from : Labelled t → Of blank t
    from (b, u, q, every, first, last) =
        let o : Of tail u = (tails u).1 (λ a m. every a (Memᴰ.tail m), λ v e. last (95 ∷ 58 ∷ b ∷ v) (q ∙ ap (λ (l : List ℕ). 95 ∷ 58 ∷ b ∷ l) e)) in
        let k = (begins-byte b).1 (every b (Memᴰ.head refl), first) in
        (95 ∷ [], 58 ∷ b ∷ u, q, refl, (58 ∷ [], b ∷ u, refl, refl, (b ∷ [], u, refl, (b, refl, k), o)))

-- ---- language tags

abbrev part : Grammar
part = then (byte 45) (some LetterDigit)

parts-hyphened : (us : List (List ℕ)) → Each (Of part) us → (vs : List (List ℕ)) × (joined us ≡ hyphened vs) × Every (Word LetterDigitByte) vs
unfolding Of joined Each hyphened
parts-hyphened [] h = ([], refl, λ a m. absurd (Memᴰ.not-nil m))
parts-hyphened (u ∷ us) ((x, v, e, f, w), h) =
    let (vs, g, k) = parts-hyphened us h in
    (v ∷ vs, rw (e, f, g), λ a m. ⊎_elim (λ (q : a ≡ v). subst (Word LetterDigitByte) (sym q) ((words _ LetterDigitByte letter-digit-byte v).0 w)) (k a) (Memᴰ.cases_cons m))

hyphened-parts : (vs : List (List ℕ)) → Every (Word LetterDigitByte) vs → Of (many part) (hyphened vs)
unfolding Of joined Each hyphened
hyphened-parts [] h = ([], refl, tt)
hyphened-parts (v ∷ vs) h =
    let (us, e, k) = hyphened-parts vs (λ a m. h a (Memᴰ.tail m)) in
    ((45 ∷ v) ∷ us, ap (λ (l : List ℕ). 45 ∷ (v ++ l)) e, ((45 ∷ [], v, refl, refl, (words _ LetterDigitByte letter-digit-byte v).1 (h v (Memᴰ.head refl))), k))

tags : (t : List ℕ) → Of tag t ↔ Tagged t
unfolding Of tag
tags t = (to, λ (u, us, e, w, h). (64 ∷ [], u ++ hyphened us, e, refl, (u, hyphened us, refl, (letters u).1 w, hyphened-parts us h)))
  where
    letters : (u : List ℕ) → Of (some Letter) u ↔ Word LetterByte u
    letters = words _ LetterByte letter-byte

    to : Of tag t → Tagged t
    to (x, l, e, f, (u, r, g, w, (us, h, k))) = let (vs, i, j) = parts-hyphened us k in (u, vs, rw (e, f, g, h, i), (letters u).0 w, j)

-- ---- bytes above 127

abbrev low : List ℕ → Bool
low [] = true
low (c ∷ l) = leb c 127 && low l

none-low : (b : ℕ) (l : List ℕ) → 127 < b → T (low l) → NoneOf l b
none-low b [] h t m = Memᴰ.not-nil m
none-low b (c ∷ l) h t m =
    let k = and_yes (leb c 127) (low l) t in
    ⊎_elim (λ (e : b ≡ c). omega (arith, leb_yes {a = c} {b = 127} k.0)) (none-low b l h k.1) (Memᴰ.cases_cons m)

above : (b : ℕ) → 127 < b → IriByte b × QuotedByte b × (LabelByte b × NoneOf (45 ∷ 46 ∷ []) b) × CommentByte b × (LetterDigitByte b → ⊥) × (WhiteByte b → ⊥)
above b h = (
  (omega arith, none-low b _ h tt),
  none-low b _ h tt,
  (inr h, none-low b _ h tt),
  none-low b _ h tt,
  ⊎_elim (⊎_elim (λ k. omega (arith, k.1)) (λ k. omega (arith, k.1))) (λ k. omega (arith, k.1)),
  none-low b _ h tt,
)

-- ---- a literal's parts

typed : (t : List ℕ) → Of datatype t ↔ ((u : List ℕ) × (t ≡ 94 ∷ 94 ∷ u) × Of iri u)
unfolding Of datatype
typed t = (λ (x, l, e, f, (y, u, g, h, i)). (u, rw (e, f, g, h), i), λ (u, e, h). (94 ∷ [], 94 ∷ u, e, refl, (94 ∷ [], u, refl, refl, h)))

-- the first quote ends what has none
quote-ends : (x y r s : List ℕ) → Every QuotedByte x → Every QuotedByte y → x ++ (34 ∷ r) ≡ y ++ (34 ∷ s) → r ≡ s
quote-ends [] [] r s h k e = tail-eq_of_cons-eq e
quote-ends [] (b ∷ y) r s h k e = absurd (k b (Memᴰ.head refl) (Memᴰ.head (sym (head-eq_of_cons-eq e))))
quote-ends (a ∷ x) [] r s h k e = absurd (h a (Memᴰ.head refl) (Memᴰ.head (head-eq_of_cons-eq e)))
quote-ends (a ∷ x) (b ∷ y) r s h k e = quote-ends x y r s (λ c m. h c (Memᴰ.tail m)) (λ c m. k c (Memᴰ.tail m)) (tail-eq_of_cons-eq e)

adjoined : (q r : List ℕ) (b : ℕ) → Of quoted q → Of literal (q ++ (b ∷ r)) → (b ≡ 64) ⊎ (b ≡ 94)
unfolding Of literal
adjoined q r b h (u, v, e, k, o) =
    let (x, f, m) = (quotes q).0 h in
    let (y, g, n) = (quotes u).0 k in
    let p : (34 ∷ (x ++ (34 ∷ []))) ++ (b ∷ r) ≡ (34 ∷ (y ++ (34 ∷ []))) ++ v = ap (λ (l : List ℕ). l ++ (b ∷ r)) (sym f) ∙ e ∙ ap (λ (l : List ℕ). l ++ v) g in
    let i : b ∷ r ≡ v = quote-ends x y (b ∷ r) v m n (sym (append_assoc x (34 ∷ []) (b ∷ r)) ∙ tail-eq_of_cons-eq p ∙ append_assoc y (34 ∷ []) v) in
    ⊎_elim (λ (z : v ≡ []). absurd (omega (arith, ap length (i ∙ z))))
    (⊎_elim (λ (d : Of datatype v). inr (head-eq_of_cons-eq (i ∙ ((typed v).0 d).1)))
    (λ (d : Of tag v). inl (head-eq_of_cons-eq (i ∙ ((tags v).0 d).2)))) o

-- ---- tokens of a line

parts : (l : List ℕ) (s p o : Token) → Says l s p o → (Of iri s ⊎ Of blank s) × Of iri p × (Of iri o ⊎ (Of blank o ⊎ Of literal o))
unfolding Of subject object
parts l s p o h = (h.is-subject, h.is-predicate, h.is-object)

literals : (t : List ℕ) → Of literal t ↔ ((q : List ℕ) × (r : List ℕ) × (t ≡ q ++ r) × Of quoted q × ((r ≡ []) ⊎ (Of datatype r ⊎ Of tag r)))
unfolding Of literal
literals t = (λ h. h, λ h. h)

-- ---- where a byte above 127 stands

module _ (b : ℕ) (high : 127 < b) (t : List ℕ) where
  -- in one list or in the one behind it
  either : (u : List ℕ) {v : List ℕ} → (Memᴰ b u → Memᴰ b t) → (Memᴰ b v → Memᴰ b t) → Memᴰ b (u ++ v) → Memᴰ b t
  either u f g m = ⊎_elim f g (Memᴰ.append_cases u m)

  -- not in white space, and not where the full stop is
  past : (w : List ℕ) {v : List ℕ} → Of white w → (Memᴰ b v → Memᴰ b t) → Memᴰ b (w ++ v) → Memᴰ b t
  past w k = either w (λ x. absurd ((above b high).5 ((spaces w).0 k b x)))

  stopped : {v : List ℕ} → (Memᴰ b v → Memᴰ b t) → Memᴰ b ((46 ∷ []) ++ v) → Memᴰ b t
  stopped = either (46 ∷ []) (λ x. absurd (omega (arith, Memᴰ.eq_of_singleton x, high)))

in-statements : (l : List ℕ) (s p o : Token) (h : Says l s p o) (b : ℕ) → Memᴰ b l → 127 < b → Memᴰ b (s ++ (p ++ (o ++ h.r)))
in-statements l s p o h b m n =
    let t = s ++ (p ++ (o ++ h.r)) in
    past b n t h.w0 h.white0 (either b n t s (Memᴰ.append_left (p ++ (o ++ h.r)))
    (past b n t h.w1 h.white1 (either b n t p (λ x. Memᴰ.append_right s (Memᴰ.append_left (o ++ h.r) x))
    (past b n t h.w2 h.white2 (either b n t o (λ x. Memᴰ.append_right s (Memᴰ.append_right p (Memᴰ.append_left h.r x)))
    (past b n t h.w3 h.white3 (stopped b n t
    (past b n t h.w4 h.white4 (λ x. Memᴰ.append_right s (Memᴰ.append_right p (Memᴰ.append_right o x))))))))))) (subst (Memᴰ b) h.line m)

in-comments : (l : List ℕ) (h : Silent l) (b : ℕ) → Memᴰ b l → 127 < b → Memᴰ b h.r
in-comments l h b m n = past b n h.r h.w h.is_white (λ x. x) (subst (Memᴰ b) h.line m)

pub lexical : Lexical
lexical = record {
  carriage-return = carriage-return;
  line-end = line-end;
  no-escapes = no-escapes;
  iris = iris;
  quotes = quotes;
  labels = labels;
  tags = tags;
  comments = comments;
  spaces = spaces;
  above = above;
  in-statements = in-statements;
  in-comments = in-comments;
  parts = parts;
  literals = literals;
  adjoined = adjoined;
  typed = typed;
}
