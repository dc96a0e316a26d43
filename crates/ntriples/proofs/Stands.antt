-- Tokens of a grammar by places: a token stands in a list of bytes from one place to another.
-- Assumes nothing.
use mathlib.Core.Path.{◌≡◌, refl, sym, ap, ◌∙◌}
use mathlib.Core.Logic.{◌⊎◌, inl, inr, ⊎_elim}
use mathlib.Core.Bool.{Bool, true, false}
use mathlib.Core.List.{List, [], ◌∷◌, ◌++◌, append_assoc}
use Prim.Native.Nat.{ℕ, ◌+◌, ◌-◌}
use native.Mathlib.Nat.{add-zero}
use native.Mathlib.Numerals.{add-one}
use native.Mathlib.Omega.{arith}
use lib.ListN.{length, take, drop, length-append}
use lib.Seq.{drop-cons, take_at, drop-append_seam, drop-drop, get_or-drop}
use Rattle.ntriples.specs.Grammar.{Grammar, nothing, byte, one, then, or, many, joined, Each, Of}
use Rattle.ntriples.specs.Lexed.{byte_at}
use Rattle.ntriples.specs.Tokens.{part}
use Rattle.ntriples.proofs.Lexed.{sits, tested}

-- ---- what stands from a place on

behind : (s t r : List ℕ) (at : ℕ) → drop at s ≡ t ++ r → drop (at + length t) s ≡ r
behind s t r at e = sym (drop-drop (length t) at s) ∙ ap (drop (length t)) e ∙ drop-append_seam t r

byte-there : (s r : List ℕ) (at : ℕ) → drop at s ≡ r → byte_at s at ≡ byte_at r 0
byte-there s r at e = ap (byte_at s) (sym (add-zero at)) ∙ sym (get_or-drop at s 0 10) ∙ ap (λ (l : List ℕ). byte_at l 0) e

pub record Stands (g : Grammar) (s : List ℕ) (at to : ℕ) : Type 0 where
  pub token : List ℕ
  pub there : drop at s ≡ token ++ drop to s
  pub of : Of g token
  pub length-of : to ≡ at + length token

-- a token in front of what stands from a place on
pub stands-in-front : (g : Grammar) (s t r : List ℕ) (at : ℕ) → drop at s ≡ t ++ r → Of g t → Stands g s at (at + length t)
stands-in-front g s t r at e o = record { token = t; there = e ∙ ap (λ (l : List ℕ). t ++ l) (sym (behind s t r at e)); of = o; length-of = refl }

-- the same, with where it ends and what stands behind it
pub front : (g : Grammar) (s t r : List ℕ) (at : ℕ) → drop at s ≡ t ++ r → Of g t → (to : ℕ) × (x : Stands g s at to) × (x.token ≡ t) × (drop to s ≡ r)
unfolding stands-in-front
front g s t r at e o = (at + length t, stands-in-front g s t r at e o, refl, behind s t r at e)

-- what stands in a span is its token
pub stands-part : {g : Grammar} {s : List ℕ} {at to : ℕ} (h : Stands g s at to) → part s at to ≡ h.token
stands-part {g} {s} {at} {to} h = ap (take (to - at)) h.there ∙ take_at h.token (drop to s) (to - at) (omega (arith, h.length-of))

-- ---- the grammar's parts, put together

-- what is of one grammar and of another
pub stands-as : {g h : Grammar} {s : List ℕ} {at to : ℕ} (x : Stands g s at to) → Of h x.token → Stands h s at to
stands-as x o = record { token = x.token; there = x.there; of = o; length-of = x.length-of }

pub stands-nothing : (s : List ℕ) (at : ℕ) → Stands nothing s at at
unfolding Of
stands-nothing s at = record { token = []; there = refl; of = refl; length-of = sym (add-zero at) }

pub stands-byte : (s : List ℕ) (at b : ℕ) → byte_at s at ≡ b → (b ≡ 10 → ⊥) → Stands (byte b) s at (at + 1)
unfolding Of
stands-byte s at b e h =
    record { token = b ∷ []; there = drop-cons s at 10 (sits s at b e h) ∙ rw (e, add-one); of = refl; length-of = refl }

-- a byte that passes a test, which a line end fails
pub stands_one : (p : ℕ → Bool) (s : List ℕ) (at : ℕ) → p 10 ≡ false → p (byte_at s at) ≡ true → Stands (one p) s at (at + 1)
unfolding Of
stands_one p s at n e =
    record { token = byte_at s at ∷ []; there = drop-cons s at 10 (tested p s at n e) ∙ rw add-one; of = (byte_at s at, refl, e); length-of = refl }

pub stands-then : {g h : Grammar} {s : List ℕ} {at m to : ℕ} → Stands g s at m → Stands h s m to → Stands (then g h) s at to
unfolding Of
stands-then {g} {h} {s} {at} {m} {to} x y =
    record {
      token = x.token ++ y.token;
      there = x.there ∙ ap (λ (l : List ℕ). x.token ++ l) y.there ∙ sym (append_assoc x.token y.token (drop to s));
      of = (x.token, y.token, refl, x.of, y.of);
      length-of = omega (arith, x.length-of, y.length-of, length-append x.token y.token);
    }

pub stands-none : (g : Grammar) (s : List ℕ) (at : ℕ) → Stands (many g) s at at
unfolding Of joined Each
stands-none g s at = let x = stands-nothing s at in stands-as x ([], x.of, tt)

pub stands-more : {g : Grammar} {s : List ℕ} {at m to : ℕ} → Stands g s at m → Stands (many g) s m to → Stands (many g) s at to
unfolding Of joined Each
stands-more {g} {s} {at} {m} {to} x y =
    let z = stands-then x y in
    let o = z.of in
    stands-as z (o.0 ∷ o.4.0, o.2 ∙ ap (λ (l : List ℕ). o.0 ++ l) o.4.1, (o.3, o.4.2))

-- ---- and taken apart

pub nothing-stands : {s : List ℕ} {at to : ℕ} → Stands nothing s at to → to ≡ at
unfolding Of
nothing-stands {s} {at} {to} x = x.length-of ∙ ap (λ (l : List ℕ). at + length l) x.of ∙ add-zero at

pub byte-stands : {b : ℕ} {s : List ℕ} {at to : ℕ} → Stands (byte b) s at to → (byte_at s at ≡ b) × (to ≡ at + 1)
unfolding Of
byte-stands {b} {s} {at} {to} x =
    (byte-there s (b ∷ drop to s) at (x.there ∙ ap (λ (l : List ℕ). l ++ drop to s) x.of), x.length-of ∙ ap (λ (l : List ℕ). at + length l) x.of)

pub one-stands : {p : ℕ → Bool} {s : List ℕ} {at to : ℕ} → Stands (one p) s at to → (p (byte_at s at) ≡ true) × (to ≡ at + 1)
unfolding Of
one-stands {p} {s} {at} {to} x = let y = byte-stands (stands-as x x.of.1) in (ap p y.0 ∙ x.of.2, y.1)

pub then-stands : {g h : Grammar} {s : List ℕ} {at to : ℕ} → Stands (then g h) s at to → (m : ℕ) × Stands g s at m × Stands h s m to
unfolding Of
then-stands {g} {h} {s} {at} {to} x =
    let u = x.of.0 in
    let v = x.of.1 in
    let e : drop at s ≡ u ++ (v ++ drop to s) = x.there ∙ ap (λ (l : List ℕ). l ++ drop to s) x.of.2 ∙ append_assoc u v (drop to s) in (
      at + length u,
      stands-in-front g s u (v ++ drop to s) at e x.of.3,
      record { token = v; there = behind s u (v ++ drop to s) at e; of = x.of.4; length-of = omega (arith, x.length-of, ap length x.of.2, length-append u v) },
    )

pub byte-then : {b : ℕ} {h : Grammar} {s : List ℕ} {at to : ℕ} → Stands (then (byte b) h) s at to → (byte_at s at ≡ b) × Stands h s (at + 1) to
byte-then {b} {h} {s} {at} {to} x =
    let m = then-stands x in
    let o = byte-stands m.1 in
    (o.0, rw o.1 at m.2)

pub one_then : {p : ℕ → Bool} {h : Grammar} {s : List ℕ} {at to : ℕ} → Stands (then (one p) h) s at to → (p (byte_at s at) ≡ true) × Stands h s (at + 1) to
one_then {p} {h} {s} {at} {to} x =
    let m = then-stands x in
    let o = one-stands m.1 in
    (o.0, rw o.1 at m.2)

pub or-stands : {g h : Grammar} {s : List ℕ} {at to : ℕ} → Stands (or g h) s at to → Stands g s at to ⊎ Stands h s at to
unfolding Of
or-stands {g} {h} {s} {at} {to} x = ⊎_elim (λ (o : Of g x.token). inl (stands-as x o)) (λ (o : Of h x.token). inr (stands-as x o)) x.of

-- what holds at the end of many and passes from the end of each to its start holds at their start
pub many-fold : (P : ℕ → Type 0) {g : Grammar} {s : List ℕ} {at to : ℕ} → Stands (many g) s at to → P to → ((from m : ℕ) → Stands g s from m → P m → P from) → P at
unfolding Of joined Each
many-fold P {g} {s} {at} {to} x base step =
    go x.of.0 at (x.there ∙ ap (λ (l : List ℕ). l ++ drop to s) x.of.1) x.of.2 (x.length-of ∙ ap (λ (l : List ℕ). at + length l) x.of.1)
  where
    go : (us : List (List ℕ)) (from : ℕ) → drop from s ≡ joined us ++ drop to s → Each (Of g) us → to ≡ from + length (joined us) → P from
    go [] from e m n = let z : to ≡ from = n ∙ add-zero from in rw (← z) base
    go (u ∷ us) from e m n =
        let f : drop from s ≡ u ++ (joined us ++ drop to s) = e ∙ append_assoc u (joined us) (drop to s) in
        step from (from + length u) (stands-in-front g s u (joined us ++ drop to s) from f m.0)
        (go us (from + length u) (behind s u (joined us ++ drop to s) from f) m.1 (omega (arith, n, length-append u (joined us))))
