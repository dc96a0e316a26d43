-- The lines of an input are those that it is parted into, and no others: none holds byte 10, each is ended by one, and the last may lack it.
-- Assumes nothing.
use mathlib.Core.Path.{◌≡◌, refl, sym, ap, ◌∙◌}
use mathlib.Core.Logic.{inl, inr, ⊎_elim}
use mathlib.Core.List.Memᴰ
use mathlib.Core.List.{List, [], ◌∷◌, ◌++◌, append-nil, append_assoc, Memᴰ}
use Prim.Native.Nat.{ℕ}
use native.Mathlib.Omega.{arith}
use lib.ListN.{length, length-append}
use lib.Dec.{eqb}
use borrow.Author.Tests.{eqb-true, eqb-false, ne_eqb}
use Rattle.facts.proofs.Terms.{by_cases}
use Rattle.imports.specs.Lines.{on_first, lines_of, ended, Parted}

-- no line holds byte 10
abbrev Apart : List (List ℕ) → Type 0
Apart ls = (l : List ℕ) → Memᴰ l ls → Memᴰ 10 l → ⊥

-- ---- they part it

apart_cons : (k : List ℕ) (ks : List (List ℕ)) → (Memᴰ 10 k → ⊥) → Apart ks → Apart (k ∷ ks)
apart_cons k ks f g l m n = ⊎_elim (λ (e : l ≡ k). f (rw e at n)) (λ (i : Memᴰ l ks). g l i n) (Memᴰ.cases_cons m)

-- behind byte 10 the bytes' lines are those behind an empty one
parted-end : (s : List ℕ) (ls : List (List ℕ)) → Parted s ls → Parted (10 ∷ s) ([] ∷ ls)
unfolding ended
parted-end s ls p = record {
  apart = apart_cons [] ls Memᴰ.not-nil p.apart;
  whole = ⊎_elim (λ e. inl (rw e)) (λ w. inr ([] ∷ w.0, w.1, w.2, rw w.3, rw w.4)) p.whole;
}

-- behind another byte the first line has it
parted-more : (b : ℕ) (s : List ℕ) (ls : List (List ℕ)) → (b ≡ 10 → ⊥) → Parted s ls → Parted (b ∷ s) (on_first b ls)
unfolding ended on_first
parted-more b s [] h p = record {
  apart = apart_cons (b ∷ []) [] (λ n. h (sym (Memᴰ.eq_of_singleton n))) (λ l m n. Memᴰ.not-nil m);
  whole = inr ([], b, [], refl, ⊎_elim (λ e. rw e) (λ w. absurd (omega (arith, ap length w.3, length-append w.0 ((w.1 ∷ w.2) ∷ [])))) p.whole);
}
parted-more b s (k ∷ ks) h p = record {
  apart = apart_cons (b ∷ k) ks (λ n. ⊎_elim (λ e. h (sym e)) (p.apart k (Memᴰ.head refl)) (Memᴰ.cases_cons n)) (λ l m. p.apart l (Memᴰ.tail m));
  whole = ⊎_elim (λ e. inl (rw e)) (λ w. inr (go w.0 w.1 w.2 w.3 w.4)) p.whole;
}
  where
    go : (ms : List (List ℕ)) (c : ℕ) (l : List ℕ) → k ∷ ks ≡ ms ++ ((c ∷ l) ∷ []) → s ≡ ended ms ++ (c ∷ l)
        → (ns : List (List ℕ)) × (d : ℕ) × (r : List ℕ) × ((b ∷ k) ∷ ks ≡ ns ++ ((d ∷ r) ∷ [])) × (b ∷ s ≡ ended ns ++ (d ∷ r))
    go [] c l e f = ([], b, c ∷ l, cc, cc)
    go (m ∷ ms) c l e f = ((b ∷ m) ∷ ms, c, l, cc, cc)

pub parted : (s : List ℕ) → Parted s (lines_of s)
unfolding lines_of ended
parted [] = record { apart = λ l m n. Memᴰ.not-nil m; whole = inl refl }
parted (b ∷ s) = by_cases (eqb b 10) (λ e. rw (e, eqb-true b 10 e) (parted-end s (lines_of s) (parted s))) (λ e. rw e (parted-more b s (lines_of s) (eqb-false b 10 e) (parted s)))

-- ---- nothing else does

-- bytes without byte 10 are a line: with byte 10 behind them, and as the last bytes
line-ended : (l r : List ℕ) → (Memᴰ 10 l → ⊥) → lines_of (l ++ (10 ∷ r)) ≡ l ∷ lines_of r
unfolding lines_of
line-ended [] r h = refl
line-ended (b ∷ l) r h = rw (ne_eqb b 10 (λ e. h (Memᴰ.head (sym e))), line-ended l r (λ m. h (Memᴰ.tail m)))

line-last : (b : ℕ) (l : List ℕ) → (Memᴰ 10 (b ∷ l) → ⊥) → lines_of (b ∷ l) ≡ (b ∷ l) ∷ []
unfolding lines_of
line-last b [] h = rw (ne_eqb b 10 (λ e. h (Memᴰ.head (sym e))))
line-last b (d ∷ l) h = rw (ne_eqb b 10 (λ e. h (Memᴰ.head (sym e))), line-last d l (λ m. h (Memᴰ.tail m)))

lines-ended : (ls : List (List ℕ)) (r : List ℕ) → Apart ls → lines_of (ended ls ++ r) ≡ ls ++ lines_of r
unfolding ended
lines-ended [] r h = refl
lines-ended (l ∷ ls) r h =
    rw (append_assoc l (10 ∷ ended ls) r, line-ended l (ended ls ++ r) (h l (Memᴰ.head refl)), lines-ended ls r (λ k m. h k (Memᴰ.tail m)))

pub parted-only : (s : List ℕ) (ls : List (List ℕ)) → Parted s ls → ls ≡ lines_of s
unfolding lines_of
parted-only s ls p =
    ⊎_elim (λ e. sym (ap lines_of (e ∙ sym (append-nil (ended ls))) ∙ lines-ended ls [] p.apart ∙ append-nil ls))
    (λ w. let l : List ℕ = w.1 ∷ w.2 in
    let a : Apart (w.0 ++ (l ∷ [])) = rw w.3 at p.apart in
    rw (w.4, lines-ended w.0 l (λ k m. a k (Memᴰ.append_left (l ∷ []) m)), line-last w.1 w.2 (a l (Memᴰ.append_right w.0 (Memᴰ.head refl)))) w.3)
    p.whole
