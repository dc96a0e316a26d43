-- Laws of derivations as bytes: their length, and that what is laid out as lines is the lines that it says, and is read as these.
-- Assumes nothing.
use mathlib.Core.Path.{◌≡◌, refl, sym, ap, ◌∙◌}
use mathlib.Core.Bool.{Bool, true, false, cond, true≢false}
use mathlib.Core.List.{List}
use Prim.Native.Nat.{ℕ, ◌+◌, ◌*◌, ◌<◌}
use native.Mathlib.Nat.{zero-add, add_assoc}
use Rattle.std.specs.Prelude.{Option, Some, None, Result, Ok, Err, is_ok}
use lib.ListN.{length, get_or}
use Rattle.columns.specs.Fields.{field_read}
use Rattle.columns.specs.Lines.{laid_out, numbers_at, numbers_read, Below, items_from}
use Rattle.columns.proofs.Torn as lines
use Rattle.columns.proofs.Torn.{unread-torn}
use Rattle.columns.proofs.Lines.{line-length}
use Rattle.columns.proofs.Lists.{flat-length, lines-written, line-placed}
use Rattle.facts.proofs.Facts.{fact-eq}
use Rattle.facts.specs.Facts.{fact}
use Rattle.rules.specs.Derivations.{derivation_line}
use Rattle.rules.specs.declared.Line.{Line}
use Rattle.derivation.specs.Bytes.{line_numbers, line_bytes, derivation_bytes, line_at}
use Rattle.derivation.specs.Read.{read_at}

pub derivation-length : (d : List Line) → length (derivation_bytes d) ≡ 31 * length d
derivation-length = flat-length line_bytes 31 (λ l. line-length (line_numbers l))

pub numbers-line : (b : List ℕ) (i : ℕ) → numbers_at 6 b (31 * i) ≡ line_numbers (line_at b i)
unfolding numbers_at line_at
numbers-line b i = simp add_assoc

line_eq : (k l : Line) → line_numbers k ≡ line_numbers l → k ≡ l
line_eq k l e =
    let r : k.rule ≡ l.rule = cc in
    let f : k.first ≡ l.first = cc in
    let s : k.second ≡ l.second = cc in
    let t = fact-eq k.fact l.fact (cc) (cc) (cc) in
    λ i. record { rule = r i; first = f i; second = s i; fact = t i }

-- bytes whose n lines are all laid out are those of the lines that they say
pub derivation-written : (b : List ℕ) (n : ℕ) → length b ≡ 31 * n → ((i : ℕ) → i < n → laid_out 6 b (31 * i) ≡ true) → b ≡ derivation_bytes (items_from (line_at b) 0 n)
derivation-written b n e laid = lines-written 6 line_numbers b (line_at b) (numbers-line b) n n 0 e (zero-add n) laid

-- a derivation whose numbers have at most five digits is read back from its bytes
pub line-read-back : (d : List Line) (i : ℕ) (z : Line) → i < length d → Below (line_numbers (get_or d i z)) → (laid_out 6 (derivation_bytes d) (31 * i) ≡ true) × (line_at (derivation_bytes d) i ≡ get_or d i z)
line-read-back d i z h below =
    let p = line-placed 6 line_numbers (λ l. refl) d i z h below in
    (p.0, line_eq (line_at (derivation_bytes d) i) (get_or d i z) (sym (numbers-line (derivation_bytes d) i) ∙ p.1))

-- a line is read where it is laid out, as the line that its fields say, and else field by field
pub read-laid : (b : List ℕ) (i : ℕ) → laid_out 6 b (31 * i) ≡ true → read_at b i ≡ Ok (line_at b i)
unfolding read_at
read-laid b i e = rw e

pub read-torn : (b : List ℕ) (i : ℕ) → laid_out 6 b (31 * i) ≡ false → read_at b i ≡ Err (items_from (λ k. field_read b (31 * i + 5 * k)) 0 6)
unfolding read_at
read-torn b i e = rw e

-- by the six numbers of its fields
pub numbers-none : (b : List ℕ) (i : ℕ) → None ≡ numbers_read 6 b (31 * i) → read_at b i ≡ Err (items_from (λ k. field_read b (31 * i + 5 * k)) 0 6)
numbers-none b i e = read-torn b i (unread-torn 6 b (31 * i) e)

pub numbers-some : (b : List ℕ) (i : ℕ) (ns : List ℕ) → Some ns ≡ numbers_read 6 b (31 * i)
    → read_at b i ≡ Ok (derivation_line (get_or ns 0 0) (get_or ns 1 0) (get_or ns 2 0) (fact (get_or ns 3 0) (get_or ns 4 0) (get_or ns 5 0)))
unfolding numbers_at line_at
numbers-some b i ns e = let r = lines.read-laid 6 b (31 * i) ns e in read-laid b i r.0 ∙ rw (← r.1) (simp add_assoc)

-- what is read tells whether the line is laid out
cond_ok : {X E : Type 0} (t : Bool) (x y : X) (e : E) → ◌≡◌ {A = Result X E} (cond t (Ok x) (Err e)) (Ok y) → (t ≡ true) × (x ≡ y)
cond_ok {X} {E} true x y e p = (refl, ap (λ (r : Result X E). elim r [ Ok z ↦ z | Err f ↦ x ]) p)
cond_ok false x y e p = absurd (true≢false (ap is_ok (sym p)))

cond_err : {X E : Type 0} (t : Bool) (x : X) (e f : E) → ◌≡◌ {A = Result X E} (cond t (Ok x) (Err e)) (Err f) → t ≡ false
cond_err true x e f p = absurd (true≢false (ap is_ok p))
cond_err false x e f p = refl

pub some-read : (b : List ℕ) (i : ℕ) (l : Line) → read_at b i ≡ Ok l → (laid_out 6 b (31 * i) ≡ true) × (line_at b i ≡ l)
unfolding read_at
some-read b i l e = cond_ok _ _ _ _ e

pub none-read : (b : List ℕ) (i : ℕ) (e : List (Option ℕ)) → read_at b i ≡ Err e → laid_out 6 b (31 * i) ≡ false
unfolding read_at
none-read b i e r = cond_err _ _ _ _ r
