-- A token is entered: what the index holds then.
-- Assumes nothing.
use mathlib.Core.Path.{◌≡◌, sym, ap, ◌∙◌}
use mathlib.Core.Logic.{⊎_elim}
use mathlib.Core.Bool.{true, false}
use mathlib.Core.List.{List}
use Prim.Native.Nat.{ℕ, suc, ◌-◌, ◌≤◌, ◌<◌}
use native.Mathlib.Omega.{arith}
use native.Mathlib.Nat.{add-zero}
use native.Mathlib.Decide.{dec_lt}
use lib.ListN.{length, get_or, drop}
use lib.Seq.{get_or-take, get_or-drop}
use lib.Dec.{eqb}
use Rattle.facts.proofs.Terms.{by_cases}
use Rattle.ntriples.specs.Tokens.{Token, part}
use Rattle.numbering.specs.declared.Counts.{Counts}
use Rattle.numbering.specs.Weights.{weight}
use Rattle.ordered.specs.Inserted.{inserted}
use Rattle.numbering.specs.Numbering.{is_literal, Known, with_token, knows, number_in}
use Rattle.numbering.specs.Index.{entry, from_of, to_of, number_of, token_of, token_at, entries, next_of, Whole, Held, Missing, Kept, Ordered, Entered}
use Rattle.ordered.proofs.Inserted.{here, each, still, rises, inserted-length}
use Rattle.numbering.proofs.Numbering.{known_kept, known-new, known-still, known_more, new-literal, new-name}

pub entered-found : (input before : List ℕ) (from to : ℕ) (c : Counts) (v : ℕ) (k : Known) → Kept input before c k
    → Held input before (entries c) (part input from to) v → Entered input from to before c c v k
entered-found input before from to c v k q h =
    let e : knows k (part input from to) ≡ true = rw h.token at (q.known h.at h.within) in
    let s : with_token k (part input from to) ≡ k = known_kept k (part input from to) e in
    let n : v ≡ number_in k (part input from to) = h.number ∙ q.number h.at h.within ∙ ap (number_in k) h.token in
    record { number = rw s n; kept = rw s q; more = omega arith }

-- a token that belongs somewhere is not known
missing-unknown : (input items : List ℕ) (c : Counts) (k : Known) (t : Token) (r : ℕ) → Kept input items c k → Missing input items (entries c) t r → knows k t ≡ false
missing-unknown input items c k t r q m = by_cases (knows k t) (λ e. absurd (clash e)) (λ e. e)
  where
    clash : knows k t ≡ true → ⊥
    clash e = go (dec_lt (q.all t e).0 r)
      where
        i : ℕ
        i = (q.all t e).0

        go : Dec (i < r) → ⊥
        go (yes p) = let w : weight (token_at input items i) ≡ weight t = ap weight (q.all t e).2 in omega (arith, m.below i p)
        go (no p) = let w : weight (token_at input items i) ≡ weight t = ap weight (q.all t e).2 in omega (arith, m.above i (omega arith) (q.all t e).1)

-- an entry says what was put into it
module _ (from to v : ℕ) (f : from ≤ 65536) (t : to ≤ 65536) (n : v < 65536) where
  entry-from : from_of (entry from to v) ≡ from
  unfolding entry
  entry-from = omega arith

  entry-to : to_of (entry from to v) ≡ to
  unfolding entry
  entry-to = omega arith

  entry-number : number_of (entry from to v) ≡ v
  unfolding entry
  entry-number = omega arith

  entry-token : (input : List ℕ) → token_of input (entry from to v) ≡ part input from to
  unfolding token_of
  entry-token input = rw (entry-from, entry-to)

-- the first byte says whether a part is a literal
pub first_byte : (input : List ℕ) (from to : ℕ) → from < to → is_literal (part input from to) ≡ eqb (get_or input from 0) 34
unfolding is_literal
first_byte input from to h =
    let e : get_or (part input from to) 0 0 ≡ get_or input from 0 = get_or-take (to - from) (drop from input) 0 0 (omega arith) ∙ get_or-drop from input 0 0 ∙ rw add-zero in
    ap (λ (b : ℕ). eqb b 34) e

-- the next number, and how many entries there are then
pub next-most : (c : Counts) (b : ℕ) → entries c < 4096 → (next_of c b).0 < 65536
unfolding next_of
next-most c b h = by_cases (eqb b 34) (λ p. rw p (omega arith)) (λ p. rw p (omega arith))

next-count : (c : Counts) (b : ℕ) → entries (next_of c b).1 ≡ suc (entries c)
unfolding next_of
next-count c b = by_cases (eqb b 34) (λ p. rw p (omega arith)) (λ p. rw p (omega arith))

-- it is the new token's
record Next (k : Known) (t : Token) (g : ℕ × Counts) : Type 0 where
  number : g.0 ≡ number_in (with_token k t) t
  names : g.1.names ≡ length (with_token k t).names
  literals : g.1.literals ≡ length (with_token k t).literals

next-new : (input items : List ℕ) (c : Counts) (k : Known) (t : Token) (b : ℕ) → Kept input items c k → knows k t ≡ false → is_literal t ≡ eqb b 34 → Next k t (next_of c b)
unfolding next_of
next-new input items c k t b q e l =
    by_cases (eqb b 34) (λ p. let n = new-literal k t (l ∙ p) e in rw p (record { number = omega arith; names = omega arith; literals = omega arith }))
    (λ p. let n = new-name k t (l ∙ p) e in rw p (record { number = omega arith; names = omega arith; literals = omega arith }))

module _ (input before : List ℕ) (from to : ℕ) (c : Counts) (some : from < to) (inside : to ≤ length input) (few : length input ≤ 65536) (ordered : Ordered input before (entries c))
    (room : entries c < length before) (most : length before ≤ 4096) (r : ℕ) (m : Missing input before (entries c) (part input from to) r) where
  t : Token
  t = part input from to

  g : ℕ × Counts
  g = next_of c (get_or input from 0)

  v : ℕ
  v = entry from to g.0

  after : List ℕ
  after = inserted before (entries c) r v

  small : g.0 < 65536
  unfolding g
  small = next-most c (get_or input from 0) (omega arith)

  low : from ≤ 65536
  low = omega arith

  high : to ≤ 65536
  high = omega arith

  token : token_of input v ≡ t
  unfolding t v
  token = entry-token from to g.0 low high small input

  fits : r ≤ entries c
  fits = m.within

  count : entries g.1 ≡ suc (entries c)
  unfolding g
  count = next-count c (get_or input from 0)

  whole : (i : ℕ) → i < suc (entries c) → Whole input (get_or after i 0)
  unfolding after v
  whole = each before (entries c) r v fits room (Whole input) ordered.whole
      (record { forward = rw (entry-from from to g.0 low high small, entry-to from to g.0 low high small) (omega arith); within = rw (entry-to from to g.0 low high small) inside })

  rising : (i : ℕ) → suc i < suc (entries c) → weight (token_at input after i) < weight (token_at input after (suc i))
  unfolding after t
  rising = rises before (entries c) r v fits room (λ e. weight (token_of input e)) ordered.rising
      (λ i l. rw token (m.below i l)) (λ i l p. rw token (m.above i l p))

  -- the entries are in order then
  in-order : Ordered input after (entries g.1)
  unfolding after
  in-order = rw count (record { room = omega (arith, inserted-length before (entries c) r v fits room); whole = whole; rising = rising })

  pub entered-ordered : Ordered input (inserted before (entries c) r (entry from to (next_of c (get_or input from 0)).0)) (entries (next_of c (get_or input from 0)).1)
  unfolding g v after
  entered-ordered = in-order

  module _ (k : Known) (q : Kept input before c k) where
    new : Next k t g
    unfolding t g
    new = next-new input before c k t (get_or input from 0) q (missing-unknown input before c k t r q m) (first_byte input from to some)

    stored : number_of v ≡ g.0
    unfolding v
    stored = entry-number from to g.0 low high small

    known : (i : ℕ) → i < suc (entries c) → knows (with_token k t) (token_at input after i) ≡ true
    unfolding after
    known = each before (entries c) r v fits room (λ e. knows (with_token k t) (token_of input e) ≡ true)
        (λ i l. (known-still k t (token_at input before i) (q.known i l)).0) (rw token (known-new k t))

    number : (i : ℕ) → i < suc (entries c) → number_of (get_or after i 0) ≡ number_in (with_token k t) (token_at input after i)
    unfolding after
    number = each before (entries c) r v fits room (λ e. number_of e ≡ number_in (with_token k t) (token_of input e))
        (λ i l. q.number i l ∙ sym (known-still k t (token_at input before i) (q.known i l)).1) (rw token (stored ∙ new.number))

    all : (u : Token) → knows (with_token k t) u ≡ true → (i : ℕ) × (i < suc (entries c)) × (token_at input after i ≡ u)
    unfolding after
    all u e = ⊎_elim old (λ (p : u ≡ t). (r, omega (arith, fits), ap (token_of input) (here before (entries c) r v fits room) ∙ token ∙ sym p)) (known_more k t u e)
      where
        old : knows k u ≡ true → (i : ℕ) × (i < suc (entries c)) × (token_at input (inserted before (entries c) r v) i ≡ u)
        old p =
            let a = q.all u p in
            let b = still before (entries c) r v fits room a.0 a.1 in
            (b.0, b.1, ap (token_of input) b.2 ∙ a.2)

    pub entered-new : Entered input from to (inserted before (entries c) r (entry from to (next_of c (get_or input from 0)).0)) c (next_of c (get_or input from 0)).1 (next_of c (get_or input from 0)).0 k
    unfolding t g v after
    entered-new =
        record {
          number = new.number;
          kept = record { names = new.names; literals = new.literals; ordered = in-order; known = rw count known; number = rw count number; all = rw count all };
          more = omega (arith, count);
        }
