-- The lines of an input, gathered one behind the other, to the last or to the 1,025th fact.
-- Assumes nothing.
use mathlib.Core.Path.{◌≡◌, refl, sym, ap, subst, ◌∙◌}
use mathlib.Core.Bool.{true, true≢false}
use mathlib.Core.List.Memᴰ
use mathlib.Core.List.{List, [], ◌∷◌, ◌++◌, append-nil, append_assoc}
use Prim.Native.Nat.{ℕ, ◌+◌, ◌≤◌, ◌<◌}
use native.Mathlib.Omega.{arith}
use lib.ListN.{length, drop}
use Rattle.facts.proofs.Terms.{by_cases}
use Rattle.ntriples.specs.Tokens.{Token, part}
use Rattle.numbering.specs.Numbering.{has, is_literal, knows}
use Rattle.numbering.specs.Vocabulary.{unknown, known_after}
use Rattle.numbering.specs.Index.{Kept}
use Rattle.table.specs.Tables.{ascending}
use Rattle.gathering.specs.Gathered.{gathered_with}
use Rattle.gathering.specs.Keys.{Holds}
use Rattle.gathering.proofs.Gathered.{with-length}
use Rattle.numbering.specs.declared.Counts.{Counts}
use Rattle.imports.specs.Lines.{lines_of, Statement, said, statements, tokens, line_end}
use Rattle.imports.specs.Import.{known_by, fact_of, facts_of}
use Rattle.imports.specs.Collecting.{Gathers, begun, Underway, Collected}
use Rattle.imports.proofs.Lines.{statements-next, statements-none}
use Rattle.imports.proofs.Facts.{facts-snoc}

-- nothing is known at first
none-known : (t : Token) → knows unknown t ≡ true → ⊥
unfolding knows has
none-known t e = by_cases (is_literal t) (λ p. true≢false (sym (rw p at e))) (λ p. true≢false (sym (rw p at e)))

empty-index : (input items : List ℕ) → Kept input items begun (known_by [])
unfolding known_after tokens
empty-index input items =
    record {
      names = refl;
      literals = refl;
      ordered = record { room = omega arith; whole = λ i h. absurd (omega arith); rising = λ i h. absurd (omega arith) };
      known = λ i h. absurd (omega arith);
      number = λ i h. absurd (omega arith);
      all = λ t e. absurd (none-known t e);
    }

pub underway-begins : (input items : List ℕ) (c : Counts) (keys : List ℕ) (n : ℕ) → c ≡ begun → n ≡ 0 → Underway input items c keys n 0
unfolding gathered_with ascending
underway-begins input items c keys n e z =
    rw (e, z) (record {
      done = [];
      behind = refl;
      gathers =
          record {
            index = empty-index input items;
            held = record { count = refl; room = omega arith; keys_of = refl; narrow = λ g m. absurd (Memᴰ.not-nil m); ascends = tt };
            tokens = omega arith;
          };
      more = omega arith;
    })

-- later statements take no fact away
facts-grow : (ss us : List Statement) → length (facts_of ss) ≤ length (facts_of (ss ++ us))
facts-grow ss [] = rw (append-nil ss) (omega arith)
facts-grow ss (s ∷ us) =
    let e : (ss ++ (s ∷ [])) ++ us ≡ ss ++ (s ∷ us) = append_assoc ss (s ∷ []) us in
    let a : length (facts_of ss) ≤ length (facts_of (ss ++ (s ∷ []))) = rw (facts-snoc ss s) (with-length (fact_of (known_by (ss ++ (s ∷ []))) s) (facts_of ss)) in
    let b : length (facts_of (ss ++ (s ∷ []))) ≤ length (facts_of (ss ++ (s ∷ us))) = subst (λ (x : List Statement). length (facts_of (ss ++ (s ∷ []))) ≤ length (facts_of x)) e (facts-grow (ss ++ (s ∷ [])) us) in
    omega arith

-- ---- a turn: the line from `at` to `end`

module _ (input items : List ℕ) (c : Counts) (keys : List ℕ) (n : ℕ) (items' : List ℕ) (c' : Counts) (keys' : List ℕ) (n' at end : ℕ) (u : Underway input items c keys n at) (h : at < length input) (e : end ≡ line_end input at)
    (q : Gathers input items' c' keys' n' (u.done ++ said (part input at end))) where
  then-behind : statements (lines_of input) ≡ (u.done ++ said (part input at end)) ++ statements (lines_of (drop (end + 1) input))
  then-behind =
      let n : statements (lines_of (drop at input)) ≡ said (part input at end) ++ statements (lines_of (drop (end + 1) input)) = rw e (statements-next input at h) in
      u.behind ∙ ap (λ (x : List Statement). u.done ++ x) n ∙ sym (append_assoc u.done (said (part input at end)) (statements (lines_of (drop (end + 1) input))))

  pub underway-more : length keys' ≡ 1025 → (n' ≡ 1025 → ⊥) → Underway input items' c' keys' n' (end + 1)
  underway-more places less = record { done = u.done ++ said (part input at end); behind = then-behind; gathers = q; more = omega (arith, q.held.room, less) }

  -- 1,025 facts of some statements: there are more than 1,024 of all
  pub underway-crowded : n' ≡ 1025 → Collected (statements (lines_of input)) keys' n'
  underway-crowded z =
      let m : length (facts_of (u.done ++ said (part input at end))) ≤ length (facts_of (statements (lines_of input))) = rw then-behind (facts-grow (u.done ++ said (part input at end)) (statements (lines_of (drop (end + 1) input)))) in
      record { all = λ few. absurd (omega (arith, q.held.count)); crowd = λ many. z }

-- the end of the input: all statements are gathered
pub underway-ends : (input items : List ℕ) (c : Counts) (keys : List ℕ) (n at : ℕ) → Underway input items c keys n at → length input ≤ at → Collected (statements (lines_of input)) keys n
underway-ends input items c keys n at u h =
    let b : statements (lines_of input) ≡ u.done = u.behind ∙ ap (λ (x : List Statement). u.done ++ x) (statements-none input at h) ∙ append-nil u.done in
    let q : Holds keys n (facts_of (statements (lines_of input))) = rw b u.gathers.held in
    record { all = λ few. q; crowd = λ many. absurd (omega (arith, q.count, u.more)) }
