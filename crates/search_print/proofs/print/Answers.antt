-- `search_print::print` meets its contract. The loop's invariant: the derivation of the first k + 1 facts stands over the front of the output, and
-- c is its result, on line 2 k + 1.
-- Assumes nothing.
use Rattle.std.proofs.Common.{◌≡◌, List, [], ◌∷◌, ℕ, ◌+◌, ◌*◌, ◌-◌, ◌≤◌, ◌<◌, length, get_or, take, drop, length-take, length-drop, sym, ap, ◌∙◌, arith}
use lib.Seq.{get_or-take, get_or-drop}
use Rattle.columns.proofs.Parts.{part-more}
use Rattle.facts.specs.declared.Fact.{Fact}
use Rattle.rules.specs.declared.Line.{Line}
use Rattle.rules.specs.Chosen.{fact_in}
use Rattle.rules.specs.Derivations.{derivation_line}
use Rattle.rules.specs.Printed.{join}
use Rattle.derivation.specs.Bytes.{derivation_bytes}
use Rattle.derivation.proofs.Bytes.{derivation-length}
use Rattle.question.proofs.Printing.{bytes_of, result_at, listed, bytes-length, bytes-first, result-first, result-last, bytes-more, printing-below, join-below}
use Rattle.search_print.proofs.print.Goals as goal
use Rattle.search_print.proofs.print.Invariants.{placed}
use Rattle.search_print.proofs.print.Goals.{At-loop-k, In-loop-k}

pub put_line-requires : goal.put_line-requires
put_line-requires c =
    let d = c.requires in
    (omega (arith, d.fits, d.placed.some), rw c.table_line.ensures (omega arith, (omega arith, (omega arith, printing-below d 0 d.placed.some))))

pub loop-k-init : goal.loop-k-init
loop-k-init c =
    let g = placed c.args.facts.now c.args.path.now in
    record {
      written = c.put_line.ensures ∙ rw (c.table_line.ensures, bytes-first g);
      last = sym (result-first g);
      below = printing-below c.requires 0 c.requires.placed.some;
    }

-- the place of the loop's turn, and that its output is left
this-place : (c : In-loop-k) → (get_or (take (length c.args.path.now - 1) (drop 1 c.args.path.now)) c.loop-k.k 0 ≡ get_or c.args.path.now (c.loop-k.k + 1) 0) × (c.loop-k.k + 1 < length c.args.path.now)
this-place c =
    let path = c.args.path.now in
    let k = c.loop-k.k in
    let h : k < length path - 1 = omega (arith, c.loop-k-test.true, length-take (length path - 1) (drop 1 path)) in
    let e : 1 + k ≡ k + 1 = omega arith in
    (get_or-take (length path - 1) (drop 1 path) k 0 h ∙ get_or-drop 1 path k 0 ∙ ap (λ (i : ℕ). get_or path i 0) e, omega arith)

pub bounds-facts-place : goal.bounds-facts-place
bounds-facts-place c =
    let p = this-place (goal.at-bounds-facts-place c).In-loop-k in
    rw p.0 (c.requires.placed.inside (c.loop-k.k + 1) p.1)

pub put_joined-c-requires : goal.put_joined-c-requires
put_joined-c-requires c =
    let p = this-place (goal.at-put_joined-c-requires c).In-loop-k in
    let d = c.requires in (
      omega (arith, d.few, p.1),
      simp (length-take, length-drop) (omega (arith, d.fits, p.1, c.loop-k.auto.out, c.put_line.auto.out)),
      c.loop-k.invariant.below,
      rw p.0 (printing-below d (c.loop-k.k + 1) p.1),
    )

pub loop-k-preserved : goal.loop-k-preserved
loop-k-preserved c =
    let p = this-place (goal.at-loop-k-preserved c).In-loop-k in
    let d = c.requires in
    let l = c.loop-k in
    let k : ℕ = l.k + 1 in
    let g = placed c.args.facts.now c.args.path.now in
    let out : List ℕ = c.args.out.now in
    let q = c.put_joined-c in
    let f : Fact = fact_in c.args.facts.now (get_or (take (length c.args.path.now - 1) (drop 1 c.args.path.now)) l.k 0) in
    let line : 2 * l.k + 1 ≡ 2 * k - 1 = omega arith in
    let new : List Line = derivation_line 0 0 0 (g k) ∷ join (result_at g k) (2 * k - 1) (g k) ∷ [] in
    let m = bytes-more g k (omega arith) in
    let long : length (derivation_bytes new) ≡ 62 = derivation-length new in
    let e = part-more l.out (bytes_of g k) (derivation_bytes new) out q.new.out (31 * (2 * l.k + 1)) l.invariant.written (l.auto.out ∙ c.put_line.auto.out) (bytes-length g k ∙ ap (λ (i : ℕ). 31 * i) (sym line))
    (omega (arith, long, d.fits, p.1)) (q.ensures.lines ∙ rw (l.invariant.last, p.0, line)) in
    record {
      written = e ∙ rw m.0;
      last = q.ensures.result ∙ rw (l.invariant.last, p.0, line) (sym m.1);
      below = rw q.ensures.result (join-below l.c (2 * l.k + 1) f (omega (arith, d.few, p.1)) l.invariant.below (rw p.0 (printing-below d k p.1))).1.1.1;
    }

-- at the end all are printed
all-printed : (c : At-loop-k) → length (take (length c.args.path.now - 1) (drop 1 c.args.path.now)) ≤ c.loop-k.k → c.loop-k.k + 1 ≡ length c.args.path.now
all-printed c h = omega (arith, c.requires.placed.some, c.loop-k.auto.k-end, length-take (length c.args.path.now - 1) (drop 1 c.args.path.now), length-drop 1 c.args.path.now)

pub returns-clause-conclusion : goal.returns-clause-conclusion
returns-clause-conclusion c =
    let facts = c.args.facts.now in
    let path = c.args.path.now in
    let g = placed facts path in
    let k = all-printed (goal.at-returns-clause-conclusion c).At-loop-k c.loop-k-test.false in
    c.loop-k.invariant.last ∙ ap (result_at g) k ∙ sym (result-last g (length path) c.requires.placed.some) ∙ rw (listed facts path)

pub returns-clause-lines : goal.returns-clause-lines
returns-clause-lines c =
    let facts = c.args.facts.now in
    let path = c.args.path.now in
    let k = all-printed (goal.at-returns-clause-lines c).At-loop-k c.loop-k-test.false in
    c.loop-k.invariant.written ∙ rw (k, listed facts path)
