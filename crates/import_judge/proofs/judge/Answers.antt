-- `import_judge::judge` meets its contract. The loop's invariant: what is held and the lines that are left come to what all lines come to.
-- Assumes nothing.
use Rattle.std.proofs.Common.{rules, Err}
use mathlib.Core.Path.{◌≡◌, refl, sym, ap, ◌∙◌}
use mathlib.Core.List.{◌∷◌}
use Prim.Native.Nat.{ℕ, ◌+◌, ◌≤◌}
use native.Mathlib.Omega.{arith}
use lib.ListN.{length}
use Rattle.std.specs.Iterator.Adapters.{enumerate_count, enumerate_source}
use Rattle.imports.specs.Lines.{lines_of, said}
use Rattle.facts.specs.Results.{Sound}
use Rattle.imports.specs.Results.{Finding, Clear}
use Rattle.imports.specs.Import.{judged, or_else, found_on, fact_refusal}
use Rattle.imports.specs.Samples.{sample_fact}
use Rattle.imports.proofs.Lines.{lines-few}
use Rattle.imports.proofs.Judging.{onward, onward-all, onward-none, onward_stops, onward-next}
use Rattle.imports.proofs.Samples.{judged-sampled}
use Rattle.import_judge.proofs.judge.Goals as goal
use Rattle.import_judge.proofs.judge.Goals.{In-Some}

-- the first line that is left, and those behind it
begun : (c : In-Some) → onward sample_fact c.loop-i.held c.in-Some.i (c.in-Some.line.now ∷ lines_of (enumerate_source c.next.new.self).rest.now) ≡ judged (lines_of c.args.input.now)
begun c = let (l, i, n, u) = c.in-Some.ensures.steps in rw (← l, i) c.loop-i.invariant.3

pub loop-i-init : goal.loop-i-init
loop-i-init c =
    let s = c.args.input.now in
    let l : lines_of (enumerate_source c.into_iter-i-iterator.result).rest.now ≡ lines_of s = search rules in
    let z : enumerate_count c.into_iter-i-iterator.result ≡ 0 = search rules in
    let few = lines-few s in
    let most : enumerate_count c.into_iter-i-iterator.result + length (lines_of (enumerate_source c.into_iter-i-iterator.result).rest.now) ≤ 65536 = rw (l, z) (omega arith) in
    (search rules, search rules, most, rw (l, z) (onward-all sample_fact (lines_of s) ∙ judged-sampled s c.requires))

pub returns-in-Err : goal.returns-in-Err
returns-in-Err c = ap Err c.on_line.ensures ∙ sym (onward_stops sample_fact c.loop-i.held c.in-Some.i c.in-Some.line.now _ c.in-Err.refusal c.in-Err.ensures) ∙ begun (goal.at-returns-in-Err c).In-Some

-- a line that earns nothing changes nothing of what is held
silent : (h : Finding) (i : ℕ) → or_else h (found_on Sound i Clear) ≡ h
unfolding or_else found_on
silent Clear i = refl
silent (Err stop) i = refl

pub loop-i-preserved-in-Ok-Ok : goal.loop-i-preserved-in-Ok-Ok
loop-i-preserved-in-Ok-Ok c =
    let (l, i, n, u) = c.in-Some.ensures.steps in
    let v = c.in-Ok-Ok.ensures in
    let most : enumerate_count c.next.new.self + length (lines_of (enumerate_source c.next.new.self).rest.now) ≤ 65536 = omega (arith, n, ap length l, c.loop-i.invariant.2) in
    let sound : fact_refusal sample_fact (said c.in-Some.line.now) ≡ Sound = sym v.1 ∙ c.in-Ok-Ok.field-0-is in
    let on = onward-next sample_fact c.loop-i.held c.in-Some.i c.in-Some.line.now (lines_of (enumerate_source c.next.new.self).rest.now) v.0 in
    (search rules, search rules, most, rw (n, ← i) (sym (rw (sound, silent c.loop-i.held c.in-Some.i) at on) ∙ begun (goal.at-loop-i-preserved-in-Ok-Ok c).In-Some))

pub loop-i-preserved : goal.loop-i-preserved
loop-i-preserved c =
    let (l, i, n, u) = c.in-Some.ensures.steps in
    let v = c.in-Ok.ensures in
    let most : enumerate_count c.next.new.self + length (lines_of (enumerate_source c.next.new.self).rest.now) ≤ 65536 = omega (arith, n, ap length l, c.loop-i.invariant.2) in
    (search rules, search rules, most, rw (n, ← i, c.first-held.ensures, v.1) (sym (onward-next sample_fact c.loop-i.held c.in-Some.i c.in-Some.line.now _ v.0) ∙ begun (goal.at-loop-i-preserved c).In-Some))

pub returns : goal.returns
returns c = let h = c.in-None.ensures.steps in sym (onward-none sample_fact c.loop-i.held (enumerate_count c.loop-i.i-iterator)) ∙ rw h.0.0 at c.loop-i.invariant.3
