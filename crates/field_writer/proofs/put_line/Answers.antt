-- `field_writer::put_line` meets its contract. The loop's invariant: the fields of the numbers passed stand over the front of the output.
-- Assumes nothing.
use mathlib.Core.Path.{◌≡◌, refl, ap, ◌∙◌}
use Prim.Native.Nat.{◌*◌}
use mathlib.Core.List.{[], ◌∷◌}
use native.Mathlib.Numerals.{add-one}
use native.Mathlib.Omega.{arith}
use lib.Seq.{sets, length-take-le, take-length}
use lib.ListN.{length, take, get_or, set}
use Rattle.columns.proofs.Lines.{field-length, fields-length, fields-more, below_at}
use Rattle.columns.proofs.Parts.{over-more}
use Rattle.columns.specs.Fields.{field}
use Rattle.columns.specs.Lines.{fields, line, over}
use Rattle.field_writer.proofs.put_line.Goals as goal

pub put_field-requires : goal.put_field-requires
put_field-requires c = (omega arith, below_at c.args.numbers.now _ c.requires.1 (omega arith))

pub loop-i-preserved : goal.loop-i-preserved
loop-i-preserved c =
    let i = c.loop-i.i in
    let ns = c.args.numbers.now in
    let n = get_or ns i 0 in
    let long : length (fields (take i ns)) ≡ 5 * i = rw (fields-length, length-take-le i ns (omega arith)) refl in
    let stored = over-more (fields (take i ns)) (field n) c.args.out.now (5 * i) long (rw field-length (omega arith)) in
    (omega (arith, c.put_field.auto.out), rw (add-one, fields-more ns i (omega arith)) (c.put_field.ensures ∙ ap (λ o. sets o (5 * i) (field n)) c.loop-i.invariant.1 ∙ stored))

pub returns : goal.returns
unfolding line
returns c =
    let ns = c.args.numbers.now in
    let i : c.loop-i.i ≡ length ns = omega arith in
    let all : c.loop-i.out ≡ over (fields ns) c.args.out.now = c.loop-i.invariant.1 ∙ rw (i, take-length) in
    let long : length (fields ns) ≡ 5 * length ns = fields-length ns in
    ap (λ o. set o (5 * length ns) 10) all ∙ over-more (fields ns) (10 ∷ []) c.args.out.now (5 * length ns) long (omega arith)
