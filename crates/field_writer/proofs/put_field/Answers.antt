-- `field_writer::put_field` meets its contract: five stores, each of a column.
-- Assumes nothing.
use mathlib.Core.Path.{◌≡◌}
use Prim.Native.Nat.{◌-◌, ◌*◌, ◌/◌, ◌%◌}
use native.Mathlib.Omega.{arith}
use native.Mathlib.Numerals.{towards_suc}
use Rattle.columns.specs.Fields.{field}
use Rattle.columns.proofs.Fields.{field-digit}
use Rattle.field_writer.proofs.put_field.Goals as goal

pub returns-then-n-lt10 : goal.returns-then-n-lt10
returns-then-n-lt10 c = rw (field-digit c.args.n (omega arith)) (simp towards_suc)

pub returns : goal.returns
unfolding field
returns c =
    let n = c.args.n in
    let d : n - 10 * (n / 10) ≡ n % 10 = omega arith in
    rw (c.column_byte.ensures, c.column_byte-2.ensures, c.column_byte-3.ensures, c.column_byte-4.ensures, c.tenth-first.ensures, c.tenth-thousands.ensures, c.tenth-hundreds.ensures, c.tenth-tens.ensures, d)
    (simp towards_suc)
