-- `label_ends::blank_end` meets its contract: the label is a run without the full stops at its end.
-- Assumes nothing.
use mathlib.Core.Path.{◌≡◌, sym, ap, ◌∙◌}
use mathlib.Core.Bool.{true, false}
use Prim.Native.Nat.{◌+◌}
use native.Mathlib.Omega.{arith}
use Rattle.ntriples.specs.Lexed.{byte_at, begins_label}
use Rattle.ntriples.proofs.Lines.{begins-label}
use Rattle.ntriples.proofs.Labels.{blank-kept}
use Rattle.label_ends.proofs.blank_end.Goals as goal

pub returns : goal.returns
returns c =
    let s = c.args.s.now in
    let b : begins_label (byte_at s (c.args.at + 2)) ≡ true = ap begins_label (sym c.byte_at-b.ensures.value) ∙ begins-label c.byte_at-b.result false (rw (← c.is_of.ensures.value) c.if-is_of-b.false) in
    blank-kept s c.args.at _ _ (sym c.byte_at.ensures.value ∙ c.if-byte_at-ne-UNDERSCORE.false) (sym c.byte_at-2.ensures.value ∙ c.if-byte_at-ne-COLON.false) b c.run_end-end.ensures.value (grind arith) c.stops.ensures.count
