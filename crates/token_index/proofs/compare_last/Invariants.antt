-- The invariant of the loop in `token_index::compare_last`: from i on the tokens agree, so that the bytes before it decide.
-- Assumes nothing.
use Rattle.std.proofs.Common.{◌≡◌, reverse, take}
use Rattle.std.specs.Ordering.{nat_cmp}
use Rattle.std.specs.Cmp.Lexicographic.{slice_cmp}
use Rattle.token_index.proofs.compare_last.Given as goal

abbrev pub invariant-loop-i : goal.invariant-loop-i
invariant-loop-i l = slice_cmp nat_cmp (reverse l.a) (reverse l.b) ≡ slice_cmp nat_cmp (reverse (take l.i l.a)) (reverse (take l.i l.b))
