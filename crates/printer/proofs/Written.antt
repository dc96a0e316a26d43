-- What a writer holds behind a piece that it took.
-- Assumes nothing.
use Rattle.std.proofs.Common.{◌≡◌, Option, ℕ, List, ◌++◌, length, take, subst}
use lib.Seq.{take-append_seam}
use Rattle.std.specs.Io.KnownBytes.{Appends}
use Rattle.std.proofs.KnownBytes.{Appends-trans}
use Rattle.columns.specs.Lines.{over}

-- behind other pieces, the front of memory into which a piece was put
pub piece-more : (a b c : Option (List ℕ)) (before piece memory out : List ℕ) (n : ℕ) → n ≡ length piece → out ≡ over piece memory
    → Appends a b before → Appends b c (take n out) → Appends a c (before ++ piece)
piece-more a b c before piece memory out n size put done more =
    let front : take n out ≡ piece = rw (size, put) (take-append_seam piece _) in
    Appends-trans a b c before piece done (subst (Appends b c) front more)
