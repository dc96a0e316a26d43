-- Laws of writing over the front of a list, piece after piece.
-- Assumes nothing.
use mathlib.Core.Path.{◌≡◌}
use mathlib.Core.List.{List, ◌++◌, append_assoc, append-nil}
use Prim.Native.Nat.{ℕ, ◌+◌, ◌-◌, ◌≤◌}
use native.Mathlib.Omega.{arith}
use lib.ListN.{length, take, drop, length-append, length-drop}
use lib.Seq.{sets, sets-eq, take_at, drop_at, drop-drop, drop-append-add, take-length, drop-length}
use borrow.Rule.Slice.PartMut.{put_mid}
use Rattle.columns.specs.Lines.{over}

pub over-length : (X l : List ℕ) → length X ≤ length l → length (over X l) ≡ length l
over-length X l h = simp (length-append, length-drop) (omega arith)

-- a piece that is stored right behind what is written
pub over-more : (L X l : List ℕ) (at : ℕ) → length L ≡ at → at + length X ≤ length l → sets (over L l) at X ≡ over (L ++ X) l
over-more L X l at e h =
    rw (sets-eq X (over L l) at (rw (over-length L l (omega arith)) h), take_at L (drop (length L) l) at e, ← e, drop-append-add, drop-drop, length-append)

-- a part that begins where what is written ends, written over at its front
pub part-more : (P L X l Y : List ℕ) (at : ℕ)
    → P ≡ over L l → length P ≡ length l → length L ≡ at → at + length X ≤ length l
    → Y ≡ over X (take (length P - at) (drop at P)) → put_mid at (length P - at) P Y ≡ over (L ++ X) l
part-more P L X l Y at e n s h y =
    let d : drop at P ≡ drop (length L) l = rw e (drop_at L (drop (length L) l) at s) in
    let t : take at P ≡ L = rw e (take_at L (drop (length L) l) at s) in
    let m : length P - at ≡ length (drop (length L) l) = omega (arith, length-drop (length L) l) in
    rw (y, t, d, m, take-length, drop-length, drop-drop, length-append)
    (simp (append-nil, append_assoc))
