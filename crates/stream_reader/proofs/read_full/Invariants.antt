-- `stream_reader::read_full`: what stands in the memory's front so far is what the stream gave.
-- Assumes nothing.
use Rattle.std.proofs.Common.{length, ◌-◌, ◌≤◌, take, ◌≡◌}
use Rattle.std.specs.Io.KnownBytes.{Consumes}
use Rattle.stream_reader.proofs.read_full.Given as goal

abbrev pub invariant-loop-done : goal.invariant-loop-done
invariant-loop-done g l = (length l.memory ≡ length l.initial.memory) × (l.done ≤ length l.memory) × Consumes (g.R.Read.remaining l.initial.stream) (g.R.Read.remaining l.stream) (take l.done l.memory)

abbrev pub decreases-loop-done : goal.decreases-loop-done
decreases-loop-done g l = length l.memory - l.done
