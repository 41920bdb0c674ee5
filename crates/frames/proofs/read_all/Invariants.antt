use Rattle.std.proofs.Common.{◌≤◌, length}
use Rattle.frames.proofs.read_all.Given as goal

abbrev pub invariant-loop-message : goal.invariant-loop-message
invariant-loop-message g l = length l.rest ≤ length l.bytes

abbrev pub decreases-loop-message : goal.decreases-loop-message
decreases-loop-message g l = length l.rest
