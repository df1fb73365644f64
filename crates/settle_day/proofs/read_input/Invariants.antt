use Rattle.std.proofs.Common.{◌-◌, ◌≤◌, length}
use Rattle.settle_day.proofs.read_input.Given as goal

abbrev pub invariant-loop-len : goal.invariant-loop-len
invariant-loop-len l = l.len ≤ length l.initial.buf

abbrev pub decreases-loop-len : goal.decreases-loop-len
decreases-loop-len l = length l.initial.buf - l.len
