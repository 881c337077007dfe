use Rattle.asan_check.proofs.Digits.{IsWritten}
use Rattle.asan_check.proofs.lines.hex.hex_digits.Given as goal

abbrev pub invariant-loop-left : goal.invariant-loop-left
invariant-loop-left l = IsWritten l.number l.first l.left l.digits

abbrev pub decreases-loop-left : goal.decreases-loop-left
decreases-loop-left l = l.left
