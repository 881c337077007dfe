use Rattle.std.proofs.Common.{◌-◌, ◌≤◌}
use Rattle.asan_check.specs.Standing.{AreQuiet}
use Rattle.asan_check.proofs.checker.Checker.count_good.Given as goal

abbrev pub invariant-loop-count : goal.invariant-loop-count
invariant-loop-count g l = record {
  within : l.count ≤ l.few;
  quiet : AreQuiet l.self l.events l.count;
}

abbrev pub decreases-loop-count : goal.decreases-loop-count
decreases-loop-count g l = l.few - l.count
