use Rattle.std.proofs.Common.{length, ◌-◌, ◌≡◌, ◌≤◌}
use Rattle.shadow_map.specs.Readers.{shadow_of}
use Rattle.asan_check.specs.Standing.{AreQuiet}
use Rattle.asan_check.proofs.checker.Checker.count_more_good.Given as goal

abbrev pub invariant-loop-count : goal.invariant-loop-count
invariant-loop-count g l = record {
  reads : shadow_of l.shadow ≡ l.self.shadow;
  within : l.count ≤ length l.events;
  quiet : AreQuiet l.self l.events l.count;
}

abbrev pub decreases-loop-count : goal.decreases-loop-count
decreases-loop-count g l = length l.events - l.count
