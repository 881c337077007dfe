use Rattle.std.proofs.Common.{◌≡◌, length, ◌-◌, ◌+◌, ◌≤◌, ℕ, List, ◌++◌, take}
use Rattle.std.specs.Prelude.{reverse}
use Rattle.trace_record.specs.declared.event.Event.{Event}
use Rattle.asan_check.specs.Standing.{StandsOrFailed, bound_of, checked_of, reports_of}
use Rattle.asan_stream.specs.Outboxes.{IsFront}
use Rattle.asan_stream.proofs.replay.check_each.Given as goal

abbrev pub invariant-loop-from : goal.invariant-loop-from
invariant-loop-from g l = record {
  within : l.from ≤ length l.events;
  counted : checked_of l.checker ≤ checked_of l.fn.checker + l.from;
  bound : bound_of l.checker ≡ bound_of l.fn.checker;
  stands : (bound : ℕ) (past : List Event) → StandsOrFailed bound l.fn.checker past
      → StandsOrFailed bound l.checker (reverse (take l.from l.events) ++ past);
  found : (bound : ℕ) (past : List Event) → StandsOrFailed bound l.fn.checker past
      → IsFront (reports_of l.fn.checker) (reports_of l.checker);
}

abbrev pub decreases-loop-from : goal.decreases-loop-from
decreases-loop-from g l = length l.events - l.from
