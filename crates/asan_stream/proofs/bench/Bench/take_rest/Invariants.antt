use Rattle.std.proofs.Common.{◌≡◌, ◌++◌, length}
use Rattle.trace_lane.specs.Lanes.{taken_list, waiting, end_list}
use Rattle.asan_check.specs.Standing.{bound_of, reports_of}
use Rattle.asan_stream.specs.Outboxes.{IsFront}
use Rattle.asan_stream.proofs.bench.Bench.take_rest.Given as goal

abbrev pub invariant-loop-left : goal.invariant-loop-left
invariant-loop-left g l = record {
  whole : taken_list l.self.lane ++ waiting l.self.lane ≡ end_list l.fn.end;
  left : l.left ≡ length (waiting l.self.lane);
  bound : bound_of l.self.checker ≡ bound_of l.initial.self.checker;
  found : IsFront (reports_of l.initial.self.checker) (reports_of l.self.checker);
}

abbrev pub decreases-loop-left : goal.decreases-loop-left
decreases-loop-left g l = l.left
