use Rattle.std.proofs.Common.{◌≡◌, ℕ, List, [], Option, length}
use Rattle.asan_print.specs.Logs.{Adds, Printed, report_lines}
use Rattle.asan_stream.specs.Replays.{IsUnderWay, found_by, left_in}
use Rattle.asan_senders.proofs.alone.check_showing.Given as goal

abbrev pub invariant-loop-replay : goal.invariant-loop-replay
invariant-loop-replay g l = record {
  under_way : IsUnderWay g.F.Feed.seen l.fn.options l.fn.feed l.replay;
  shown : l.shown ≡ length (found_by l.replay);
  lines : (start : Option (List ℕ)) → Printed start (g.W.Write.contents l.initial.w) l.initial.printer []
      → Adds start (g.W.Write.contents l.w) l.printer 0 (report_lines 0 (found_by l.replay)) [];
}

abbrev pub decreases-loop-replay : goal.decreases-loop-replay
decreases-loop-replay g l = left_in l.replay
